-- taps that were settled, all of a node together
use Rattle.std.specs.Prelude.{◌≡◌}
use Rattle.mr_threads.specs.declared.core_parts.Replies.{Replies}
use Rattle.mr_threads.specs.declared.core_parts.Feeds.{Feeds}
use Rattle.mr_threads.specs.declared.settling.Taps.{Taps}
use Rattle.mr_threads.specs.declared.settling.FeedTaps.{FeedTaps}

-- what was taken of each tap is all that was offered
pub record TookAll {A R : Type 0} (replies : Replies A R) (taps : Taps A R) : Type 0 where
  pub user : taps.user.passed ≡ replies.user.passed
  pub first_link : taps.first_link.passed ≡ replies.first_link.passed
  pub second_link : taps.second_link.passed ≡ replies.second_link.passed

pub record TookAllEntries {R : Type 0} (feeds : Feeds R) (taps : FeedTaps R) : Type 0 where
  pub indexer : taps.indexer.passed ≡ feeds.indexer.passed
  pub notifier : taps.notifier.passed ≡ feeds.notifier.passed
