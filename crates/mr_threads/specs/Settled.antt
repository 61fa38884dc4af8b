-- what a node's threads come to, once its lanes are settled
use Rattle.std.specs.Prelude.{◌≡◌, ◌++◌, ◌&&◌, Bool, List}
use Rattle.mr_feed.specs.declared.entry.Entry.{Entry}
use Rattle.mr_lane.specs.declared.note.Sender.TheVariants.{User, FirstLink, SecondLink}
use Rattle.mr_lane.specs.Desk.{have_all_finished}
use Rattle.mr_threads.specs.Exchange.{Exchange, letters_said, said_by, answers_to, Replays}
use Rattle.mr_threads.specs.declared.core_parts.Replies.{Replies}
use Rattle.mr_threads.specs.declared.core_parts.Feeds.{Feeds}
use Rattle.mr_threads.specs.declared.core_parts.Core.{Core}
use Rattle.mr_threads.specs.declared.settling.Taps.{Taps}
use Rattle.mr_threads.specs.declared.settling.FeedTaps.{FeedTaps}

-- the taps are those of the spouts
pub record AreTapsOf {A R : Type 0} (replies : Replies A R) (taps : Taps A R) : Type 0 where
  pub user : replies.user.id ≡ taps.user.id
  pub first_link : replies.first_link.id ≡ taps.first_link.id
  pub second_link : replies.second_link.id ≡ taps.second_link.id

pub record AreFeedTapsOf {R : Type 0} (feeds : Feeds R) (taps : FeedTaps R) : Type 0 where
  pub indexer : feeds.indexer.id ≡ taps.indexer.id
  pub notifier : feeds.notifier.id ≡ taps.notifier.id

-- whether the end mark of each reply tap was taken
abbrev pub are_taps_closed : {A R : Type 0} → Taps A R → Bool
are_taps_closed taps = taps.user.closed && taps.first_link.closed && taps.second_link.closed

-- whether the end mark of each feed tap was taken
abbrev pub are_feed_taps_closed : {R : Type 0} → FeedTaps R → Bool
are_feed_taps_closed taps = taps.indexer.closed && taps.notifier.closed

-- whether each end mark was taken: those of the posts by the desk, and those of the spouts by their taps
abbrev pub have_all_ended : {M E A R : Type 0} → Core M E A R → Taps A R → FeedTaps R → Bool
have_all_ended core taps feed_taps = have_all_finished core.desk.taken && are_taps_closed taps && are_feed_taps_closed feed_taps

-- There is an interleaving of letters that leads the machine from m to n. Each sender's part of it is its letters, with their answers in order, and each subscriber took just what came into the feed.
pub record IsInterleaving {M E A : Type 0} (steps : M → E → A → M → Type 0) (feed_of : M → List Entry) (m : M) (user_letters first_letters second_letters : List E) (n : M) (user_replies first_replies second_replies : List A) (indexer_took notifier_took : List Entry) : Type 0 where
  pub exchanges : List (Exchange E A)
  pub replays : Replays steps m exchanges n
  pub user_said : letters_said (said_by User exchanges) ≡ user_letters
  pub first_said : letters_said (said_by FirstLink exchanges) ≡ first_letters
  pub second_said : letters_said (said_by SecondLink exchanges) ≡ second_letters
  pub user_heard : answers_to User exchanges ≡ user_replies
  pub first_heard : answers_to FirstLink exchanges ≡ first_replies
  pub second_heard : answers_to SecondLink exchanges ≡ second_replies
  pub entries : List Entry
  pub grows : feed_of n ≡ feed_of m ++ entries
  pub indexer : indexer_took ≡ entries
  pub notifier : notifier_took ≡ entries
