-- new lanes, and the parts of a node at their ends
use Rattle.std.specs.Prelude.{◌≡◌, ℕ, false, []}
use Rattle.mr_lane.specs.declared.post.Posts.{Posts}
use Rattle.mr_lane.specs.Desk.{DeskView}
use Rattle.mr_lane.specs.Inbox.{ArePostsOf}
use Rattle.mr_lane.specs.Tap.{TapEnd}
use Rattle.mr_threads.specs.Settled.{AreTapsOf, AreFeedTapsOf}
use Rattle.mr_threads.specs.declared.core_parts.Core.{Core}
use Rattle.mr_threads.specs.declared.core_parts.Replies.{Replies}
use Rattle.mr_threads.specs.declared.core_parts.Feeds.{Feeds}
use Rattle.mr_threads.specs.declared.settling.Taps.{Taps}
use Rattle.mr_threads.specs.declared.settling.FeedTaps.{FeedTaps}
use Rattle.mr_threads.specs.declared.talk.Talk.{Talk}
use Rattle.mr_threads.specs.declared.listener.Listener.{Listener}
use Rattle.mr_threads.specs.declared.running.Parts.{Parts}
use Rattle.mr_threads.specs.declared.outfit.Lanes.{Lanes}
use Rattle.mr_threads.specs.declared.roles.Roles.{Roles}
use Rattle.mr_threads.specs.Outfit.{IsNewPost}

-- two ends of one tap with so many places, which nothing has passed
pub record IsNewTap {T : Type 0} (capacity : ℕ) (spout tap : TapEnd T) : Type 0 where
  pub id : spout.id ≡ tap.id
  pub places : spout.capacity ≡ capacity
  pub same_places : tap.capacity ≡ capacity
  pub offered : spout.passed ≡ []
  pub unclosed : spout.closed ≡ false
  pub taken : tap.passed ≡ []

-- the ends of a new tap for each sender
pub record AreNewReplies {A R : Type 0} (capacity : ℕ) (replies : Replies A R) (taps : Taps A R) : Type 0 where
  pub user : IsNewTap capacity replies.user taps.user
  pub first_link : IsNewTap capacity replies.first_link taps.first_link
  pub second_link : IsNewTap capacity replies.second_link taps.second_link

-- the ends of a new tap for each subscriber
pub record AreNewFeeds {R : Type 0} (capacity : ℕ) (feeds : Feeds R) (taps : FeedTaps R) : Type 0 where
  pub indexer : IsNewTap capacity feeds.indexer taps.indexer
  pub notifier : IsNewTap capacity feeds.notifier taps.notifier

-- the posts of an inbox, which have sent nothing, and a desk that has taken nothing
pub record AreNewPosts {E : Type 0} (desk : DeskView E) (posts : Posts E) : Type 0 where
  pub posts_of : ArePostsOf desk posts
  pub taken : desk.taken ≡ []
  pub user : IsNewPost posts.user
  pub first_link : IsNewPost posts.first_link
  pub second_link : IsNewPost posts.second_link

-- new lanes, each with as many places as the inbox
pub record AreNewLanes {E A R : Type 0} (lanes : Lanes E A R) : Type 0 where
  pub posts : AreNewPosts lanes.desk lanes.posts
  pub replies : AreNewReplies lanes.desk.capacity lanes.replies lanes.taps
  pub feeds : AreNewFeeds lanes.desk.capacity lanes.feeds lanes.feed_taps

module _ {E A R : Type 0} where
  abbrev pub posts_of : Talk E A R → Talk E A R → Talk E A R → Posts E
  posts_of user first second = record { user = user.post; first_link = first.post; second_link = second.post }

  abbrev pub taps_of : Talk E A R → Talk E A R → Talk E A R → Taps A R
  taps_of user first second = record { user = user.tap; first_link = first.tap; second_link = second.tap }

abbrev pub feed_taps_of : {F G R : Type 0} → Listener F R → Listener G R → FeedTaps R
feed_taps_of indexer notifier = record { indexer = indexer.tap; notifier = notifier.tap }

-- the talks and the listeners are at the lanes of the core
pub record AreJoined {M E A F G R : Type 0} (core : Core M E A R) (user first second : Talk E A R) (indexer : Listener F R) (notifier : Listener G R) : Type 0 where
  pub posts : ArePostsOf core.desk (posts_of user first second)
  pub taps : AreTapsOf core.replies (taps_of user first second)
  pub feed_taps : AreFeedTapsOf core.feeds (feed_taps_of indexer notifier)

-- the parts have these roles
pub record IsOutfit {M E A S P Q F G R : Type 0} (roles : Roles M S P Q) (parts : Parts M E A S P Q F G R) : Type 0 where
  pub machine : parts.core.machine ≡ roles.machine
  pub user : parts.user.speaker ≡ roles.user
  pub first_link : parts.first_link.speaker ≡ roles.first_link
  pub second_link : parts.second_link.speaker ≡ roles.second_link
