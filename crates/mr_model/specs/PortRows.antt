-- Rows of subscribers, and of a replica that is retired.
use Rattle.std.specs.Prelude.{◌≡◌, ℕ, true, false, [], ◌∷◌, ◌++◌}
use Rattle.mr_model.specs.History.{Body.Start, Entry, Entry.Added, Reply.Issued, Reply.Done, Reply.Streaming, Reply.Offered, Reply.TookEntry, Reply.Refused}
use Rattle.mr_model.specs.declared.event.Act.TheVariants.{Create, Retire, Receive, Answer, Offer, Take, Close}
use Rattle.mr_model.specs.declared.event.Subscriber.TheVariants.{Indexer, Notifier}
use Rattle.mr_model.specs.Moment.{Mark.Moved, Mark.CloseMark}
use Rattle.mr_model.specs.Changes.{now}
use Rattle.mr_model.specs.Rows.{inbox, row_setting, Row, ◌•◌, ◌does◌gives◌, records, draws, pulls, sync, Runs, heads_after, feed_after_row, offered_after, taken_after}
use Rattle.mr_model.specs.SyncRows.{one_item}

-- the entry that adds version c of replica 0, which created its own item
abbrev pub adds : ℕ → Entry ℕ
adds c = Added (0 • c) (0 • c) inbox

-- ---- retired and closed: what waits is still taken, nothing more is offered, and the replica still answers

abbrev pub retired : Row
retired = (0 does Create inbox gives Issued (0 • 1))
    ∷ sync 1 1 1 0 1 1 [] (one_item (0 • 1))
    ++ pulls 1 2 ((0 • 1) ∷ []) ∷ (0 does Answer 2 gives Streaming 2) ∷ draws (records 0 2 1 2 0 (Start true ∷ []))
    ++ (1 does Retire gives Done) ∷ (1 does Receive 6 gives Refused)
    ∷ (1 does Offer Notifier gives Offered (adds 1)) ∷ (1 does Close Notifier gives Done)
    ∷ (1 does Take Notifier gives TookEntry (adds 1)) ∷ (1 does Take Notifier gives Refused) ∷ (1 does Offer Notifier gives Refused)
    ∷ pulls 0 1 ((0 • 1) ∷ []) ∷ (1 does Answer 3 gives Streaming 1) ∷ draws (records 1 1 0 1 0 (Start false ∷ []))

pub record RetiredAndClosed : Type 0 where
  pub runs : Runs retired
  pub heads : heads_after retired 1 ≡ (0 • 1) ∷ []
  pub offered : offered_after retired 1 1 ≡ adds 1 ∷ []
  pub taken : taken_after retired 1 1 ≡ adds 1 ∷ []

-- ---- a small port: entries go through it in order, as it has room

abbrev pub small_port : Row
small_port = (0 does Create inbox gives Issued (0 • 1)) ∷ (0 does Create inbox gives Issued (0 • 2)) ∷ (0 does Create inbox gives Issued (0 • 3))
    ∷ (0 does Offer Indexer gives Offered (adds 1)) ∷ (0 does Offer Indexer gives Offered (adds 2)) ∷ (0 does Offer Indexer gives Refused)
    ∷ (0 does Take Indexer gives TookEntry (adds 1)) ∷ (0 does Offer Indexer gives Offered (adds 3))
    ∷ (0 does Take Indexer gives TookEntry (adds 2)) ∷ (0 does Take Indexer gives TookEntry (adds 3)) ∷ (0 does Take Indexer gives Refused) ∷ (0 does Offer Indexer gives Refused)
    ∷ (0 does Offer Notifier gives Offered (adds 1)) ∷ (0 does Close Notifier gives Done) ∷ (0 does Offer Notifier gives Refused) ∷ (0 does Take Notifier gives TookEntry (adds 1)) ∷ (0 does Take Notifier gives Refused) ∷ []

pub record SmallPort : Type 0 where
  pub runs : Runs small_port
  pub feed : feed_after_row small_port 0 ≡ adds 1 ∷ adds 2 ∷ adds 3 ∷ []
  pub indexer_took : taken_after small_port 0 0 ≡ adds 1 ∷ adds 2 ∷ adds 3 ∷ []
  pub notifier_took : taken_after small_port 0 1 ≡ adds 1 ∷ []

-- ---- a port closed twice has one close mark

abbrev pub closed_twice : Row
closed_twice = (0 does Create inbox gives Issued (0 • 1)) ∷ (0 does Offer Notifier gives Offered (adds 1)) ∷ (0 does Close Notifier gives Done) ∷ (0 does Close Notifier gives Done) ∷ []

pub record ClosedTwice : Type 0 where
  pub runs : Runs closed_twice
  pub marks : (now row_setting closed_twice).offered 0 1 ≡ Moved (adds 1) ∷ CloseMark ∷ []
