-- Rows with a last step that the rules refuse: each would break what the headline, sound holding or no loss says.
use Rattle.std.specs.Prelude.{ℕ, true, [], ◌∷◌, ◌++◌}
use Rattle.mr_model.specs.History.{Body, Body.Start, Body.Item, Reply.Issued, Reply.Done, Reply.Streaming, Reply.Offered, Reply.Gave, Step}
use Rattle.mr_model.specs.declared.event.Act.TheVariants.{Create, Retire, Answer, Offer, Close, Next}
use Rattle.mr_model.specs.declared.event.Subscriber.TheVariants.{Notifier}
use Rattle.mr_model.specs.Rows.{inbox, work, Row, ◌•◌, ◌does◌gives◌, records, draws, pulls, Runs}
use Rattle.mr_model.specs.StreamRows.{opened}
use Rattle.mr_model.specs.PortRows.{adds}

-- the row is a run, and is none with the step behind it
pub record IsRefused (before : Row) (last : Step ℕ ℕ) : Type 0 where
  pub runs : Runs before
  pub refused : ¬ Runs (before ++ last ∷ [])

-- two entries are in the feed of 0, and none was offered
abbrev pub two_entries : Row
two_entries = (0 does Create inbox gives Issued (0 • 1)) ∷ (0 does Create inbox gives Issued (0 • 2)) ∷ []

-- one of them was offered, and then the port was closed
abbrev pub closed_port : Row
closed_port = two_entries ++ (0 does Offer Notifier gives Offered (adds 1)) ∷ (0 does Close Notifier gives Done) ∷ []

-- 1 pushed out what it issued
abbrev pub pushed_out_only : Row
pushed_out_only = (1 does Create work gives Issued (1 • 1)) ∷ []

-- 1 retired, and a record for it is in the pool
abbrev pub retired_early : Row
retired_early = opened (Start true ∷ Item (0 • 1) ∷ []) ++ (1 does Retire gives Done) ∷ []

-- 1 asked 0 for a stream of two versions, and has its Start
abbrev pub two_to_tell : Row
two_to_tell = two_entries ++ pulls 1 1 [] ∷ (0 does Answer 1 gives Streaming 1) ∷ draws (records 0 1 1 1 0 (Start true ∷ []))

-- 0, which selects all, asked 1, which selects the inbox
abbrev pub inbox_asked : Row
inbox_asked = pulls 0 1 [] ∷ (1 does Answer 1 gives Streaming 1) ∷ []

-- stream 1 of 1 gives the Start of a full stream
abbrev pub starts_full : Step ℕ ℕ
starts_full = 1 does Next 1 gives Gave (record { source = 1; stream = 1; target = 0; session = 1; index = 0; body = Start true })

-- stream 1 of 0 gives its next record, for session 1 of 1
abbrev pub gives_next : (index : ℕ) → Body → Step ℕ ℕ
gives_next index body = 0 does Next 1 gives Gave (record { source = 0; stream = 1; target = 1; session = 1; index = index; body = body })
