-- what an open journal has
use Rattle.std.specs.Prelude.{◌≡◌, ℕ, Bool, false, List, [], ◌∷◌, ◌++◌, length}
use Rattle.mr_journal.specs.Device.{Rests}
use Rattle.mr_journal.specs.Format.{AreBatches}
use Rattle.mr_journal.specs.declared.journal.Journal.{Journal}

-- the device that it writes to
abbrev pub device_of : {D : Type 0} → Journal D → D
device_of journal = journal.device

-- the place of its closed gate, where the next batch will stand
abbrev pub end_of : {D : Type 0} → Journal D → ℕ
end_of journal = journal.gate

-- whether its device has failed, so that it writes no more
abbrev pub has_failed : {D : Type 0} → Journal D → Bool
has_failed journal = journal.failed

-- It has these entries: its device has them and a closed gate behind them, and nothing else, so that a crash leaves that.
pub record Keeps {D : Type 0} (seen : D → List ℕ) (may_leave : D → List ℕ → Type 0) (entries : List (List ℕ)) (journal : Journal D) : Type 0 where
  pub sound : has_failed journal ≡ false
  pub front : List ℕ
  pub batches : AreBatches entries front
  pub place : length front ≡ end_of journal
  pub rests : Rests seen may_leave (front ++ (0 ∷ [])) (device_of journal)
