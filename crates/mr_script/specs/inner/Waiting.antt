-- when a read may wait for somebody
use Rattle.std.specs.Prelude.{◌≡◌, ◌==◌, ◌⊎◌, ℕ, Bool, List, [], IsTrue}
use Rattle.std.specs.List.{list_any}
use Rattle.std.specs.Io.Buffered.{reader_buffer}
use Rattle.mr_script.specs.declared.source.Source.{Source}

-- whether the next line has been read already, so that taking it calls no reader
abbrev pub has_line : {R : Type 0} → Source R → Bool
has_line source = list_any (λ b. b == 10) (reader_buffer source.reader)

-- no answer waits, or the next line is at hand
abbrev pub MayAsk : {R : Type 0} → Source R → (waiting : List ℕ) → Type 0
MayAsk source waiting = IsTrue (has_line source) ⊎ (waiting ≡ [])
