-- lines that ask what there is
use Rattle.std.specs.Prelude.{◌≡◌, ℕ, List, Ok, Err, string_bytes}
use Rattle.std.specs.declared.string.String.{String}
use Rattle.std.specs.declared.alloc.Global.{Global}
use Rattle.mr_command.specs.declared.command.Question.{Question}
use Rattle.mr_command.specs.declared.command.Question.TheVariants.{Bytes, Index}
use Rattle.mr_command.specs.declared.fault.LineFault.TheVariants.{BadNumber, OutOfMemory}
use Rattle.mr_command.specs.Named.{BeginsWithLetter, reads_frame}
use Rattle.mr_command.specs.Reading.{Reading, gives, names, ◌andthen◌}
use Rattle.mr_command.specs.Scene.{Scene}
use Rattle.mr_command.specs.Shape.{reads_two}
use Rattle.mr_command.specs.Taking.{takes_one}

-- any word, as it stands
abbrev pub reads_text : List ℕ → Reading (String Global)
reads_text word (Ok text) = string_bytes text ≡ word
reads_text word (Err fault) = fault ≡ OutOfMemory

module _ (scene : Scene) where
  -- `Qn`, `Pn` or `Rn`
  abbrev pub reads_bytes : List (List ℕ) → Reading Question
  reads_bytes args =
      takes_one args andthen λ frame.
      names BeginsWithLetter BadNumber frame andthen λ pool.
      reads_frame scene pool frame andthen λ n.
      gives (Bytes pool n)

  -- `R LABEL`, of which LABEL may be any word
  abbrev pub reads_index : List (List ℕ) → Reading Question
  reads_index args = reads_two scene reads_text args andthen λ (id, text). gives (Index id text)
