-- lines that let an event happen
use Rattle.std.specs.Prelude.{ℕ, List, [], ◌∷◌}
use Rattle.mr_mail.specs.Mail.{Mail}
use Rattle.mr_model.specs.History.{◌does◌}
use Rattle.mr_model.specs.declared.event.Act.TheVariants.{Create, Edit, DeliverPart}
use Rattle.mr_model.specs.declared.event.Event.{Event}
use Rattle.mr_command.specs.declared.fault.LineFault.TheVariants.{WrongWords, BadNumber, BadVersion}
use Rattle.mr_command.specs.declared.pool.Pool.TheVariants.{Records}
use Rattle.mr_command.specs.List.{JoinsVersions}
use Rattle.mr_command.specs.Message.{takes_parts, reads_message}
use Rattle.mr_command.specs.Named.{reads_replica, reads_frame}
use Rattle.mr_command.specs.Number.{SpellsNumber}
use Rattle.mr_command.specs.Reading.{Reading, gives, fails, names, names_in_memory, ◌andthen◌}
use Rattle.mr_command.specs.Scene.{Scene}
use Rattle.mr_command.specs.Taking.{takes_three}

module _ (scene : Scene) where
  -- `R LABELS FLAGS DATE FROM SUBJECT`
  abbrev pub reads_create : List (List ℕ) → Reading (Event Mail)
  reads_create (replica ∷ args) =
      takes_parts args andthen λ parts.
      reads_replica scene replica andthen λ id.
      reads_message parts andthen λ message.
      gives (id does Create message)
  reads_create [] = fails WrongWords

  -- `R BASES LABELS FLAGS DATE FROM SUBJECT`
  abbrev pub reads_edit : List (List ℕ) → Reading (Event Mail)
  reads_edit (replica ∷ bases ∷ args) =
      takes_parts args andthen λ parts.
      reads_replica scene replica andthen λ id.
      names_in_memory JoinsVersions BadVersion bases andthen λ bases.
      reads_message parts andthen λ message.
      gives (id does Edit bases message)
  reads_edit args = fails WrongWords

  -- `R Pn BYTES`
  abbrev pub reads_part : List (List ℕ) → Reading (Event Mail)
  reads_part args =
      takes_three args andthen λ (replica, frame, bytes).
      reads_replica scene replica andthen λ id.
      reads_frame scene Records frame andthen λ n.
      names SpellsNumber BadNumber bytes andthen λ count.
      gives (id does DeliverPart n count)
