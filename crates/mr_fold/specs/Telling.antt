-- which events tell what is done for mails
use Rattle.std.specs.Prelude.{◌≡◌, ℕ, Option, Some, List, [], ◌∷◌, ◌++◌, option_and_then, option_map, slice_get}
use Rattle.std.specs.Global.{Vec}
use Rattle.mr_version.specs.Name.{Name}
use Rattle.mr_itemset.specs.Normal.{Normal}
use Rattle.mr_itemset.specs.Sparing.{sparing_form}
use Rattle.mr_mail.specs.Label.{text_cmp}
use Rattle.mr_mail.specs.Mail.{Mail}
use Rattle.mr_madewith.specs.Revision.{Rev}
use Rattle.mr_maildir.specs.View.{ViewParts}
use Rattle.mr_maildir.specs.declared.act.Act.{Act}
use Rattle.mr_maildir.specs.declared.act.Act.TheVariants as act
use Rattle.mr_replica.specs.Replay.{Admits}
use Rattle.mr_replica.specs.State.{State, held}
use Rattle.mr_replica.specs.declared.event.Event.{Event}
use Rattle.mr_replica.specs.declared.event.Event.TheVariants.{Create, Edit}
use Rattle.mr_compare.specs.Gather.{values_at}
use Rattle.mr_compare.specs.declared.compare.MailAct.{MailAct}
use Rattle.mr_compare.specs.declared.joining.ItemHeads.{ItemHeads}

-- the view of a deleted mail: no folder, and the flag deleted
abbrev pub gone_view : ViewParts
gone_view = record { labels = []; flags = 16 }

-- the message of the first of these versions, if the replica holds it
abbrev pub first_message : State Normal → List Name → Option Mail
first_message s versions = option_map (λ (r : Rev). r.message) (option_and_then (held s) (slice_get versions 0))

-- the message with the view's labels and flags in place of its own; sender, subject, body and day stay
abbrev pub edited_to : ViewParts → Mail → Mail
edited_to view message = record message { labels = view.labels; flags = view.flags }

-- from a replica as it was to the replica as it is then, what events were told
abbrev pub Telling : Type 1
Telling = State Normal → List Event → State Normal → Type 0

-- none, and the replica stays
abbrev pub TellsNothing : Telling
TellsNothing s events new = (events ≡ []) × (new ≡ s)

-- just this event, which the replica admits
abbrev pub TellsOne : Event → Telling
TellsOne event s events new = (events ≡ event ∷ []) × Admits sparing_form s event new

-- what is told of each of these, one after the other: of each to the replica as those before it left it
abbrev pub TellsInTurn : {X : Type 0} → (X → Telling) → List X → Telling
TellsInTurn Tells [] s events new = TellsNothing s events new
TellsInTurn Tells (x ∷ xs) s events new =
    (here : List Event) × (mid : State Normal) × (rest : List Event) × (events ≡ here ++ rest) × Tells x s here mid × TellsInTurn Tells xs mid rest new

-- One edit over these versions. Its message is that of the first of them, as the replica holds it then, but for the labels and the flags, which are the view's.
abbrev pub TellsEdit : ViewParts → List Name → Telling
TellsEdit view versions s events new = (message : Mail) × (first_message s versions ≡ Some message) × TellsOne (Edit versions (edited_to view message)) s events new

-- one edit for each item, over all its heads
abbrev pub TellsEdits : ViewParts → List ItemHeads → Telling
TellsEdits view items = TellsInTurn (λ (heads : ItemHeads). TellsEdit view heads.versions.items) items

-- what is told of a mail that is these items
abbrev pub TellsAct : List ItemHeads → Act → Telling
TellsAct items act.Agree s events new = TellsNothing s events new
TellsAct items act.Create s events new = (message : Mail) × TellsOne (Create message) s events new
TellsAct items (act.Edit view) s events new = TellsEdits view items s events new
TellsAct items act.Delete s events new = TellsEdits gone_view items s events new
TellsAct items act.Follow s events new = TellsNothing s events new
TellsAct items act.Remove s events new = TellsNothing s events new

-- the items that a table has of a mail
abbrev pub items_at : List (List ℕ × Vec ItemHeads) → List ℕ → List ItemHeads
items_at held digest = values_at text_cmp held digest

-- what is told of a mail, whose items are those that the table has of it
abbrev pub TellsMail : List (List ℕ × Vec ItemHeads) → MailAct → Telling
TellsMail held mail = TellsAct (items_at held mail.digest) mail.act

-- what is told of mails, one after the other
abbrev pub TellsAll : List (List ℕ × Vec ItemHeads) → List MailAct → Telling
TellsAll held mails = TellsInTurn (TellsMail held) mails

-- so is told from the old replica to the new one, and the log grows by just these events
pub record Grows (Tells : Telling) (old new : State Normal) : Type 0 where
  pub events : List Event
  pub log : new.log ≡ old.log ++ events
  pub are : Tells old events new
