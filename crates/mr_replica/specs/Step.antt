-- One event of a replica: its refusals, in their order, and the change that each answer stands for.
use Rattle.std.specs.Prelude.{◌≡◌, ◌≢◌, Option, Some, None, Result, Ok, Err, List, [], All}
use Rattle.mr_forms.specs.Known.{Form}
use Rattle.mr_replica.specs.State.{State}
use Rattle.mr_replica.specs.Alike.{AreAlike}
use Rattle.mr_replica.specs.Issue.{Wanted, wanted_by_issue, Fits, FirstFault, Issues, logged}
use Rattle.mr_replica.specs.Wanting.{FitBeforeMemory}
use Rattle.mr_replica.specs.Create.{create_refusal, created}
use Rattle.mr_replica.specs.Edit.{edit_refusal, edited}
use Rattle.mr_replica.specs.Retire.{retire_refusal, retiring}
use Rattle.mr_replica.specs.Fragments.{HasHoleyPart}
use Rattle.mr_replica.specs.Pull.{pull_refusal, IsAskOf, pulling}
use Rattle.mr_replica.specs.CutIn.{cut_in_refusal, cutting_in}
use Rattle.mr_replica.specs.CutOut.{cut_out_refusal, cutting_out}
use Rattle.mr_replica.specs.Answer.{answer_refusal, mode_for, KeepsHoley, Opens}
use Rattle.mr_replica.specs.Next.{next_refusal, GivesNext}
use Rattle.mr_replica.specs.Vouch.{vouch_refusal, IsReceiptFor}
use Rattle.mr_replica.specs.Release.{release_refusal, releasing}
use Rattle.mr_replica.specs.Receive.{receive_refusal, wanted_by_frame, TakesFrame, merges}
use Rattle.mr_replica.specs.declared.event.Event.{Event}
use Rattle.mr_replica.specs.declared.event.Event.TheVariants.{Create, Edit, Retire, Pull, Receive, CutIn, Answer, Next, CutOut, Vouch, Release}
use Rattle.mr_replica.specs.declared.event.Reply.{Reply}
use Rattle.mr_replica.specs.declared.event.Reply.TheVariants.{Issued, Done, Asked, Streaming, Gave, Vouched}
use Rattle.mr_replica.specs.declared.refusal.Refusal.{Refusal}
use Rattle.mr_replica.specs.declared.refusal.Refusal.TheVariants.{OutOfMemory, TooManyHoles}

module _ {K : Type 0} where
  -- The first refusal whose case holds. Those of forms and of memory come after it.
  abbrev pub first_refusal : State K → Event → Option Refusal
  first_refusal s (Create message) = create_refusal s
  first_refusal s (Edit bases message) = edit_refusal s bases
  first_refusal s Retire = retire_refusal s
  first_refusal s Pull = pull_refusal s
  first_refusal s (Receive frame) = receive_refusal s frame
  first_refusal s (CutIn session) = cut_in_refusal s session
  first_refusal s (Answer ask) = answer_refusal s ask
  first_refusal s (Next stream) = next_refusal s stream
  first_refusal s (CutOut stream) = cut_out_refusal s stream
  first_refusal s (Vouch version) = vouch_refusal s version
  first_refusal s (Release receipt) = release_refusal s receipt

  -- what the event wants, in the order of the tries
  abbrev pub wanted_by : Form K → State K → Event → List Wanted
  wanted_by form s (Create message) = wanted_by_issue form s (created s message)
  wanted_by form s (Edit bases message) = wanted_by_issue form s (edited s bases message)
  wanted_by form s (Receive frame) = wanted_by_frame form s frame
  wanted_by form s event = []

  -- The change that the reply stands for.
  abbrev pub Changes : Form K → State K → Event → Reply → State K → Type 0
  Changes form s (Create message) (Issued v) new = Issues form s (created s message) v (Create message) new
  Changes form s (Edit bases message) (Issued v) new = Issues form s (edited s bases message) v (Edit bases message) new
  Changes form s Retire Done new = new ≡ logged (retiring s) Retire
  Changes form s Pull (Asked ask) new = IsAskOf form s ask × (new ≡ logged (pulling s) Pull)
  Changes form s (Receive frame) reply new = TakesFrame form s frame reply new
  Changes form s (CutIn session) Done new = new ≡ logged (cutting_in s session) (CutIn session)
  Changes form s (Answer ask) (Streaming stream) new = Opens form s ask stream new
  Changes form s (Next stream) (Gave sent) new = GivesNext s stream sent new
  Changes form s (CutOut stream) Done new = new ≡ logged (cutting_out s stream) (CutOut stream)
  Changes form s (Vouch version) (Vouched receipt) new = IsReceiptFor s version receipt × (new ≡ logged s (Vouch version))
  Changes form s (Release receipt) Done new = new ≡ logged (releasing s receipt) (Release receipt)
  Changes form s event reply new = ⊥

  -- A refusal of the forms, or last of all memory. But where a knowledge is put into vectors, memory may come in place of a part that has none; and where fragments are merged one after the other, before the fault of one behind the first.
  abbrev pub RefusesLate : Form K → State K → Event → Refusal → Type 0
  RefusesLate form s (Receive frame) OutOfMemory = FitBeforeMemory form (merges s frame) (wanted_by_frame form s frame)
  RefusesLate form s event OutOfMemory = All (Fits form) (wanted_by form s event)
  RefusesLate form s Pull TooManyHoles = HasHoleyPart (form.is_part s.knowledge)
  RefusesLate form s (Answer ask) TooManyHoles = KeepsHoley form (mode_for s ask) s.knowledge
  RefusesLate form s event e = FirstFault form e (wanted_by form s event)

  abbrev pub Answers : Form K → State K → Event → Result Reply Refusal → State K → Type 0
  Answers form s event (Ok reply) new = All (Fits form) (wanted_by form s event) × Changes form s event reply new
  Answers form s event (Err e) new = RefusesLate form s event e × (new ≡ s)

  -- From s, the replica answers the event and goes on to new.
  abbrev pub Steps : Form K → State K → Event → Result Reply Refusal → State K → Type 0
  Steps form s event answer new = elim (first_refusal s event) [
    | Some e ↦ (answer ≡ Err e) × (new ≡ s)
    | None ↦ Answers form s event answer new
  ]

  -- ---- a step is a function

  -- Memory aside, a replica that is alike has no other answer to the event than this one, and no new replica but one that is
  -- alike to this one.
  abbrev pub IsDecided : Form K → State K → Event → Result Reply Refusal → State K → Type 0
  IsDecided form s event answer new =
      answer ≢ Err OutOfMemory → (t : State K) (other : Result Reply Refusal) (after : State K) → AreAlike form s t → other ≢ Err OutOfMemory → Steps form t event other after → (other ≡ answer) × AreAlike form new after
