-- logs that grow, event by event
use Rattle.std.proofs.Common.{◌≡◌, ℕ, ◌+◌, ◌<◌, Some, List, [], ◌∷◌, ◌++◌, take, length, get_or, Ok, refl, ap, sym, subst, ◌∙◌, append_assoc, append-nil}
use Rattle.std.specs.Global.{Vec}
use Rattle.mr_version.specs.Name.{Name}
use Rattle.mr_itemset.specs.Normal.{Normal}
use Rattle.mr_itemset.specs.Sparing.{sparing_form}
use Rattle.mr_mail.specs.Mail.{Mail}
use Rattle.mr_maildir.specs.View.{ViewParts}
use Rattle.mr_maildir.specs.declared.act.Act.TheVariants as act
use Rattle.mr_replica.specs.Replay.{Admits}
use Rattle.mr_replica.specs.State.{State}
use Rattle.mr_replica.specs.declared.event.Event.{Event}
use Rattle.mr_replica.specs.declared.event.Event.TheVariants.{Create, Edit}
use Rattle.mr_replica.specs.declared.event.Reply.{Reply}
use Rattle.mr_replica.proofs.Replaying.{step_log}
use Rattle.mr_kept.specs.Answered.{Answered}
use Rattle.mr_kept.specs.Kept.{journal_of, leaving, replica_of}
use Rattle.mr_kept.specs.declared.journaled.Journaled.{Journaled}
use Rattle.mr_compare.specs.declared.compare.MailAct.{MailAct}
use Rattle.mr_compare.specs.declared.joining.ItemHeads.{ItemHeads}
use Rattle.mr_compare.proofs.ListLemmas.{take_one}
use Rattle.mr_fold.specs.Telling.{Grows, Telling, TellsAct, TellsAll, TellsEdit, TellsInTurn, TellsMail, edited_to, first_message}

-- ---- one event

module _ {D V : Type 0} where
  -- what is known of an event that waits
  abbrev pub Waits : Event → (old new : Journaled Normal D V) → Type 0
  Waits event old new = (reply : Reply) × Answered sparing_form (journal_of old) (replica_of old) event (Ok reply) (replica_of new) × (leaving new ≡ leaving old ++ reply ∷ [])

  -- it is the log's last
  waits_last : (event : Event) (old new : Journaled Normal D V) → Waits event old new → (replica_of new).log ≡ (replica_of old).log ++ event ∷ []
  waits_last event old new h = step_log sparing_form (replica_of old) (replica_of new) event (Ok h.0) h.1.1

  -- a new mail that was told
  pub new_told : (old new : Journaled Normal D V) (message : Mail) → Waits (Create message) old new → Grows (TellsAct [] act.Create) (replica_of old) (replica_of new)
  new_told old new message h = record { events = Create message ∷ []; log = waits_last (Create message) old new h; are = (message, (refl, (h.0, h.1.1))) }

  -- an edit that was told
  pub edit_told : (old new : Journaled Normal D V) (bases versions : List Name) (message : Mail) (view : ViewParts) → Waits (Edit bases message) old new → bases ≡ versions
      → (was : Mail) × (first_message (replica_of old) versions ≡ Some was) × (message ≡ edited_to view was) → Grows (TellsEdit view versions) (replica_of old) (replica_of new)
  edit_told old new bases versions message view h same is =
      let told : Edit bases message ≡ Edit versions (edited_to view is.0) = ap (λ (bs : List Name). Edit bs message) same ∙ ap (λ (m : Mail). Edit versions m) is.2 in
      record {
        events = Edit bases message ∷ [];
        log = waits_last (Edit bases message) old new h;
        are = (is.0, is.1, (ap (λ (e : Event). e ∷ []) told, subst (λ (e : Event). Admits sparing_form (replica_of old) e (replica_of new)) told (h.0, h.1.1)));
      }

-- ---- one after the other

-- a replica of which nothing is told
pub grows_not : (Tells : Telling) (s : State Normal) → Tells s [] s → Grows Tells s s
grows_not Tells s nothing = record { events = []; log = sym (append-nil s.log); are = nothing }

module _ {X : Type 0} (Tells : X → Telling) where
  turn_then : (xs ys : List X) (s mid new : State Normal) (events more : List Event) → TellsInTurn Tells xs s events mid → TellsInTurn Tells ys mid more new → TellsInTurn Tells (xs ++ ys) s (events ++ more) new
  turn_then [] ys s mid new events more h after = subst (λ (es : List Event). TellsInTurn Tells ys s (es ++ more) new) (sym h.0) (subst (λ (z : State Normal). TellsInTurn Tells ys z more new) h.1 after)
  turn_then (x ∷ xs) ys s mid new events more h after =
      (h.0, h.1, h.2 ++ more, ap (λ (es : List Event). es ++ more) h.3 ∙ append_assoc h.0 h.2 more, h.4, turn_then xs ys h.1 mid new h.2 more h.5 after)

  -- what is told of some, and then of others
  pub grows_on : (xs ys : List X) (old mid new : State Normal) → Grows (TellsInTurn Tells xs) old mid → Grows (TellsInTurn Tells ys) mid new → Grows (TellsInTurn Tells (xs ++ ys)) old new
  grows_on xs ys old mid new first second = record {
    events = first.events ++ second.events;
    log = second.log ∙ ap (λ (es : List Event). es ++ second.events) first.log ∙ append_assoc old.log first.events second.events;
    are = turn_then xs ys old mid new first.events second.events first.are second.are;
  }

  -- and of one more
  pub grows_by_one : (xs : List X) (i : ℕ) (x : X) (old mid new : State Normal) → i < length xs → x ≡ get_or xs i x → Grows (TellsInTurn Tells (take i xs)) old mid → Grows (Tells x) mid new → Grows (TellsInTurn Tells (take (i + 1) xs)) old new
  grows_by_one xs i x old mid new h e before one =
      subst (λ (ys : List X). Grows (TellsInTurn Tells ys) old new) (sym (take_one xs i x h e))
      (grows_on (take i xs) (x ∷ []) old mid new before (record { events = one.events; log = one.log; are = (one.events, new, [], sym (append-nil one.events), one.are, (refl, refl)) }))

-- what is told of some mails, and then of others
pub grows_then : (held : List (List ℕ × Vec ItemHeads)) (mails more : List MailAct) (old mid new : State Normal) → Grows (TellsAll held mails) old mid → Grows (TellsAll held more) mid new → Grows (TellsAll held (mails ++ more)) old new
grows_then held mails more old mid new first second = grows_on (TellsMail held) mails more old mid new first second
