-- A replica that has retired tells nothing more.
use Rattle.std.proofs.Common.{◌≡◌, refl, ap, subst, ◌∙◌, true, List, [], ◌∷◌, ◌++◌, Option, Some, None, Result, Ok, Err, arith}
use Rattle.mr_settle.proofs.Names.{Admits, AdmitsAll, Answers, Changes, Form, HadTold, IsItsLog, Refusal, Reply, State, Steps, first_refusal}
use Rattle.mr_replica.specs.declared.event.Event.{Event}
use Rattle.mr_replica.specs.declared.event.Event.TheVariants.{Retire, Receive, Answer, Next, CutOut}
use Rattle.mr_replica.specs.declared.event.Reply.TheVariants as reply
use Rattle.mr_replica.specs.declared.refusal.Refusal.TheVariants as refusal
use Rattle.mr_wire.specs.declared.frame.Frame.TheVariants as frame
use Rattle.mr_settle.proofs.AdmitLemmas.{split_all}

-- the same feed, and the replica is retired
record Rests {K : Type 0} (s new : State K) : Type 0 where
  feed : new.feed ≡ s.feed
  retired : new.is_retired ≡ true

module _ {K : Type 0} (form : Form K) where
  rests_as : (s new made : State K) → new ≡ made → made.feed ≡ s.feed → made.is_retired ≡ true → Rests s new
  rests_as s new made is feed retired = record { feed = ap (λ (z : State K). z.feed) is ∙ feed; retired = ap (λ (z : State K). z.is_retired) is ∙ retired }

  abbrev GoesOn : State K → Event → Option Refusal → Result Reply Refusal → State K → Type 0
  GoesOn s event first answer new = elim first [
    | Some e ↦ (answer ≡ Err e) × (new ≡ s)
    | None ↦ Answers form s event answer new
  ]

  changes_of : (s : State K) (event : Event) (first : Option Refusal) (told : Reply) (new : State K) → GoesOn s event first (Ok told) new → Changes form s event told new
  changes_of s event first told new h = grind arith

  refused : (s : State K) (event : Event) (e : Refusal) (told : Reply) (new : State K) → first_refusal s event ≡ Some e → Steps form s event (Ok told) new → ⊥
  refused s event e told new is h = let no = subst (λ (o : Option Refusal). GoesOn s event o (Ok told) new) is h in cc (no.0)

  admitted_rests : (s : State K) (event : Event) (new : State K) → s.is_retired ≡ true → Admits form s event new → Rests s new
  admitted_rests s (Answer question) new r h = by h.0 (changes_of s (Answer question) (first_refusal s (Answer question)) h.0 new h.1)
    where
      by : (told : Reply) → Changes form s (Answer question) told new → Rests s new
      by (reply.Streaming stream) c = rests_as s new _ c.3 refl r
      by told c = absurd c
  admitted_rests s (Next stream) new r h = by h.0 (changes_of s (Next stream) (first_refusal s (Next stream)) h.0 new h.1)
    where
      by : (told : Reply) → Changes form s (Next stream) told new → Rests s new
      by (reply.Gave sent) c = rests_as s new _ c.2 refl r
      by told c = absurd c
  admitted_rests s (CutOut stream) new r h = by h.0 (changes_of s (CutOut stream) (first_refusal s (CutOut stream)) h.0 new h.1)
    where
      by : (told : Reply) → Changes form s (CutOut stream) told new → Rests s new
      by reply.Done c = rests_as s new _ c refl r
      by told c = absurd c
  admitted_rests s (Receive (frame.Record sent)) new r h = absurd (refused s (Receive (frame.Record sent)) refusal.Retired h.0 new (rw r refl) h.1)
  admitted_rests s (Receive (frame.Ask question)) new r h = absurd (refused s (Receive (frame.Ask question)) refusal.Retired h.0 new (rw r refl) h.1)
  admitted_rests s (Receive (frame.Receipt receipt)) new r h = absurd (refused s (Receive (frame.Receipt receipt)) refusal.Retired h.0 new (rw r refl) h.1)
  admitted_rests s event new r h = grind (arith, changes_of, rests_as, refused)

  all_rest : (s new : State K) (events : List Event) → s.is_retired ≡ true → AdmitsAll form s events new → new.feed ≡ s.feed
  all_rest s new [] r h = ap (λ (z : State K). z.feed) h
  all_rest s new (event ∷ events) r h = let one = admitted_rests s event h.0 r h.1 in all_rest h.0 new events one.retired h.2 ∙ one.feed

  retires : (s new : State K) → Admits form s Retire new → Rests s new
  retires s new h = grind (arith, changes_of, rests_as)

  -- behind its Retire an end was told nothing
  pub none_after : (end : State K) → IsItsLog form end → (before after : List Event) → end.log ≡ before ++ Retire ∷ after → HadTold form end before
  none_after end its before after is =
      let admits = subst (λ (log : List Event). AdmitsAll form its.fresh log end) is its.admits in
      let parts = split_all form its.fresh end before (Retire ∷ after) admits in
      let one = retires parts.0 parts.2.0 parts.2.1 in
      record {
        earlier = parts.0;
        replays = record { fresh = its.fresh; is_fresh = its.is_fresh; admits = parts.1 };
        same = all_rest parts.2.0 end after one.retired parts.2.2 ∙ one.feed;
      }
