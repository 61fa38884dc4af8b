-- At each moment a crash leaves a journal that opens again.
use Rattle.std.proofs.Common.{◌≡◌, ◌⊎◌, ⊎_elim, ℕ, Bool, List, [], ◌∷◌, ◌++◌, Option, Result, Ok, Err, sym, subst}
use Rattle.mr_kept_node.proofs.Names.{Declined, DeviceOf, Entry, Event, Form, Goes, HasLog, HeadParts, IsItsLog, IsKept, IsOf, IsTrue, Kept, KeptFault, KeptMachine}
use Rattle.mr_kept_node.proofs.Names.{LeavesOnly, NoteParts, Passed, Refusal, Replays, Reply, State, Takes, TakesBy, device_under, entries_with, head_of}
use Rattle.mr_kept_node.proofs.Names.{head_on, joined, left_now, no_note_waits, notes_of, notes_waiting, replica_of, same_notes, started, step_setting}
use Rattle.mr_kept_node.proofs.Names.{widened}
use Rattle.mr_replica.proofs.Replaying as replaying
use Rattle.mr_kept_node.proofs.Leaving.{device_declined, kept_declined}
use Rattle.mr_kept_node.proofs.Stepping.{Ready, declined_same, notes_with, ready_declined, ready_kept, rests}

module _ {K D V : Type 0} (form : Form K) (device : DeviceOf D) where
  -- the replica is its log, and the head is its own
  pub record Whole (m : KeptMachine K D V) : Type 0 where
    pub is_its_log : IsItsLog form (replica_of m.journaled)
    pub of : IsOf (head_of m.journaled) (replica_of m.journaled)

  whole_kept : (m t : KeptMachine K D V) (letter : Event) (reply : Reply) → Kept form device m letter reply t → Whole m → Whole t
  whole_kept m t letter reply h whole =
      let old : State K = replica_of m.journaled in
      let new : State K = replica_of t.journaled in
      record {
        is_its_log = replaying.kept form old new letter (Ok reply) whole.is_its_log h.steps;
        of = subst (λ (head : HeadParts). IsOf head new) (sym h.head) (head_on form (head_of m.journaled) old new (step_setting form old new letter (Ok reply) h.steps) whole.of);
      }

  whole_declined : (m t : KeptMachine K D V) (letter : Event) (e : Refusal) → Declined form device m letter e t → Whole m → Whole t
  whole_declined m t letter e h whole =
      let same = declined_same form device m t letter e h in
      record {
        is_its_log = subst (λ (s : State K). IsItsLog form s) (sym same) whole.is_its_log;
        of = subst (λ (head : HeadParts). IsOf head (replica_of t.journaled)) (sym h.turned.journal.head) (subst (λ (s : State K). IsOf (head_of m.journaled) s) (sym same) whole.of);
      }

  module _ (told : IsTrue device.is_told) (only_now : (d : D) (c : List ℕ) → device.left_since d (device.moment d) c → device.may_leave d c) where
    -- between two states a crash leaves a journal that opens again, with these notes
    abbrev pub Opens : HeadParts → List NoteParts → KeptMachine K D V → KeptMachine K D V → Type 0
    Opens head notes m n = LeavesOnly device.moment device.left_since (device_under m.journaled) (device_under n.journaled) (λ c. HasLog form c head notes)

    none_opens : (m n : KeptMachine K D V) (entries : List Entry) → IsKept device.seen device.may_leave entries m.journaled → Whole m → n ≡ m → Opens (head_of m.journaled) (notes_of entries) m n
    none_opens m n entries kept whole same = subst (λ (z : KeptMachine K D V). Opens (head_of m.journaled) (notes_of entries) m z) (sym same)
        (started {old = device_under m.journaled} (λ c left. left_now form entries m.journaled c kept whole.is_its_log whole.of (only_now (device_under m.journaled) c left)))

    -- no note waits with the letter
    commit_opens : (m t : KeptMachine K D V) (entries : List Entry) → Ready m
        → LeavesOnly device.moment device.left_since (device_under m.journaled) (device_under t.journaled) (λ c. HasLog form c (head_of m.journaled) (notes_of entries) ⊎ HasLog form c (head_of m.journaled) (notes_of entries ++ notes_waiting m.journaled))
        → Opens (head_of m.journaled) (notes_of entries) m t
    commit_opens m t entries ready left =
        widened {P = λ c. HasLog form c (head_of m.journaled) (notes_of entries) ⊎ HasLog form c (head_of m.journaled) (notes_of entries ++ notes_waiting m.journaled)} (λ c. HasLog form c (head_of m.journaled) (notes_of entries)) left
        (λ c here. same_notes form entries m.journaled c (no_note_waits m.journaled ready.none_waits) here)

    kept_opens : (m t n : KeptMachine K D V) (letter : Event) (reply : Reply) (entries : List Entry) → Ready m → IsKept device.seen device.may_leave entries m.journaled → Whole m → Kept form device m letter reply t
        → Opens (head_of t.journaled) (notes_of (entries ++ entries_with m.journaled letter)) t n → Opens (head_of m.journaled) (notes_of entries) m n
    kept_opens m t n letter reply entries ready kept whole h rest =
        joined {mid = device_under t.journaled}
        (commit_opens m t entries ready ((h.commits told entries kept).left whole.of))
        (subst (λ (head : HeadParts). Opens head (notes_of entries) t n) h.head
        (subst (λ (notes : List NoteParts). Opens (head_of t.journaled) notes t n) (notes_with entries m.journaled letter ready.none_waits) rest))

    one_opens : (m t n : KeptMachine K D V) (xs : List Passed) (letter : Event) (answer : Result Reply Refusal) (entries : List Entry) → Ready m → IsKept device.seen device.may_leave entries m.journaled → Whole m
        → Goes form device m letter answer t → Replays (Takes form device) t xs n
        → ((more : List Entry) → Ready t → IsKept device.seen device.may_leave more t.journaled → Whole t → Opens (head_of t.journaled) (notes_of more) t n) → Opens (head_of m.journaled) (notes_of entries) m n
    one_opens m t n xs letter (Ok reply) entries ready kept whole h replays rest =
        kept_opens m t n letter reply entries ready kept whole h
        (rest (entries ++ entries_with m.journaled letter) (ready_kept form device m t letter reply h) (h.keeps told entries kept) (whole_kept m t letter reply h whole))
    one_opens m t n xs letter (Err e) entries ready kept whole h replays rest = ⊎_elim
        (λ same.
        subst (λ (d : D). LeavesOnly device.moment device.left_since d (device_under n.journaled) (λ c. HasLog form c (head_of m.journaled) (notes_of entries))) (device_declined form device m t letter e same)
        (subst (λ (head : HeadParts). Opens head (notes_of entries) t n) same.turned.journal.head
        (rest entries (ready_declined form device m t letter e ready same) (kept_declined form device m t letter e entries same kept) (whole_declined m t letter e same whole))))
        (λ stop.
        let at_rest = rests form device t n xs stop.1.fault stop.1.stops replays in
        subst (λ (z : KeptMachine K D V). Opens (head_of m.journaled) (notes_of entries) m z) (sym at_rest.same) (commit_opens m t entries ready ((stop.1.commits told entries kept).left whole.of)))
        h

    pub opens : (m n : KeptMachine K D V) (xs : List Passed) (entries : List Entry) → Ready m → IsKept device.seen device.may_leave entries m.journaled → Whole m → Replays (Takes form device) m xs n → Opens (head_of m.journaled) (notes_of entries) m n
    opens m n [] entries ready kept whole h = none_opens m n entries kept whole h
    opens m n (x ∷ xs) entries ready kept whole h =
        let one = subst (λ (o : Option KeptFault). TakesBy form device o m x.letter x.answer h.0) ready.goes_on h.1 in
        one_opens m h.0 n xs x.letter x.answer entries ready kept whole one h.2 (λ more on after all. opens h.0 n xs more on after all h.2)
