-- What crashes leave of the device while letters are taken.
use Rattle.std.proofs.Common.{◌≡◌, ◌⊎◌, ⊎_elim, ℕ, Bool, List, [], ◌∷◌, ◌++◌, Option, Result, Ok, Err, refl, sym, ap, subst, ◌∙◌, append_assoc}
use Rattle.mr_kept_node.proofs.Names.{Declined, DeviceOf, Entry, Event, Form, Goes, IsKept, IsTrue, Kept, KeptFault, KeptMachine, LeavesOnly, NoteParts, Passed}
use Rattle.mr_kept_node.proofs.Names.{Refusal, Replays, Reply, Stands, State, Stopped, Takes, TakesBy, TellsBetween, append-nil, device_of, device_under}
use Rattle.mr_kept_node.proofs.Names.{entries_with, entry_bytes, events_of, joined, kept_on, log_of, map, notes_of, stands_now, started, widened}
use Rattle.mr_kept_node.proofs.Running.{log_ran}
use Rattle.mr_kept_node.proofs.Stepping.{Ready, all_told, declined_same, events_with, notes_with, ready_declined, ready_kept, rests, stopped_log}

-- ---- files

-- entries that tell no more than the least
pub tells_least : (entries : List Entry) (most left : List Event) (c : List ℕ) → Stands (map entry_bytes entries) c → most ≡ events_of entries ++ left → TellsBetween (events_of entries) most (notes_of entries) c
tells_least entries most left c stands at_most = record {
  entries = entries;
  stands = stands;
  more = [];
  at_least = sym (append-nil (events_of entries));
  left = left;
  at_most = at_most;
  notes_are = refl;
}

-- at least so much is at least less
pub tells_less : (least less more most : List Event) (was notes : List NoteParts) (c : List ℕ) → least ≡ less ++ more → was ≡ notes → TellsBetween least most was c → TellsBetween less most notes c
tells_less least less more most was notes c is same h = record {
  entries = h.entries;
  stands = h.stands;
  more = more ++ h.more;
  at_least = h.at_least ∙ ap (λ (l : List Event). l ++ h.more) is ∙ append_assoc less more h.more;
  left = h.left;
  at_most = h.at_most;
  notes_are = h.notes_are ∙ same;
}

-- the entries from before, or those and the letter's
pub tells_letter : (entries more : List Entry) (letter : Event) (most left : List Event) (c : List ℕ)
    → events_of (entries ++ more) ≡ events_of entries ++ letter ∷ [] → notes_of (entries ++ more) ≡ notes_of entries → most ≡ events_of (entries ++ more) ++ left
    → Stands (map entry_bytes entries) c ⊎ Stands (map entry_bytes (entries ++ more)) c → TellsBetween (events_of entries) most (notes_of entries) c
tells_letter entries more letter most left c told notes at_most here = ⊎_elim
    (λ before. tells_least entries most (letter ∷ left) c before (at_most ∙ ap (λ (l : List Event). l ++ left) told ∙ append_assoc (events_of entries) (letter ∷ []) left))
    (λ after. tells_less (events_of (entries ++ more)) (events_of entries) (letter ∷ []) most (notes_of (entries ++ more)) (notes_of entries) c told notes (tells_least (entries ++ more) most left c after at_most))
    here

-- ---- letters

module _ {K D V : Type 0} (form : Form K) (device : DeviceOf D) where
  -- what is kept is kept behind a letter that was declined
  pub kept_declined : (m t : KeptMachine K D V) (letter : Event) (e : Refusal) (entries : List Entry) → Declined form device m letter e t → IsKept device.seen device.may_leave entries m.journaled → IsKept device.seen device.may_leave entries t.journaled
  kept_declined m t letter e entries h kept =
      let same = declined_same form device m t letter e h in
      let j = h.turned.journal in
      kept_on entries m.journaled t.journaled [] kept j.journal j.head j.kept j.issued (ap (λ (s : State K). s.log) same ∙ sym (append-nil (log_of m)))

  pub device_declined : (m t : KeptMachine K D V) (letter : Event) (e : Refusal) → Declined form device m letter e t → device_under t.journaled ≡ device_under m.journaled
  device_declined m t letter e h = ap device_of h.turned.journal.journal

  module _ (told : IsTrue device.is_told) (only_now : (d : D) (c : List ℕ) → device.left_since d (device.moment d) c → device.may_leave d c) where
    -- between two states a crash leaves what was kept at the first, at least
    abbrev pub Leaves : List Entry → KeptMachine K D V → KeptMachine K D V → Type 0
    Leaves entries m n = LeavesOnly device.moment device.left_since (device_under m.journaled) (device_under n.journaled) (TellsBetween (events_of entries) (log_of n) (notes_of entries))

    none_leaves : (m n : KeptMachine K D V) (entries : List Entry) → Ready m → IsKept device.seen device.may_leave entries m.journaled → n ≡ m → Leaves entries m n
    none_leaves m n entries ready kept same =
        let all = all_told entries m.journaled kept ready.none_waits in
        subst (λ (z : KeptMachine K D V). Leaves entries m z) (sym same)
        (started {old = device_under m.journaled} (λ c left. tells_least entries (log_of m) [] c (stands_now entries m.journaled kept c (only_now (device_under m.journaled) c left)) (sym all ∙ sym (append-nil (events_of entries)))))

    kept_leaves : (m t n : KeptMachine K D V) (letter : Event) (reply : Reply) (entries : List Entry) (left : List Event) → Ready m → IsKept device.seen device.may_leave entries m.journaled
        → Kept form device m letter reply t → log_of n ≡ log_of t ++ left → Leaves (entries ++ entries_with m.journaled letter) t n → Leaves entries m n
    kept_leaves m t n letter reply entries left ready kept h log rest =
        let more : List Entry = entries_with m.journaled letter in
        let events = events_with entries m.journaled letter ready.none_waits in
        let notes = notes_with entries m.journaled letter ready.none_waits in
        let after = h.keeps told entries kept in
        let most : log_of n ≡ events_of (entries ++ more) ++ left = log ∙ ap (λ (l : List Event). l ++ left) (sym (all_told (entries ++ more) t.journaled after h.none_waits)) in
        let P : List ℕ → Type 0 = TellsBetween (events_of entries) (log_of n) (notes_of entries) in
        joined {mid = device_under t.journaled}
        (widened {P = λ c. Stands (map entry_bytes entries) c ⊎ Stands (map entry_bytes (entries ++ more)) c} P (h.commits told entries kept).any_moment
        (λ c here. tells_letter entries more letter (log_of n) left c events notes most here))
        (widened {P = TellsBetween (events_of (entries ++ more)) (log_of n) (notes_of (entries ++ more))} P rest
        (λ c here. tells_less (events_of (entries ++ more)) (events_of entries) (letter ∷ []) (log_of n) (notes_of (entries ++ more)) (notes_of entries) c events notes here))

    stopped_leaves : (m t : KeptMachine K D V) (letter : Event) (entries : List Entry) → Ready m → IsKept device.seen device.may_leave entries m.journaled
        → Stopped form device m letter t → Leaves entries m t
    stopped_leaves m t letter entries ready kept h =
        let more : List Entry = entries_with m.journaled letter in
        let events = events_with entries m.journaled letter ready.none_waits in
        let notes = notes_with entries m.journaled letter ready.none_waits in
        let most : log_of t ≡ events_of (entries ++ more) ++ [] =
        stopped_log form device m t letter h ∙ ap (λ (l : List Event). l ++ letter ∷ []) (sym (all_told entries m.journaled kept ready.none_waits)) ∙ sym events ∙ sym (append-nil (events_of (entries ++ more))) in
        widened {P = λ c. Stands (map entry_bytes entries) c ⊎ Stands (map entry_bytes (entries ++ more)) c} (TellsBetween (events_of entries) (log_of t) (notes_of entries)) (h.commits told entries kept).any_moment
        (λ c here. tells_letter entries more letter (log_of t) [] c events notes most here)

    one_leaves : (m t n : KeptMachine K D V) (xs : List Passed) (letter : Event) (answer : Result Reply Refusal) (entries : List Entry) → Ready m → IsKept device.seen device.may_leave entries m.journaled
        → Goes form device m letter answer t → Replays (Takes form device) t xs n
        → ((more : List Entry) → Ready t → IsKept device.seen device.may_leave more t.journaled → Leaves more t n) → Leaves entries m n
    one_leaves m t n xs letter (Ok reply) entries ready kept h replays rest =
        let on = ready_kept form device m t letter reply h in
        let ran = log_ran form device t n xs on replays in
        kept_leaves m t n letter reply entries _ ready kept h (ran.log ∙ append_assoc (log_of t) _ ran.unkept) (rest (entries ++ entries_with m.journaled letter) on (h.keeps told entries kept))
    one_leaves m t n xs letter (Err e) entries ready kept h replays rest = ⊎_elim
        (λ same.
        subst (λ (d : D). LeavesOnly device.moment device.left_since d (device_under n.journaled) (TellsBetween (events_of entries) (log_of n) (notes_of entries))) (device_declined m t letter e same)
        (rest entries (ready_declined form device m t letter e ready same) (kept_declined m t letter e entries same kept)))
        (λ stop.
        let at_rest = rests form device t n xs stop.1.fault stop.1.stops replays in
        subst (λ (z : KeptMachine K D V). Leaves entries m z) (sym at_rest.same) (stopped_leaves m t letter entries ready kept stop.1))
        h

    pub leaves : (m n : KeptMachine K D V) (xs : List Passed) (entries : List Entry) → Ready m → IsKept device.seen device.may_leave entries m.journaled → Replays (Takes form device) m xs n → Leaves entries m n
    leaves m n [] entries ready kept h = none_leaves m n entries ready kept h
    leaves m n (x ∷ xs) entries ready kept h =
        let one = subst (λ (o : Option KeptFault). TakesBy form device o m x.letter x.answer h.0) ready.goes_on h.1 in
        one_leaves m h.0 n xs x.letter x.answer entries ready kept one h.2 (λ more on after. leaves h.0 n xs more on after h.2)
