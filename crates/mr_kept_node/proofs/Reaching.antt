-- The state that a machine has reached behind some letters, and what a crash leaves from there on.
use Rattle.std.proofs.Common.{◌≡◌, ◌≢◌, ⊎_elim, ◌≤◌, ℕ, Bool, List, [], ◌∷◌, ◌++◌, Option, Some, None, Result, Ok, Err, refl, sym, ap, subst, ◌∙◌, append_assoc}
use Rattle.mr_kept_node.proofs.Names.{DeviceOf, Entry, Event, Failed, Form, Goes, IsItsLog, IsKept, IsTrue, Journaled, KeepsEvents, KeptFault, KeptMachine, LeavesOnly}
use Rattle.mr_kept_node.proofs.Names.{NoteParts, Passed, Refusal, Replays, Reply, SafeSince, Sender, Stopped, Takes, TakesBy, TellsBetween, admitted_of}
use Rattle.mr_kept_node.proofs.Names.{append-nil, device_under, entries_with, events_append, events_of, log_of, notes_append, notes_of, replica_of}
use Rattle.mr_kept_node.proofs.Names.{stands_now, started}
use Rattle.mr_kept_node.proofs.Feeding.{told_ran}
use Rattle.mr_kept_node.proofs.Leaving.{kept_declined, leaves, tells_least, tells_less, tells_letter}
use Rattle.mr_kept_node.proofs.Stepping.{Ready, all_told, events_with, letter_told, no_note_told, notes_with, passed, ready_declined, ready_kept, replays_cut, rests, stopped_log}
use Rattle.mr_kept_node.proofs.Taking.{kept_asked}

-- the same with other lists that are equal
tells_as : (least other most : List Event) (was notes : List NoteParts) (c : List ℕ) → least ≡ other → was ≡ notes → TellsBetween least most was c → TellsBetween other most notes c
tells_as least other most was notes c is same h = tells_less least other [] most was notes c (is ∙ sym (append-nil other)) same h

module _ {K D V : Type 0} (form : Form K) (device : DeviceOf D) where
  -- behind these letters: what a crash leaves now, and where there is no fault the machine is ready, and has kept what was answered
  pub record Reached (entries : List Entry) (xs : List Passed) (r : KeptMachine K D V) : Type 0 where
    pub crash : (c : List ℕ) → device.may_leave (device_under r.journaled) c → TellsBetween (events_of entries ++ admitted_of xs) (log_of r) (notes_of entries) c
    pub ready : r.fault ≡ None → Ready r
    pub ended : r.fault ≢ Some Failed → KeepsEvents device.seen device.may_leave entries (admitted_of xs) r.journaled

  -- no event is behind the entries
  keeps_none : (entries : List Entry) (j : Journaled K D V) → IsKept device.seen device.may_leave entries j → KeepsEvents device.seen device.may_leave entries [] j
  keeps_none entries j kept = record { more = []; kept = subst (λ (l : List Entry). IsKept device.seen device.may_leave l j) (sym (append-nil entries)) kept; events_are = refl; no_notes = refl }

  none_reached : (m r : KeptMachine K D V) (entries : List Entry) → Ready m → IsKept device.seen device.may_leave entries m.journaled → r ≡ m → Reached entries [] r
  none_reached m r entries ready kept same = subst (λ (z : KeptMachine K D V). Reached entries [] z) (sym same) (record {
    crash = λ c may.
        let all = all_told entries m.journaled kept ready.none_waits in
        tells_as (events_of entries) (events_of entries ++ []) (log_of m) (notes_of entries) (notes_of entries) c (sym (append-nil (events_of entries))) refl
        (tells_least entries (log_of m) [] c (stands_now entries m.journaled kept c may) (sym all ∙ sym (append-nil (events_of entries))));
    ready = λ _. ready;
    ended = λ _. keeps_none entries m.journaled kept;
  })

  kept_reached : (m r : KeptMachine K D V) (xs : List Passed) (sender : Sender) (letter : Event) (reply : Reply) (entries : List Entry) → Ready m → Reached (entries ++ entries_with m.journaled letter) xs r
      → Reached entries (passed sender letter (Ok reply) ∷ xs) r
  kept_reached m r xs sender letter reply entries ready rest =
      let more : List Entry = entries_with m.journaled letter in
      let events = events_with entries m.journaled letter ready.none_waits in
      let notes = notes_with entries m.journaled letter ready.none_waits in
      record {
        crash = λ c may. tells_as (events_of (entries ++ more) ++ admitted_of xs) (events_of entries ++ (letter ∷ admitted_of xs)) (log_of r) (notes_of (entries ++ more)) (notes_of entries) c
            (ap (λ (l : List Event). l ++ admitted_of xs) events ∙ append_assoc (events_of entries) (letter ∷ []) (admitted_of xs)) notes (rest.crash c may);
        ready = rest.ready;
        ended = λ sound.
            let keeps = rest.ended sound in
            record {
              more = more ++ keeps.more;
              kept = subst (λ (l : List Entry). IsKept device.seen device.may_leave l r.journaled) (append_assoc entries more keeps.more) keeps.kept;
              events_are = events_append more keeps.more ∙ ap (λ (l : List Event). l ++ events_of keeps.more) (letter_told m.journaled letter ready.none_waits) ∙ ap (λ (l : List Event). letter ∷ l) keeps.events_are;
              no_notes = notes_append more keeps.more ∙ ap (λ (l : List NoteParts). l ++ notes_of keeps.more) (no_note_told m.journaled letter ready.none_waits) ∙ keeps.no_notes;
            };
      }

  -- with no letter more that was admitted
  declined_reached : (r : KeptMachine K D V) (xs : List Passed) (sender : Sender) (letter : Event) (e : Refusal) (entries : List Entry) → Reached entries xs r → Reached entries (passed sender letter (Err e) ∷ xs) r
  declined_reached r xs sender letter e entries rest = record { crash = rest.crash; ready = rest.ready; ended = rest.ended }

  module _ (told : IsTrue device.is_told) (only_now : (d : D) (c : List ℕ) → device.left_since d (device.moment d) c → device.may_leave d c) (now_counts : (d : D) (t : ℕ) (c : List ℕ) → t ≤ device.moment d → device.may_leave d c → device.left_since d t c) where
    stopped_reached : (m t : KeptMachine K D V) (sender : Sender) (letter : Event) (e : Refusal) (entries : List Entry) → Ready m → IsKept device.seen device.may_leave entries m.journaled
        → Stopped form device m letter t → Reached entries (passed sender letter (Err e) ∷ []) t
    stopped_reached m t sender letter e entries ready kept h =
        let more : List Entry = entries_with m.journaled letter in
        let events = events_with entries m.journaled letter ready.none_waits in
        let notes = notes_with entries m.journaled letter ready.none_waits in
        let most : log_of t ≡ events_of (entries ++ more) ++ [] =
        stopped_log form device m t letter h ∙ ap (λ (l : List Event). l ++ letter ∷ []) (sym (all_told entries m.journaled kept ready.none_waits)) ∙ sym events ∙ sym (append-nil (events_of (entries ++ more))) in
        let left = (h.commits told entries kept).any_moment in
        record {
          crash = λ c may.
              tells_as (events_of entries) (events_of entries ++ []) (log_of t) (notes_of entries) (notes_of entries) c (sym (append-nil (events_of entries))) refl
              (tells_letter entries more letter (log_of t) [] c events notes most (left.each c (now_counts (device_under t.journaled) (device.moment (device_under m.journaled)) c left.later may)));
          ready = λ none. absurd (let is : ◌≡◌ {A = Option KeptFault} (Some h.fault) None = sym h.stops ∙ none in cc);
          ended = λ sound.
              let same = h.unchanged (λ failed. sound (h.stops ∙ ap (λ (f : KeptFault). Some f) failed)) in
              keeps_none entries t.journaled (subst (λ (j : Journaled K D V). IsKept device.seen device.may_leave entries j) (sym same) (kept_asked form m.journaled h.asked_of letter h.reply h.asked device entries kept));
        }

    one_reached : (m t r : KeptMachine K D V) (xs : List Passed) (sender : Sender) (letter : Event) (answer : Result Reply Refusal) (entries : List Entry) → Ready m → IsKept device.seen device.may_leave entries m.journaled
        → Goes form device m letter answer t → Replays (Takes form device) t xs r
        → ((more : List Entry) → Ready t → IsKept device.seen device.may_leave more t.journaled → Reached more xs r) → Reached entries (passed sender letter answer ∷ xs) r
    one_reached m t r xs sender letter (Ok reply) entries ready kept h replays rest =
        kept_reached m r xs sender letter reply entries ready
        (rest (entries ++ entries_with m.journaled letter) (ready_kept form device m t letter reply h) (h.keeps told entries kept))
    one_reached m t r xs sender letter (Err e) entries ready kept h replays rest = ⊎_elim
        (λ same. declined_reached r xs sender letter e entries
        (rest entries (ready_declined form device m t letter e ready same) (kept_declined form device m t letter e entries same kept)))
        (λ stop.
        let at_rest = rests form device t r xs stop.1.fault stop.1.stops replays in
        let stopped = stopped_reached m t sender letter e entries ready kept stop.1 in
        subst (λ (z : KeptMachine K D V). Reached entries (passed sender letter (Err e) ∷ xs) z) (sym at_rest.same)
        (record {
          crash = subst (λ (l : List Event). (c : List ℕ) → device.may_leave (device_under t.journaled) c → TellsBetween (events_of entries ++ l) (log_of t) (notes_of entries) c) (sym at_rest.none_admitted) stopped.crash;
          ready = stopped.ready;
          ended = subst (λ (l : List Event). t.fault ≢ Some Failed → KeepsEvents device.seen device.may_leave entries l t.journaled) (sym at_rest.none_admitted) stopped.ended;
        }))
        h

    pub reach : (m r : KeptMachine K D V) (xs : List Passed) (entries : List Entry) → Ready m → IsKept device.seen device.may_leave entries m.journaled → Replays (Takes form device) m xs r → Reached entries xs r
    reach m r [] entries ready kept h = none_reached m r entries ready kept h
    reach m r (x ∷ xs) entries ready kept h =
        let one = subst (λ (o : Option KeptFault). TakesBy form device o m x.letter x.answer h.0) ready.goes_on h.1 in
        one_reached m h.0 r xs x.sender x.letter x.answer entries ready kept one h.2 (λ more on after. reach h.0 r xs more on after h.2)

    -- ---- from there on

    safe_by : (fault : Option KeptFault) (r n : KeptMachine K D V) (xs ys : List Passed) (entries : List Entry) → r.fault ≡ fault → Reached entries xs r → Replays (Takes form device) r ys n
        → LeavesOnly device.moment device.left_since (device_under r.journaled) (device_under n.journaled) (TellsBetween (events_of entries ++ admitted_of xs) (log_of n) (notes_of entries))
    safe_by None r n xs ys entries is reached h =
        let keeps = reached.ended (λ failed. absurd (let no : ◌≡◌ {A = Option KeptFault} None (Some Failed) = sym is ∙ failed in cc)) in
        let events : events_of (entries ++ keeps.more) ≡ events_of entries ++ admitted_of xs = events_append entries keeps.more ∙ ap (λ (l : List Event). events_of entries ++ l) keeps.events_are in
        let notes : notes_of (entries ++ keeps.more) ≡ notes_of entries = notes_append entries keeps.more ∙ ap (λ (l : List NoteParts). notes_of entries ++ l) keeps.no_notes ∙ append-nil (notes_of entries) in
        subst (λ (ns : List NoteParts). LeavesOnly device.moment device.left_since (device_under r.journaled) (device_under n.journaled) (TellsBetween (events_of entries ++ admitted_of xs) (log_of n) ns)) notes
        (subst (λ (l : List Event). LeavesOnly device.moment device.left_since (device_under r.journaled) (device_under n.journaled) (TellsBetween l (log_of n) (notes_of (entries ++ keeps.more)))) events
        (leaves form device told only_now r n ys (entries ++ keeps.more) (reached.ready is) keeps.kept h))
    safe_by (Some fault) r n xs ys entries is reached h =
        let at_rest = rests form device r n ys fault is h in
        subst (λ (z : KeptMachine K D V). LeavesOnly device.moment device.left_since (device_under r.journaled) (device_under z.journaled) (TellsBetween (events_of entries ++ admitted_of xs) (log_of z) (notes_of entries))) (sym at_rest.same)
        (started {old = device_under r.journaled} (λ c left. reached.crash c (only_now (device_under r.journaled) c left)))

    -- wherever the exchanges are cut in two
    pub safe_since : (m n : KeptMachine K D V) (all : List Passed) (entries : List Entry) → Ready m → IsItsLog form (replica_of m.journaled) → IsKept device.seen device.may_leave entries m.journaled → Replays (Takes form device) m all n
        → (before after : List Passed) → all ≡ before ++ after → SafeSince form device m before after n (notes_of entries)
    safe_since m n all entries ready its_log kept h before after is =
        let two = replays_cut (Takes form device) m n before after (subst (λ (l : List Passed). Replays (Takes form device) m l n) is h) in
        let reached = reach m two.0 before entries ready kept two.1 in
        record {
          state = two.0;
          reached = two.1;
          left_for = two.2;
          told = told_ran form device m two.0 before ready its_log two.1;
          leaves = subst (λ (l : List Event). LeavesOnly device.moment device.left_since (device_under two.0.journaled) (device_under n.journaled) (TellsBetween (l ++ admitted_of before) (log_of n) (notes_of entries))) (all_told entries m.journaled kept ready.none_waits)
              (safe_by two.0.fault two.0 n before after entries refl reached two.2);
        }
