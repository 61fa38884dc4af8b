-- One letter: what the event and the commit come to.
use Rattle.std.proofs.Common.{◌≡◌, ◌≢◌, ◌⊎◌, ⊎_elim, inl, inr, ℕ, ◌≤◌, Bool, true, false, List, [], ◌∷◌, ◌++◌, length, drop, Option, Some, None, Result, Ok, Err, refl, sym, ap, subst, ◌∙◌}
use Rattle.mr_kept_node.proofs.Names.{Asked, Commits, DeviceOf, Entry, Event, Failed, Form, Goes, HasLog, HeadParts, IsKept, IsOf, IsTrue, Journaled, Kept, KeptFault}
use Rattle.mr_kept_node.proofs.Names.{KeptMachine, LeavesLog, LeavesOnly, NoteParts, OutOfMemory, Refusal, Reply, Stands, State, StaysBack, TakesBy, Turned}
use Rattle.mr_kept_node.proofs.Names.{batch_entries, device_of, device_under, drop-append-le, entries_waiting, entries_with, entry_bytes, false≢true, head_of}
use Rattle.mr_kept_node.proofs.Names.{head_on, is_some, issued_of, journal_of, kept_of, kept_on, leaving, leb-true, map, notes_of, notes_waiting}
use Rattle.mr_kept_node.proofs.Names.{nothing_waits, refusal_of, replica_of, step_log, step_setting, waiting}
use Rattle.mr_journal.specs.Journal.{has_failed as journal_failed}
use Rattle.mr_replica.specs.Step.{Steps}
use Rattle.mr_kept.specs.Commit.{IsUncommitted}

module _ {K D V : Type 0} (form : Form K) (old mid : Journaled K D V) (letter : Event) (reply : Reply) (asked : Asked form old letter reply mid) where
  -- the letter is the last of the log
  asked_log : (replica_of mid).log ≡ (replica_of old).log ++ letter ∷ []
  asked_log = step_log form (replica_of old) (replica_of mid) letter (Ok reply) asked.steps

  -- and of what waits
  pub waits_with : kept_of old ≤ length (replica_of old).log → entries_waiting mid ≡ entries_with old letter
  waits_with within =
      let events : waiting mid ≡ waiting old ++ letter ∷ [] =
      ap (λ (n : ℕ). drop n (replica_of mid).log) asked.journal.kept ∙ ap (drop (kept_of old)) asked_log ∙ drop-append-le (kept_of old) (replica_of old).log (letter ∷ []) within in
      ap (λ (n : ℕ). batch_entries n (waiting mid) (notes_waiting mid)) asked.journal.issued
      ∙ ap (λ (l : List Event). batch_entries (issued_of old) l (notes_waiting mid)) events
      ∙ ap (batch_entries (issued_of old) (waiting old ++ letter ∷ [])) asked.journal.notes

  module _ (device : DeviceOf D) (entries : List Entry) (kept : IsKept device.seen device.may_leave entries old) where
    -- what is kept is kept still
    pub kept_asked : IsKept device.seen device.may_leave entries mid
    kept_asked = kept_on entries old mid (letter ∷ []) kept asked.journal.journal asked.journal.head asked.journal.kept asked.journal.issued asked_log

    waits_are : entries_waiting mid ≡ entries_with old letter
    waits_are = waits_with (leb-true (kept_of old) (length (replica_of old).log) kept.within)

    pub kept_after : (new : Journaled K D V) → IsKept device.seen device.may_leave (entries ++ entries_waiting mid) new → IsKept device.seen device.may_leave (entries ++ entries_with old letter) new
    kept_after new h = subst (λ (l : List Entry). IsKept device.seen device.may_leave (entries ++ l) new) waits_are h

    module _ (new : Journaled K D V) where
      -- the commit of the letter leaves what a commit of all that waits leaves
      pub leaves_log : LeavesOnly device.moment device.left_since (device_under mid) (device_under new) (λ c. Stands (map entry_bytes entries) c ⊎ Stands (map entry_bytes (entries ++ entries_waiting mid)) c)
          → (IsOf (head_of mid) (replica_of mid) → LeavesOnly device.moment device.left_since (device_under mid) (device_under new) (λ c. HasLog form c (head_of mid) (notes_of entries) ⊎ HasLog form c (head_of mid) (notes_of entries ++ notes_waiting mid)))
          → LeavesLog form device entries old letter new
      leaves_log any_moment left =
          let same : device_under mid ≡ device_under old = ap device_of asked.journal.journal in
          record {
            any_moment = subst (λ (d : D). LeavesOnly device.moment device.left_since d (device_under new) (λ c. Stands (map entry_bytes entries) c ⊎ Stands (map entry_bytes (entries ++ entries_with old letter)) c)) same
                (subst (λ (l : List Entry). LeavesOnly device.moment device.left_since (device_under mid) (device_under new) (λ c. Stands (map entry_bytes entries) c ⊎ Stands (map entry_bytes (entries ++ l)) c)) waits_are any_moment);
            left = λ of.
                let of_mid : IsOf (head_of mid) (replica_of mid) =
                head_on form (head_of mid) (replica_of old) (replica_of mid) (step_setting form (replica_of old) (replica_of mid) letter (Ok reply) asked.steps)
                (subst (λ (h : HeadParts). IsOf h (replica_of old)) (sym asked.journal.head) of) in
                subst (λ (d : D). LeavesOnly device.moment device.left_since d (device_under new) (λ c. HasLog form c (head_of old) (notes_of entries) ⊎ HasLog form c (head_of old) (notes_of entries ++ notes_waiting old))) same
                (subst (λ (h : HeadParts). LeavesOnly device.moment device.left_since (device_under mid) (device_under new) (λ c. HasLog form c h (notes_of entries) ⊎ HasLog form c h (notes_of entries ++ notes_waiting old))) asked.journal.head
                (subst (λ (ns : List NoteParts). LeavesOnly device.moment device.left_since (device_under mid) (device_under new) (λ c. HasLog form c (head_of mid) (notes_of entries) ⊎ HasLog form c (head_of mid) (notes_of entries ++ ns))) asked.journal.notes (left of_mid)));
          }

pub no_fault : (fault : Option KeptFault) → is_some fault ≡ false → fault ≡ None
no_fault None none = refl
no_fault (Some fault) none = absurd (cc)

module _ {K D V : Type 0} (form : Form K) (device : DeviceOf D) where
  -- ---- with a fault, and without

  pub takes_none : (fault : Option KeptFault) (m : KeptMachine K D V) (letter : Event) → is_some fault ≡ true → TakesBy form device fault m letter (Err OutOfMemory) m
  takes_none None m letter some = absurd (cc)
  takes_none (Some fault) m letter some = (refl, refl)

  pub takes_one : (fault : Option KeptFault) (m n : KeptMachine K D V) (letter : Event) (answer : Result Reply Refusal) → is_some fault ≡ false → Goes form device m letter answer n
      → TakesBy form device fault m letter answer n
  takes_one None m n letter answer none h = h
  takes_one (Some fault) m n letter answer none h = absurd (cc)

  module _ (m n : KeptMachine K D V) (letter : Event) where
    -- ---- not admitted

    pub declined : (fault : KeptFault) (refusal : Refusal) → refusal ≡ refusal_of fault → Turned form m.journaled letter fault n.journaled → n.fault ≡ None → n.told ≡ m.told
        → Goes form device m letter (Err refusal) n
    declined fault refusal is turned none told = inl (record { fault = fault; refusal_is = is; turned = turned; goes_on = none; told = told })

    module _ (reply : Reply) (mid : Journaled K D V) (asked : Asked form m.journaled letter reply mid) (replica : replica_of n.journaled ≡ replica_of mid) (head : head_of n.journaled ≡ head_of mid)
        (any_moment : IsTrue device.is_told → (entries : List Entry) → IsKept device.seen device.may_leave entries mid
        → LeavesOnly device.moment device.left_since (device_under mid) (device_under n.journaled) (λ c. Stands (map entry_bytes entries) c ⊎ Stands (map entry_bytes (entries ++ entries_waiting mid)) c))
        (left : IsTrue device.is_told → (entries : List Entry) → IsKept device.seen device.may_leave entries mid → IsOf (head_of mid) (replica_of mid)
        → LeavesOnly device.moment device.left_since (device_under mid) (device_under n.journaled) (λ c. HasLog form c (head_of mid) (notes_of entries) ⊎ HasLog form c (head_of mid) (notes_of entries ++ notes_waiting mid))) where
      commits : Commits form device m.journaled letter n.journaled
      commits told entries kept =
          let on = kept_asked form m.journaled mid letter reply asked device entries kept in
          leaves_log form m.journaled mid letter reply asked device entries kept n.journaled (any_moment told entries on) (left told entries on)

      -- ---- admitted and kept

      pub taken : nothing_waits n.journaled ≡ true → leaving n.journaled ≡ [] → n.fault ≡ None → n.told ≡ length (replica_of n.journaled).feed
          → (IsTrue device.is_told → (entries : List Entry) → IsKept device.seen device.may_leave entries mid → IsKept device.seen device.may_leave (entries ++ entries_waiting mid) n.journaled)
          → Kept form device m letter reply n
      taken none_waits none_back none told kept = record {
        may_keep = asked.may_keep;
        steps = subst (λ (s : State K). Steps form (replica_of m.journaled) letter (Ok reply) s) (sym replica) asked.steps;
        head = head ∙ asked.journal.head;
        none_waits = none_waits;
        none_back = none_back;
        goes_on = none;
        told = told;
        keeps = λ so entries was. kept_after form m.journaled mid letter reply asked device entries was n.journaled (kept so entries (kept_asked form m.journaled mid letter reply asked device entries was));
        commits = commits;
      }

      -- ---- admitted and not kept

      pub stopped : (fault : KeptFault) → n.fault ≡ Some fault → n.told ≡ m.told → IsUncommitted mid fault → StaysBack mid n.journaled → (fault ≢ Failed → n.journaled ≡ mid)
          → (IsTrue device.is_told → fault ≡ Failed → IsTrue (journal_failed (journal_of mid)) ⊎ IsTrue (device.has_failed (device_under n.journaled)))
          → Goes form device m letter (Err OutOfMemory) n
      stopped fault is told why stays unchanged cause = inr (
        refl,
        record {
          reply = reply;
          asked_of = mid;
          asked = asked;
          fault = fault;
          stops = is;
          told = told;
          why = why;
          replica = replica;
          head = head;
          stays = stays;
          unchanged = unchanged;
          cause = λ so failed. ⊎_elim (λ before. absurd (false≢true (sym (ap journal_failed asked.journal.journal ∙ asked.may_keep.sound) ∙ before))) (λ now. now) (cause so failed);
          commits = commits;
        },
      )
