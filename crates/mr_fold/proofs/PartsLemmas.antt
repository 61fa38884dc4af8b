-- a settling in parts
use Rattle.std.proofs.Common.{◌≡◌, ◌≢◌, ◌≤◌, ◌+◌, inl, inr, ⊎_elim, ℕ, List, [], ◌∷◌, ◌++◌, length, refl, sym, ap, subst, ◌∙◌, arith, append_assoc, append-nil, length-append}
use Rattle.std.specs.Prelude.{min}
use Rattle.std.specs.Global.{Vec}
use Rattle.mr_version.specs.Name.{Name}
use Rattle.mr_journal.specs.Device.{LeavesOnly}
use Rattle.mr_journal.specs.Journal.{device_of}
use Rattle.mr_journal.specs.declared.device.Device.{Ghosts as DeviceOf}
use Rattle.mr_journal.proofs.Moments.{joined, widened}
use Rattle.mr_entry.specs.declared.entry.Entry.{Entry}
use Rattle.mr_itemset.specs.Normal.{Normal}
use Rattle.mr_replica.specs.State.{State}
use Rattle.mr_kept.specs.declared.journaled.Journaled.{Journaled}
use Rattle.mr_kept.specs.Kept.{journal_of, notes_waiting, replica_of}
use Rattle.mr_compare.specs.declared.compare.MailAct.{MailAct}
use Rattle.mr_compare.specs.declared.joining.ItemHeads.{ItemHeads}
use Rattle.mr_fold.specs.Settling.{AddsAtOnce, AddsInParts, AddsInTurn, AreWholeParts, HasFirst, HasShown, Leaves, Settles}
use Rattle.mr_fold.specs.declared.settling.TheConstants.{MAILS_AT_ONCE}
use Rattle.mr_fold.specs.Telling.{Grows, TellsAll}
use Rattle.mr_fold.proofs.MovingLemmas.{begins_more, begun_then}
use Rattle.mr_fold.proofs.SettlingLemmas.{leaves_behind, settles_then, shown_at_once}

-- where none stand before them
alone : (held : List (List ℕ × Vec ItemHeads)) (moved done : List MailAct) (old new : State Normal) → moved ≡ [] → Grows (TellsAll held (moved ++ done)) old new → Grows (TellsAll held done) old new
alone held moved done old new none grows = subst (λ (acts : List MailAct). Grows (TellsAll held (acts ++ done)) old new) none grows

-- a part behind which some are left is whole
pub whole_part : (n : ℕ) (mails front back : List MailAct) → n ≡ min (length mails) MAILS_AT_ONCE → length front ≡ n → length back + n ≡ length mails → back ≢ [] → length front ≡ MAILS_AT_ONCE
whole_part n mails front [] least is_front is_back some = absurd (some refl)
whole_part n mails front (x ∷ back) least is_front is_back some =
    let left : n + 1 ≤ length mails = omega (arith, is_back) in
    omega (arith, least, is_front, left)

-- where all that was told is one part
pub parts_at_once : {D V : Type 0} {moment : D → ℕ} {left_since : D → ℕ → List ℕ → Type 0} (held : List (List ℕ × Vec ItemHeads)) (lacking : List Name) (mails : List MailAct) (old now : Journaled Normal D V) (entries : List Entry)
    → LeavesOnly moment left_since (device_of (journal_of old)) (device_of (journal_of now)) (AddsAtOnce lacking old now entries)
    → LeavesOnly moment left_since (device_of (journal_of old)) (device_of (journal_of now)) (AddsInParts held lacking mails old now entries)
parts_at_once held lacking mails old now entries leaves =
    widened (AddsInParts held lacking mails old now entries) leaves (λ c left. ⊎_elim (λ before. inl before) (λ all. inr (inr (shown_at_once entries old now lacking c all))) left)

module _ {D V F : Type 0} (device : DeviceOf D) (are_synced : F → Type 0) (held : List (List ℕ × Vec ItemHeads)) (lacking : List Name) where
  -- so far these are told, and the others are left
  pub record PartsSoFar (moved mails rest : List MailAct) (old now : Journaled Normal D V) (files : F) : Type 0 where
    pub done : List MailAct
    pub are : mails ≡ done ++ rest
    pub whole : rest ≢ [] → AreWholeParts (length done)
    pub settled : Settles device are_synced held (moved ++ done) lacking old now files
    pub in_parts : moved ≡ [] → Leaves device old now (AddsInParts held lacking mails)
    pub moments : Leaves device old now (AddsInTurn held lacking moved mails)

module _ {D V F : Type 0} {device : DeviceOf D} {are_synced : F → Type 0} {held : List (List ℕ × Vec ItemHeads)} {lacking : List Name} where
  -- a call behind whole parts, however it ended
  pub next_leaves : (moved mails still : List MailAct) (old mid new : Journaled Normal D V) (files : F) → PartsSoFar device are_synced held lacking moved mails still old mid files → still ≢ []
      → Leaves device mid new (AddsAtOnce lacking) → moved ≡ [] → Leaves device old new (AddsInParts held lacking mails)
  next_leaves moved mails still old mid new files so_far more_left once none is entries kept =
      let whole : (c : List ℕ) → HasShown c entries (notes_waiting old) (replica_of mid) lacking → HasFirst c entries (notes_waiting old) held mails lacking (replica_of old) =
      λ c shown. record {
        first = so_far.done;
        rest = still;
        are = so_far.are;
        whole = so_far.whole more_left;
        then = replica_of mid;
        told = alone held moved so_far.done (replica_of old) (replica_of mid) none so_far.settled.told;
        has = shown;
      } in
      joined
      (widened (AddsInParts held lacking mails old new entries) (so_far.in_parts none is entries kept)
      (λ c left. ⊎_elim (λ before. inl before) (λ later. inr (inl (⊎_elim (λ parts. parts) (λ shown. whole c shown) later))) left))
      (widened (AddsInParts held lacking mails old new entries) (leaves_behind (moved ++ so_far.done) old mid new files so_far.settled once is entries kept)
      (λ c left. inr (⊎_elim (λ before. inl (whole c before)) (λ all. inr all) left)))

  -- the first part is settled
  pub part_first : (moved mails first rest : List MailAct) (old new : Journaled Normal D V) (files : F) → mails ≡ first ++ rest → (rest ≢ [] → length first ≡ MAILS_AT_ONCE)
      → Settles device are_synced held (moved ++ first) lacking old new files → (moved ≡ [] → Leaves device old new (AddsAtOnce lacking))
      → Leaves device old new (AddsInTurn held lacking moved first) → PartsSoFar device are_synced held lacking moved mails rest old new files
  part_first moved mails first rest old new files are whole settled once moments = record {
    done = first;
    are = are;
    whole = λ some. let is = whole some in (1, omega arith, omega (arith, is));
    settled = settled;
    in_parts = λ none is entries kept. parts_at_once held lacking mails old new entries (once none is entries kept);
    moments = λ is entries kept. begins_more held lacking moved mails old new entries first rest are (moments is entries kept);
  }

  -- one part more is settled
  pub part_next : (moved mails still part rest : List MailAct) (old mid new : Journaled Normal D V) (before files : F) → PartsSoFar device are_synced held lacking moved mails still old mid before
      → still ≡ part ++ rest → still ≢ [] → (rest ≢ [] → length part ≡ MAILS_AT_ONCE) → Settles device are_synced held part lacking mid new files
      → Leaves device mid new (AddsAtOnce lacking) → PartsSoFar device are_synced held lacking moved mails rest old new files
  part_next moved mails still part rest old mid new before files so_far split more_left whole settled once = record {
    done = so_far.done ++ part;
    are = so_far.are ∙ ap (λ (left : List MailAct). so_far.done ++ left) split ∙ sym (append_assoc so_far.done part rest);
    whole = λ some. let parts = so_far.whole more_left in (parts.0 + 1, omega (arith, parts.1), omega (arith, length-append so_far.done part, parts.2, whole some));
    settled = subst (λ (acts : List MailAct). Settles device are_synced held acts lacking old new files) (append_assoc moved so_far.done part)
        (settles_then (moved ++ so_far.done) part old mid new before files so_far.settled settled);
    in_parts = next_leaves moved mails still old mid new before so_far more_left once;
    moments = begun_then moved mails so_far.done still old mid new before so_far.are so_far.settled so_far.moments once;
  }

  -- all parts are settled
  pub part_last : (moved mails rest : List MailAct) (old new : Journaled Normal D V) (files : F) → PartsSoFar device are_synced held lacking moved mails rest old new files → rest ≡ []
      → Settles device are_synced held (moved ++ mails) lacking old new files
  part_last moved mails rest old new files so_far none =
      let all : mails ≡ so_far.done = so_far.are ∙ ap (λ (left : List MailAct). so_far.done ++ left) none ∙ append-nil so_far.done in
      subst (λ (acts : List MailAct). Settles device are_synced held (moved ++ acts) lacking old new files) (sym all) so_far.settled
