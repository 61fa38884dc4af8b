-- A step that is left, with the number of its frame counted anew: it makes the same change.
use Rattle.std.proofs.Common.{◌≡◌, refl, sym, ap, ℕ, ◌+◌, ◌≤◌, ◌==◌, List, [], ◌∷◌, length, inl, inr, IsFalse, arith, eq-eqb, eqb-true, Option, Some, None}
use Rattle.mr_version.specs.Name.{Name}
use Rattle.mr_model.specs.History.{Setting, Ask, Record, Receipt, Reply, Reply.Issued, Reply.Done, Reply.Streaming, Reply.Took, Reply.Known, Reply.Finished}
use Rattle.mr_model.specs.declared.event.Act.{Act}
use Rattle.mr_model.specs.declared.event.Act.TheVariants.{Edit, Receive, DeliverPart, Answer, Release}
use Rattle.mr_model.specs.Moment.{Moment, Holds, numbered}
use Rattle.mr_model.specs.Changes.{Reception, Reception.AsTaken, Reception.AsKnown, Reception.AsFinished, Change.Issues, Change.Opens, Change.Takes, Change.Releases, change_if_found, taken_if_found, item_of_bases, change_of}
use Rattle.mr_model.specs.Rules.{In, IsAllowed}
use Rattle.mr_model.proofs.Basics.{false_from}
use Rattle.mr_crash.specs.Frames.{Frame.AskFrame, Frame.RecordFrame, Frame.ReceiptFrame}
use Rattle.mr_crash.specs.Crash.{unnumbered}
use Rattle.mr_crash.proofs.Allowed.{IsFound}
use Rattle.mr_crash.proofs.Sees.{Sees}

-- what stands in a list has a number there
pub in_numbered : {A : Type 0} (xs : List A) (x : A) → In x xs → (n : ℕ) × (numbered xs n ≡ Some x) × (n ≤ length xs)
in_numbered [] x i = elim i [ ]
in_numbered (y ∷ ys) x i = elim i [
  | inl e ↦ (length ys + 1, rw (eq-eqb (length ys + 1) (length ys + 1) refl) (ap Some e), omega arith)
  | inr j ↦ back (in_numbered ys x j)
]
  where
    back : (n : ℕ) × (numbered ys n ≡ Some x) × (n ≤ length ys) → (n : ℕ) × (numbered (y ∷ ys) n ≡ Some x) × (n ≤ length (y ∷ ys))
    back r = (r.0, passed (false_from (r.0 == length ys + 1) (λ t. let p : r.0 ≡ length ys + 1 = eqb-true r.0 (length ys + 1) t in let q : r.0 ≤ length ys = r.2 in omega arith)), let q : r.0 ≤ length ys = r.2 in omega arith)
      where
        passed : IsFalse (r.0 == length ys + 1) → numbered (y ∷ ys) r.0 ≡ Some x
        passed n = rw n r.1

-- an act that makes at m' with this answer the change that `act` makes at m, and that is `act` but for the number of a frame
pub record IsAnew {M C : Type 0} (m m' : Moment M C) (k : ℕ) (act : Act M) (reply : Reply C) : Type 0 where
  pub anew : Act M
  pub alike : unnumbered anew ≡ unnumbered act
  pub same : change_of m' k anew reply ≡ change_of m k act reply

module _ {M C : Type 0} (s : Setting M C) (m m' : Moment M C) (k : ℕ) where
  record_anew : (o : Option Record) (reception : Reception) → IsAllowed s m (change_if_found o (λ x. Takes k x reception)) → IsFound m' (change_if_found {M = M} {C = C} o (λ x. Takes k x reception)) →
      (n : ℕ) × (taken_if_found m' k n reception ≡ change_if_found o (λ x. Takes k x reception))
  record_anew None reception rule found = absurd rule
  record_anew (Some x) reception rule found = let r = in_numbered m'.given x (found (RecordFrame x) (inl refl)) in
      (r.0, ap (λ (o : Option Record). change_if_found {M = M} {C = C} o (λ y. Takes k y reception)) r.1)

  ask_anew : (o : Option Ask) (t : ℕ) → IsAllowed s m (change_if_found o (Opens k t)) → IsFound m' (change_if_found {M = M} {C = C} o (Opens k t)) →
      (n : ℕ) × (change_if_found {M = M} {C = C} (numbered m'.asks n) (Opens k t) ≡ change_if_found o (Opens k t))
  ask_anew None t rule found = absurd rule
  ask_anew (Some x) t rule found = let r = in_numbered m'.asks x (found (AskFrame x) (inl refl)) in
      (r.0, ap (λ (o : Option Ask). change_if_found {M = M} {C = C} o (Opens k t)) r.1)

  receipt_anew : (o : Option Receipt) → IsAllowed s m (change_if_found o (Releases k)) → IsFound m' (change_if_found {M = M} {C = C} o (Releases k)) →
      (n : ℕ) × (change_if_found {M = M} {C = C} (numbered m'.receipts n) (Releases k) ≡ change_if_found o (Releases k))
  receipt_anew None rule found = absurd rule
  receipt_anew (Some x) rule found = let r = in_numbered m'.receipts x (found (ReceiptFrame x) (inl refl)) in
      (r.0, ap (λ (o : Option Receipt). change_if_found {M = M} {C = C} o (Releases k)) r.1)

  -- the bases of an edit are of the item that they were of, since its author holds them
  bases_item : Sees s m m' k → (bases : List Name) (v : Name) → ((b : Name) → In b bases → Holds m k b) → item_of_bases m'.issues bases v ≡ item_of_bases m.issues bases v
  bases_item w [] v held = refl
  bases_item w (b ∷ bases) v held = sym (w.item b (w.held b (held b (inl refl))))

  pub step_anew : Sees s m m' k → (act : Act M) (reply : Reply C) → IsAllowed s m (change_of m k act reply) → IsFound m' (change_of m k act reply) → IsAnew m m' k act reply
  step_anew w (Edit bases message) (Issued v) rule found = record {
    anew = Edit bases message;
    alike = refl;
    same = λ i. Issues k (record { version = v; item = bases_item w bases v rule.held i; bases = bases; message = message });
  }
  step_anew w (Receive n) Took rule found = let r = record_anew (numbered m.given n) AsTaken rule found in record { anew = Receive r.0; alike = refl; same = r.1 }
  step_anew w (Receive n) Known rule found = let r = record_anew (numbered m.given n) AsKnown rule found in record { anew = Receive r.0; alike = refl; same = r.1 }
  step_anew w (Receive n) Finished rule found = let r = record_anew (numbered m.given n) AsFinished rule found in record { anew = Receive r.0; alike = refl; same = r.1 }
  step_anew w (DeliverPart n bytes) Took rule found = let r = record_anew (numbered m.given n) AsTaken rule found in record { anew = DeliverPart r.0 bytes; alike = refl; same = r.1 }
  step_anew w (DeliverPart n bytes) Known rule found = let r = record_anew (numbered m.given n) AsKnown rule found in record { anew = DeliverPart r.0 bytes; alike = refl; same = r.1 }
  step_anew w (DeliverPart n bytes) Finished rule found = let r = record_anew (numbered m.given n) AsFinished rule found in record { anew = DeliverPart r.0 bytes; alike = refl; same = r.1 }
  step_anew w (Answer n) (Streaming t) rule found = let r = ask_anew (numbered m.asks n) t rule found in record { anew = Answer r.0; alike = refl; same = r.1 }
  step_anew w (Release n) Done rule found = let r = receipt_anew (numbered m.receipts n) rule found in record { anew = Release r.0; alike = refl; same = r.1 }
  step_anew w act reply rule found = record { anew = act; alike = refl; same = refl }
