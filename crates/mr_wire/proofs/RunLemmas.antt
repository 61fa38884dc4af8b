-- Loops that read one part after the other. What is read so far, put before what is to be read, is what is read from the start.
use Rattle.std.proofs.Common.{◌≡◌, ℕ, suc, ◌+◌, ◌-◌, ◌<◌, ◌≤◌, List, [], ◌∷◌, ◌++◌, Option, Some, None, sym, ap, ◌∙◌, append_assoc, arith}
use Rattle.mr_wire.proofs.Names.{IfSome, KeepsMore, Reader, Stands, Vec, append-nil, ◌>>=◌}
use Rattle.mr_wire.specs.Reading.{run_at}

abbrev pub with_front : {X : Type 0} → List X → Option (List X × List ℕ) → Option (List X × List ℕ)
with_front front read = read >>= λ x. Some (front ++ x.0, x.1)

regroup : {X : Type 0} (front : List X) (x : X) (read : Option (List X × List ℕ)) →
    with_front front (read >>= λ xs. Some (x ∷ xs.0, xs.1)) ≡ with_front (front ++ x ∷ []) read
regroup front x read = grind (arith, append_assoc)

module _ {S X : Type 0} (at : S → Reader X) (next : S → X → S) where
  -- the loop has read so many parts, and some are left to be read from here on
  pub record Running (start : S) (count : ℕ) (old : List ℕ) (kept : Option (Vec X)) (now : S) (left : ℕ) (rest : List ℕ) (Told : List X → Type 0) : Type 0 where
    pub so_far : List X
    pub whole : with_front so_far (run_at at next now left rest) ≡ run_at at next start count old
    pub is_kept : IfSome kept (λ v. v.items ≡ so_far)
    pub told : Told so_far

with_nothing : {X : Type 0} (read : Option (List X × List ℕ)) → with_front [] read ≡ read
with_nothing read = grind arith

if_kept : {X : Type 0} (new : Option (Vec X)) (item : Option X) (old : Option (Vec X)) (xs : List X) (x : X) → KeepsMore old item new →
    IfSome old (λ v. v.items ≡ xs) → IfSome item (λ y. y ≡ x) → IfSome new (λ v. v.items ≡ xs ++ x ∷ [])
if_kept new item old xs x keeps a b = grind arith

one_more : {S X : Type 0} (at : S → Reader X) (next : S → X → S) (now : S) (left : ℕ) (rest : List ℕ) (x : X) (after : List ℕ) (front : List X) → at now rest ≡ Some (x, after) →
    with_front front (run_at at next now (suc left) rest) ≡ with_front (front ++ x ∷ []) (run_at at next (next now x) left after)
unfolding run_at
one_more at next now left rest x after front h = rw h (regroup front x (run_at at next (next now x) left after))

pub begins : {S X : Type 0} {at : S → Reader X} {next : S → X → S} {start : S} {count : ℕ} {old : List ℕ} {kept : Option (Vec X)} {Told : List X → Type 0} →
    IfSome kept (λ v. v.items ≡ []) → Told [] → Running at next start count old kept start (count - 0) old Told
begins empty told = grind (arith, with_nothing)

pub goes_on : {S X : Type 0} {at : S → Reader X} {next : S → X → S} {start : S} {count : ℕ} {old : List ℕ} {kept new : Option (Vec X)} {now : S} {rest : List ℕ} {Told More : List X → Type 0} {x : X} {item : Option X} {after : List ℕ} (i : ℕ) →
    i < count → (r : Running at next start count old kept now (count - i) rest Told) → at now rest ≡ Some (x, after) → KeepsMore kept item new → IfSome item (λ y. y ≡ x) →
    ((xs : List X) → Told xs → More (xs ++ x ∷ [])) → Running at next start count old new (next now x) (count - (i + 1)) after More
goes_on {S} {X} {at} {next} {start} {count} {old} {kept} {new} {now} {rest} {Told} {More} {x} {item} {after} i lt r h keeps is more =
    let k : count - i ≡ suc (count - (i + 1)) = omega arith in
    record {
      so_far = r.so_far ++ x ∷ [];
      whole = sym (one_more at next now (count - (i + 1)) rest x after r.so_far h) ∙ ap (λ n. with_front r.so_far (run_at at next now n rest)) (sym k) ∙ r.whole;
      is_kept = if_kept new item kept r.so_far x keeps r.is_kept is;
      told = more r.so_far r.told;
    }

pub fails : {S X : Type 0} {at : S → Reader X} {next : S → X → S} {start : S} {count : ℕ} {old : List ℕ} {kept : Option (Vec X)} {now : S} {rest : List ℕ} {Told : List X → Type 0} (i : ℕ) →
    i < count → Running at next start count old kept now (count - i) rest Told → at now rest ≡ None → run_at at next start count old ≡ None
unfolding run_at
fails i lt r h = grind arith

pub is_done : {S X : Type 0} {at : S → Reader X} {next : S → X → S} {start : S} {count : ℕ} {old : List ℕ} {kept : Option (Vec X)} {now : S} {rest : List ℕ} {Told : List X → Type 0} (i : ℕ) →
    count ≤ i → Running at next start count old kept now (count - i) rest Told → Stands (λ (v : Vec X). v.items) (run_at at next start count) old kept rest Told
unfolding run_at
is_done i le r = grind (arith, append-nil)

pub goes_on_with : {S X : Type 0} {at : S → Reader X} {next : S → X → S} {start after : S} {count : ℕ} {old : List ℕ} {kept new : Option (Vec X)} {now : S} {rest : List ℕ} {Told More : List X → Type 0} {Note : X → Type 0} {item : Option X} {left : List ℕ} (i : ℕ) →
    i < count → Running at next start count old kept now (count - i) rest Told → KeepsMore kept item new → Stands (λ (x : X). x) (at now) rest item left Note → ((x : X) → Note x → next now x ≡ after) →
    ((xs : List X) (x : X) → Told xs → Note x → More (xs ++ x ∷ [])) → Running at next start count old new after (count - (i + 1)) left More
goes_on_with i lt r keeps s step more = grind (arith, goes_on)
