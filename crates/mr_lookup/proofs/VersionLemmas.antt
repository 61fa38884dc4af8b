-- the newest of the versions that a log tells of an author, version by version
use Rattle.std.proofs.Common.{◌≡◌, ◌⊎◌, inl, inr, ⊎_elim, ℕ, ◌<◌, ◌≤◌, Bool, true, false, cond, List, [], ◌∷◌, ◌++◌, Option, Some, None, append_assoc, refl, ap, sym, subst, ◌∙◌, arith, eqb-true, ltb-true, ltb-false}
use Rattle.mr_lookup.proofs.Names.{IsNewest, IsNewestFound, Mail, Name, TellsNone, append-nil, eqb-false, message_at, name_eq, name_eq-itself, nat_lt}
use Rattle.mr_lookup.proofs.Names.{option_or, same_name, ◌&&◌, ◌==◌}
use Rattle.mr_lookup.specs.inner.Versions.{newer_of}
use Rattle.mr_lookup.proofs.ToldLemmas.{message_at-append}

-- the newest so far, after these are told
abbrev pub newest_of : (author : ℕ) → Option (Name × Mail) → List (Name × Mail) → Option (Name × Mail)
newest_of author newest [] = newest
newest_of author newest (told ∷ more) = newest_of author (newer_of author newest (Some told)) more

-- ---- one version more

module _ (ps : List (Name × Mail)) (p : Name × Mail) where
  last : (q : Name) → message_at (ps ++ p ∷ []) q ≡ option_or (message_at ps q) (cond (name_eq q p.0) (Some p.1) None)
  last q = message_at-append ps (p ∷ []) q

  -- what was told before stays
  stays : (q : Name) (k : Mail) → message_at ps q ≡ Some k → message_at (ps ++ p ∷ []) q ≡ Some k
  stays q k h = last q ∙ ap (λ (o : Option Mail). option_or o (cond (name_eq q p.0) (Some p.1) None)) h

  -- the version itself is told, if it wasn't before
  itself : message_at ps p.0 ≡ None → message_at (ps ++ p ∷ []) p.0 ≡ Some p.1
  itself h = last p.0 ∙ ap (λ (o : Option Mail). option_or o (cond (name_eq p.0 p.0) (Some p.1) None)) h ∙ ap (λ (b : Bool). cond b (Some p.1) None) (name_eq-itself p.0)

  -- and no other one
  none_else : (q : Name) → (q ≡ p.0 → ⊥) → message_at ps q ≡ None → message_at (ps ++ p ∷ []) q ≡ None
  none_else q other h = last q ∙ ap (λ (o : Option Mail). option_or o (cond (name_eq q p.0) (Some p.1) None)) h ∙ cases (name_eq q p.0) refl
    where
      cases : (b : Bool) → name_eq q p.0 ≡ b → cond b (Some p.1) None ≡ None
      cases true e = absurd (other (same_name q p.0 e))
      cases false e = refl

  told_in : (q : Name) (k : Mail) → message_at (ps ++ p ∷ []) q ≡ Some k → (message_at ps q ≡ Some k) ⊎ (q ≡ p.0)
  told_in q k told = from (message_at ps q) (name_eq q p.0) refl refl (sym (last q) ∙ told)
    where
      from : (o : Option Mail) (b : Bool) → message_at ps q ≡ o → name_eq q p.0 ≡ b → option_or o (cond b (Some p.1) None) ≡ Some k → (message_at ps q ≡ Some k) ⊎ (q ≡ p.0)
      from (Some j) b e f h = inl (e ∙ h)
      from None true e f h = inr (same_name q p.0 f)
      from None false e f h = absurd cc

  module _ (author : ℕ) where
    none_yet : p.0.author ≡ author → TellsNone ps author → IsNewest (ps ++ p ∷ []) author p.0 p.1
    none_yet of none = record {
      of_author = of;
      is_told = itself (none p.0 of);
      newest = λ other older other_of told. ⊎_elim
          (λ (h : message_at ps other ≡ Some older). absurd (let clash : None ≡ Some older = sym (none other other_of) ∙ h in cc))
          (λ (h : other ≡ p.0). let same : other.counter ≡ p.0.counter = ap (λ (v : Name). v.counter) h in omega (arith, same))
          (told_in other older told);
    }

    not_told : (v : Name) (m : Mail) → IsNewest ps author v m → p.0.author ≡ author → v.counter < p.0.counter → (o : Option Mail) → message_at ps p.0 ≡ o → message_at ps p.0 ≡ None
    not_told v m before of less None e = e
    not_told v m before of less (Some k) e = absurd (let most : p.0.counter ≤ v.counter = before.newest p.0 k of e in omega (arith, most, less))

    higher : (v : Name) (m : Mail) → IsNewest ps author v m → p.0.author ≡ author → v.counter < p.0.counter → IsNewest (ps ++ p ∷ []) author p.0 p.1
    higher v m before of less = record {
      of_author = of;
      is_told = itself (not_told v m before of less (message_at ps p.0) refl);
      newest = λ other older other_of told. ⊎_elim
          (λ (h : message_at ps other ≡ Some older). let most : other.counter ≤ v.counter = before.newest other older other_of h in omega (arith, most, less))
          (λ (h : other ≡ p.0). let same : other.counter ≡ p.0.counter = ap (λ (w : Name). w.counter) h in omega (arith, same))
          (told_in other older told);
    }

    no_higher : (v : Name) (m : Mail) → IsNewest ps author v m → (p.0.author ≡ author → p.0.counter ≤ v.counter) → IsNewest (ps ++ p ∷ []) author v m
    no_higher v m before most = record {
      of_author = before.of_author;
      is_told = stays v m before.is_told;
      newest = λ other older other_of told. ⊎_elim
          (λ (h : message_at ps other ≡ Some older). before.newest other older other_of h)
          (λ (h : other ≡ p.0).
          let same : other.counter ≡ p.0.counter = ap (λ (w : Name). w.counter) h in
          let below : p.0.counter ≤ v.counter = most (sym (ap (λ (w : Name). w.author) h) ∙ other_of) in omega (arith, same, below))
          (told_in other older told);
    }

    by_author : TellsNone ps author → (b : Bool) → (p.0.author == author) ≡ b → IsNewestFound (ps ++ p ∷ []) author (cond b (Some p) None)
    by_author none true e = none_yet (eqb-true p.0.author author e) none
    by_author none false e = λ q of. none_else q (λ (h : q ≡ p.0). eqb-false p.0.author author e (sym (ap (λ (v : Name). v.author) h) ∙ of)) (none q of)

    by_both : (v : Name) (m : Mail) → IsNewest ps author v m → (b c : Bool) → (p.0.author == author) ≡ b → nat_lt v.counter p.0.counter ≡ c → IsNewestFound (ps ++ p ∷ []) author (cond (b && c) (Some p) (Some (v, m)))
    by_both v m before true true e f = higher v m before (eqb-true p.0.author author e) (ltb-true v.counter p.0.counter f)
    by_both v m before true false e f = no_higher v m before (λ of. ltb-false v.counter p.0.counter f)
    by_both v m before false c e f = no_higher v m before (λ of. absurd (eqb-false p.0.author author e of))

    found_more : (newest : Option (Name × Mail)) → IsNewestFound ps author newest → IsNewestFound (ps ++ p ∷ []) author (newer_of author newest (Some p))
    found_more None none = by_author none (p.0.author == author) refl
    found_more (Some b) before = by_both b.0 b.1 before (p.0.author == author) (nat_lt b.0.counter p.0.counter) refl refl

found_all : (ps qs : List (Name × Mail)) (author : ℕ) (newest : Option (Name × Mail)) → IsNewestFound ps author newest → IsNewestFound (ps ++ qs) author (newest_of author newest qs)
found_all ps [] author newest found = subst (λ (l : List (Name × Mail)). IsNewestFound l author newest) (sym (append-nil ps)) found
found_all ps (q ∷ qs) author newest found =
    subst (λ (l : List (Name × Mail)). IsNewestFound l author (newest_of author newest (q ∷ qs))) (append_assoc ps (q ∷ []) qs)
    (found_all (ps ++ q ∷ []) qs author (newer_of author newest (Some q)) (found_more ps q author newest found))

-- so it is the newest of all
pub found : (told : List (Name × Mail)) (author : ℕ) (newest : Option (Name × Mail)) → newest ≡ newest_of author None told → IsNewestFound told author newest
found told author newest is = subst (λ (o : Option (Name × Mail)). IsNewestFound told author o) (sym is) (found_all [] told author None (λ version of. refl))
