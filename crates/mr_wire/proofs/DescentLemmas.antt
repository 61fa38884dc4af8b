-- A version of an item with what it supersedes: its law, and that it is read from its parts.
use Rattle.std.proofs.Common.{◌≡◌, ℕ, Bool, true, false, cond, ◌&&◌, List, length, Option, Some, None, refl, sym, ap, ◌∙◌, arith}
use Rattle.mr_wire.proofs.Names.{AreHad, AuthorColumn, DescentParts, IfSome, IsDescent, IsRevision, IsSomeAnd, Mail, Name, Rev, Stands, Watch, descent_at}
use Rattle.mr_wire.proofs.Names.{descent_bytes, eqb-true, if◌then◌else◌, is_descent, message_at, name_at, name_eq, name_of_place, nil_from_length, not}
use Rattle.mr_wire.proofs.Names.{rev_with, revision_at, vector_at, vector_has, ◌==◌}
use Rattle.mr_madewith.proofs.Rising.{name_eq_self, same_names}
use Rattle.mr_wire.specs.declared.vector.Told.{Told}
use Rattle.mr_wire.specs.inner.FrameParts.{descent_with}
use Rattle.mr_wire.proofs.Laws.{Reads, and_left, and_right, reads_like, reads_only, reads_as, reads_then}
use Rattle.mr_wire.proofs.PartLaws.{reads_name, reads_vector, both}

not_true : (b : Bool) → not b ≡ true → b ≡ false
not_true b h = grind arith

not_false : (b : Bool) → b ≡ false → not b ≡ true
not_false b h = rw h refl

pub descent_is : (descent : DescentParts) → is_descent descent ≡ true → IsRevision descent.item descent.version descent.below
descent_is descent h = grind (arith, not_true, and_left, and_right, name_eq_self, nil_from_length, eqb-true, same_names)

pub descent_passes : (descent : DescentParts) → IsRevision descent.item descent.version descent.below → is_descent descent ≡ true
descent_passes descent r = both (not (vector_has descent.below descent.version)) (cond (name_eq descent.version descent.item) (length descent.below == 0) (vector_has descent.below descent.item)) (not_false (vector_has descent.below descent.version) r.lacks_itself) (at_test (name_eq descent.version descent.item) refl)
  where
    at_test : (b : Bool) → name_eq descent.version descent.item ≡ b → cond b (length descent.below == 0) (vector_has descent.below descent.item) ≡ true
    at_test true e = let none = r.first (same_names descent.version descent.item e) in ap (λ (xs : List AuthorColumn). length xs == 0) none
    at_test false e = r.later (λ same. let self : name_eq descent.version descent.item ≡ true = ap (λ (v : Name). name_eq descent.version v) (sym same) ∙ name_eq_self descent.version in let no : true ≡ false = sym self ∙ e in absurd cc)

pub reads_descent : Reads IsDescent descent_bytes descent_at
reads_descent = reads_like IsDescent descent_bytes
    (reads_only is_descent (reads_as (λ (p : Name × (Name × List AuthorColumn)). record { item = p.0; version = p.1.0; below = p.1.1 }) (λ (l : DescentParts). (l.item, (l.version, l.below))) (λ l. refl) (λ p. refl)
    (reads_then reads_name (λ _. reads_then reads_name (λ _. reads_vector)))))
    (λ l h. record { item_in = h.0.0; version_in = h.0.1.0; vector_in = h.0.1.1; revision_in = descent_is l h.1 })
    (λ l h. ((h.item_in, (h.version_in, h.vector_in)), descent_passes l h.revision_in)) (λ l. refl)

-- ---- reading

module _ (old r1 r2 new : List ℕ) (item version : Name) (e1 : name_at old ≡ Some (item, r1)) (e2 : name_at r1 ≡ Some (version, r2)) (watch : Watch) (told : Told) (below : Option (List AuthorColumn))
    (s : Stands (λ (v : List AuthorColumn). v) vector_at r2 below new (AreHad watch told)) (wv : name_of_place watch.version ≡ version) (wi : name_of_place watch.item ≡ item) where
  test_is : is_descent (descent_with item version s.part) ≡ (not told.seen.version && (if name_eq version item then told.is_empty else told.seen.item))
  test_is = grind arith

  descent_test : descent_at old ≡ (if is_descent (descent_with item version s.part) then Some (descent_with item version s.part, new) else None)
  descent_test = rw (e1, e2, s.stands) refl

  if_below : (kept : Option (List AuthorColumn)) → IfSome kept (λ v. v ≡ s.part) → IfSome kept (λ v. descent_with item version v ≡ descent_with item version s.part)
  if_below kept h = grind arith

  pub stands_parts : (b : Bool) → b ≡ (not told.seen.version && (if name_eq version item then told.is_empty else told.seen.item)) → b ≡ true →
      Stands (descent_with item version) descent_at old below new (λ descent. (descent.item ≡ item) × (descent.version ≡ version))
  stands_parts b is h = grind (arith, test_is, descent_test, if_below)

if_descent : (below : Option (List AuthorColumn)) (item version : Name) (descent : DescentParts) → IfSome below (λ v. descent_with item version v ≡ descent) → IsRevision descent.item descent.version descent.below → IfSome below (IsRevision item version)
if_descent below item version descent h r = grind arith

pub descent_kept : {old new : List ℕ} {Note : DescentParts → Type 0} (item version : Name) (below : Option (List AuthorColumn)) → Stands (descent_with item version) descent_at old below new Note → IfSome below (IsRevision item version)
descent_kept {old} {new} item version below s = if_descent below item version s.part s.is_part ((reads_descent.takes old s.part new s.stands).1.revision_in)

kept_descent : (d : Option DescentParts) (item version : Name) (below : Option (List AuthorColumn)) (descent : DescentParts) → IfSome below (λ v. descent_with item version v ≡ descent) → IfSome d (λ d. IsSomeAnd below (λ v. d ≡ descent_with item version v)) → IfSome d (λ d. d ≡ descent)
kept_descent d item version below descent h made = grind arith

pub stands_descent : {old new : List ℕ} {Note : DescentParts → Type 0} (item version : Name) (below : Option (List AuthorColumn)) (d : Option DescentParts) → Stands (descent_with item version) descent_at old below new Note →
    IfSome d (λ d. IsSomeAnd below (λ v. d ≡ descent_with item version v)) → Stands (λ (d : DescentParts). d) descent_at old d new (λ _. Unit {0})
stands_descent item version below d s made = record { part = s.part; stands = s.stands; is_part = kept_descent d item version below s.part s.is_part made; told = tt }

kept_revision : (r : Option Rev) (item version : Name) (below : Option (List AuthorColumn)) (message : Option Mail) (descent : DescentParts) (mail : Mail) → IfSome below (λ v. descent_with item version v ≡ descent) → IfSome message (λ m. m ≡ mail) →
    IfSome r (λ r. IsSomeAnd below (λ v. IsSomeAnd message (λ m. r ≡ record { item = item; version = version; below = v; message = m }))) → IfSome r (λ r. r ≡ rev_with descent mail)
kept_revision r item version below message descent mail h is made = grind arith

pub stands_revision : {old r1 new : List ℕ} {Note : DescentParts → Type 0} {More : Mail → Type 0} (item version : Name) (below : Option (List AuthorColumn)) (message : Option Mail) (r : Option Rev) → Stands (descent_with item version) descent_at old below r1 Note →
    Stands (λ (m : Mail). m) message_at r1 message new More → IfSome r (λ r. IsSomeAnd below (λ v. IsSomeAnd message (λ m. r ≡ record { item = item; version = version; below = v; message = m }))) →
    Stands (λ (r : Rev). r) revision_at old r new (λ _. Unit {0})
stands_revision item version below message r s t made = record {
  part = rev_with s.part t.part;
  stands = rw (s.stands, t.stands) refl;
  is_part = kept_revision r item version below message s.part t.part s.is_part t.is_part made;
  told = tt;
}
