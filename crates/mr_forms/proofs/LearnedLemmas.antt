-- What a form learns: what was known stays, and the version is known for its item.
use Rattle.std.proofs.Common.{◌≡◌, Bool, true, false, ◌||◌, ◌&&◌, arith}
use Rattle.mr_forms.proofs.Names.{Form, Name, Pairs, Versions, and_from, learned, learned_of, learned_with, name_eq, or_left, or_right, with_learned}
use Rattle.mr_forms.proofs.PairLemmas.{name_eq-itself}

with_learned_keeps : (b : Bool) (old : Pairs) (item version i v : Name) → old i v ≡ true → with_learned b old item version i v ≡ true
with_learned_keeps b old item version i v h = or_right ((b || name_eq item i) && name_eq version v) (old i v) h

with_learned_itself : (b : Bool) (old : Pairs) (item version : Name) → with_learned b old item version item version ≡ true
with_learned_itself b old item version = grind (arith, or_left, and_from, or_right, name_eq-itself)

module _ {K : Type 0} (form : Form K) (k : K) (item version : Name) where
  -- a version alone
  pub learned_keeps : (i v : Name) → form.known k i v ≡ true → learned form k item version i v ≡ true
  learned_keeps i v h = with_learned_keeps (form.learns_for_all k item version (λ _. false)) (form.known k) item version i v h

  pub learned_itself : learned form k item version item version ≡ true
  learned_itself = with_learned_itself (form.learns_for_all k item version (λ _. false)) (form.known k) item version

  -- a version with a set below it
  module _ (set : Versions) where
    abbrev above : Pairs
    above = with_learned (form.learns_for_all k item version set) (form.known k) item version

    abbrev first_too : Bool
    first_too = form.firsts_for_all k item version set && set item

    above_keeps : (i v : Name) → above i v ≡ true → learned_with form k item version set i v ≡ true
    above_keeps i v h = or_right (name_eq item i && set v) (learned_of form k item version set i v) (or_right (first_too && name_eq item v) (above i v) h)

    pub learned_with_keeps : (i v : Name) → form.known k i v ≡ true → learned_with form k item version set i v ≡ true
    learned_with_keeps i v h = above_keeps i v (with_learned_keeps (form.learns_for_all k item version set) (form.known k) item version i v h)

    pub learned_with_itself : learned_with form k item version set item version ≡ true
    learned_with_itself = above_keeps item version (with_learned_itself (form.learns_for_all k item version set) (form.known k) item version)
