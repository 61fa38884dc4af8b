-- A column is read from its parts.
use Rattle.std.proofs.Common.{◌≡◌, ℕ, ◌<◌, ◌≤◌, ◌||◌, Bool, true, false, ◌&&◌, List, [], ◌∷◌, length, Option, Some, None, refl, sym, ap, ◌∙◌, arith}
use Rattle.mr_wire.proofs.Names.{AreHad, AreIn, AreSeen, AuthorColumn, Counters, Head, Hole, IfSome, IsColumn, IsHead, IsSomeAnd, IsVectorFrom, Seen, Stands}
use Rattle.mr_wire.proofs.Names.{Vec, Watch, author_at, column_at, column_has, columns_at, counter_at, empty_column, eqb-true, hole_has, holes_at}
use Rattle.mr_wire.proofs.Names.{is_in_column, le-leb, list_any, lt-leb, name_of_place, nat_le, ne_eqb, not, number_at, vector_at, vector_has, w16, ◌==◌}
use Rattle.std.proofs.lemmas.Bool.Decides.{leb_tells}
use Rattle.mr_wire.specs.declared.vector.Place.{Place}
use Rattle.mr_wire.proofs.PartLaws.{reads_counter, reads_hole, after_hole, holes_rise, reads_column, after_column, columns_stand}
use Rattle.mr_wire.proofs.Laws.{reads_run}

module _ (old r1 r2 r3 : List ℕ) (low author upto count : ℕ) (e1 : author_at old ≡ Some (author, r1)) (le : low ≤ author) (e2 : counter_at r1 ≡ Some (upto, r2)) (e3 : number_at w16 r2 ≡ Some (count, r3)) (few : count ≤ 4096) where
  pub is_column : (holes : List Hole) (new : List ℕ) → holes_at upto 0 count r3 ≡ Some (holes, new) → IsColumn (record { upto = upto; holes = holes })
  is_column holes new h =
      let bound = reads_counter.takes r1 upto r2 e2 in
      let run = (reads_run after_hole (reads_hole upto) 0 count).takes r3 holes new h in
      record { apart = holes_rise upto holes 0 (omega arith) run.1.1; in_range = bound.1.1; few = omega (arith, run.1.0) }

  pub if_column : (kept : Option (Vec Hole)) (new : List ℕ) (Told : List Hole → Type 0) → Stands (λ (v : Vec Hole). v.items) (holes_at upto 0 count) r3 kept new Told → IfSome kept (λ v. IsColumn (record { upto = upto; holes = v.items }))
  if_column None new Told s = tt
  if_column (Some v) new Told s = let P : List Hole → Type 0 = λ holes. IsColumn (record { upto = upto; holes = holes }) in rw s.is_part (is_column s.part new s.stands)

  column_stands : (holes : List Hole) (new : List ℕ) → holes_at upto 0 count r3 ≡ Some (holes, new) → column_at low old ≡ Some (record { author = author; column = record { upto = upto; holes = holes } }, new)
  column_stands holes new h = rw (e1, le-leb low author le, e2, e3, le-leb count 4096 few, h) refl

  kept_column : (column : Option AuthorColumn) (kept : Option (Vec Hole)) (holes : List Hole) → IfSome kept (λ v. v.items ≡ holes) →
      IfSome column (λ x. IsSomeAnd kept (λ v. x ≡ record { author = author; column = record { upto = upto; holes = v.items } })) →
      IfSome column (λ x. x ≡ record { author = author; column = record { upto = upto; holes = holes } })
  kept_column column kept holes a b = grind arith

  pub stands_column : (watch : Watch) (counters : Counters) (hits : Seen) (head : Head) (column : Option AuthorColumn) (kept : Option (Vec Hole)) (new : List ℕ) →
      Stands (λ (v : Vec Hole). v.items) (holes_at upto 0 count) r3 kept new (AreSeen counters hits) →
      counters.version ≡ watch.version.counter → counters.item ≡ watch.item.counter → head.author ≡ author →
      head.seen.version ≡ ((author == watch.version.author) && ((nat_le 1 watch.version.counter && nat_le watch.version.counter upto) && not hits.version)) →
      head.seen.item ≡ ((author == watch.item.author) && ((nat_le 1 watch.item.counter && nat_le watch.item.counter upto) && not hits.item)) →
      IfSome column (λ x. IsSomeAnd kept (λ v. x ≡ record { author = author; column = record { upto = upto; holes = v.items } })) →
      Stands (λ (x : AuthorColumn). x) (column_at low) old column new (IsHead watch head)
  stands_column watch counters hits head column kept new s cv ci ha hv hi made = record {
    part = record { author = author; column = record { upto = upto; holes = s.part } };
    stands = column_stands s.part new s.stands;
    is_part = kept_column column kept s.part s.is_part made;
    told = record {
      author = ha;
      version = hv ∙ ap (λ (b : Bool). (author == watch.version.author) && ((nat_le 1 watch.version.counter && nat_le watch.version.counter upto) && not b)) (s.told.version ∙ ap (λ (c : ℕ). list_any (λ hole. hole_has hole c) s.part) cv);
      item = hi ∙ ap (λ (b : Bool). (author == watch.item.author) && ((nat_le 1 watch.item.counter && nat_le watch.item.counter upto) && not b)) (s.told.item ∙ ap (λ (c : ℕ). list_any (λ hole. hole_has hole c) s.part) ci);
    };
  }

-- ---- vectors

-- a vector that rises from above the author has nothing of that author
none_below : (xs : List AuthorColumn) (low : ℕ) (place : Place) → place.author < low → IsVectorFrom low xs → list_any (λ x. is_in_column x place) xs ≡ false
none_below [] low place lt h = refl
none_below (x ∷ xs) low place lt h = grind (arith, none_below xs, ne_eqb)

or_none : (b : Bool) → (b || false) ≡ b
or_none b = grind arith

and_none : (b : Bool) → ((b && false) && true) ≡ false
and_none b = grind arith

in_empty : (c : ℕ) → column_has empty_column c ≡ false
in_empty c = grind (arith, leb_tells, lt-leb, and_none)

pub any_column : (xs : List AuthorColumn) (low : ℕ) (place : Place) → IsVectorFrom low xs → list_any (λ x. is_in_column x place) xs ≡ vector_has xs (name_of_place place)
any_column [] low place h = sym (in_empty place.counter)
any_column (x ∷ xs) low place h = grind (arith, any_column xs, eqb-true, none_below, or_none)

module _ (r1 : List ℕ) (count : ℕ) where
  is_vector : (columns : List AuthorColumn) (new : List ℕ) → columns_at 0 count r1 ≡ Some (columns, new) → IsVectorFrom 0 columns × (length columns ≡ count)
  is_vector columns new h = let run = (reads_run after_column reads_column 0 count).takes r1 columns new h in (columns_stand columns 0 run.1.1, run.1.0)

  pub if_vector : (kept : Option (Vec AuthorColumn)) (new : List ℕ) (Note : List AuthorColumn → Type 0) → Stands (λ (v : Vec AuthorColumn). v.items) (columns_at 0 count) r1 kept new Note → IfSome kept (λ v. IsVectorFrom 0 v.items)
  if_vector kept new Note s = grind (arith, is_vector)

kept_vector : (vector : Option (List AuthorColumn)) (kept : Option (Vec AuthorColumn)) (columns : List AuthorColumn) → IfSome kept (λ v. v.items ≡ columns) → IfSome vector (λ x. IsSomeAnd kept (λ v. x ≡ v.items)) → IfSome vector (λ x. x ≡ columns)
kept_vector vector kept columns a b = grind arith

pub stands_vector : (old r1 : List ℕ) (count : ℕ) → number_at w16 old ≡ Some (count, r1) → (watch : Watch) (seen : Seen) (vector : Option (List AuthorColumn)) (kept : Option (Vec AuthorColumn)) (new : List ℕ) →
    Stands (λ (v : Vec AuthorColumn). v.items) (columns_at 0 count) r1 kept new (AreIn watch seen) → IfSome vector (λ x. IsSomeAnd kept (λ v. x ≡ v.items)) →
    Stands (λ (v : List AuthorColumn). v) vector_at old vector new (AreHad watch (record { seen = seen; is_empty = count == 0 }))
stands_vector old r1 count e watch seen vector kept new s made =
    let is = is_vector r1 count s.part new s.stands in
    record {
      part = s.part;
      stands = rw (e, s.stands) refl;
      is_part = kept_vector vector kept s.part s.is_part made;
      told = record {
        version = s.told.version ∙ any_column s.part 0 watch.version is.0;
        item = s.told.item ∙ any_column s.part 0 watch.item is.0;
        empty = ap (λ (n : ℕ). n == 0) (sym is.1);
      };
    }
