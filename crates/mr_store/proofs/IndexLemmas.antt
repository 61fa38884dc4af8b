-- what the index lists once an item's list was written, or has gone
use Rattle.std.proofs.Common.{◌≡◌, ◌<◌, ◌&&◌, ◌||◌, not, Bool, true, false, cond, if◌then◌else◌, refl, sym, ap, subst, ◌∙◌, List, Option, Some, None, IfSome, MatchOption, Result, OnOk, vec_len, vec_capacity, inl, inr, arith}
use Rattle.mr_store.proofs.Names.{AreInVersionOrder, BTreeMap, HasRoomFor, IsIndexOf, Name, Rev, Room, Vec, Versions, entered, filter, get, has_later}
use Rattle.mr_store.proofs.Names.{is_for_later, left_by, listed_for, name_cmp, name_eq, option_map, option_map_or, room_of, same_names, stays_listed, to_list}
use Rattle.mr_store.proofs.Names.{version_inserted, versions_of}
use Rattle.mr_store.proofs.RevisionLemmas.{either, versions_of-entered, versions_of-left_by}
use Rattle.mr_store.proofs.ListedLemmas.{stays-some, to_list-inserted, to_list-elsewhere, to_list-for_later, unlisted_alone, firsts_are_all}

-- what holds once it went well
pub on_ok : {V E : Type 0} (r : Result V E) (P Q : Type 0) → (P → Q) → OnOk r P → OnOk r Q
on_ok r P Q f h = grind arith

pub no_some : false ≡ true → ⊥
no_some is = cc

-- whether a list of the item isn't needed
abbrev pub is_idle : Option Room → Name → Option (List Name) → Bool
is_idle room item listed = option_map_or (λ vs. not (has_later item vs || is_for_later room item)) listed false

idle_goes : (room : Option Room) (item : Name) (listed : Option (List Name)) → is_idle room item listed ≡ true → None ≡ stays_listed room item listed
idle_goes room item listed idle = grind (arith, either, no_some)

needed_stays : (room : Option Room) (item : Name) (listed : Option (List Name)) → is_idle room item listed ≡ false → listed ≡ stays_listed room item listed
needed_stays room item listed needed = grind (arith, either, no_some)

module _ {Z : Type 0} where
  -- the index n has w at the item, and elsewhere what m has
  abbrev pub Writes : BTreeMap Name (Vec Name Z) → BTreeMap Name (Vec Name Z) → Name → Vec Name Z → Type 0
  Writes m n item w = (q : Name) → get name_cmp n q ≡ cond (name_eq item q) (Some w) (get name_cmp m q)

  abbrev pub items_of_list : Option (Vec Name Z) → Option (List Name)
  items_of_list o = option_map (λ versions. versions.items) o

  abbrev pub HasSpace : Option (Vec Name Z) → Type 0
  HasSpace o = IfSome o (λ versions. vec_len versions < vec_capacity versions)

  -- the list that an item has, where what is listed matches its versions
  pub listed_matches : (o : Option (Vec Name Z)) (v : Vec Name Z) (vs : List Name) (none : Type 0) → Some v ≡ o → MatchOption (items_of_list o) none (λ ws. ws ≡ vs) → v.items ≡ vs
  listed_matches o v vs none was matches = subst (λ (p : Option (Vec Name Z)). MatchOption (items_of_list p) none (λ ws. ws ≡ vs)) (sym was) matches

  pub listed-written : (m n : BTreeMap Name (Vec Name Z)) (item : Name) (w : Vec Name Z) → Writes m n item w
      → (i : Name) → listed_for n i ≡ (if name_eq item i then Some w.items else listed_for m i)
  listed-written m n item w writes i = grind arith

  -- the item's list became what f makes of it
  pub listed-mapped : (f : List Name → List Name) (m n : BTreeMap Name (Vec Name Z)) (item : Name) (v w : Vec Name Z) → Writes m n item w → get name_cmp m item ≡ Some v → w.items ≡ f v.items
      → (i : Name) → listed_for n i ≡ (if name_eq item i then option_map f (listed_for m i) else listed_for m i)
  listed-mapped f m n item v w writes was made i = grind (arith, listed-written, either, same_names)

  -- the room stays where the new list has no less than the old
  pub room-kept : (m n : BTreeMap Name (Vec Name Z)) (item : Name) (v w : Vec Name Z) → Writes m n item w → get name_cmp m item ≡ Some v
      → (vec_len v < vec_capacity v → vec_len w < vec_capacity w) → (room : Option Room) → HasRoomFor room m → HasRoomFor room n
  room-kept m n item v w writes was keeps None has = tt
  room-kept m n item v w writes was keeps (Some room) has =
      elim (either (name_eq item room.item)) [
        | inl here ↦
            let at_item : HasSpace (get name_cmp m item) = subst (λ (j : Name). HasSpace (get name_cmp m j)) (sym (same_names item room.item here)) has in
            rw (writes room.item, here) (keeps (rw was at at_item))
        | inr apart ↦ rw (writes room.item, apart) has
      ]

  -- the index n has nothing at the item, and elsewhere what m has
  abbrev pub Removes : BTreeMap Name (Vec Name Z) → BTreeMap Name (Vec Name Z) → Name → Type 0
  Removes m n item = (q : Name) → get name_cmp n q ≡ cond (name_eq item q) None (get name_cmp m q)

  pub listed-removed : (m n : BTreeMap Name (Vec Name Z)) (item : Name) (room : Option Room) → Removes m n item → is_idle room item (listed_for m item) ≡ true
      → (i : Name) → listed_for n i ≡ (if name_eq item i then stays_listed room i (listed_for m i) else listed_for m i)
  listed-removed m n item room removes idle i = grind (arith, either, same_names, idle_goes)

  pub listed-needed : (m : BTreeMap Name (Vec Name Z)) (item : Name) (room : Option Room) → is_idle room item (listed_for m item) ≡ false
      → (i : Name) → listed_for m i ≡ (if name_eq item i then stays_listed room i (listed_for m i) else listed_for m i)
  listed-needed m item room needed i = grind (arith, either, same_names, needed_stays)

  -- ---- the index of the revisions

  -- an item that had no list has one of its first version, where that is held
  pub index-enlisted : (m n : BTreeMap Name (Vec Name Z)) (room : Room) (revisions : List Rev) (firsts : List Name) → ((i : Name) → listed_for n i ≡ (if name_eq room.item i then Some firsts else listed_for m i)) → get name_cmp m room.item ≡ None
      → name_eq room.version room.item ≡ false → firsts ≡ filter (λ v. name_eq v room.item) (versions_of room.item revisions) → IsIndexOf None revisions m → IsIndexOf (Some room) revisions n
  index-enlisted m n room revisions firsts lists none later are indexed i =
      lists i ∙ elim (either (name_eq room.item i)) [
        | inl here ↦
            let vs = versions_of room.item revisions in
            let alone : has_later room.item vs ≡ false = unlisted_alone None room.item vs (sym (indexed room.item) ∙ ap items_of_list none) in
            let all : firsts ≡ vs = are ∙ firsts_are_all room.item vs alone in
            let same : vs ≡ versions_of i revisions = ap (λ (j : Name). versions_of j revisions) (same_names room.item i here) in
            let for_later : is_for_later (Some room) i ≡ true = rw (here, later) refl in
            ap (λ b. if b then Some firsts else listed_for m i) here ∙ (ap Some (all ∙ same) ∙ sym (to_list-for_later (Some room) i (versions_of i revisions) for_later))
        | inr apart ↦
            ap (λ b. if b then Some firsts else listed_for m i) apart
            ∙ (indexed i ∙ sym (to_list-elsewhere (Some room) i (versions_of i revisions) (ap (λ b. b && not (name_eq room.version room.item)) apart)))
      ]

  -- a revision that comes in its room is listed where it is to be
  pub index-put : (m n : BTreeMap Name (Vec Name Z)) (r : Rev) (revisions : List Rev) → AreInVersionOrder (entered r revisions)
      → ((i : Name) → listed_for n i ≡ (if name_eq r.item i then option_map (version_inserted r.version) (listed_for m i) else listed_for m i)) → IsIndexOf (Some (room_of r)) revisions m → IsIndexOf None (entered r revisions) n
  index-put m n r revisions rising lists indexed i =
      lists i ∙ elim (either (name_eq r.item i)) [
        | inl here ↦
            let vs = versions_of i revisions in
            let entered_here : versions_of i (entered r revisions) ≡ version_inserted r.version vs = rw here at (versions_of-entered i r revisions rising) in
            let put : option_map (version_inserted r.version) (to_list (Some (room_of r)) i vs) ≡ to_list None i (version_inserted r.version vs) =
            subst (λ (j : Name). option_map (version_inserted r.version) (to_list (Some (record { item = r.item; version = r.version })) j vs) ≡ to_list None j (version_inserted r.version vs)) (same_names r.item i here) (to_list-inserted r.item r.version vs) in
            rw (here, entered_here) (ap (option_map (version_inserted r.version)) (indexed i) ∙ put)
        | inr apart ↦
            let entered_elsewhere : versions_of i (entered r revisions) ≡ versions_of i revisions = rw apart at (versions_of-entered i r revisions rising) in
            rw (apart, entered_elsewhere) (indexed i ∙ to_list-elsewhere (Some (room_of r)) i (versions_of i revisions) (ap (λ b. b && not (name_eq r.version r.item)) apart))
      ]

  -- what leaves is no longer listed, and a list that isn't needed is gone
  pub index-left : (m k n : BTreeMap Name (Vec Name Z)) (room : Option Room) (item : Name) (below : Versions) (revisions : List Rev)
      → ((i : Name) → listed_for k i ≡ (if name_eq item i then option_map (filter (λ v. not (below v))) (listed_for m i) else listed_for m i))
      → ((i : Name) → listed_for n i ≡ (if name_eq item i then stays_listed room i (listed_for k i) else listed_for k i)) → IsIndexOf room revisions m → IsIndexOf room (left_by item below revisions) n
  index-left m k n room item below revisions leave drop indexed i = grind (arith, either, versions_of-left_by, stays-some)
