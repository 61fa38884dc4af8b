-- What a call refuses, from what it found before.
use Rattle.std.proofs.Common.{ℕ, ◌≡◌, ◌↔◌, Ok, Err, inl, inr}
use Rattle.mr_itemset.proofs.Names.{FormFault, HasHoleyItem, HasValue, IsErrOf, IsOnlyOverItems, IsOverHolesInTurn, IsOverItemsInTurn, Pairs, items_form}

module _ {T P : Type 0} where
  -- what passes a test is nothing to refuse
  pub passed : (t : T) (fault : FormFault) → (IsErrOf (Ok t) fault ↔ P) → ¬ P
  passed t fault h p = let wrong = h.1 p in cc

  -- where there is nothing to refuse, to succeed is right
  pub succeeds : (t : T) (fault : FormFault) → ¬ P → (IsErrOf (Ok t) fault ↔ P)
  succeeds t fault none = (λ wrong. absurd (cc), λ p. absurd (none p))

  -- and so is to refuse for something else
  pub refuses_otherwise : (fault other : FormFault) → ¬ (fault ≡ other) → ¬ P → (IsErrOf {T = T} (Err fault) other ↔ P)
  refuses_otherwise fault other apart none = (λ wrong. absurd (apart (cc)), λ p. absurd (none p))

-- of two values in turn none has too many holes
pub no_holes_in_turn : {limit : ℕ} (first second : Pairs) → HasValue (items_form limit) first → HasValue (items_form limit) second → ¬ IsOverHolesInTurn (items_form limit) first second
no_holes_in_turn first second a b over = elim over [ inl holes ↦ a.0 holes | inr both ↦ b.0 both.1 ]

-- and none lists too many items
pub no_items_in_turn : {limit : ℕ} (first second : Pairs) → HasValue (items_form limit) first → HasValue (items_form limit) second → ¬ IsOverItemsInTurn (items_form limit) first second
no_items_in_turn first second a b over = elim over [ inl items ↦ a.1 items.0 | inr both ↦ b.1 both.1.0 ]

-- of one value twice in turn it is the one that tells
module _ {limit : ℕ} {P : Type 0} (one : Pairs) where
  pub once_holes : P ↔ IsOverHolesInTurn (items_form limit) one one → P ↔ HasHoleyItem one
  once_holes by = (λ p. elim (by.0 p) [ inl holes ↦ holes | inr both ↦ both.1 ], λ holes. by.1 (inl holes))

  pub once_items : P ↔ IsOverItemsInTurn (items_form limit) one one → P ↔ IsOnlyOverItems (items_form limit) one
  once_items by = (λ p. elim (by.0 p) [ inl items ↦ items | inr both ↦ both.1 ], λ items. by.1 (inl items))

-- and where the first has a value, the second
module _ {limit : ℕ} {P : Type 0} (first second : Pairs) (value : HasValue (items_form limit) first) where
  pub second_holes : P ↔ IsOverHolesInTurn (items_form limit) first second → P ↔ HasHoleyItem second
  second_holes by = (λ p. elim (by.0 p) [ inl holes ↦ absurd (value.0 holes) | inr both ↦ both.1 ], λ holes. by.1 (inr (value, holes)))

  pub second_items : P ↔ IsOverItemsInTurn (items_form limit) first second → P ↔ IsOnlyOverItems (items_form limit) second
  second_items by = (λ p. elim (by.0 p) [ inl items ↦ absurd (value.1 items.0) | inr both ↦ both.1 ], λ items. by.1 (inr (value, items)))
