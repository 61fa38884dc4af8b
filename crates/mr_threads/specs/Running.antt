-- the speakers of a node, all together

-- all three speakers have hung up
pub record HaveHungUp {S P Q : Type 0} (user_has : S → Type 0) (first_has : P → Type 0) (second_has : Q → Type 0) (speaker : S) (first : P) (second : Q) : Type 0 where
  pub user : user_has speaker
  pub first_link : first_has first
  pub second_link : second_has second
