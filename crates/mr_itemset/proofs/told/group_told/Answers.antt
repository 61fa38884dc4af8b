use Rattle.std.proofs.Common.{refl, inl, inr, sym, ◌∙◌}
use Rattle.mr_itemset.proofs.ToldItems.{none_from, some_from, told_nothing, told_something}
use Rattle.mr_itemset.proofs.told.group_told.Goals as goal

pub returns-then-is_empty : goal.returns-then-is_empty
returns-then-is_empty c =
    let none = none_from c.author_columns.result.now (sym c.is_empty.ensures ∙ c.if-is_empty.true) in
    inl (told_nothing c.args.all.now c.args.own.now c.in_ok-vector.vector c.in_ok-vector.ensures.told (sym c.author_columns.ensures.is ∙ none), refl)

pub returns : goal.returns
returns c = inr (
  told_something c.args.all.now c.args.own.now c.in_ok-vector.vector c.in_ok-vector.ensures.vector c.in_ok-vector.ensures.told (λ none. some_from c.author_columns.result.now (sym c.is_empty.ensures ∙ c.if-is_empty.false) (c.author_columns.ensures.is ∙ none)),
  (
    record { item = c.args.item; vector = c.in_ok-vector.vector },
    (record { item = refl; vector_ok = c.in_ok-vector.ensures.vector; tells = c.in_ok-vector.ensures.told }, c.in_ok-add.ensures),
  ),
)
