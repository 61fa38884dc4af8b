-- takes that give nothing
use Rattle.std.proofs.Common.{List, [], ◌++◌, subst}
use Rattle.std.proofs.lemmas.List.{append-nil}
use Rattle.mr_feed.specs.declared.entry.Entry.{Entry}

-- a take that gives nothing leaves what was taken before it
pub took-nothing : {P : Type 0} (took : P → List Entry → P → Type 0) (took_more : (p : P) (xs : List Entry) (q : P) (ys : List Entry) (r : P) → took p xs q → took q ys r → took p (xs ++ ys) r)
    (p q r : P) (xs : List Entry) → took p xs q → took q [] r → took p xs r
took-nothing took took_more p q r xs h k = subst (λ l. took p l r) (append-nil xs) (took_more p xs q [] r h k)
