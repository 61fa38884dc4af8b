-- tables that have one value where a test holds, element by element
use Rattle.std.proofs.Common.{◌≡◌, ◌<◌, ◌+◌, ◌||◌, ℕ, Bool, true, false, cond, List, take, length, get_or, refl, ap, sym, ◌∙◌}
use Rattle.std.specs.List.{list_any}
use Rattle.std.proofs.lemmas.List.Folds.{list_any_more}

-- what is put where either holds
either : {X : Type 0} (a b : Bool) (put old : X) → cond b put (cond a put old) ≡ cond (a || b) put old
either true true put old = refl
either true false put old = refl
either false true put old = refl
either false false put old = refl

-- what is put where the test holds of one of the elements, with one element more
pub put_more : {X Y : Type 0} (p : Y → Bool) (ys : List Y) (i : ℕ) (y : Y) (put start old new : X) → i < length ys → y ≡ get_or ys i y → new ≡ cond (p y) put old → old ≡ cond (list_any p (take i ys)) put start → new ≡ cond (list_any p (take (i + 1) ys)) put start
put_more p ys i y put start old new h e is known =
    is ∙ ap (cond (p y) put) known ∙ either (list_any p (take i ys)) (p y) put start
    ∙ ap (λ b. cond b put start) (ap (λ z. list_any p (take i ys) || p z) e ∙ sym (list_any_more p ys i y h))
