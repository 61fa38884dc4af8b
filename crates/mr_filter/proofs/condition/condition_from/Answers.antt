use Rattle.std.proofs.Common.{◌≡◌, ℕ, List, Option, Some, None, false, IsTrue, IfNone, codes, arith, refl, sym, ap, ◌∙◌}
use Rattle.mr_filter.proofs.Names.{Condition, Flag, HasFlag, HasLabel, IsValueOf, LacksFlag, LacksLabel, Since, Spells, bytes_eq-Decides, false≢true}
use Rattle.mr_filter.proofs.Names.{flag_name, is_label, kind_of, result_ok, text_eq}
use Rattle.std.proofs.lemmas.Grind.{common_steps}
use Rattle.mr_filter.proofs.condition.condition_from.Goals as goal

-- no condition has this kind and this value, if none of each kind has
no_condition : (kind value : List ℕ) → (kind ≡ codes "label" → IsTrue (is_label value) → ⊥) → (kind ≡ codes "!label" → IsTrue (is_label value) → ⊥) → (kind ≡ codes "flag" → (flag : Flag) → value ≡ flag_name flag → ⊥) → (kind ≡ codes "!flag" → (flag : Flag) → value ≡ flag_name flag → ⊥) → (kind ≡ codes "since" → (day : ℕ) → Spells value day → ⊥) → (condition : Condition) → kind ≡ kind_of condition → IsValueOf condition value → ⊥
no_condition kind value wanted barred on off since (HasLabel label) is of = wanted is (rw of.1 of.0)
no_condition kind value wanted barred on off since (LacksLabel label) is of = barred is (rw of.1 of.0)
no_condition kind value wanted barred on off since (HasFlag flag) is of = on is flag of
no_condition kind value wanted barred on off since (LacksFlag flag) is of = off is flag of
no_condition kind value wanted barred on off since (Since day) is of = since is day of

-- a kind is no other one
other_kind : {kind : List ℕ} (this other : List ℕ) → text_eq this other ≡ false → kind ≡ this → kind ≡ other → ⊥
other_kind this other apart is also = false≢true (sym apart ∙ (bytes_eq-Decides this other).1 (sym is ∙ also))

-- a fact where there is nothing
IfNone-any : {X : Type 0} (option : Option X) (P : Type 0) → P → IfNone option P
IfNone-any (Some x) P holds = tt
IfNone-any None P holds = holds

pub returns-in_default-clause-none : goal.returns-in_default-clause-none
returns-in_default-clause-none c =
    no_condition c.args.kind.now c.args.value.now (λ is _. c.in_default.not-label is) (λ is _. c.in_default.not-text is) (λ is _ _. c.in_default.not-flag is) (λ is _ _. c.in_default.not-text-2 is) (λ is _ _. c.in_default.not-since is)

pub returns-in_err-label_text-in-label-clause-none : goal.returns-in_err-label_text-in-label-clause-none
returns-in_err-label_text-in-label-clause-none c =
    IfNone-any c.from_residual.result _ (no_condition c.args.kind.now c.args.value.now (λ _ told. grind (arith, common_steps)) (λ is _. other_kind (codes "label") (codes "!label") refl c.in-label.is is) (λ is _ _. other_kind (codes "label") (codes "flag") refl c.in-label.is is) (λ is _ _. other_kind (codes "label") (codes "!flag") refl c.in-label.is is) (λ is _ _. other_kind (codes "label") (codes "since") refl c.in-label.is is))

pub returns-in_err-label_text-in-text-clause-none : goal.returns-in_err-label_text-in-text-clause-none
returns-in_err-label_text-in-text-clause-none c =
    IfNone-any c.from_residual-in_err-label_text-in-text.result _ (no_condition c.args.kind.now c.args.value.now (λ is _. c.in-text.not-label is) (λ _ told. grind (arith, common_steps)) (λ is _ _. other_kind (codes "!label") (codes "flag") refl c.in-text.is is) (λ is _ _. other_kind (codes "!label") (codes "!flag") refl c.in-text.is is) (λ is _ _. other_kind (codes "!label") (codes "since") refl c.in-text.is is))

pub returns-in_err-from_name-in-flag-clause-none : goal.returns-in_err-from_name-in-flag-clause-none
returns-in_err-from_name-in-flag-clause-none c =
    IfNone-any c.from_residual-in_err-from_name-in-flag.result _ (no_condition c.args.kind.now c.args.value.now (λ is _. c.in-flag.not-label is) (λ is _. c.in-flag.not-text is) (λ _ flag same. c.in_err-from_name-in-flag.ensures.complete flag (sym same)) (λ is _ _. other_kind (codes "flag") (codes "!flag") refl c.in-flag.is is) (λ is _ _. other_kind (codes "flag") (codes "since") refl c.in-flag.is is))

pub returns-in_err-from_name-in-text-2-clause-none : goal.returns-in_err-from_name-in-text-2-clause-none
returns-in_err-from_name-in-text-2-clause-none c =
    IfNone-any c.from_residual-in_err-from_name-in-text-2.result _ (no_condition c.args.kind.now c.args.value.now (λ is _. c.in-text-2.not-label is) (λ is _. c.in-text-2.not-text is) (λ is _ _. c.in-text-2.not-flag is) (λ _ flag same. c.in_err-from_name-in-text-2.ensures.complete flag (sym same)) (λ is _ _. other_kind (codes "!flag") (codes "since") refl c.in-text-2.is is))

pub returns-in_err-ok-in-since-clause-none : goal.returns-in_err-ok-in-since-clause-none
returns-in_err-ok-in-since-clause-none c =
    IfNone-any c.from_residual-in_err-ok-in-since.result _ (no_condition c.args.kind.now c.args.value.now (λ is _. c.in-since.not-label is) (λ is _. c.in-since.not-text is) (λ is _ _. c.in-since.not-flag is) (λ is _ _. c.in-since.not-text-2 is)
    (λ _ day spells. let none : result_ok c.read.result ≡ None = sym c.ok.ensures.value ∙ c.in_err-ok-in-since.was in let found : result_ok c.read.result ≡ Some day = ap (λ r. result_ok r) (c.read.ensures.complete day spells) in cc))
