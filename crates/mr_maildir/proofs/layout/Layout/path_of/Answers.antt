use Rattle.std.proofs.Common.{◌≡◌, List, ℕ, false, sym, subst}
use Rattle.mr_maildir.proofs.Names.{IfOk-weaker, IsFolderPath, codes, text_eq}
use Rattle.mr_maildir.proofs.LayoutLemmas.{path_below, path_not_own}
use Rattle.mr_maildir.proofs.layout.Layout.path_of.Goals as goal

pub returns-clause-below : goal.returns-clause-below
returns-clause-below c = λ admitted.
    IfOk-weaker c.written.result _ _
    (λ path is. let P : List ℕ → Type 0 = λ (p : List ℕ). IsFolderPath c.args.self p in subst P (sym is) (path_below c.args.self c.args.name.now admitted))
    c.written.ensures

pub returns-clause-not_own : goal.returns-clause-not_own
returns-clause-not_own c = λ admitted.
    IfOk-weaker c.written.result _ _
    (λ path is. let P : List ℕ → Type 0 = λ (p : List ℕ). text_eq p (codes ".mailfold") ≡ false in subst P (sym is) (path_not_own c.args.self c.args.name.now admitted))
    c.written.ensures
