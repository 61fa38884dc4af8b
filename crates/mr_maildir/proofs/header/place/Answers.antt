use Rattle.std.proofs.Common.{ℕ, List, Bool, length, refl, rules, tests}
use Rattle.mr_maildir.proofs.Names.{Bor, YieldsList-from_slice, begins, position_from_yields_List}
use Rattle.mr_maildir.proofs.HeaderLemmas.{at_place, no_place}
use Rattle.mr_maildir.proofs.header.place.Goals as goal

pub returns-in-Some-clause-value : goal.returns-in-Some-clause-value
returns-in-Some-clause-value c =
    let test : Bor (List ℕ) → Bool = λ (l : Bor (List ℕ)). begins c.args.key.now l.now in
    at_place test c.args.lines.now c.in-Some.at c.position.result c.in-Some.is
    (position_from_yields_List test _ _ c.position.result c.position.ensures.ran (YieldsList-from_slice c.args.lines.now cc) (λ x b q k. search (rules, tests)))

pub returns-in-None-clause-value : goal.returns-in-None-clause-value
returns-in-None-clause-value c =
    let test : Bor (List ℕ) → Bool = λ (l : Bor (List ℕ)). begins c.args.key.now l.now in
    no_place test c.args.lines.now (length c.args.lines.now) c.position.result c.in-None.is refl
    (position_from_yields_List test _ _ c.position.result c.position.ensures.ran (YieldsList-from_slice c.args.lines.now cc) (λ x b q k. search (rules, tests)))
