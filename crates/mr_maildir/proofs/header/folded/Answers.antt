use Rattle.std.proofs.Common.{ℕ, List, Bool, not, length, refl, ◌∙◌, rules, tests}
use Rattle.mr_maildir.proofs.Names.{Bor, YieldsList-from_slice, is_folded, position_from_yields_List}
use Rattle.mr_maildir.proofs.HeaderLemmas.{at_place, no_place, twice_not}
use Rattle.mr_maildir.proofs.header.folded.Goals as goal

pub returns-in-Some-clause-value : goal.returns-in-Some-clause-value
returns-in-Some-clause-value c =
    let test : Bor (List ℕ) → Bool = λ (l : Bor (List ℕ)). not (is_folded l.now) in
    at_place test c.args.lines.now c.in-Some.at c.position.result c.in-Some.is
    (position_from_yields_List test _ _ c.position.result c.position.ensures.ran (YieldsList-from_slice c.args.lines.now cc) (λ x b q k. search (rules, tests)))
    ∙ twice_not (λ (l : Bor (List ℕ)). is_folded l.now) c.args.lines.now

pub returns-in-None-clause-value : goal.returns-in-None-clause-value
returns-in-None-clause-value c =
    let test : Bor (List ℕ) → Bool = λ (l : Bor (List ℕ)). not (is_folded l.now) in
    no_place test c.args.lines.now (length c.args.lines.now) c.position.result c.in-None.is refl
    (position_from_yields_List test _ _ c.position.result c.position.ensures.ran (YieldsList-from_slice c.args.lines.now cc) (λ x b q k. search (rules, tests)))
    ∙ twice_not (λ (l : Bor (List ℕ)). is_folded l.now) c.args.lines.now
