use Rattle.std.proofs.lemmas.Str.{IsUtf8-drop}
use Rattle.mr_filter.proofs.CutLemmas.{cut_at-found, cut_at-nowhere}
use Rattle.mr_filter.proofs.pieces.cut.Goals as goal

pub returns-in-Some-clause-pieces : goal.returns-in-Some-clause-pieces
returns-in-Some-clause-pieces c =
    let e = c.in-Some.ensures.cases in
    cut_at-found _ _ _ _ _ e.0 e.1 c.requires e.2.0 e.2.1 e.3 e.4 e.6

pub returns-in-None-clause-pieces : goal.returns-in-None-clause-pieces
returns-in-None-clause-pieces c = cut_at-nowhere _ _ _ c.requires c.in-None.ensures.cases

pub returns-in-Some-clause-text : goal.returns-in-Some-clause-text
returns-in-Some-clause-text c =
    let e = c.in-Some.ensures.cases in
    let found = e.2.1 in
    rw (e.4, found.ends) (IsUtf8-drop c.args.text.now _ c.utf8.text found.after)
