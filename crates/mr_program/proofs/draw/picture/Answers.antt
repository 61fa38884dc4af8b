use Rattle.std.proofs.lemmas.Result.{IfOk-weaker}
use Rattle.mr_program.proofs.DrawLemmas.{draws_world, draws_none}
use Rattle.mr_program.proofs.draw.picture.Goals as goal

pub returns-in-Some : goal.returns-in-Some
returns-in-Some g c =
    let drawn = rw (c.as_str.ensures.value, c.in_ok-under.ensures) at c.draw.ensures in
    IfOk-weaker c.draw.result _ _ (λ svg draws. draws_world _ _ c.in-Some.ensures _ _ _ draws) drawn

pub returns : goal.returns
returns g c =
    let drawn = rw (c.as_str-in-None.ensures.value, c.in_ok-under.ensures) at c.draw_nothing.ensures in
    IfOk-weaker c.draw_nothing.result _ _ (λ svg draws. draws_none _ c.in-None.ensures _ _ _ draws) drawn
