use Rattle.mr_draw.proofs.marks.label_of.Goals as goal

pub returns-in-Some : goal.returns-in-Some
returns-in-Some g c = rw (← c.in-Some.ensures, ← c.happening.view_is) c.label_as.ensures
