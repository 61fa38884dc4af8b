use Rattle.mr_draw.proofs.title.label_as.Goals as goal

pub returns-in-Open : goal.returns-in-Open
returns-in-Open c = rw c.in-Open.is c.sync_label.ensures
