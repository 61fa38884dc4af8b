use Rattle.mr_maildir.proofs.layout.Layout.name_for.Goals as goal

pub returns-in_default-clause-admitted : goal.returns-in_default-clause-admitted
returns-in_default-clause-admitted c = c.label_name.ensures.admitted c.args.self
