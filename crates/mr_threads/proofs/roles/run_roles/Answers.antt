use Rattle.mr_threads.proofs.roles.run_roles.Goals as goal

pub returns-in-Some-clause-ran : goal.returns-in-Some-clause-ran
returns-in-Some-clause-ran g c = c.in-Some.ensures.ran c.args.roles c.outfit.ensures.roles
