use Rattle.mr_threads.proofs.roles.run_parts.Goals as goal

pub returns-clause-ran : goal.returns-clause-ran
returns-clause-ran g c = λ roles fits. c.settle_ends.ensures.ran roles c.args.parts fits c.requires.new c.in_ok-ends.ensures.ran
