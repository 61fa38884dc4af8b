use Rattle.std.proofs.Common.{◌≡◌}
use Rattle.mr_folder.proofs.Names.{Links, MayLink, steps_of, tree_of}
use Rattle.mr_folder.proofs.ShowLemmas.{link_none}
use Rattle.mr_folder.proofs.MemoryLemmas.{write_ok, write_crash, write_time, link_files, linked}
use Rattle.mr_folder.proofs.memory.MemoryTreeFileTree.link.Goals as goal

pub returns-clause-linked : goal.returns-clause-linked
returns-clause-linked c = λ told. let old = steps_of c.args.self.now in let new = steps_of c.do_link.new.self in let r = c.do_link.result in write_ok (λ l. tree_of l c.args.to.now ≡ tree_of old c.args.from.now) r (Links c.args.from.now c.args.to.now) old new (linked c.args.from.now c.args.to.now old) c.do_link.ensures.steps

pub returns-clause-crash : goal.returns-clause-crash
returns-clause-crash c = λ told. let old = steps_of c.args.self.now in let new = steps_of c.do_link.new.self in let r = c.do_link.result in write_crash (MayLink c.args.from.now c.args.to.now) r (Links c.args.from.now c.args.to.now) old new (link_none c.args.from.now c.args.to.now) (λ t may. may) c.do_link.ensures.steps

pub returns-clause-time : goal.returns-clause-time
returns-clause-time c = λ told. let old = steps_of c.args.self.now in let new = steps_of c.do_link.new.self in let r = c.do_link.result in write_time r (Links c.args.from.now c.args.to.now) old new c.do_link.ensures.steps

pub returns-clause-files : goal.returns-clause-files
returns-clause-files c = λ told. let old = steps_of c.args.self.now in let new = steps_of c.do_link.new.self in let r = c.do_link.result in link_files r c.args.from.now c.args.to.now old new c.do_link.ensures.free c.do_link.ensures.steps
