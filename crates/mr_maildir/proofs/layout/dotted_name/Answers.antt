use Rattle.std.proofs.Common.{sym}
use Rattle.mr_maildir.proofs.LayoutLemmas.{not_dotted}
use Rattle.mr_maildir.proofs.layout.dotted_name.Goals as goal

pub returns-in-Some : goal.returns-in-Some
returns-in-Some c = rw c.in-Some.ensures.written c.name_behind_dot.ensures

pub returns-in-None : goal.returns-in-None
returns-in-None c = sym (not_dotted c.args.path.now (sym c.in-None.ensures.value))
