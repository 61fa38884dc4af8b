use Rattle.std.proofs.lemmas.Option.{IfSome_then}
use Rattle.mr_live.proofs.ReadLemmas.{asks_fault, asks_none, asks_at_fault, asks_more}
use Rattle.mr_live.proofs.Runnable.{line_run}
use Rattle.mr_live.proofs.source.take_line.Goals as goal

pub returns-in-Ok-clause-asks : goal.returns-in-Ok-clause-asks
returns-in-Ok-clause-asks g c =
    let taken = rw c.in-Ok-true.field-0-test at c.in-Ok-true.ensures.line in
    let does = rw c.as_slice.ensures.value at c.in-Ok.ensures in
    IfSome_then _ taken (λ bytes next.
    asks_more c.args.plan.now c.args.number c.args.source.now.taken bytes c.next_line.new.line.items c.next_line.new.self.left c.next_line.new.self.taken c.line.new.self c.in-Ok-true.ensures.few next does)

pub returns-in-Err-line-clause-asks : goal.returns-in-Err-line-clause-asks
returns-in-Err-line-clause-asks g c =
    let taken = rw c.in-Ok-true.field-0-test at c.in-Ok-true.ensures.line in
    let does = rw c.as_slice.ensures.value at c.in-Err-line.ensures in
    IfSome_then _ taken (λ bytes next.
    asks_at_fault c.args.plan.now c.args.number c.args.source.now.taken bytes c.next_line.new.line.items c.next_line.new.self.left c.next_line.new.self.taken c.line.new.self c.in-Err-line.fault c.in-Ok-true.ensures.few next does)

pub returns-in-Ok-false-clause-asks : goal.returns-in-Ok-false-clause-asks
returns-in-Ok-false-clause-asks g c =
    let taken = rw c.in-Ok-false.field-0-test at c.in-Ok-false.ensures.line in
    IfSome_then _ taken (λ bytes none.
    asks_none c.args.plan.now c.args.number c.args.source.now.taken bytes c.next_line.new.line.items c.next_line.new.self.left c.next_line.new.self.taken none)

pub returns-in-Err-clause-asks : goal.returns-in-Err-clause-asks
returns-in-Err-clause-asks g c =
    rw c.source_fault.ensures (IfSome_then _ c.in-Err.ensures.line (λ bytes taken.
    asks_fault c.args.plan.now c.args.number c.args.source.now.taken bytes c.next_line.new.line.items c.next_line.new.self.left c.next_line.new.self.taken c.in-Err.fault c.requires.within taken))

pub returns-in-Ok-clause-can_run : goal.returns-in-Ok-clause-can_run
returns-in-Ok-clause-can_run g c = λ can. line_run c.args.plan.now c.line.new.self _ _ can c.in-Ok.ensures

pub returns-in-Err-line-clause-can_run : goal.returns-in-Err-line-clause-can_run
returns-in-Err-line-clause-can_run g c = λ can. line_run c.args.plan.now c.line.new.self _ _ can c.in-Err-line.ensures
