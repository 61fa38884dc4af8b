use Rattle.mr_script.proofs.Names.{IfSome_then, source_remaining}
use Rattle.mr_script.proofs.RunLemmas.{next_fault, next_none, next_at_fault, next_text}
use Rattle.mr_script.proofs.script.next_answer.Goals as goal

pub returns-in-Ok-clause-goes : goal.returns-in-Ok-clause-goes
returns-in-Ok-clause-goes g c =
    let taken = rw c.in-Ok-true.field-0-test at c.in-Ok-true.ensures.line in
    let does = rw c.as_slice.ensures.value at c.in-Ok.ensures in
    IfSome_then _ taken (λ bytes next.
    next_text g.K.Knowledge.form c.args.interpreter.now c.args.number c.args.source.now.taken bytes c.next_line.new.line.items (source_remaining g.R.Read.remaining c.next_line.new.self) c.next_line.new.self.taken c.line.new.self _ c.in-Ok-true.ensures.few next does)

pub returns-in-Err-line-clause-goes : goal.returns-in-Err-line-clause-goes
returns-in-Err-line-clause-goes g c =
    let taken = rw c.in-Ok-true.field-0-test at c.in-Ok-true.ensures.line in
    let does = rw c.as_slice.ensures.value at c.in-Err-line.ensures in
    IfSome_then _ taken (λ bytes next.
    next_at_fault g.K.Knowledge.form c.args.interpreter.now c.args.number c.args.source.now.taken bytes c.next_line.new.line.items (source_remaining g.R.Read.remaining c.next_line.new.self) c.next_line.new.self.taken c.line.new.self c.in-Err-line.fault c.in-Ok-true.ensures.few next does)

pub returns-in-Ok-false-clause-goes : goal.returns-in-Ok-false-clause-goes
returns-in-Ok-false-clause-goes g c =
    let taken = rw c.in-Ok-false.field-0-test at c.in-Ok-false.ensures.line in
    IfSome_then _ taken (λ bytes none.
    next_none g.K.Knowledge.form c.args.interpreter.now c.args.number c.args.source.now.taken bytes c.next_line.new.line.items (source_remaining g.R.Read.remaining c.next_line.new.self) c.next_line.new.self.taken none)

pub returns-in-Err-clause-goes : goal.returns-in-Err-clause-goes
returns-in-Err-clause-goes g c =
    rw c.source_fault.ensures (IfSome_then _ c.in-Err.ensures.line (λ bytes taken.
    next_fault g.K.Knowledge.form c.args.interpreter.now c.args.number c.args.source.now.taken bytes c.next_line.new.line.items (source_remaining g.R.Read.remaining c.next_line.new.self) c.next_line.new.self.taken c.in-Err.fault c.requires.within taken))
