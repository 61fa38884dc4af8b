use Rattle.mr_entry.proofs.EntryLaws.{is_event_fault}
use Rattle.mr_entry.proofs.decoding.event.Goals as goal

pub returns-in-Err : goal.returns-in-Err
returns-in-Err c = is_event_fault c.in-Some.issued c.u32.new.self c.args.input.now c.in-Err.fault c.fault_of_event.result c.in-Some.ensures c.in-Err.ensures.exact c.fault_of_event.ensures
