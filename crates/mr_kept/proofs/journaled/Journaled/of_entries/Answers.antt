use Rattle.std.proofs.Common.{◌∙◌, ap, length, sym}
use Rattle.mr_kept.specs.declared.journaled.Journaled.{Journaled}
use Rattle.mr_kept.proofs.OpenLemmas.{kept_read, none_waits}
use Rattle.mr_kept.proofs.journaled.Journaled.of_entries.Goals as goal

pub returns-clause-read : goal.returns-clause-read
returns-clause-read g c = λ keeps.
    let is = c.in-Ok.ensures.replayed in
    record { replayed = is; kept = kept_read g.K.Knowledge.form _ _ _ is keeps }

pub returns-clause-none_waits : goal.returns-clause-none_waits
returns-clause-none_waits g c =
    let found = c.in-Ok.found in
    let is = c.in-Ok.ensures.replayed in
    let read : Journaled g.row.K.Denot g.row.D.Denot g.row.K-Vector.Denot = record { alloc = c.args.alloc; replica = found.replica; journal = c.args.journal; head = found.head; kept = found.kept; issued = found.issued; leaving = c.new.result; notes = c.new-2.result } in
    none_waits read (ap length is.log_is ∙ sym is.kept_is) c.new-2.ensures.items
