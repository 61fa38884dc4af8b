use Rattle.std.proofs.Common.{◌≡◌, subst, sym}
use Rattle.mr_kept.proofs.Names.{Entry, events_of_entry, issued_after}
use Rattle.mr_kept.proofs.EntryLemmas.{run_issues}
use Rattle.mr_kept.proofs.gather.take_entry.Goals as goal

pub returns-in-Nexts-clause-issued : goal.returns-in-Nexts-clause-issued
returns-in-Nexts-clause-issued c =
    let issued = c.args.gathered.now.issued in
    subst (λ (e : Entry). issued ≡ issued_after issued (events_of_entry e)) (sym c.in-Nexts.is) (sym (run_issues issued c.in-Nexts.stream c.in-Nexts.count))
