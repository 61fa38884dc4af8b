use Rattle.std.proofs.Common.{◌-◌, ◌∙◌, List, ℕ, length, drop, subst, sym, take}
use Rattle.std.specs.Prelude.{◌≢◌}
use Rattle.std.proofs.lemmas.Result.{IfOk-weaker}
use Rattle.mr_entry.specs.Grammar.{Spells}
use Rattle.mr_entry.specs.declared.fault.EntryFault.TheVariants.{OutOfMemory}
use Rattle.mr_journal.specs.Format.{contents}
use Rattle.mr_kept.proofs.EntryLemmas.{contents_first}
use Rattle.mailfold.specs.OldLog.{IsOfHead}
use Rattle.mailfold.specs.inner.OldLog.{TellsFirst}
use Rattle.mailfold.proofs.OldLogLemmas.{never_unread, told_first, whole_first}
use Rattle.mailfold.proofs.old_log.told_by.Goals as goal

pub returns-in-Ok-clause-told : goal.returns-in-Ok-clause-told
returns-in-Ok-clause-told c =
    let entries = c.args.entries.now in
    let spells = subst (λ (l : List ℕ). Spells c.in-Ok.entry (take c.in-Ok._used l)) c.as_slice.ensures.value c.in-Ok.ensures.spelled in
    subst (λ log. TellsFirst log (contents entries)) (sym c.told_in.ensures)
    (told_first c.in-Ok.entry c.in-Ok._used entries (take (length entries - 1) (drop 1 entries)) c.first-item.result.items (contents_first entries c.first-item.result c.in-len1-up.len_at_least c.first-item.is) spells)

pub returns-in-Ok-clause-whole : goal.returns-in-Ok-clause-whole
returns-in-Ok-clause-whole c = λ head of.
    let entries = c.args.entries.now in
    c.told_in.ensures
    ∙ whole_first head c.in-Ok.entry c.in-Ok._used entries (take (length entries - 1) (drop 1 entries)) c.first-item.result.items (contents_first entries c.first-item.result c.in-len1-up.len_at_least c.first-item.is)
    (λ x text more spells same. c.in-Ok.ensures.whole x text more spells (c.as_slice.ensures.value ∙ same)) of

pub returns-in-Err-clause-whole : goal.returns-in-Err-clause-whole
returns-in-Err-clause-whole c = λ head of.
    let entries = c.args.entries.now in
    let fault = c.in-Err.fault in
    IfOk-weaker c.unread_entry.result (λ _. fault ≢ OutOfMemory) (IsOfHead head)
    (λ log some. absurd (never_unread head fault entries (take (length entries - 1) (drop 1 entries)) c.first-item.result.items (contents_first entries c.first-item.result c.in-len1-up.len_at_least c.first-item.is)
    (λ x text more spells same. c.in-Err.ensures.whole x text more spells (c.as_slice.ensures.value ∙ same)) some of))
    c.unread_entry.ensures.refused
