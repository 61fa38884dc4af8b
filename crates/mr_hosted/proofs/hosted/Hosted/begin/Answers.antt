use Rattle.std.proofs.Common.{◌⊎◌, inl, inr, ⊎_elim, ℕ, List, length, refl, sym, ap, subst, ◌∙◌}
use Rattle.mr_journal.specs.Format.{StandAlike}
use Rattle.mr_journal.specs.Journal.{device_of}
use Rattle.mr_kept.specs.Beginning.{IsBeginFault}
use Rattle.mr_kept.specs.Kept.{journal_of}
use Rattle.mr_kept.specs.Opening.{Begins}
use Rattle.mr_kept.specs.declared.journaled.Journaled.{Journaled}
use Rattle.mr_hosted.specs.Outbox.{file_of, left_since, may_leave}
use Rattle.mr_hosted.specs.declared.act.Act.{Act}
use Rattle.mr_hosted.specs.declared.outbox.Outbox.{Outbox}
use Rattle.mr_hosted.proofs.hosted.Hosted.begin.Goals as goal

-- The acts began with none, so all moments are since the first.
pub returns-in-Ok-clause-left : goal.returns-in-Ok-clause-left
returns-in-Ok-clause-left g c = λ file left.
    let outbox = c.new-outbox.result in
    let nothing = c.new-outbox.ensures.rests.file_is ∙ c.new.ensures.items in
    let since = subst (λ (j : Journaled g.row.K.Denot Outbox g.row.K-Vector.Denot). left_since (device_of (journal_of j)) 0 file) c.of.ensures.journaled left in
    let since_first = subst (λ (n : ℕ). left_since (device_of (journal_of c.in-Ok.journaled)) n file) (sym (ap (λ (l : List Act). length l) c.new-outbox.ensures.none)) since in
    ⊎_elim
    (λ (was : may_leave outbox file). inl (c.new-outbox.ensures.rests.durable file was ∙ c.new.ensures.items))
    (λ (other : StandAlike (file_of outbox) file ⊎ Begins (file_of outbox) file). inr (subst (λ (f : List ℕ). StandAlike f file ⊎ Begins f file) nothing other))
    ((c.in-Ok.ensures.any_moment refl).each file since_first)

-- The outbox has no byte.
pub returns-in-Err-clause-fault : goal.returns-in-Err-clause-fault
returns-in-Err-clause-fault g c =
    let setup = c.args.setup in
    subst (λ (f : List ℕ). IsBeginFault f setup.id setup.filter setup.event_limit setup.birth setup.mark c.in-Err.fault) (c.new-outbox.ensures.rests.file_is ∙ c.new.ensures.items) (c.in-Err.ensures.fault refl)
