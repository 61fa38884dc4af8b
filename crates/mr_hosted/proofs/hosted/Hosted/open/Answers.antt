use Rattle.std.proofs.Common.{inl, inr, ⊎_elim, ℕ, List, length, refl, sym, ap, subst}
use Rattle.mr_journal.specs.Journal.{device_of}
use Rattle.mr_kept.specs.Kept.{journal_of, replica_of}
use Rattle.mr_kept.specs.Opening.{GoesOn, Reopens}
use Rattle.mr_kept.specs.Refusing.{IsOpenFault}
use Rattle.mr_kept.specs.Whole.{ComesBack, HasLog, HasLogOf}
use Rattle.mr_kept.specs.declared.journaled.Journaled.{Journaled}
use Rattle.mr_hosted.specs.Outbox.{file_of, left_since, may_leave}
use Rattle.mr_hosted.specs.declared.act.Act.{Act}
use Rattle.mr_hosted.specs.declared.outbox.Outbox.{Outbox}
use Rattle.mr_hosted.proofs.hosted.Hosted.open.Goals as goal

pub returns-in-Ok-clause-whole : goal.returns-in-Ok-clause-whole
returns-in-Ok-clause-whole g c = λ head s notes has place.
    let was = c.in-Ok.ensures.whole refl head s notes (subst (λ (f : List ℕ). HasLogOf g.K.Knowledge.form f head s notes) (sym c.new.ensures.rests.file_is) has) place in
    (subst (λ (j : Journaled g.row.K.Denot Outbox g.row.K-Vector.Denot). ComesBack g.K.Knowledge.form s c.in-Ok.opened.are_closed (replica_of j)) (sym c.of.ensures.journaled) was.0, was.1)

-- The acts began with none, so all moments are since the first.
pub returns-in-Ok-clause-left : goal.returns-in-Ok-clause-left
returns-in-Ok-clause-left g c = λ head s notes has file left.
    let leaves = c.in-Ok.ensures.left refl head s notes (subst (λ (f : List ℕ). HasLogOf g.K.Knowledge.form f head s notes) (sym c.new.ensures.rests.file_is) has) in
    let since = subst (λ (j : Journaled g.row.K.Denot Outbox g.row.K-Vector.Denot). left_since (device_of (journal_of j)) 0 file) c.of.ensures.journaled left in
    let since_first = subst (λ (n : ℕ). left_since (device_of (journal_of c.in-Ok.journaled)) n file) (sym (ap (λ (l : List Act). length l) c.new.ensures.none)) since in
    ⊎_elim (λ (was : may_leave c.new.result file). inl (c.new.ensures.rests.durable file was)) (λ (log : HasLog g.K.Knowledge.form file head notes). inr log) (leaves.each file since_first)

pub returns-in-Ok-clause-any_moment : goal.returns-in-Ok-clause-any_moment
returns-in-Ok-clause-any_moment g c = λ file left.
    let since = subst (λ (j : Journaled g.row.K.Denot Outbox g.row.K-Vector.Denot). left_since (device_of (journal_of j)) 0 file) c.of.ensures.journaled left in
    let since_first = subst (λ (n : ℕ). left_since (device_of (journal_of c.in-Ok.journaled)) n file) (sym (ap (λ (l : List Act). length l) c.new.ensures.none)) since in
    ⊎_elim
    (λ (was : may_leave c.new.result file). inl (c.new.ensures.rests.durable file was))
    (λ (on : GoesOn (file_of c.new.result) file). inr (subst (λ (f : List ℕ). GoesOn f file) c.new.ensures.rests.file_is on))
    ((c.in-Ok.ensures.any_moment refl).each file since_first)

pub returns-in-Err-clause-whole : goal.returns-in-Err-clause-whole
returns-in-Err-clause-whole g c = λ head s notes has place.
    c.in-Err.ensures.whole refl head s notes (subst (λ (f : List ℕ). HasLogOf g.K.Knowledge.form f head s notes) (sym c.new.ensures.rests.file_is) has) place

-- An outbox that is fresh has the bytes that were read.
pub returns-in-Ok-clause-reopens : goal.returns-in-Ok-clause-reopens
returns-in-Ok-clause-reopens g c =
    let opened = c.in-Ok.opened in
    let was = subst (λ (f : List ℕ). Reopens g.K.Knowledge.form file_of may_leave f opened.are_closed opened.notes.items c.in-Ok.journaled) c.new.ensures.rests.file_is (c.in-Ok.ensures.reopens refl) in
    subst (λ (j : Journaled g.row.K.Denot Outbox g.row.K-Vector.Denot). Reopens g.K.Knowledge.form file_of may_leave c.args.read.items opened.are_closed opened.notes.items j) (sym c.of.ensures.journaled) was

pub returns-in-Err-clause-fault : goal.returns-in-Err-clause-fault
returns-in-Err-clause-fault g c =
    subst (λ (f : List ℕ). IsOpenFault g.K.Knowledge.form f c.args.mark.now c.args.birth c.in-Err.fault) c.new.ensures.rests.file_is (c.in-Err.ensures.fault refl)
