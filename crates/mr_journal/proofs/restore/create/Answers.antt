use Rattle.std.proofs.Common.{⊎_elim, [], inr, refl, arith}
use Rattle.mr_journal.specs.Format.{StandAlike}
use Rattle.mr_journal.proofs.Moments.{joined, widened}
use Rattle.mr_journal.proofs.RestoreLemmas.{both_new, cut_new, made, staged_new, torn_new}
use Rattle.mr_journal.proofs.restore.create.Goals as goal

pub returns-in_err-trim-clause-any_moment : goal.returns-in_err-trim-clause-any_moment
returns-in_err-trim-clause-any_moment g c = λ told file rests is_new.
    widened (StandAlike file) (c.trim.ensures.any_moment told file rests) (λ f cut. both_new file f is_new (cut_new 0 file f is_new cut))

pub returns-in_err-put-clause-any_moment : goal.returns-in_err-put-clause-any_moment
returns-in_err-put-clause-any_moment g c = λ told file rests is_new.
    let empty = c.in_ok-trim.ensures.done told file rests in
    joined (widened (StandAlike file) (c.trim.ensures.any_moment told file rests) (λ f cut. both_new file f is_new (cut_new 0 file f is_new cut)))
    (widened (StandAlike file) (c.put.ensures.any_moment told [] empty) (λ f torn. both_new file f is_new (torn_new f torn)))

pub returns-clause-any_moment : goal.returns-clause-any_moment
returns-clause-any_moment g c = λ told file rests is_new.
    let empty = c.in_ok-trim.ensures.done told file rests in
    let begun = c.in_ok-put.ensures.done told [] empty (omega arith) in
    joined (joined (widened (StandAlike file) (c.trim.ensures.any_moment told file rests) (λ f cut. both_new file f is_new (cut_new 0 file f is_new cut)))
    (widened (StandAlike file) (c.put.ensures.any_moment told [] empty) (λ f torn. both_new file f is_new (torn_new f torn))))
    (widened (StandAlike file) (c.publish.ensures.any_moment told [] refl begun) (λ f left. ⊎_elim (λ staged. both_new file f is_new (staged_new 10 f (omega arith) staged)) (λ whole. ([], inr (refl, is_new), made f whole)) left))
