use Rattle.std.proofs.Common.{ℕ, ◌++◌, List, refl, ◌∙◌, subst, arith, length-append}
use Rattle.mr_journal.proofs.Names.{Rests, batch, contents}
use Rattle.mr_journal.proofs.BatchLemmas.{behind_gate, commit_leaves, fitting, grown, length-sealed}
use Rattle.mr_journal.proofs.journal.Journal.commit.Goals as goal

pub returns-in_err-publish-clause-any_moment : goal.returns-in_err-publish-clause-any_moment
returns-in_err-publish-clause-any_moment g c = λ told entries keeps.
    commit_leaves keeps c.deref.result.now c.in-Some.ensures.0 (c.deref.ensures.value ∙ c.in_ok-bytes.ensures) (c.publish.ensures.any_moment told keeps.front keeps.place keeps.rests)

pub returns-clause-any_moment : goal.returns-clause-any_moment
returns-clause-any_moment g c = λ told entries keeps.
    commit_leaves keeps c.deref.result.now c.in-Some.ensures.0 (c.deref.ensures.value ∙ c.in_ok-bytes.ensures) (c.publish.ensures.any_moment told keeps.front keeps.place keeps.rests)

pub returns-clause-kept : goal.returns-clause-kept
returns-clause-kept g c = λ told entries keeps.
    let more = contents c.args.batch.now in
    record {
      sound = refl;
      front = keeps.front ++ batch more;
      batches = grown entries more keeps.front keeps.batches (fitting c.in-Some.ensures.0);
      place = omega (arith, keeps.place, c.in-Some.ensures.1, length-append keeps.front (batch more), length-sealed more);
      rests = subst (λ (f : List ℕ). Rests g.D.Device.seen g.D.Device.may_leave f c.publish.new.device) (behind_gate keeps.front c.deref.result.now more (c.deref.ensures.value ∙ c.in_ok-bytes.ensures))
          (c.in_ok-publish.ensures.done told keeps.front keeps.place keeps.rests);
    }
