use Rattle.std.proofs.Common.{ap, ◌∙◌, ◌||◌, map}
use Rattle.mr_replica.proofs.Names.{AreSame, IfOk-weaker, all_covered, claimed, merged_by, on_ok_weaker, piece_of, vector_has, with_pairs}
use Rattle.mr_replica.proofs.Merging.{all_claimed, merged_fits, first_of_all, merged_refused}
use Rattle.mr_replica.proofs.replica.Core.merged.Goals as goal

-- what the fragments cover is what they claim
pub returns-clause-ok : goal.returns-clause-ok
returns-clause-ok g c =
    let form = g.K.Knowledge.form in
    let known = form.known c.self.inside.parts.knowledge in
    let know = c.args.know.now in
    rw (← c.self.view_is)
    (IfOk-weaker c.with_fragments.result (λ k. AreSame (form.known k) (with_pairs known (all_covered vector_has know))) (λ k. AreSame (form.known k) (with_pairs known (claimed (map piece_of know))))
    (λ k same i v. same i v ∙ ap (λ b. b || known i v) (all_claimed know i v)) c.with_fragments.ensures.ok)

pub returns-clause-fits : goal.returns-clause-fits
returns-clause-fits g c =
    rw (← c.self.view_is) (on_ok_weaker c.with_fragments.result (merged_fits g.K.Knowledge.form (g.K.Knowledge.form.known c.self.inside.parts.knowledge) c.args.know.now) c.with_fragments.ensures.value)

pub returns-clause-first : goal.returns-clause-first
returns-clause-first g c =
    let form = g.K.Knowledge.form in
    let known = form.known c.self.inside.parts.knowledge in
    rw (← c.self.view_is) (on_ok_weaker c.with_fragments.result (λ values. first_of_all form (merged_by known (map piece_of c.args.know.now)) (merged_fits form known c.args.know.now values)) c.with_fragments.ensures.value)

pub returns-clause-refused : goal.returns-clause-refused
returns-clause-refused g c =
    rw (← c.self.view_is)
    (merged_refused g.K.Knowledge.form (g.K.Knowledge.form.known c.self.inside.parts.knowledge) c.args.know.now c.with_fragments.result c.with_fragments.ensures.holes c.with_fragments.ensures.items c.with_fragments.ensures.memory)
