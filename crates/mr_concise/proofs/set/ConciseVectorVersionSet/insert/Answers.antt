use Rattle.std.proofs.Common.{◌∙◌, ap}
use Rattle.mr_concise.proofs.Names.{on_ok_weaker, vector_has}
use Rattle.mr_concise.proofs.VectorInsertLemmas.{inserted-vector, inserted-means, too_many-from_one, one-from_too_many}
use Rattle.mr_concise.proofs.set.ConciseVectorVersionSet.insert.Goals as goal

pub invariant_of-self : goal.invariant_of-self
invariant_of-self c = inserted-vector c.insert_in.result c.self.inside.columns.items c.insert_in.new.columns.items c.author.result c.counter.result c.self.invariant (rw c.author.ensures c.counter.ensures.range.author_in) (rw c.counter.ensures.is c.counter.ensures.range.counter_from) (rw c.counter.ensures.is c.counter.ensures.range.counter_to) c.insert_in.ensures.ok c.insert_in.ensures.err c.insert_in.ensures.many.1

pub returns-clause-ok : goal.returns-clause-ok
returns-clause-ok c = on_ok_weaker c.insert_in.result (λ e v. ap (λ xs. vector_has xs v) (rw (c.author.ensures, c.counter.ensures.is, c.self.view_is) at e) ∙ inserted-means c.args.self.now c.args.version v (rw c.self.view_is at c.self.invariant) c.counter.ensures.range.counter_from) c.insert_in.ensures.ok

pub returns-clause-holes : goal.returns-clause-holes
returns-clause-holes c =
    let many = rw (c.author.ensures, c.counter.ensures.is, c.self.view_is) at c.insert_in.ensures.many in
    let v = rw c.self.view_is at c.self.invariant in
    (λ h. too_many-from_one c.args.self.now c.args.version c.counter.ensures.range.author_in v c.counter.ensures.range.counter_from c.counter.ensures.range.counter_to (many.0 h), λ p. many.1 (one-from_too_many c.args.self.now c.args.version v c.counter.ensures.range.counter_from p))
