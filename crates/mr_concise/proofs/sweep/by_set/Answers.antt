use Rattle.std.proofs.Common.{◌∙◌, subst}
use Rattle.mr_concise.proofs.Names.{IfOk, IsSame, IsVectorOf, Versions, is_listed, vector_has}
use Rattle.mr_concise.proofs.SweepLemmas.{few_from_holes}
use Rattle.mr_concise.proofs.VersionLemmas.{listed-more, listed-end}
use Rattle.mr_concise.proofs.sweep.by_set.Goals as goal

pub loop-version-preserved : goal.loop-version-preserved
loop-version-preserved c v = c.in_ok-insert.ensures.ok v ∙ listed-more c.args.versions.now c.loop-version.version-index c.version-item.result (is_listed c.loop-version.set) c.loop-version-test.true c.version-item.is c.loop-version.invariant v

pub returns-clause-ok : goal.returns-clause-ok
returns-clause-ok c =
    let P : Versions → Type 0 = λ set. IfOk c.from_set.result (λ vector. IsSame (vector_has vector) set) in
    subst P (listed-end c.args.versions.now c.loop-version.version-index (is_listed c.loop-version.set) c.loop-version-test.false c.loop-version.invariant) c.from_set.ensures.ok

pub returns-clause-few : goal.returns-clause-few
returns-clause-few c = few_from_holes c.from_set.result (rw (listed-end c.args.versions.now c.loop-version.version-index (is_listed c.loop-version.set) c.loop-version-test.false c.loop-version.invariant) at c.from_set.ensures.holes.1)

pub returns-clause-canonical : goal.returns-clause-canonical
returns-clause-canonical c =
    let P : Versions → Type 0 = λ set. IfOk c.from_set.result (λ vector. IsVectorOf set vector) in
    subst P (listed-end c.args.versions.now c.loop-version.version-index (is_listed c.loop-version.set) c.loop-version-test.false c.loop-version.invariant) c.from_set.ensures.canonical

pub returns-clause-holes : goal.returns-clause-holes
returns-clause-holes c = rw (listed-end c.args.versions.now c.loop-version.version-index (is_listed c.loop-version.set) c.loop-version-test.false c.loop-version.invariant) at c.from_set.ensures.holes.0
