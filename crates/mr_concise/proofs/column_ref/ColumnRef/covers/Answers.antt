use Rattle.std.proofs.Common.{ap, refl}
use Rattle.mr_concise.specs.Column.{Extent, column_has}
use Rattle.mr_concise.proofs.CoverLemmas.{hole-from_one, none_in-more, covers-none_in, covers-no_higher, covers-all}
use Rattle.mr_concise.proofs.column_ref.ColumnRef.covers.Goals as goal

pub has_none_in-requires : goal.has_none_in-requires
has_none_in-requires c = hole-from_one (record { upto = c.self.inside.upto; holes = c.self.inside.holes.now }) c.loop-hole.hole-index (record { first = 0; last = 0 }) c.self.invariant c.loop-hole-test.true

pub loop-hole-preserved : goal.loop-hole-preserved
loop-hole-preserved c = none_in-more (column_has c.args.other.now) c.self.inside.holes.now c.args.self.now.holes c.loop-hole.hole-index (record { first = 0; last = 0 }) (ap (λ (e : Extent). e.holes) c.self.view_is) c.loop-hole-test.true c.loop-hole.invariant (c.has_none_in.ensures.0 c.if-not-has_none_in.false)

pub returns : goal.returns
returns c = (λ _. covers-all c.args.self.now c.args.other.now c.self.inside.holes.now c.loop-hole.hole-index (rw (← c.self.view_is, ← c.other.view_is) c.if-other-self.false) (ap (λ (e : Extent). e.holes) c.self.view_is) c.loop-hole-test.false c.loop-hole.invariant, λ _. refl)

pub returns-then-other-self : goal.returns-then-other-self
returns-then-other-self c = (λ h. absurd (cc), λ covers. absurd (covers-no_higher c.args.self.now c.args.other.now (rw c.other.view_is at c.other.invariant) (rw (← c.self.view_is, ← c.other.view_is) c.if-other-self.true) covers))

pub returns-then-not-has_none_in : goal.returns-then-not-has_none_in
returns-then-not-has_none_in c = (λ h. absurd (cc), λ covers. let true_is = c.has_none_in.ensures.1 (covers-none_in c.args.self.now c.args.other.now c.self.inside.holes.now c.loop-hole.hole-index (record { first = 0; last = 0 }) (ap (λ (e : Extent). e.holes) c.self.view_is) c.loop-hole-test.true covers) in absurd (cc))
