use Rattle.std.proofs.Common.{inl, inr, ◌⊎◌, ◌≡◌, ◌≤◌, arith, [], ◌∷◌, length-append, ap}
use Rattle.mr_concise.proofs.Names.{Extent, IsColumn, cases_lt}
use Rattle.mr_concise.proofs.MergeLemmas.{has_one, Merged-begin, Merged-pass, Merged-push, Merged-end, IsStep, IsStep-of}
use Rattle.mr_concise.proofs.ManyLemmas.{Merged-many}
use Rattle.mr_concise.proofs.column_ref.ColumnRef.merged_with_lower.Goals as goal
use Rattle.mr_concise.proofs.column_ref.ColumnRef.merged_with_lower.Goals.{then-first-last+else-len-ge-MAX_HOLES+in_ok-push, else-first-last}

pub loop-hole-init : goal.loop-hole-init
loop-hole-init c = rw c.in_ok-holes.ensures.items (Merged-begin (has_one c.args.self.now c.args.low.now), omega arith, omega arith)

pub gap_from-gap-requires : goal.gap_from-gap-requires
gap_from-gap-requires c =
    let is : IsColumn c.args.self.now = rw c.self.view_is at c.self.invariant in
    let top = is.in_range in
    let one = c.loop-hole.invariant.0.from_one in
    let bound = c.loop-hole.invariant.1 in
    (one, omega arith)

pub overflow_add-from : goal.overflow_add-from
overflow_add-from c =
    let is : IsColumn c.args.self.now = rw c.self.view_is at c.self.invariant in
    let top = is.in_range in
    let below = c.in-Some.ensures.below in
    let last = c.min-last.ensures in
    omega arith

pub loop-hole-smaller : goal.loop-hole-smaller
loop-hole-smaller c =
    let is : IsColumn c.args.self.now = rw c.self.view_is at c.self.invariant in
    let top = is.in_range in
    let below = c.in-Some.ensures.below in
    let reaches = c.in-Some.ensures.reaches in
    let above = c.gap_from-gap.ensures.begins.above in
    let ordered = c.gap_from-gap.ensures.ordered in
    let last = c.min-last.ensures in
    omega arith

pub loop-hole-preserved : goal.loop-hole-preserved
loop-hole-preserved c =
    let is : IsColumn c.args.self.now = rw c.self.view_is at c.self.invariant in
    let max = c.max-first.ensures in
    let min = c.min-last.ensures in
    let below = c.in-Some.ensures.below in
    let firsts : (c.max-first.result ≤ c.gap_from-gap.result.first) ⊎ (c.max-first.result ≤ c.in-Some.hole.first) = elim (cases_lt c.gap_from-gap.result.first c.in-Some.hole.first) [
      | inl l ↦ inr (omega arith)
      | inr g ↦ inl (omega arith)
    ] in
    let lasts : (c.gap_from-gap.result.last ≤ c.min-last.result) ⊎ (c.in-Some.hole.last ≤ c.min-last.result) = elim (cases_lt c.gap_from-gap.result.last c.in-Some.hole.last) [
      | inl l ↦ inl (omega arith)
      | inr g ↦ inr (omega arith)
    ] in
    let step : IsStep (has_one c.args.self.now c.args.low.now) c.loop-hole.from c.max-first.result c.min-last.result =
    IsStep-of c.args.self.now c.args.low.now c.loop-hole.from c.max-first.result c.min-last.result c.in-Some.hole c.gap_from-gap.result is.in_range c.in-Some.ensures c.gap_from-gap.ensures ((omega arith, omega arith), firsts) ((omega arith, omega arith), lasts) in
    elim c.if-first-last.branch [
      | then-first-last+else-len-ge-MAX_HOLES+in_ok-push w ↦
          let some = w.if-first-last.true in
          let few = w.if-len-ge-MAX_HOLES.false in
          let len = w.len.ensures in
          let more = length-append c.loop-hole.holes.items ((record { first = c.max-first.result; last = c.min-last.result }) ∷ []) in
          rw (w.holes-is, w.in_ok-push.ensures.items) (Merged-push (has_one c.args.self.now c.args.low.now) c.loop-hole.holes.items c.loop-hole.from c.max-first.result c.min-last.result c.loop-hole.invariant.0 step some, omega arith, omega arith)
      | else-first-last w ↦ rw w.holes-is (Merged-pass (has_one c.args.self.now c.args.low.now) c.loop-hole.holes.items c.loop-hole.from c.max-first.result c.min-last.result c.loop-hole.invariant.0 step w.if-first-last.false, omega arith, c.loop-hole.invariant.2)
    ]

pub new-requires : goal.new-requires
new-requires c =
    let is : IsColumn c.args.self.now = rw c.self.view_is at c.self.invariant in
    let upto : c.self.inside.upto ≡ c.args.self.now.upto = ap (λ (e : Extent). e.upto) c.self.view_is in
    let of = Merged-end c.args.self.now c.args.low.now c.loop-hole.holes.items c.loop-hole.from c.loop-hole.invariant.0 is.in_range c.requires c.loop-hole.invariant.1 c.in_default.ensures in
    rw upto (record { apart = of.apart; in_range = is.in_range; few = c.loop-hole.invariant.2 })

pub returns-clause-means : goal.returns-clause-means
returns-clause-means c =
    let is : IsColumn c.args.self.now = rw c.self.view_is at c.self.invariant in
    let upto : c.self.inside.upto ≡ c.args.self.now.upto = ap (λ (e : Extent). e.upto) c.self.view_is in
    rw (c.new.ensures, upto) (Merged-end c.args.self.now c.args.low.now c.loop-hole.holes.items c.loop-hole.from c.loop-hole.invariant.0 is.in_range c.requires c.loop-hole.invariant.1 c.in_default.ensures)

pub returns-then-len-ge-MAX_HOLES-clause-many : goal.returns-then-len-ge-MAX_HOLES-clause-many
returns-then-len-ge-MAX_HOLES-clause-many c =
    let is : IsColumn c.args.self.now = rw c.self.view_is at c.self.invariant in
    let max = c.max-first.ensures in
    let min = c.min-last.ensures in
    let below = c.in-Some.ensures.below in
    let firsts : (c.max-first.result ≤ c.gap_from-gap.result.first) ⊎ (c.max-first.result ≤ c.in-Some.hole.first) = elim (cases_lt c.gap_from-gap.result.first c.in-Some.hole.first) [
      | inl l ↦ inr (omega arith)
      | inr g ↦ inl (omega arith)
    ] in
    let lasts : (c.gap_from-gap.result.last ≤ c.min-last.result) ⊎ (c.in-Some.hole.last ≤ c.min-last.result) = elim (cases_lt c.gap_from-gap.result.last c.in-Some.hole.last) [
      | inl l ↦ inl (omega arith)
      | inr g ↦ inr (omega arith)
    ] in
    let step : IsStep (has_one c.args.self.now c.args.low.now) c.loop-hole.from c.max-first.result c.min-last.result =
    IsStep-of c.args.self.now c.args.low.now c.loop-hole.from c.max-first.result c.min-last.result c.in-Some.hole c.gap_from-gap.result is.in_range c.in-Some.ensures c.gap_from-gap.ensures ((omega arith, omega arith), firsts) ((omega arith, omega arith), lasts) in
    let full = c.if-len-ge-MAX_HOLES.true in
    let len = c.len.ensures in
    Merged-many c.args.self.now c.args.low.now c.loop-hole.holes.items c.loop-hole.from c.max-first.result c.min-last.result c.loop-hole.invariant.0 step c.if-first-last.true (omega arith) is.in_range c.requires
