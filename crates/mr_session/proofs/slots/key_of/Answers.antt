use Rattle.std.proofs.Common.{ap, inl, inr, ◌∙◌, refl, arith}
use Rattle.slab.proofs.SlabLemmas.{Contains-cons, Contains-cons_cases, Contains-entries}
use Rattle.mr_session.proofs.slots.key_of.Goals as goal

pub loop-key-init : goal.loop-key-init
loop-key-init g c =
    let left = c.into_iter-key-iterator.ensures.into_iter_gives ∙ c.iter-key-items.ensures.rest in (
      tt,
      tt,
      λ key entry found is. rw left ((Contains-entries c.args.slots.now key entry).1 found),
      λ key entry there. (Contains-entries c.args.slots.now key entry).0 (rw left at there),
    )

pub loop-key-preserved : goal.loop-key-preserved
loop-key-preserved g c =
    let at = c.in-Some.ensures.steps in (
      tt,
      tt,
      λ key entry found is. elim (Contains-cons_cases _ _ _ (rw at at (c.loop-key.invariant.2 key entry found is))) [
        | inl same ↦ elim (c.if-entry-number.false (ap (λ e. e.1.number) same ∙ is)) [ ]
        | inr rest ↦ rest
      ],
      λ key entry there. c.loop-key.invariant.3 key entry (rw at (Contains-cons _ _ _ there)),
    )

pub returns-then-entry-number-clause-found : goal.returns-then-entry-number-clause-found
returns-then-entry-number-clause-found g c =
    let at = c.in-Some.ensures.steps in
    (c.in-Some.entry.now, c.loop-key.invariant.3 c.in-Some.key c.in-Some.entry.now (rw at (0, omega arith, refl)), c.if-entry-number.true)
