use Rattle.mr_talk.specs.inner.Packed.{AreDigits}
use Rattle.mr_talk.proofs.packing.digit_count.Given as goal

abbrev pub invariant-loop-at : goal.invariant-loop-at
invariant-loop-at l = AreDigits l.at l.text
