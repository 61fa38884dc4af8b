use Rattle.mr_mail.proofs.FlagLemmas.{bit_or-bit_of, flags_alike}
use Rattle.mr_mail.proofs.flags.Flags.with.Goals as goal

pub invariant_of-result : goal.invariant_of-result
invariant_of-result c = rw c.bit.ensures (bit_or-bit_of _ _ c.self.invariant)

pub returns-clause-only : goal.returns-clause-only
returns-clause-only c bits within alike =
    flags_alike bits _ within (rw c.bit.ensures (bit_or-bit_of _ _ c.self.invariant)) alike
