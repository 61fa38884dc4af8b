use Rattle.std.proofs.Common.{refl}
use Rattle.mr_wire.specs.declared.frame.Frame.TheVariants as frame
use Rattle.mr_wire.proofs.BodyLemmas.{stands_as, frame_of_record}
use Rattle.mr_wire.proofs.body.frame.Goals as goal

pub returns-in_ok-kept-in-Ask : goal.returns-in_ok-kept-in-Ask
returns-in_ok-kept-in-Ask c = rw c.in-Ask.is (stands_as frame.Ask c.map.result c.in_ok-kept-in-Ask.ensures c.map.ensures.cases)

pub returns-in_ok-kept-in-Receipt : goal.returns-in_ok-kept-in-Receipt
returns-in_ok-kept-in-Receipt c = rw c.in-Receipt.is (stands_as frame.Receipt c.map-in-Receipt.result c.in_ok-kept-in-Receipt.ensures c.map-in-Receipt.ensures.cases)

pub returns-in_ok-kept-in_default : goal.returns-in_ok-kept-in_default
returns-in_ok-kept-in_default c = rw (frame_of_record c.args.kind c.in_default.not-Ask c.in_default.not-Receipt) (stands_as frame.Record c.map-in_default.result c.in_ok-kept-in_default.ensures c.map-in_default.ensures.cases)

pub returns-in_err-kept-in-Ask : goal.returns-in_err-kept-in-Ask
returns-in_err-kept-in-Ask c = rw (c.from_residual.ensures, c.in-Ask.is, c.in_err-kept-in-Ask.ensures) refl

pub returns-in_err-kept-in-Receipt : goal.returns-in_err-kept-in-Receipt
returns-in_err-kept-in-Receipt c = rw (c.from_residual-in_err-kept-in-Receipt.ensures, c.in-Receipt.is, c.in_err-kept-in-Receipt.ensures) refl

pub returns-in_err-kept-in_default : goal.returns-in_err-kept-in_default
returns-in_err-kept-in_default c = rw (c.from_residual-in_err-kept-in_default.ensures, frame_of_record c.args.kind c.in_default.not-Ask c.in_default.not-Receipt, c.in_err-kept-in_default.ensures) refl
