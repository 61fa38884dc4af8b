use Rattle.mr_wire.proofs.BodyLemmas.{stands_receipt}
use Rattle.mr_wire.proofs.body.receipt.Goals as goal

pub returns : goal.returns
returns c = stands_receipt c.args.input.now c.author.new.self c.descent.new.input c.in_ok-giver.giver c.in_ok-descent.descent _ c.receipt_of.result c.in_ok-giver.ensures c.in_ok-descent.ensures c.receipt_of.ensures
