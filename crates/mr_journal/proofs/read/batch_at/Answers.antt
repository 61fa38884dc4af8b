use Rattle.std.proofs.Common.{◌≡◌, take, drop, refl, ◌∙◌, arith, length-drop}
use Rattle.mr_journal.proofs.ReadLemmas.{nothing_broken}
use Rattle.mr_journal.proofs.read.batch_at.Goals as goal

pub returns-in-Broken-clause-found : goal.returns-in-Broken-clause-found
returns-in-Broken-clause-found g c = λ told len.
    let file = g.D.Device.seen c.args.device.now in
    let rest = drop c.args.at file in
    let first_is : c.deref.result.now ≡ take c.min-count.result rest = c.deref.ensures.value ∙ c.in_ok-first.ensures.read told in
    (refl, nothing_broken c.deref.result.now rest c.min-count.result first_is (omega (arith, len, length-drop c.args.at file, c.min-count.ensures)) (omega (arith, c.min-count.ensures)) c.in-Broken.ensures.0 c.in-Broken.ensures.1)
