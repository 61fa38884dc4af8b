use Rattle.std.proofs.Common.{ap, refl}
use Rattle.mr_threads.proofs.Saying.{posts_none, posts_one}
use Rattle.mr_threads.proofs.talk.Talk.say.Goals as goal

pub returns-then-is_err-clause-in_turn : goal.returns-then-is_err-clause-in_turn
returns-then-is_err-clause-in_turn g c = posts_none c.args.self.now (record { post = c.args.self.now.post; tap = c.args.self.now.tap; replies = c.reserve.new.self }) refl refl

pub returns-in_default-clause-in_turn : goal.returns-in_default-clause-in_turn
returns-in_default-clause-in_turn g c =
    posts_one c.args.self.now (record { post = c.send.new.post; tap = c.take.new.tap; replies = c.reserve.new.self }) c.args.letter c.send.ensures (ap (λ e. e.passed) c.in_default.ensures.none)
