use Rattle.std.proofs.Common.{◌≡◌, Option, Some, Result, Ok, subst}
use Rattle.mr_talk.proofs.Names.{MessageFault, Nexts, Said}
use Rattle.mr_talk.proofs.LineLaws.{receive_gives, same_self}
use Rattle.mr_talk.proofs.line.receive_from.Goals as goal

pub loop-init : goal.loop-init
loop-init g c = same_self _

pub returns-in-Ok-Some : goal.returns-in-Ok-Some
returns-in-Ok-Some g c =
    let e : c.next_message.result ≡ Ok (Some c.in-Ok-Some.message) = cc in
    receive_gives _ c.loop.reader c.next_message.new.self _ c.in-Ok-Some.message c.loop.invariant
    (subst (λ (r : Result (Option Said) MessageFault). Nexts c.loop.reader r c.next_message.new.self) e c.next_message.ensures.exact)
