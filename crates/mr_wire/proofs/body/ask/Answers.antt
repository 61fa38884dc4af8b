use Rattle.mr_wire.proofs.BodyLemmas.{if_question, stands_ask}
use Rattle.mr_wire.proofs.body.ask.Goals as goal

pub ask_of-requires : goal.ask_of-requires
ask_of-requires c =
    if_question c.args.input.now c.author.new.self c.serial.new.input c.filter.new.input c.u32.new.self c.fragments.new.input c.in_ok-target.target c.in_ok-session.session c.in_ok-count.count c.in_ok-target.ensures c.in_ok-session.ensures
    c.in_ok-filter.filter c.in_ok-filter.ensures c.in_ok-count.ensures c.in_ok-fragments.fragments c.in_ok-fragments.ensures

pub returns : goal.returns
returns c =
    stands_ask c.args.input.now c.author.new.self c.serial.new.input c.filter.new.input c.u32.new.self c.fragments.new.input c.in_ok-target.target c.in_ok-session.session c.in_ok-count.count c.in_ok-target.ensures c.in_ok-session.ensures
    c.in_ok-filter.filter c.in_ok-filter.ensures c.in_ok-count.ensures c.in_ok-fragments.fragments c.in_ok-fragments.ensures c.ask_of.result c.ask_of.ensures
