use Rattle.std.proofs.Common.{sym, ◌∙◌}
use Rattle.mr_wire.proofs.BodyLemmas.{if_sent, stands_record}
use Rattle.mr_wire.proofs.body.record.Goals as goal

pub record_of-requires : goal.record_of-requires
record_of-requires c =
    if_sent c.args.kind c.args.input.now c.header.new.input c.record_body.new.input c.in_ok-header.header c.in_ok-header.ensures (sym c.index_may_be.ensures ∙ c.if-not-index_may_be.false) c.in_ok-body.body _ c.in_ok-body.ensures

pub returns : goal.returns
returns c =
    stands_record c.args.kind c.args.input.now c.header.new.input c.record_body.new.input c.in_ok-header.header c.in_ok-header.ensures (sym c.index_may_be.ensures ∙ c.if-not-index_may_be.false) c.in_ok-body.body _ c.in_ok-body.ensures
    c.record_of.result c.record_of.ensures
