use Rattle.mr_audit.proofs.BeginningLemmas.{all_earlier, begin_as, named_fewer, put_back_begins, still_distinct}
use Rattle.mr_audit.proofs.beginnings.explained_beginnings.Goals as goal

pub loop-starts-init : goal.loop-starts-init
loop-starts-init g c = record {
  beginnings = begin_as g.K.Knowledge.form c.deref.result.now c.args.ends.items c.deref.ensures.value c.look_at_logs.ensures;
  distinct = c.requires.distinct;
}

pub loop-starts-preserved : goal.loop-starts-preserved
loop-starts-preserved g c =
    let back = put_back_begins g.K.Knowledge.form c.in-Unexplained.replica _ c.loop-starts.starts.items c.in_ok-starts-in-Unexplained.starts.items c.in_ok-starts-in-Unexplained.ensures in
    record {
      beginnings = all_earlier g.K.Knowledge.form c.args.ends.items c.loop-starts.starts.items c.in_ok-starts-in-Unexplained.starts.items c.loop-starts.invariant.beginnings back;
      distinct = still_distinct g.K.Knowledge.form c.loop-starts.starts.items c.in_ok-starts-in-Unexplained.starts.items c.loop-starts.invariant.distinct back;
    }

pub loop-starts-smaller : goal.loop-starts-smaller
loop-starts-smaller g c =
    named_fewer g.K.Knowledge.form c.deref-in-loop-starts.result.now c.loop-starts.starts.items c.in_ok-starts-in-Unexplained.starts.items c.in_ok-audit.field-0 c.in-Unexplained.replica c.in-Unexplained.event
    c.deref-in-loop-starts.ensures.value c.in_ok-audit.ensures.verdict c.in-Unexplained.is c.in_ok-starts-in-Unexplained.ensures
