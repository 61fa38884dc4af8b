use Rattle.std.proofs.Common.{◌≡◌, ◌∙◌, ap, arith}
use Rattle.std.specs.Prelude.{filter}
use Rattle.std.specs.List.{range_with_len}
use Rattle.mr_version.specs.declared.author.TheConstants.{AUTHORS}
use Rattle.mr_audit.specs.Peers.{is_missing}
use Rattle.mr_audit.proofs.PeersLemmas.{one_tried}
use Rattle.mr_audit.proofs.peers.missing_peers.Goals as goal

pub loop-id-preserved : goal.loop-id-preserved
loop-id-preserved g c = one_tried (is_missing c.args.ends.now) c.loop-id.id c.author_of.result c.loop-id.peers.items _ c.author_of.ensures c.loop-id.invariant c.in_ok-push_if_missing.ensures

pub returns : goal.returns
returns g c =
    let last : c.loop-id.id ≡ AUTHORS = omega (arith, c.loop-id-test.false, c.loop-id.auto) in
    c.loop-id.invariant ∙ ap (λ n. filter (is_missing c.args.ends.now) (range_with_len 0 n)) last
