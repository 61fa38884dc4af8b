use Rattle.std.proofs.Common.{◌≡◌, ◌+◌, ◌<◌, false, List, length, arith, rules, tests, Some, refl, subst}
use Rattle.std.proofs.lemmas.Option.{slice_get_read}
use Rattle.mr_node.proofs.Names.{Name, slice_get, wire_of}
use Rattle.mr_node.specs.declared.turn.Turn.TheVariants as turn
use Rattle.mr_node.proofs.Moving.{serve_so, redeem_so, grant_so, reads_so}
use Rattle.mr_node.proofs.Letting.{serve_let, redeem_let}
use Rattle.mr_node.proofs.next_move.next_move.Goals as goal

pub returns-then-progress-eq0-2-clause-moves : goal.returns-then-progress-eq0-2-clause-moves
returns-then-progress-eq0-2-clause-moves g c = λ xs at.
    let guard = c.args.guard.now in
    let may = g.G.Gate.closes guard.gate.now guard.link (guard.posted + 1) in
    serve_so may c.args.turn.now xs c.args.progress c.fetch_request.result (wire_of g.L.Link.tells c.args.wire.now) (wire_of g.L.Link.tells c.fetch_request.new.wire) c.in-Serve.is at c.if-progress-2.false c.if-progress-eq0-2.true (c.fetch_request.ensures may)

pub returns-else-progress-count-clause-moves : goal.returns-else-progress-count-clause-moves
returns-else-progress-count-clause-moves g c = λ xs at.
    let guard = c.args.guard.now in
    let may = g.G.Gate.closes guard.gate.now guard.link (guard.posted + 1) in
    redeem_so may c.args.turn.now c.in-Redeem.count xs c.args.progress c.fetch_receipt.result (wire_of g.L.Link.tells c.args.wire.now) (wire_of g.L.Link.tells c.fetch_receipt.new.wire) c.in-Redeem.is at c.if-progress-count.false (c.fetch_receipt.ensures may)

pub returns-then-progress-eq0-2-clause-reads : goal.returns-then-progress-eq0-2-clause-reads
returns-then-progress-eq0-2-clause-reads g c = reads_so false turn.Serve c.fetch_request.result (wire_of g.L.Link.tells c.args.wire.now) (wire_of g.L.Link.tells c.fetch_request.new.wire) (c.fetch_request.ensures false)

pub returns-else-progress-count-clause-reads : goal.returns-else-progress-count-clause-reads
returns-else-progress-count-clause-reads g c = reads_so false (turn.Redeem c.in-Redeem.count) c.fetch_receipt.result (wire_of g.L.Link.tells c.args.wire.now) (wire_of g.L.Link.tells c.fetch_receipt.new.wire) (c.fetch_receipt.ensures false)

pub returns-in-Some-clause-moves : goal.returns-in-Some-clause-moves
returns-in-Some-clause-moves g c = λ xs at.
    let guard = c.args.guard.now in
    let may = g.G.Gate.closes guard.gate.now guard.link (guard.posted + 1) in
    let found = c.in-Some.ensures.lookup in
    let listed = c.deref.ensures.value in
    let counted = c.len.ensures in
    let apart = c.if-progress-len.false in
    let versions = c.in-Grant.versions.items in
    let within : c.args.progress.said < length c.deref.result.now = search (rules, tests) in
    let there : slice_get versions c.args.progress.said ≡ Some c.in-Some.version.now =
    subst (λ (l : List Name). slice_get l c.args.progress.said ≡ Some c.in-Some.version.now) listed
    (slice_get_read c.deref.result.now (length c.deref.result.now) c.args.progress.said c.in-Some.version.now refl within (search rules)) in
    grant_so may c.args.turn.now c.in-Grant.versions c.in-Some.version.now xs c.args.progress (wire_of g.L.Link.tells c.args.wire.now) c.in-Grant.is at (λ e. let sized = c.in-Grant.versions.ok.0 in apart (omega (arith, e, counted, sized))) there c.requires.unread

pub returns-then-progress-eq0-2-clause-let_pass : goal.returns-then-progress-eq0-2-clause-let_pass
returns-then-progress-eq0-2-clause-let_pass g c =
    let guard = c.args.guard.now in
    serve_let (g.G.Gate.has_let guard.gate.now guard.link (guard.posted + 1)) false (wire_of g.L.Link.tells c.args.wire.now) (wire_of g.L.Link.tells c.fetch_request.new.wire) c.fetch_request.result (c.fetch_request.ensures false)

pub returns-else-progress-count-clause-let_pass : goal.returns-else-progress-count-clause-let_pass
returns-else-progress-count-clause-let_pass g c =
    let guard = c.args.guard.now in
    redeem_let (g.G.Gate.has_let guard.gate.now guard.link (guard.posted + 1)) false c.in-Redeem.count (wire_of g.L.Link.tells c.args.wire.now) (wire_of g.L.Link.tells c.fetch_receipt.new.wire) c.fetch_receipt.result (c.fetch_receipt.ensures false)
