use Rattle.std.proofs.Common.{◌∙◌, refl}
use Rattle.mr_link.proofs.LaneBytes.{piece_taken, same_end}
use Rattle.mr_link.proofs.lane_links.LaneLinkLink.receive.Goals as goal

pub returns-in-Item : goal.returns-in-Item
returns-in-Item g c =
    let l = c.self-in-loop.inside in
    let is = c.self-in-loop.view_is ∙ c.loop.invariant in
    record {
      receives = piece_taken l.spout l.tap c.take.new.self l.downs l.has_hung_up c.args.self.now c.in-Item.piece is c.in-Item.ensures.drawn.1;
      some = c.in-Item.piece.some;
      same = same_end l.spout l.tap l.spout c.take.new.self l.downs l.has_hung_up c.args.self.now is refl c.in-Item.ensures.id;
    }
