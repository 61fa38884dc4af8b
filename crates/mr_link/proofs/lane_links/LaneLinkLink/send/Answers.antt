use Rattle.std.proofs.Common.{◌≡◌, ℕ, ap, refl, subst, sym, ◌∙◌}
use Rattle.mr_link.proofs.Names.{Chunk, HandsBack, LaneEnd, TapEnd, Vec, false≢true}
use Rattle.mr_lane.specs.declared.fault.SendFault.{SendFault}
use Rattle.mr_lane.specs.declared.fault.SendFault.TheVariants.{Full}
use Rattle.mr_link.proofs.LaneBytes.{piece_offered, none_offered, same_end, some_bytes}
use Rattle.mr_link.proofs.lane_links.LaneLinkLink.send.Goals as goal

-- what comes back of a full lane is what was offered
back_same : (spout : TapEnd Chunk) (piece back : Chunk) (fault : SendFault Chunk) → fault ≡ Full back → HandsBack spout piece fault → back ≡ piece
back_same spout piece back fault is h = let full : HandsBack spout piece (Full back) = subst (λ (f : SendFault Chunk). HandsBack spout piece f) is h in full.0

pub loop-preserved : goal.loop-preserved
loop-preserved g c =
    let l = c.self-in-loop.inside in (
      none_offered l.spout l.tap c.offer.new.self l.downs l.has_hung_up c.args.self.now (c.self-in-loop.view_is ∙ c.loop.invariant.0) c.in-Err-Full.ensures.err.0,
      ap (λ (v : Chunk). v.bytes.items) (back_same l.spout c.chunk_of.result c.in-Err-Full.back c.in-Err-Full.field-0 c.in-Err-Full.field-0-is c.in-Err-Full.ensures.err.1) ∙ ap (λ (v : Vec ℕ). v.items) c.chunk_of.ensures
          ∙ c.loop.invariant.1,
    )

pub returns-in-Ok-offer : goal.returns-in-Ok-offer
returns-in-Ok-offer g c =
    let l = c.self-in-loop.inside in
    let is = c.self-in-loop.view_is ∙ c.loop.invariant.0 in
    record {
      ended = λ hung_up. absurd (false≢true (sym c.if-is_hung_up.false ∙ c.is_hung_up.ensures (ap (λ (e : LaneEnd). e.tells.hung_up) c.loop.invariant.0 ∙ hung_up)));
      sends = piece_offered l.spout l.tap c.offer.new.self l.downs l.has_hung_up c.args.self.now c.chunk_of.result c.args.bytes.now is c.in-Ok-offer.ensures.ok.1 (ap (λ (v : Vec ℕ). v.items) c.chunk_of.ensures ∙ c.loop.invariant.1);
      same = same_end l.spout l.tap c.offer.new.self l.tap l.downs l.has_hung_up c.args.self.now is c.in-Ok-offer.ensures.id refl;
    }

pub chunk_of-requires : goal.chunk_of-requires
chunk_of-requires g c = some_bytes c.loop.piece.items c.args.bytes.now c.is_empty.result c.loop.invariant.1 c.is_empty.ensures c.if-is_empty.false
