use Rattle.std.proofs.Common.{Err, subst, sym, ◌∙◌}
use Rattle.mr_link.proofs.Names.{Hands, ReadsPiece, Wire, wire_of}
use Rattle.mr_link.proofs.Reading.{wired, has_not_failed, hands_up, held_read, piece_read, piece_lost}
use Rattle.mr_link.proofs.wire.Wire.receive.Goals as goal

pub feed-requires : goal.feed-requires
feed-requires g c = record { reader = has_not_failed c.args.self.now.reader c.args.self.now.held c.requires.unread; held = c.take.ensures.after }

pub returns-in-Some-clause-reads : goal.returns-in-Some-clause-reads
returns-in-Some-clause-reads g c =
    let w = c.args.self.now in
    held_read g.L.Link.tells w.link w.reader w.held c.in-Some.piece c.feed.result c.feed.new.self (has_not_failed w.reader w.held c.requires.unread) (sym c.take.ensures.value ∙ c.in-Some.is)
    (subst (λ held. let mid : Wire g.row.L.Denot = record { link = w.link; reader = w.reader; held = held } in Hands mid c.in-Some.piece c.feed.result c.feed.new.self) c.take.ensures.after c.feed.ensures)

pub feed-requires-in-Ok : goal.feed-requires-in-Ok
feed-requires-in-Ok g c = record { reader = has_not_failed c.args.self.now.reader c.args.self.now.held c.requires.unread; held = c.take.ensures.after }

pub returns-in-Ok-clause-reads : goal.returns-in-Ok-clause-reads
returns-in-Ok-clause-reads g c =
    let w = c.args.self.now in
    piece_read g.L.Link.tells w.link c.receive.new.self w.reader w.held c.in-Ok.piece c.feed-in-Ok.result c.feed-in-Ok.new.self (has_not_failed w.reader w.held c.requires.unread) (sym c.take.ensures.value ∙ c.in-None.is) c.in-Ok.ensures.receives
    (subst (λ held. let mid : Wire g.row.L.Denot = record { link = c.receive.new.self; reader = w.reader; held = held } in Hands mid c.in-Ok.piece c.feed-in-Ok.result c.feed-in-Ok.new.self) c.take.ensures.after c.feed-in-Ok.ensures)

pub returns-in-Err-clause-reads : goal.returns-in-Err-clause-reads
returns-in-Err-clause-reads g c =
    let w = c.args.self.now in
    let tells = g.L.Link.tells in
    let none = (sym c.take.ensures.value ∙ c.in-None.is) ∙ sym c.take.ensures.after in
    subst (λ held. ReadsPiece (wire_of tells w) (Err c.snag_of_link.result) (wired tells c.receive.new.self w.reader held)) none
    (subst (λ s. ReadsPiece (wire_of tells w) (Err s) (wired tells c.receive.new.self w.reader w.held)) (sym c.snag_of_link.ensures)
    (piece_lost tells w.link c.receive.new.self w.reader w.held c.in-Err.fault (has_not_failed w.reader w.held c.requires.unread) c.in-Err.ensures.receives))

pub returns-in-Some-clause-down : goal.returns-in-Some-clause-down
returns-in-Some-clause-down g c = λ down.
    let w = c.args.self.now in
    let mid : Wire g.row.L.Denot = record { link = w.link; reader = w.reader; held = c.take.new.self } in
    absurd (hands_up mid c.in-Some.piece c.feed.result c.feed.new.self c.feed.ensures down)

pub returns-in-Ok-clause-down : goal.returns-in-Ok-clause-down
returns-in-Ok-clause-down g c = λ down.
    let w = c.args.self.now in
    let mid : Wire g.row.L.Denot = record { link = c.receive.new.self; reader = w.reader; held = c.take.new.self } in
    absurd (hands_up mid c.in-Ok.piece c.feed-in-Ok.result c.feed-in-Ok.new.self c.feed-in-Ok.ensures down)
