use Rattle.std.proofs.Common.{◌≡◌, Some, refl, sym, ◌∙◌}
use Rattle.mr_replica.proofs.Names.{Item, MoveOut, told_by, told_line}
use Rattle.mr_replica.proofs.Preparing.{line_prepares, body_end_prepares}
use Rattle.mr_replica.proofs.replica.Core.prepare_taking.Goals as goal

pub returns-in-Item : goal.returns-in-Item
returns-in-Item g c =
    let body = c.args.sent.now.body in
    let is : body ≡ Item c.in-Item.revision = sym c.body.ensures ∙ c.in-Item.is in
    let told : told_line body ≡ Some (told_by c.item.result c.version.result body) = rw (is, c.item.ensures, c.version.ensures) refl in
    line_prepares g.K.Knowledge.form c.args.self.now c.args.sent.now.header body (told_by c.item.result c.version.result body) told c.prepare_line.result c.prepare_line.ensures

pub returns-in-MoveOut : goal.returns-in-MoveOut
returns-in-MoveOut g c =
    let body = c.args.sent.now.body in
    let is : body ≡ MoveOut c.in-MoveOut.descent = sym c.body.ensures ∙ c.in-MoveOut.is in
    let told : told_line body ≡ Some (told_by c.item-in-MoveOut.result c.version-in-MoveOut.result body) = rw (is, c.item-in-MoveOut.ensures, c.version-in-MoveOut.ensures) refl in
    line_prepares g.K.Knowledge.form c.args.self.now c.args.sent.now.header body (told_by c.item-in-MoveOut.result c.version-in-MoveOut.result body) told c.prepare_line-in-MoveOut.result c.prepare_line-in-MoveOut.ensures

pub returns-in-End : goal.returns-in-End
returns-in-End g c = body_end_prepares g.K.Knowledge.form c.args.self.now c.args.sent.now.header c.args.sent.now.body (sym c.body.ensures ∙ c.in-End.is) c.prepare_end.result c.prepare_end.ensures
