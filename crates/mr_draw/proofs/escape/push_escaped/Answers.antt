use Rattle.std.proofs.Common.{◌++◌, flat_map, sym, ap, ◌∙◌, map-id, string_bytes}
use Rattle.mr_draw.proofs.Names.{YieldsList-from_chars, entity}
use Rattle.std.proofs.lemmas.Iterator.Consumers.{YieldsList-end}
use Rattle.mr_draw.proofs.escape.push_escaped.Goals as goal

pub returns : goal.returns
returns c =
    let end = YieldsList-end (YieldsList-from_chars c.args.text.now c.utf8.text cc) c.loop-character.yielded _ c.loop-character.yielded_by _ _ c.in-None.is c.next.ensures.steps in
    c.loop-character.invariant ∙ ap (λ cs. string_bytes c.args.svg.now ++ flat_map entity cs) (sym (map-id c.loop-character.yielded) ∙ end.0)
