use Rattle.std.proofs.Common.{◌≡◌, ◌&&◌, take, sym, ap, ◌∙◌, Option, Some, is_none}
use Rattle.mr_replica.proofs.Names.{Name, NotHeld, Rev, are_all_of, item_of_held, name_eq, option_map, option_map_or}
use Rattle.mr_concise.proofs.NameLemmas.{name_eq_parts}
use Rattle.mr_replica.specs.State.{held}
use Rattle.mr_replica.proofs.Choice.{find_here, find_none_more, list_all-take_more}
use Rattle.mr_replica.proofs.replica.Core.are_all_of.Goals as goal

pub returns-in_default : goal.returns-in_default
returns-in_default g c =
    let s = c.args.self.now in
    let v = c.base-item.result in
    ap (option_map NotHeld) (find_here (λ (v : Name). is_none (held s v)) c.args.bases.now c.loop-base.base-index v c.loop-base-test.true c.base-item.is c.loop-base.invariant.held (ap is_none (sym c.in_default.ensures)))

pub loop-base-preserved : goal.loop-base-preserved
loop-base-preserved g c =
    let s = c.args.self.now in
    let v = c.base-item.result in
    let k = c.loop-base.base-index in
    let bases = c.args.bases.now in
    let is : c.in-Some.revision.now.item ≡ item_of_held s v = ap (λ (o : Option Rev). option_map_or (λ r. r.item) o v) c.in-Some.ensures in
    let one : c.eq-same.result ≡ name_eq (item_of_held s v) c.args.item =
    c.eq-same.ensures ∙ sym (name_eq_parts c.item.result c.args.item) ∙ ap (λ (n : Name). name_eq n c.args.item) (c.item.ensures ∙ is) in
    let found : Some c.in-Some.revision.now ≡ held s v = c.in-Some.ensures in
    record {
      held = find_none_more (λ (v : Name). is_none (held s v)) bases k v c.loop-base-test.true c.base-item.is c.loop-base.invariant.held (ap is_none (sym found));
      same = ap (λ b. b && c.eq-same.result) c.loop-base.invariant.same ∙ ap (λ b. are_all_of s c.args.item (take k bases) && b) one ∙ sym (list_all-take_more (λ (v : Name). name_eq (item_of_held s v) c.args.item) bases k v c.loop-base-test.true c.base-item.is);
    }
