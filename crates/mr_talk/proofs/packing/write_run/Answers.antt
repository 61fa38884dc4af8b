use Rattle.std.proofs.Common.{ℕ, List, ◌+◌, ◌++◌, ap, refl, take, ◌∙◌}
use Rattle.mr_talk.proofs.PackedLaws.{writes_copy, writes_digits, writes_literal, writes_move}
use Rattle.mr_talk.proofs.packing.write_run.Goals as goal

pub returns-in_ok-push-in-Copy : goal.returns-in_ok-push-in-Copy
returns-in_ok-push-in-Copy c = writes_copy c.args.run c.in-Copy.count c.args.rest.now c.args.packed.now.items c.push.new.self.items c.in-Copy.is c.requires c.in_ok-push-in-Copy.ensures.items

pub returns-in_ok-extend_from_slice-in-Literal : goal.returns-in_ok-extend_from_slice-in-Literal
returns-in_ok-extend_from_slice-in-Literal c =
    writes_literal c.args.run c.in-Literal.count (63 + c.in-Literal.count) c.args.rest.now _ c.args.packed.now.items c.extend_from_slice.new.self.items c.in-Literal.is c.requires refl refl
    (c.in_ok-extend_from_slice-in-Literal.ensures.items ∙ ap (λ (l : List ℕ). l ++ take c.in-Literal.count c.args.rest.now) c.in_ok-push-in-Literal.ensures.items)

pub returns-in_ok-write_pairs-in-Digits : goal.returns-in_ok-write_pairs-in-Digits
returns-in_ok-write_pairs-in-Digits c =
    let wrote = c.in_ok-write_pairs-in-Digits.ensures in
    writes_digits c.args.run c.in-Digits.count (127 + c.in-Digits.count) c.args.rest.now wrote.0 c.args.packed.now.items c.write_pairs.new.packed.items c.in-Digits.is c.requires refl wrote.1
    (wrote.2 ∙ ap (λ (l : List ℕ). l ++ wrote.0) c.in_ok-push-in-Digits.ensures.items)

pub returns-in_ok-push-in-Move : goal.returns-in_ok-push-in-Move
returns-in_ok-push-in-Move c = writes_move c.args.run c.in-Move.step (192 + c.in-Move.step) c.args.rest.now c.args.packed.now.items c.push-in-Move.new.self.items c.in-Move.is c.requires refl c.in_ok-push-in-Move.ensures.items
