use Rattle.std.proofs.Common.{ℕ, List, ◌++◌, ap, ◌∙◌}
use Rattle.mr_talk.proofs.Names.{flat_map, rest_tokens, token_bytes}
use Rattle.mr_talk.proofs.PackedLaws.{plain_tells}
use Rattle.mr_talk.proofs.packing.plain_frame.Goals as goal

pub returns-clause-tells : goal.returns-clause-tells
returns-clause-tells c = λ before.
    plain_tells before c.args.frame.now c.write_rest.new.packed.items c.requires
    (c.in_ok-write_rest.ensures ∙ ap (λ (l : List ℕ). l ++ flat_map token_bytes (rest_tokens c.args.frame.now)) c.in_ok-packed.ensures.items)
