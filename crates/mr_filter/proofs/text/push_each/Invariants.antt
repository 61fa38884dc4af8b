use Rattle.std.proofs.Common.{◌≡◌, ◌++◌, take, string_bytes}
use Rattle.mr_filter.proofs.Names.{flat_map, texts_of}
use Rattle.mr_filter.proofs.text.push_each.Given as goal

abbrev pub invariant-loop-part : goal.invariant-loop-part
invariant-loop-part l = string_bytes l.text ≡ string_bytes l.fn.text ++ flat_map (λ part. l.separator ++ part) (texts_of (take l.part-index l.more))
