use Rattle.std.proofs.Common.{◌≡◌, ◌++◌, map, take}
use Rattle.mr_filter.proofs.Names.{flag_name, texts_of}
use Rattle.mr_filter.proofs.text.push_flags.Given as goal

abbrev pub invariant-loop-flag : goal.invariant-loop-flag
invariant-loop-flag l = texts_of l.texts.items ≡ texts_of l.fn.texts.items ++ map (λ flag. l.prefix ++ flag_name flag) (take l.flag-index l.flag-items)
