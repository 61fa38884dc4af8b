use Rattle.std.proofs.Common.{◌≡◌, ◌≤◌, ◌*◌, take}
use Rattle.mr_wire.specs.Encoding.{longest_fragment, total_len}
use Rattle.mr_wire.proofs.frame.Ask.fragments_len.Given as goal

abbrev pub invariant-loop-fragment : goal.invariant-loop-fragment
invariant-loop-fragment l = record { exact : l.len ≡ total_len (take l.fragment-index l.fragment-items); most : l.len ≤ longest_fragment * l.fragment-index }
