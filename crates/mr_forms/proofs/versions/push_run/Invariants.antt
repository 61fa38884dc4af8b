use Rattle.std.proofs.Common.{◌≡◌, ◌||◌, ◌&&◌, ◌==◌, nat_le, nat_lt}
use Rattle.mr_forms.proofs.Names.{Name, is_listed}
use Rattle.mr_forms.proofs.versions.push_run.Given as goal

-- the run up to here is listed
abbrev pub invariant-loop-counter : goal.invariant-loop-counter
invariant-loop-counter l = (v : Name) → is_listed l.versions.items v ≡ (((v.author == l.fn.run.author) && (nat_le l.fn.run.first v.counter && nat_lt v.counter l.counter)) || is_listed l.fn.versions.items v)
