use Rattle.std.proofs.Common.{◌≡◌, ◌*◌, length}
use Rattle.mr_sync.specs.inner.Lists.{TakesFront}
use Rattle.mr_sync.proofs.lists.digest_list.Given as goal

abbrev pub invariant-loop : goal.invariant-loop
invariant-loop l = record { front : TakesFront l.counter l.fn.lacking.keys l.out.items l.lacking.keys; long : length l.out.items ≡ 32 * l.counter }
