use Rattle.std.proofs.Common.{◌≡◌, ◌++◌, ◌+◌, take}
use Rattle.std.specs.VecDeque.{deque_len, deque_capacity}
use Rattle.mr_feed.proofs.plain_port.append_copies.Given as goal

-- the entries up to here are appended
abbrev pub invariant-loop-entry : goal.invariant-loop-entry
invariant-loop-entry l =
    (l.waiting.items ≡ l.fn.waiting.items ++ take l.entry-index l.entries)
    × (deque_len l.waiting ≡ deque_len l.fn.waiting + l.entry-index)
    × (deque_capacity l.waiting ≡ deque_capacity l.fn.waiting)
