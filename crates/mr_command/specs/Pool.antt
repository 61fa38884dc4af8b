-- the pools of a world, as scripts name them
use Rattle.std.specs.Prelude.{ℕ}
use Rattle.mr_command.specs.declared.pool.Pool.{Pool}
use Rattle.mr_command.specs.declared.pool.Pool.TheVariants.{Asks, Records, Receipts}

-- the letter before a frame's number: Q, P and R
abbrev pub letter_of : Pool → ℕ
letter_of Asks = 81
letter_of Records = 80
letter_of Receipts = 82
