-- for how many mails what was done, over two settlings
use Rattle.std.specs.Prelude.{ℕ, ◌+◌, ◌-◌, ◌^◌, min}
use Rattle.mr_compare.specs.declared.tally.Tally.{Tally}

-- a sum that stays below 2^64
abbrev pub sum_of : ℕ → ℕ → ℕ
sum_of a b = min (a + b) (2 ^ 64 - 1)

-- nothing was done
abbrev pub nothing : Tally
nothing = record { new = 0; changed = 0; deleted = 0; shown = 0; removed = 0 }

-- what was done by both
abbrev pub joined : Tally → Tally → Tally
joined a b = record {
  new = sum_of a.new b.new;
  changed = sum_of a.changed b.changed;
  deleted = sum_of a.deleted b.deleted;
  shown = sum_of a.shown b.shown;
  removed = sum_of a.removed b.removed;
}
