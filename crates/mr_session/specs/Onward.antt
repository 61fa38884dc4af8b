-- how a stream goes on once a record was given that it had prepared
use Rattle.std.specs.Prelude.{ℕ, ◌+◌, Bool, true, false, if◌then◌else◌, List, [], ◌∷◌, Option, Some, None}
use Rattle.std.specs.Option.{option_map}
use Rattle.mr_session.specs.declared.outgoing.onward.Onward.{Onward}
use Rattle.mr_session.specs.declared.outgoing.onward.Onward.TheVariants as onward
use Rattle.mr_session.specs.Stream.{Stream}
use Rattle.mr_session.specs.Table.{Table, open_at, with_closed, with_changed}

-- all but the first
abbrev pub behind_first : {A : Type 0} → List A → List A
behind_first [] = []
behind_first (x ∷ xs) = xs

-- what is left of the stream, but for the index
abbrev pub moved : Onward → Stream → Stream
moved onward.Same s = s
moved (onward.Past version) s = record s { past = Some version }
moved (onward.Held vectors) s = record s { held = Some vectors.items }
moved onward.BehindHeld s = record s { held = option_map behind_first s.held }
moved onward.BehindKnow s = record s { know = behind_first s.know }
moved onward.Closed s = s

-- the stream once its record was given
abbrev pub after_given : Onward → Stream → Stream
after_given way s = record (moved way s) { next = s.next + 1 }

-- whether it was the stream's last record
abbrev pub is_last : Onward → Bool
is_last onward.Closed = true
is_last way = false

-- the table once the stream has gone on
abbrev pub gone_on : Option Stream → (number : ℕ) → Onward → Table Stream → Table Stream
gone_on None number way table = table
gone_on (Some s) number way table = if is_last way then with_closed table number else with_changed number (λ _. after_given way s) table

-- the table once the stream of this number has gone on: it is closed with its last record
abbrev pub advanced : (number : ℕ) → Onward → Table Stream → Table Stream
advanced number way table = gone_on (open_at table number) number way table
