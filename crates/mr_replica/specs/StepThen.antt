-- What a step answers, by what its callers are given of it.
use Rattle.std.specs.Prelude.{Result, Ok, Err}
use Rattle.mr_replica.specs.declared.event.Reply.{Reply}
use Rattle.mr_replica.specs.declared.refusal.Refusal.{Refusal}

-- the answer, without what was made of its reply
abbrev pub answer_of : {T : Type 0} → Result (Reply × T) Refusal → Result Reply Refusal
answer_of (Ok p) = Ok p.0
answer_of (Err e) = Err e

-- the answer, whose reply carries the value
abbrev pub answer_by : {V : Type 0} → (V → Reply) → Result V Refusal → Result Reply Refusal
answer_by reply (Ok v) = Ok (reply v)
answer_by reply (Err e) = Err e
