-- a sync: a session that is run to its end, to a number of records, or to a refusal
use Rattle.std.specs.Prelude.{◌≡◌, ◌<◌, ◌-◌, ◌^◌, ℕ, Bool, true, false, List, [], ◌∷◌, length, Result, Ok, Err, count_by, unwrap_or}
use Rattle.mr_forms.specs.Known.{Form}
use Rattle.mr_model.specs.History.{◌does◌}
use Rattle.mr_model.specs.declared.event.Act.TheVariants as act
use Rattle.mr_replica.specs.declared.event.Reply.TheVariants as reply
use Rattle.mr_replica.specs.declared.refusal.Refusal.{Refusal}
use Rattle.mr_wire.specs.declared.frame.Body.{Body}
use Rattle.mr_wire.specs.declared.frame.Body.TheVariants as body
use Rattle.mr_world.specs.Kept.{WorldView}
use Rattle.mr_world.specs.declared.answer.Answer.{Answer}
use Rattle.mr_world.specs.declared.answer.Answer.TheVariants.{Stepped}
use Rattle.mr_command.specs.declared.command.Sync.{Sync}
use Rattle.mr_command.specs.declared.fault.LineFault.{LineFault}
use Rattle.mr_command.specs.Reading.{gives}
use Rattle.mr_script.specs.declared.sync.Outcome.{Outcome}
use Rattle.mr_script.specs.declared.sync.Round.{Round}
use Rattle.mr_script.specs.declared.sync.Round.TheVariants.{Taken, Ended}
use Rattle.mr_script.specs.declared.sync.Told.{Told}
use Rattle.mr_script.specs.declared.sync.Told.TheVariants as told
use Rattle.mr_script.specs.declared.sync_line.SyncCounts.{SyncCounts}
use Rattle.mr_script.specs.declared.sync_line.SyncEnd.{SyncEnd}
use Rattle.mr_script.specs.declared.sync_line.SyncEnd.TheVariants.{Finished, Cut, Refused}
use Rattle.mr_script.specs.Doing.{Doing, looking, happens, says, ◌andthen◌}

-- ---- what the answers say

-- the session that a pull opened, or why it opened none
abbrev pub OpensSession : Answer → Result ℕ Refusal → Type 0
OpensSession (Stepped (Ok (reply.Asked ask))) opened = opened ≡ Ok ask.session
OpensSession (Stepped (Err refusal)) opened = opened ≡ Err refusal
OpensSession answer opened = ⊥

-- the stream that was opened, or why none was
abbrev pub OpensStream : Answer → Result ℕ Refusal → Type 0
OpensStream (Stepped (Ok (reply.Streaming stream))) opened = opened ≡ Ok stream
OpensStream (Stepped (Err refusal)) opened = opened ≡ Err refusal
OpensStream answer opened = ⊥

-- what a record tells
abbrev pub told_by : Body → Told
told_by (body.Item r) = told.Item
told_by (body.MoveOut line) = told.MoveOut
told_by other = told.Other

-- what the record tells that was drawn, or why none was
abbrev pub Draws : Answer → Result Told Refusal → Type 0
Draws (Stepped (Ok (reply.Gave sent))) drawn = drawn ≡ Ok (told_by sent.body)
Draws (Stepped (Err refusal)) drawn = drawn ≡ Err refusal
Draws answer drawn = ⊥

-- the record was taken, or known already; or it was the End, or it was refused, and no round follows
abbrev pub Takes : Told → Answer → Round → Type 0
Takes t (Stepped (Ok reply.Took)) round = round ≡ Taken t
Takes t (Stepped (Ok reply.Known)) round = round ≡ Taken t
Takes t (Stepped (Ok reply.Finished)) round = round ≡ Ended Finished
Takes t (Stepped (Err refusal)) round = round ≡ Ended (Refused refusal)
Takes t answer round = ⊥

-- ---- what is counted

abbrev pub is_item : Told → Bool
is_item told.Item = true
is_item told.MoveOut = false
is_item told.Other = false

abbrev pub is_move_out : Told → Bool
is_move_out told.Item = false
is_move_out told.MoveOut = true
is_move_out told.Other = false

-- how many of the records that were taken are of each kind
abbrev pub counts_of : List Told → SyncCounts
counts_of taken = record { items = count_by is_item taken; move_outs = count_by is_move_out taken }

-- after these records a sync ended so
abbrev pub outcome : List Told → SyncEnd → Outcome
outcome taken end = record { counts = counts_of taken; end = end }

-- how many records are taken at most: without a number as many as a world may have
abbrev pub most_of : Sync → ℕ
most_of sync = unwrap_or sync.most (2 ^ 64 - 1)

-- ---- its events

module _ {K : Type 0} (form : Form K) (sync : Sync) where
  -- the target asks
  abbrev pub pulls : Doing K (Result ℕ Refusal)
  pulls = says form (sync.target does act.Pull) OpensSession

  -- the source answers the newest request
  abbrev pub answers : Doing K (Result ℕ Refusal)
  answers w = says form (sync.source does act.Answer (length w.asks)) OpensStream w

  -- the source gives a record
  abbrev pub draws : (stream : ℕ) → Doing K (Result Told Refusal)
  draws stream = says form (sync.source does act.Next stream) Draws

  -- the newest record comes to the target
  abbrev pub receives : Told → Doing K Round
  receives t w = says form (sync.target does act.Receive (length w.records)) (Takes t) w

  -- the session is closed, whatever is answered
  abbrev pub cuts_in : (session : ℕ) → Doing K Answer
  cuts_in session = happens form (sync.target does act.CutIn session)

  -- the stream is closed, whatever is answered
  abbrev pub cuts_out : (stream : ℕ) → Doing K Answer
  cuts_out stream = happens form (sync.source does act.CutOut stream)

  -- a record that was drawn comes to the target; none ends the rounds
  abbrev pub receives_drawn : Result Told Refusal → Doing K Round
  receives_drawn (Ok t) = receives t
  receives_drawn (Err refusal) = looking (λ _. gives (Ended (Refused refusal)))

  -- one round
  abbrev pub round : (stream : ℕ) → Doing K Round
  round stream = draws stream andthen receives_drawn

  -- From w, each round takes one of these records, and they lead to w'.
  abbrev pub TakesAll : (stream : ℕ) → WorldView K → List Told → WorldView K → Type 0
  TakesAll stream w [] w' = w' ≡ w
  TakesAll stream w (t ∷ later) w' = (mid : WorldView K) × round stream w (Ok (Taken t)) mid × TakesAll stream mid later w'

  -- Records are taken up to a round that ends the sync, or to as many as may be taken.
  pub data Rounds (stream : ℕ) (w : WorldView K) : Result Outcome LineFault → WorldView K → Type 0 where
    ended : (taken : List Told) {end : SyncEnd} {mid w' : WorldView K} → TakesAll stream w taken mid → length taken < most_of sync → round stream mid (Ok (Ended end)) w' → Rounds stream w (Ok (outcome taken end)) w'
    enough : (taken : List Told) {w' : WorldView K} → TakesAll stream w taken w' → length taken ≡ most_of sync → Rounds stream w (Ok (outcome taken Cut)) w'
    fails : (taken : List Told) {fault : LineFault} {mid w' : WorldView K} → TakesAll stream w taken mid → length taken < most_of sync → round stream mid (Err fault) w' → Rounds stream w (Err fault) w'

  -- once End was taken both are closed; else they are cut
  abbrev pub closes : (session stream : ℕ) → (counts : SyncCounts) → SyncEnd → Doing K Outcome
  closes session stream counts Finished = looking (λ _. gives (record { counts = counts; end = Finished }))
  closes session stream counts end = cuts_in session andthen λ _. cuts_out stream andthen λ _. looking (λ _. gives (record { counts = counts; end = end }))

  -- what comes of the stream, where there is one; where there is none, the session is cut
  abbrev pub streams : (session : ℕ) → Result ℕ Refusal → Doing K Outcome
  streams session (Ok stream) = Rounds stream andthen λ o. closes session stream o.counts o.end
  streams session (Err refusal) = cuts_in session andthen λ _. looking (λ _. gives (outcome [] (Refused refusal)))

  -- what comes of the session, where there is one
  abbrev pub goes_through : Result ℕ Refusal → Doing K Outcome
  goes_through (Ok session) = answers andthen streams session
  goes_through (Err refusal) = looking (λ _. gives (outcome [] (Refused refusal)))

  -- the whole sync
  abbrev pub syncs : Doing K Outcome
  syncs = pulls andthen goes_through
