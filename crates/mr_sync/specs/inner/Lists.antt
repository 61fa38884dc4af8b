-- lists, as they are told a message at a time, and as they are read
use Rattle.std.specs.Prelude.{◌≡◌, ◌≤◌, ℕ, ◌==◌, if◌then◌else◌, List, [], ◌++◌, length, Option, Some, None, Result, Ok, Err}
use Rattle.std.specs.List.{flat_map}
use Rattle.std.specs.Global.{Vec}
use Rattle.std.specs.Int.{w64}
use Rattle.mr_wire.specs.Parts.{name_at}
use Rattle.mr_wire.specs.Reading.{Reader, as_at, bytes_at, number_at, run_at, then_at}
use Rattle.mr_talk.specs.Said.{Said}
use Rattle.mr_sync.specs.declared.fault.SyncFault.{SyncFault}
use Rattle.mr_sync.specs.declared.fault.SyncFault.TheVariants.{OutOfMemory, BadList}
use Rattle.mr_sync.specs.declared.lists.PushOut.{PushOut}

-- the bytes are those of the front of a list, at most so many of its parts, and the rest is left
pub record TakesFront (most : ℕ) (old : List (List ℕ)) (bytes : List ℕ) (new : List (List ℕ)) : Type 0 where
  pub taken : List (List ℕ)
  pub front : old ≡ taken ++ new
  pub are : bytes ≡ flat_map (λ (d : List ℕ). d) taken
  pub few : length taken ≤ most

-- a message tells the front of a list, or there is nothing to tell
abbrev pub TellsFront : (most : ℕ) → List (List ℕ) → List (List ℕ) → Option Said → Type 0
TellsFront most old new None = (old ≡ []) × (new ≡ old)
TellsFront most old new (Some message) = TakesFront most old message.bytes new

-- parts as they are read
abbrev pub push_out_at : Reader PushOut
push_out_at = as_at (λ p. record { item = p.0; version = p.1 }) (then_at name_at (λ _. name_at))

abbrev pub digest_at : Reader (List ℕ)
digest_at = bytes_at 32

abbrev pub begin_at : Reader (List ℕ × ℕ)
begin_at = then_at digest_at (λ _. number_at w64)

-- so many parts
abbrev pub list_at : {X : Type 0} → Reader X → ℕ → Reader (List X)
list_at at = run_at (λ (_ : ℕ). at) (λ _ _. 0) 0

-- what was found, where nothing is left behind it
abbrev pub whole_list_of : {X : Type 0} → Option (Option (Vec X)) → (left : ℕ) → Result (Vec X) SyncFault
whole_list_of None left = Err BadList
whole_list_of (Some None) left = if left == 0 then Err OutOfMemory else Err BadList
whole_list_of (Some (Some v)) left = if left == 0 then Ok v else Err BadList
