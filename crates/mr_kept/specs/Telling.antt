-- what is given of a stream at a time
use Rattle.std.specs.Prelude.{◌≡◌, ◌≢◌, ◌<◌, ◌++◌, ◌∷◌, [], ℕ, Bool, true, false, length, map, sum_by, take, List, Result, Ok, Err}
use Rattle.std.specs.List.{list_any}
use Rattle.mr_forms.specs.Known.{Form}
use Rattle.mr_wire.specs.Frames.{Sent}
use Rattle.mr_wire.specs.FrameSpelling.{frame_bytes}
use Rattle.mr_wire.specs.declared.frame.Body.{Body}
use Rattle.mr_wire.specs.declared.frame.Body.TheVariants.{Start, Item, MoveOut, Held, Know, End}
use Rattle.mr_wire.specs.declared.frame.Frame.TheVariants as frame
use Rattle.mr_journal.specs.Journal.{has_failed}
use Rattle.mr_replica.specs.State.{State}
use Rattle.mr_replica.specs.Step.{Steps}
use Rattle.mr_replica.specs.declared.event.Event.TheVariants.{Next}
use Rattle.mr_replica.specs.declared.event.Reply.TheVariants.{Gave}
use Rattle.mr_kept.specs.declared.fault.KeptFault.{KeptFault}
use Rattle.mr_kept.specs.declared.journaled.Journaled.{Journaled}
use Rattle.mr_kept.specs.Answered.{Answered}
use Rattle.mr_kept.specs.Kept.{journal_of, leaving, replica_of}

-- how many bytes a record takes as a frame
abbrev pub size_of : Sent → ℕ
size_of sent = length (frame_bytes 2 (frame.Record sent))

-- whether nothing comes behind what is said
abbrev pub ends : Body → Bool
ends (Start mode) = false
ends (Item revision) = false
ends (MoveOut descent) = false
ends (Held vector) = false
ends (Know piece) = false
ends End = true

-- whether the record is an End
abbrev pub is_end : Sent → Bool
is_end sent = ends sent.body

-- More is wanted behind these records: they are fewer than so many, have fewer bytes than so many, and the End isn't among them.
pub record WantsMore (records bytes : ℕ) (given : List Sent) : Type 0 where
  pub few : length given < records
  pub short : sum_by size_of given < bytes
  pub no_end : list_any is_end given ≡ false

module _ {K : Type 0} (form : Form K) where
  -- the replica gives these records of the stream, one for each Next, and goes on to new
  abbrev pub Gives : State K → (stream : ℕ) → List Sent → State K → Type 0
  Gives s stream [] new = new ≡ s
  Gives s stream (sent ∷ given) new = (mid : State K) × Steps form s (Next stream) (Ok (Gave sent)) mid × Gives mid stream given new

  -- The records are enough, and the answer is whether the End is among them; or more is wanted, and the Next behind them isn't answered.
  abbrev pub Ends : {D V : Type 0} → (stream records bytes : ℕ) → Journaled K D V → List Sent → State K → Result Bool KeptFault → State K → Type 0
  Ends stream records bytes old given reached (Ok all) new = (WantsMore records bytes given → ⊥) × (all ≡ list_any is_end given) × (new ≡ reached)
  Ends stream records bytes old given reached (Err e) new = WantsMore records bytes given × Answered form (journal_of old) reached (Next stream) (Err e) new

  -- The stream gives records, each only where the device has not failed and as long as more is wanted behind those before it, and they
  -- are held back.
  pub record Tells {D V : Type 0} (stream records bytes : ℕ) (old : Journaled K D V) (answer : Result Bool KeptFault) (new : Journaled K D V) : Type 0 where
    pub given : List Sent
    pub reached : State K
    pub gives : Gives (replica_of old) stream given reached
    pub sound : given ≢ [] → has_failed (journal_of old) ≡ false
    pub wanted : (n : ℕ) → n < length given → WantsMore records bytes (take n given)
    pub leaving_is : leaving new ≡ leaving old ++ map Gave given
    pub ends_by : Ends stream records bytes old given reached answer (replica_of new)
