-- the stage of a script, what its commands do to it, and what they print
use Rattle.std.specs.Prelude.{◌≡◌, ◌==◌, ◌++◌, ◌⊎◌, ◌&&◌, nat_le, ℕ, true, false, is_some, List, [], ◌∷◌, Option, Some, None, Result, Ok, Err, length}
use Rattle.std.specs.List.{list_any}
use Rattle.mr_forms.specs.Known.{Form}
use Rattle.mr_mail.specs.Mail.{Mail}
use Rattle.mr_model.specs.declared.event.Event.{Event}
use Rattle.mr_world.specs.Kept.{WorldView, replica_at}
use Rattle.mr_world.specs.Made.{IsMadeWorld, IsRefusedBy, spec_refusal}
use Rattle.mr_world.specs.declared.fault.SpecFault.{SpecFault}
use Rattle.mr_world.specs.declared.spec.Spec.{Spec}
use Rattle.mr_command.specs.declared.command.Command.{Command}
use Rattle.mr_command.specs.declared.command.Command.TheVariants as command
use Rattle.mr_command.specs.declared.pool.Pool.{Pool}
use Rattle.mr_command.specs.declared.pool.Pool.TheVariants.{Asks, Records, Receipts}
use Rattle.mr_command.specs.declared.command.Question.{Question}
use Rattle.mr_command.specs.declared.command.Sync.{Sync}
use Rattle.mr_command.specs.declared.fault.LineFault.{LineFault}
use Rattle.mr_command.specs.declared.fault.LineFault.TheVariants.{LateReplica, OutOfMemory}
use Rattle.mr_command.specs.Reading.{Reading}
use Rattle.mr_command.specs.Scene.{Scene}
use Rattle.mr_script.specs.declared.interpreter.Stage.{Stage as CodeStage}
use Rattle.mr_script.specs.declared.interpreter.Stage.TheVariants as code
use Rattle.mr_script.specs.declared.answer.PoolSizes.{PoolSizes}
use Rattle.mr_script.specs.Answer.{answer_text, sync_text}
use Rattle.mr_script.specs.Doing.{Doing, looking, happens, ◌andthen◌}
use Rattle.mr_script.specs.Fault.{fault_of_spec}
use Rattle.mr_script.specs.Question.{tells, replies}
use Rattle.mr_script.specs.Sync.{syncs}

-- Before the first event the replicas that are to be, in their order; then a world.
pub data Stage (K : Type 0) : Type 0 where
  opening : (specs : List Spec) → Stage K
  running : (world : WorldView K) → Stage K

-- the stage that the code keeps
abbrev pub stage_of : {K V : Type 0} → CodeStage K V → Stage K
stage_of (code.Opening specs) = opening specs.items
stage_of (code.Running w) = running w

module _ {K : Type 0} where
  -- how many frames a pool has
  abbrev pub frame_count : WorldView K → Pool → ℕ
  frame_count w Asks = length w.asks
  frame_count w Records = length w.records
  frame_count w Receipts = length w.receipts

  -- how many frames the pools have
  abbrev pub sizes_of : WorldView K → PoolSizes
  sizes_of w = record { asks = length w.asks; records = length w.records; receipts = length w.receipts }

  -- the world that was made, where one was
  abbrev pub world_of : Stage K → Option (WorldView K)
  world_of (opening specs) = None
  world_of (running w) = Some w

  -- what the words of a line are looked up in
  abbrev pub scene_of : Stage K → Scene
  scene_of (opening specs) = record { is_opening = true; has_replica = λ id. list_any (λ spec. spec.id == id) specs; has_frame = λ pool number. false }
  scene_of (running w) = record { is_opening = false; has_replica = λ id. is_some (replica_at w.members id); has_frame = λ pool number. nat_le 1 number && nat_le number (frame_count w pool) }

  -- a replica is put behind those that are to be; once a world was made there are no more
  abbrev pub Adds : Stage K → Spec → Result (List ℕ) LineFault → Stage K → Type 0
  Adds (opening specs) spec result new =
      ((result ≡ Ok []) × (new ≡ opening (specs ++ spec ∷ []))) ⊎ ((result ≡ Err OutOfMemory) × (new ≡ opening specs))
  Adds (running w) spec result new = (result ≡ Err LateReplica) × (new ≡ running w)

module _ {K : Type 0} (form : Form K) where
  -- the event happens, and its answer is printed
  abbrev pub happens_told : Event Mail → Doing K (List ℕ)
  happens_told e = happens form e andthen λ answer. looking (λ w. tells (answer_text (sizes_of w) answer))

  -- a sync is run, and how far it came is printed
  abbrev pub syncs_told : Sync → Doing K (List ℕ)
  syncs_told sync = syncs form sync andthen λ o. looking (λ w. tells (sync_text sync o.counts o.end))

  -- the question is answered
  abbrev pub replies_told : Question → Doing K (List ℕ)
  replies_told question = looking (λ w. replies form w question)

  -- a world of these; or none can be made of them, or memory is wanting
  abbrev pub made_of : List Spec → Reading (WorldView K)
  made_of specs (Ok w) = IsMadeWorld form specs w
  made_of specs (Err fault) = (fault ≡ OutOfMemory) ⊎ ((f : SpecFault) × IsRefusedBy (spec_refusal specs) f × (fault ≡ fault_of_spec f))

  -- the world that the stage has, or one that is made of the replicas that are to be
  abbrev pub Begins : Stage K → Reading (WorldView K)
  Begins (running w) result = result ≡ Ok w
  Begins (opening specs) result = made_of specs result

  -- what is done in the stage's world, which then stays; where there is none, nothing changes
  pub data InWorld (does : Doing K (List ℕ)) (s : Stage K) : Result (List ℕ) LineFault → Stage K → Type 0 where
    done : {w w' : WorldView K} {result : Result (List ℕ) LineFault} → Begins s (Ok w) → does w result w' → InWorld does s result (running w')
    not_begun : {fault : LineFault} → Begins s (Err fault) → InWorld does s (Err fault) s

  -- From s, the command prints the text, and what is there goes on to new.
  abbrev pub Does : Stage K → Command → Result (List ℕ) LineFault → Stage K → Type 0
  Does s (command.AddReplica spec) result new = Adds s spec result new
  Does s (command.Happen event) result new = InWorld (happens_told event) s result new
  Does s (command.Sync sync) result new = InWorld (syncs_told sync) s result new
  Does s (command.Ask question) result new = InWorld (replies_told question) s result new
