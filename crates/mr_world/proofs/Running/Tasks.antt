-- What is read of a pool's frame is what the frame is, and what the pool's list has under its number.
use Rattle.std.proofs.Common.{◌≡◌, ◌<◌, ◌≤◌, ℕ, Bool, cond, List, length, Option, Some, None, Result, Ok, Err, refl, ap, subst, arith}
use Rattle.mr_world.proofs.Names.Lists.{le-ltb, lt-ltb, option_map}
use Rattle.std.specs.Prelude.{All}
use Rattle.std.specs.Result.{IsErrAnd}
use Rattle.std.proofs.lemmas.Result.{err_from_is_err_and}
use Rattle.mr_world.proofs.Names.Wire.{Frame, Sent, Spells}
use Rattle.mr_world.proofs.Names.Model.{numbered}
use Rattle.mr_world.proofs.Names.World.{Finds, FindsFrame, GivesFrame, IsFrameOf, NoSuchFrame, NoSuchReplica, OutOfMemory, Task, WorldFault}
use Rattle.mr_world.proofs.Names.World.{at_number, delivering, receiving, record_len}
use Rattle.mr_wire.specs.declared.fault.WireFault.{WireFault}
use Rattle.mr_wire.specs.declared.frame.Frame.TheVariants as frame
use Rattle.mr_world.specs.Pool.{values_in}
use Rattle.mr_world.specs.declared.task.Task.TheVariants as task
use Rattle.mr_world.proofs.Running.Pools.{Kind, gives}

-- the frame that is found is the one that is there
pub read_back : (f : Frame) (n : ℕ) (found : Frame × ℕ) → ◌≡◌ {A = Result (Frame × ℕ) WireFault} (Ok (f, n)) (Ok found) → found.0 ≡ f
read_back f n found e = let same : ◌≡◌ {A = Frame × ℕ} found (f, n) = cc in ap (λ (p : Frame × ℕ). p.0) same

-- ---- what stands in a pool under a number

module _ {A : Type 0} (k : Kind A) (frames : List (List ℕ)) (n : ℕ) (all : All (IsFrameOf k.wrap) frames) where
  abbrev listed : Option A
  listed = numbered (values_in k.of frames) n

  -- a frame of the pool stands in its list
  pub there : (bytes : List ℕ) → at_number frames n ≡ Some bytes → (x : A) × (listed ≡ Some x) × Spells 2 (k.wrap x) bytes
  there bytes is = go listed refl (subst (GivesFrame k.wrap listed) is (gives k frames n all))
    where
      go : (o : Option A) → listed ≡ o → GivesFrame k.wrap o (Some bytes) → (x : A) × (listed ≡ Some x) × Spells 2 (k.wrap x) bytes
      go None e h = absurd h
      go (Some x) e h = (x, e, h)

  -- so the frame that is found is of what the list has
  pub found : (f : Frame) → FindsFrame (at_number frames n) (Ok f) → (x : A) × (listed ≡ Some x) × (f ≡ k.wrap x)
  found f h = let x = there h.0 h.1 in (x.0, x.1, h.2 (k.wrap x.0) x.2)

  -- and where none is found, for want of one or of memory, so it is with the task that is made of it
  pub lost : (task_of : A → Task) (fault : WorldFault) (result : Result Task WorldFault) → IsErrAnd result (λ e. e ≡ fault) → FindsFrame (at_number frames n) (Err fault) → Finds (option_map task_of listed) result
  lost task_of fault result exit h = let p = err_from_is_err_and result exit in rw (p.1, p.2) (go fault listed (at_number frames n) (gives k frames n all) h)
    where
      go : (fault : WorldFault) (o : Option A) (b : Option (List ℕ)) → GivesFrame k.wrap o b → FindsFrame b (Err fault) → Finds (option_map task_of o) (Err fault)
      go OutOfMemory (Some x) b g h = refl
      go OutOfMemory None None g h = absurd (cc)
      go NoSuchFrame None b g h = refl
      go NoSuchFrame (Some x) (Some bytes) g h = absurd (cc)
      go NoSuchReplica o b g h = absurd h
      go fault o b g h = absurd g

-- fewer bytes than a record's frame has are a part of it, and no fewer are the record
pub few_are_part : (bytes : ℕ) (sent : Sent) (text : List ℕ) → Spells 2 (frame.Record sent) text → bytes < length text → delivering bytes sent ≡ task.Truncated
few_are_part bytes sent text s few = ap (λ (b : Bool). cond b task.Truncated (receiving sent)) (lt-ltb bytes (record_len sent) (subst (λ (len : ℕ). bytes < len) (ap length s.written) few))

pub enough_are_whole : (bytes : ℕ) (sent : Sent) (text : List ℕ) → Spells 2 (frame.Record sent) text → length text ≤ bytes → delivering bytes sent ≡ receiving sent
enough_are_whole bytes sent text s enough = ap (λ (b : Bool). cond b task.Truncated (receiving sent)) (le-ltb bytes (record_len sent) (subst (λ (len : ℕ). len ≤ bytes) (ap length s.written) enough))
