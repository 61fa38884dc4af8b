-- what comes of a command in a world: what it gives or why it can't be done, and the world after it
use Rattle.std.specs.Prelude.{◌≡◌, ◌⊎◌, Result, Ok, Err, IsSomeAnd}
use Rattle.mr_forms.specs.Known.{Form}
use Rattle.mr_mail.specs.Mail.{Mail}
use Rattle.mr_model.specs.declared.event.Event.{Event}
use Rattle.mr_world.specs.Kept.{WorldView}
use Rattle.mr_world.specs.Run.{Happens, stop_fault}
use Rattle.mr_world.specs.declared.answer.Answer.{Answer}
use Rattle.mr_command.specs.declared.fault.LineFault.{LineFault}
use Rattle.mr_command.specs.declared.fault.LineFault.TheVariants.{OutOfMemory}
use Rattle.mr_command.specs.Reading.{Reading}
use Rattle.mr_script.specs.Fault.{fault_of_stop}

-- the results that there may be, from a world on, each with the world that it leaves
abbrev pub Doing : Type 0 → Type 0 → Type 1
Doing K X = WorldView K → Result X LineFault → WorldView K → Type 0

module _ {K : Type 0} where
  -- what is read off the world, which stays as it is
  abbrev pub looking : {X : Type 0} → (WorldView K → Reading X) → Doing K X
  looking reads w result w' = reads w result × (w' ≡ w)

  -- First the one, and then what goes on in the world that it left, with what it gave. A fault of the first ends both.
  pub data Follows {X Y : Type 0} (First : Doing K X) (Next : X → Doing K Y) (w : WorldView K) : Result Y LineFault → WorldView K → Type 0 where
    goes_on : {x : X} {mid w' : WorldView K} {result : Result Y LineFault} → First w (Ok x) mid → Next x mid result w' → Follows First Next w result w'
    ends : {fault : LineFault} {w' : WorldView K} → First w (Err fault) w' → Follows First Next w (Err fault) w'

  -- one thing that is done and then another, which goes on with what the first gave
  infixr 20 ◌andthen◌
  abbrev pub ◌andthen◌ : {X Y : Type 0} → Doing K X → (X → Doing K Y) → Doing K Y
  First andthen Next = Follows First Next

  -- why the event can't happen: memory is wanting, or it names what isn't there
  abbrev pub Prevents : WorldView K → Event Mail → LineFault → Type 0
  Prevents w e fault = (fault ≡ OutOfMemory) ⊎ IsSomeAnd (stop_fault w e) (λ f. fault ≡ fault_of_stop f)

module _ {K : Type 0} (form : Form K) where
  -- the event happens, and is answered; or it can't happen, and nothing changes
  abbrev pub happens : Event Mail → Doing K Answer
  happens e w (Ok answer) w' = Happens form w e answer w'
  happens e w (Err fault) w' = Prevents w e fault × (w' ≡ w)

  -- it happens, and this is what its answer says
  abbrev pub says : {X : Type 0} → Event Mail → (Answer → X → Type 0) → Doing K X
  says e Says w (Ok x) w' = (answer : Answer) × Happens form w e answer w' × Says answer x
  says e Says w (Err fault) w' = Prevents w e fault × (w' ≡ w)
