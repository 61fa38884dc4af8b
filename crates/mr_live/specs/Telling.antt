-- what is printed of replicas that ended
use Rattle.std.specs.Prelude.{◌≡◌, ℕ, Bool, true, false, List, [], ◌∷◌, ◌++◌, All, codes}
use Rattle.std.specs.Fmt.{decimal}
use Rattle.std.specs.List.{concat, flat_map}
use Rattle.mr_replica.specs.State.{State}
use Rattle.mr_forms.specs.Known.{Form}
use Rattle.mr_world.specs.Kept.{WorldView}
use Rattle.mr_world.specs.Promise.{moment_of}
use Rattle.mr_settle.specs.Explains.{Explains}
use Rattle.mr_settle.specs.Kept.{Keeps, KeepTogether}
use Rattle.mr_settle.specs.Stuck.{IsStuck}
use Rattle.mr_script.specs.Holding.{heads_text, push_outs_text}

-- the lines of what a replica holds
abbrev pub held_text : {K : Type 0} → State K → List ℕ
held_text end = heads_text end.id end.heads ++ push_outs_text end.id end.push_outs

-- `joined`, and what each of them holds
abbrev pub told_text : {K : Type 0} → List (State K) → List ℕ
told_text ends = codes "joined\n" ++ flat_map held_text ends

-- `unexplained R E`
abbrev pub unexplained_text : (replica event : ℕ) → List ℕ
unexplained_text replica event = concat (codes "unexplained " ∷ decimal replica ∷ codes " " ∷ decimal event ∷ codes "\n" ∷ [])

module _ {K : Type 0} (form : Form K) where
  -- the history of a world explains them, and what holds of each world holds of them
  pub record AreExplained (ends : List (State K)) : Type 0 where
    pub world : WorldView K
    pub explains : Explains form ends world
    pub kept : All (Keeps form (moment_of world).issues) ends
    pub together : KeepTogether (moment_of world).issues ends

  -- The text tells what replicas hold whose logs joined; or the event of which no history that goes as far as any can tells who gave its frame.
  abbrev pub Tells : List (State K) → (joined : Bool) → (text : List ℕ) → Type 0
  Tells ends true text = AreExplained ends × (text ≡ told_text ends)
  Tells ends false text = (replica : ℕ) × (event : ℕ) × IsStuck form ends replica event × (text ≡ unexplained_text replica event)
