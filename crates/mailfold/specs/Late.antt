-- a folder that is opened once its talk needs it
use Rattle.std.specs.Prelude.{◌≡◌, Option, Some, None}
use Rattle.std.proofs.Common.{subst, sym}
use Rattle.mr_talk.specs.Host.{Act}

-- Once it is open it does what the folder within does. One that isn't answers by what is noted of it, or is opened.
abbrev pub TalksAsWithin : {S : Type 0} → (S → Act → S → Type 0) → Option S → Act → Option S → Type 0
TalksAsWithin steps None act new = Unit {0}
TalksAsWithin steps (Some old) act new = (after : _) × (new ≡ Some after) × steps old act after

-- what the folder within keeps, once it is open
abbrev pub KeepsWithin : {S : Type 0} → (S → S → Type 0) → Option S → Option S → Type 0
KeepsWithin keeps None new = Unit {0}
KeepsWithin keeps (Some old) None = ⊥
KeepsWithin keeps (Some old) (Some new) = keeps old new

-- it has the laws of what the folder within keeps
pub within_still : {S : Type 0} (keeps : S → S → Type 0) → ((s : S) → keeps s s) → (o : Option S) → KeepsWithin keeps o o
within_still keeps still None = tt
within_still keeps still (Some s) = still s

pub within_on : {S : Type 0} (keeps : S → S → Type 0) → ((a b c : S) → keeps a b → keeps b c → keeps a c) → (a b c : Option S) → KeepsWithin keeps a b → KeepsWithin keeps b c → KeepsWithin keeps a c
within_on keeps on None b c first second = tt
within_on keeps on (Some a) None c first second = absurd first
within_on keeps on (Some a) (Some b) None first second = absurd second
within_on keeps on (Some a) (Some b) (Some c) first second = on a b c first second

pub within_step : {S : Type 0} (steps : S → Act → S → Type 0) (keeps : S → S → Type 0) → ((old : S) (act : Act) (new : S) → steps old act new → keeps old new) → (old : Option S) (act : Act) (new : Option S) → TalksAsWithin steps old act new → KeepsWithin keeps old new
within_step steps keeps step None act new is = tt
within_step steps keeps step (Some old) act new (after, same, is) = subst (λ o. KeepsWithin keeps (Some old) o) (sym same) (step old act after is)
