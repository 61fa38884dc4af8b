-- how a line is read, word by word, up to the first fault
use Rattle.std.specs.Prelude.{◌≡◌, ℕ, Bool, true, false, List, Result, Ok, Err}
use Rattle.mr_command.specs.declared.fault.LineFault.{LineFault}
use Rattle.mr_command.specs.declared.fault.LineFault.TheVariants.{OutOfMemory}

-- the results that a reading may have
abbrev pub Reading : Type 0 → Type 1
Reading X = Result X LineFault → Type 0

-- what gives x
abbrev pub gives : {X : Type 0} → X → Reading X
gives x result = result ≡ Ok x

-- what is at fault
abbrev pub fails : {X : Type 0} → LineFault → Reading X
fails fault result = result ≡ Err fault

-- the first reading where the test holds, and else the second
abbrev pub choose : {X : Type 0} → Bool → Reading X → Reading X → Reading X
choose true first second = first
choose false first second = second

-- x where the test holds, and else the fault
abbrev pub gives_if : {X : Type 0} → Bool → LineFault → X → Reading X
gives_if holds fault x = choose holds (gives x) (fails fault)

-- the word names nothing
abbrev pub NamesNone : {X : Type 0} → (List ℕ → X → Type 0) → List ℕ → Type 0
NamesNone {X} Names word = (x : X) → ¬ Names word x

-- it names something
abbrev pub NamesSome : {X : Type 0} → (List ℕ → X → Type 0) → List ℕ → Type 0
NamesSome {X} Names word = (x : X) × Names word x

-- what the word names, and the fault where it names nothing
abbrev pub names : {X : Type 0} → (List ℕ → X → Type 0) → LineFault → List ℕ → Reading X
names Names fault word (Ok x) = Names word x
names Names fault word (Err e) = (e ≡ fault) × NamesNone Names word

-- what the word names, and the fault where it names nothing; memory for it is wanted only where the word names something
abbrev pub names_in_memory : {X : Type 0} → (List ℕ → X → Type 0) → LineFault → List ℕ → Reading X
names_in_memory Names fault word (Err OutOfMemory) = NamesSome Names word
names_in_memory Names fault word result = names Names fault word result

-- First the one reading, and then the one that goes on with what it gave. A fault of the first ends both.
pub data Both {X Y : Type 0} (First : Result X LineFault → Type 0) (Next : X → Result Y LineFault → Type 0) : Result Y LineFault → Type 0 where
  goes_on : {x : X} {result : Result Y LineFault} → First (Ok x) → Next x result → Both First Next result
  ends : {fault : LineFault} → First (Err fault) → Both First Next (Err fault)

-- one reading and then another, which goes on with what the first gave
infixr 20 ◌andthen◌
abbrev pub ◌andthen◌ : {X Y : Type 0} → Reading X → (X → Reading Y) → Reading Y
First andthen Next = Both First Next
