-- the hellos of talks with nothing to tell
use Rattle.std.specs.Prelude.{◌≡◌, ◌≢◌, ◌≤◌, ◌<◌, ℕ, false, true, List, ◌++◌, length, Option, Some, None}
use Rattle.std.specs.BTreeMap.{BTreeMap}
use Rattle.std.specs.List.{AllByRecursion, AllWithin, HoldsAt, flat_map}
use Rattle.mr_compare.specs.declared.note.Meeting.{Meeting}
use Rattle.mr_itemset.specs.Normal.{Normal}
use Rattle.mr_replica.specs.State.{State}
use Rattle.mr_talk.specs.Hello.{IsHello, hello_bytes}
use Rattle.mr_talk.specs.declared.hello.Hello.{Hello}
use Rattle.mr_sync.specs.Hello.{IsHelloOf, Judges, met_at}
use Rattle.mr_sync.specs.declared.idle.Hellos.{Hellos}
use Rattle.mr_sync.specs.declared.idle.TheConstants.{MAX_IDLE_TALKS}

-- this side's hello, and behind it the other's
abbrev pub hellos_bytes : Hellos → List ℕ
hellos_bytes talk = hello_bytes talk.mine ++ hello_bytes talk.theirs

-- each field of both has its size
abbrev pub IsHellos : Hellos → Type 0
IsHellos talk = IsHello talk.mine × IsHello talk.theirs

-- the bytes spell these pairs, one behind another, of which there are not too many
pub record AreSpelled (bytes : List ℕ) (talks : List Hellos) : Type 0 where
  pub are : AllByRecursion IsHellos talks
  pub few : length talks ≤ MAX_IDLE_TALKS
  pub spelled : bytes ≡ flat_map hellos_bytes talks

-- in none of the first k talks did the other side say this
abbrev pub HasNoneBefore : (talks : List Hellos) (theirs : Hello) (k : ℕ) → Type 0
HasNoneBefore talks theirs k = AllWithin (λ talk. talk.theirs ≢ theirs) talks 0 k

-- what this side said in the first of the talks in which the other side said this, if there is one
abbrev pub IsAnswer : (talks : List Hellos) (theirs : Hello) → Option Hello → Type 0
IsAnswer talks theirs None = HasNoneBefore talks theirs (length talks)
IsAnswer talks theirs (Some mine) = (k : ℕ) × (k < length talks) × HasNoneBefore talks theirs k × HoldsAt (λ talk. talk ≡ record { mine = mine; theirs = theirs }) talks k

-- the hello of one that doesn't know whom it calls
abbrev pub unmet : Hello → Hello
unmet mine = record mine { known = 0 }

-- these are the hellos of a replica, whose journal was begun so and which lacks no files and has met others so, and of one to which it has nothing to tell
pub record AreIdle (birth : List ℕ) (s : State Normal) (meetings : BTreeMap ℕ Meeting) (talk : Hellos) : Type 0 where
  pub mine_is : IsHelloOf birth s false (Some talk.theirs.id) talk.mine
  pub judged : Judges birth s false talk.theirs (met_at meetings talk.theirs.id) true
