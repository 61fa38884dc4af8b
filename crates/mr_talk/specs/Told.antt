-- what one side would tell another, by what both know, hold and select
use Rattle.std.specs.Prelude.{◌≡◌, ◌↔◌, ℕ, Bool, IsTrue, List, Option, Some, None, Contains}
use Rattle.mr_version.specs.Name.{Name}
use Rattle.mr_talk.specs.declared.hello.Hello.{Hello}
use Rattle.mr_talk.specs.declared.peer.Met.{Met}

-- a side: the versions that it knows, the digest of these, those that it holds, and which ones its filter selects
pub record Side : Type 0 where
  pub known : List Name
  pub digest : List ℕ
  pub held : List Name
  pub selects : Name → Bool

-- it holds only what it knows
abbrev pub IsSide : Side → Type 0
IsSide s = (v : Name) → Contains s.held v → Contains s.known v

-- the premise on which all here rests: equal digests mean equal knowledge
abbrev pub TellsKnowledge : Side → Side → Type 0
TellsKnowledge s t = s.digest ≡ t.digest → (v : Name) → Contains s.known v ↔ Contains t.known v

-- the giver has this version for the taker: it holds it, and the taker selects it and doesn't know it
pub record IsTold (giver taker : Side) (v : Name) : Type 0 where
  pub held : Contains giver.held v
  pub selected : IsTrue (taker.selects v)
  pub unknown : Contains taker.known v → ⊥

-- neither has one for the other
pub record NothingIsTold (a b : Side) : Type 0 where
  pub there : (v : Name) → IsTold a b v → ⊥
  pub back : (v : Name) → IsTold b a v → ⊥

-- A side at a later time, where it knows what it knew: its filter is the same, and what it holds it held, since a version that is known is never taken again.
pub record IsStill (earlier later : Side) : Type 0 where
  pub digest : TellsKnowledge earlier later
  pub filter : (v : Name) → IsTrue (later.selects v) → IsTrue (earlier.selects v)
  pub held : ((v : Name) → Contains earlier.known v ↔ Contains later.known v) → (v : Name) → Contains later.held v → Contains earlier.held v

-- what is remembered are the digests of a time when neither had a version for the other, and each has since learned nothing or its digest tells
pub record Remembers (met : Met) (a b : Side) : Type 0 where
  pub mine : Side
  pub theirs : Side
  pub mine_is : mine.digest ≡ met.mine
  pub theirs_is : theirs.digest ≡ met.theirs
  pub nothing : NothingIsTold mine theirs
  pub mine_since : IsStill mine a
  pub theirs_since : IsStill theirs b

abbrev pub RemembersIfMet : Option Met → Side → Side → Type 0
RemembersIfMet None a b = Unit {0}
RemembersIfMet (Some met) a b = Remembers met a b

-- the hellos are of these two sides, and what is remembered is of them
pub record AreOf (mine theirs : Hello) (met : Option Met) (a b : Side) : Type 0 where
  pub mine_is : a.digest ≡ mine.knows
  pub theirs_is : b.digest ≡ theirs.knows
  pub here : IsSide a
  pub there : IsSide b
  pub tells : TellsKnowledge a b
  pub remembered : RemembersIfMet met a b
