-- the contents that a file in memory has had
use Rattle.std.specs.Prelude.{◌≡◌, ◌⊎◌, ℕ, List, [], ◌∷◌, length, drop, Vec}
use mathlib.Core.Logic.{inl, inr}
use Rattle.std.specs.declared.alloc.Global.{Global}

-- one of them is this
abbrev pub HadBeen : List (Vec ℕ Global) → List ℕ → Type 0
HadBeen [] file = ⊥
HadBeen (v ∷ past) file = (file ≡ v.items) ⊎ HadBeen past file

-- what a crash since t left: what is there now, or what was there since
abbrev pub LeftSince : List (Vec ℕ Global) → List ℕ → ℕ → List ℕ → Type 0
LeftSince past now t file = (file ≡ now) ⊎ HadBeen (drop t past) file

none_since : (past : List (Vec ℕ Global)) (file : List ℕ) → HadBeen (drop (length past) past) file → ⊥
none_since [] file had = had
none_since (v ∷ past) file had = none_since past file had

-- since the last of them there is what is there now
pub only_now : (past : List (Vec ℕ Global)) (now file : List ℕ) → LeftSince past now (length past) file → file ≡ now
only_now past now file (inl here) = here
only_now past now file (inr had) = absurd (none_since past file had)
