-- Where both know the same, or what they knew when nothing was told, nothing is told.
use Rattle.std.proofs.Common.{◌≡◌, ◌⊎◌, inl, inr, Bool, true, false, Option, Some, None, sym, ◌∙◌}
use Rattle.std.specs.Prelude.{IsTrue, MatchBool}
use Rattle.mr_version.specs.Name.{Name}
use Rattle.mr_talk.specs.Told.{Side, IsSide, TellsKnowledge, IsTold, NothingIsTold, IsStill, RemembersIfMet, AreOf}
use Rattle.mr_talk.specs.declared.hello.Hello.{Hello}
use Rattle.mr_talk.specs.declared.peer.Met.{Met}
use Rattle.mr_talk.specs.Peer.{IsAsMet, HasNothingToTell}

pub nothing_where_same : (a b : Side) → IsSide a → IsSide b → TellsKnowledge a b → a.digest ≡ b.digest → NothingIsTold a b
nothing_where_same a b ia ib tells e =
    let same = tells e in
    record {
      there = λ v t. t.unknown ((same v).0 (ia v t.held));
      back = λ v t. t.unknown ((same v).1 (ib v t.held));
    }

still_told : (a b a' b' : Side) → IsStill a a' → IsStill b b' → a.digest ≡ a'.digest → b.digest ≡ b'.digest → (v : Name) → IsTold a' b' v → IsTold a b v
still_told a b a' b' sa sb ea eb v t = record {
  held = sa.held (sa.digest ea) v t.held;
  selected = sb.filter v t.selected;
  unknown = λ k. t.unknown ((sb.digest eb v).0 k);
}

pub nothing_where_still : (a b a' b' : Side) → NothingIsTold a b → IsStill a a' → IsStill b b' → a.digest ≡ a'.digest → b.digest ≡ b'.digest → NothingIsTold a' b'
nothing_where_still a b a' b' n sa sb ea eb = record {
  there = λ v t. n.there v (still_told a b a' b' sa sb ea eb v t);
  back = λ v t. n.back v (still_told b a b' a' sb sa eb ea v t);
}

-- two sides whose hellos have nothing to tell tell nothing
pub nothing_from_hellos : (mine theirs : Hello) (met : Option Met) (a b : Side) → HasNothingToTell mine theirs met → AreOf mine theirs met a b → NothingIsTold a b
nothing_from_hellos mine theirs met a b h are = at_same h.same
  where
    at_met : (o : Option Met) → RemembersIfMet o a b → IsAsMet mine theirs o → NothingIsTold a b
    at_met None r is = absurd is
    at_met (Some m) r is =
        nothing_where_still r.mine r.theirs a b r.nothing r.mine_since r.theirs_since (r.mine_is ∙ is.1 ∙ sym are.mine_is) (r.theirs_is ∙ is.2 ∙ sym are.theirs_is)

    at_same : (mine.knows ≡ theirs.knows) ⊎ IsAsMet mine theirs met → NothingIsTold a b
    at_same (inl e) = nothing_where_same a b are.here are.there are.tells (are.mine_is ∙ e ∙ sym are.theirs_is)
    at_same (inr is) = at_met met are.remembered is

pub told_nothing : (b : Bool) (mine theirs : Hello) (met : Option Met) → MatchBool b (HasNothingToTell mine theirs met) (HasNothingToTell mine theirs met → ⊥) → IsTrue b → (s t : Side) → AreOf mine theirs met s t → NothingIsTold s t
told_nothing true mine theirs met h is s t are = nothing_from_hellos mine theirs met s t h are
told_nothing false mine theirs met h is s t are = absurd (never is)
  where
    never : IsTrue false → ⊥
    never e = absurd cc
