-- whether a host has something to tell
use Rattle.std.proofs.Common.{◌≡◌, Bool, true, false, sym, subst, inr}
use Rattle.mr_sync.proofs.Names.{HasToTell, Hello, Hellos, IsIdle, IsIdleFaultOf, JudgesOf, MatchOption, Option, Some, SyncFault, head_of, journaled_of}
use Rattle.mr_sync.proofs.Names.{lacks_files, meetings_of, replica_of, theirs_of, then_some}
use Rattle.mr_sync.specs.Hello.{IsHelloOf, IsJudgeFault, Judges, met_at}
use Rattle.mr_sync.specs.declared.host.FolderHost.{FolderHost}

-- a folder that lacks no file has nothing to tell by these hellos, or has something to tell, as it judges
module _ {D F : Type 0} where
  pub told_or_idle : (h : FolderHost D F) (talk : Hellos) (is_idle : Bool) (found : Option Hellos) → found ≡ then_some is_idle talk → theirs_of h ≡ Some talk.theirs → lacks_files h ≡ false →
      IsHelloOf (head_of (journaled_of h)).birth (replica_of (journaled_of h)) false (Some talk.theirs.id) talk.mine →
      Judges (head_of (journaled_of h)).birth (replica_of (journaled_of h)) false talk.theirs (met_at (meetings_of h) talk.theirs.id) is_idle →
      MatchOption found (HasToTell h) (IsIdle h)
  told_or_idle h talk true found is said none mine judges =
      subst (λ (r : Option Hellos). MatchOption r (HasToTell h) (IsIdle h)) (sym is) record { said = said; lacks_none = none; idle = record { mine_is = mine; judged = judges } }
  told_or_idle h talk false found is said none mine judges =
      let found_so : JudgesOf h talk.theirs false = subst (λ (lacks : Bool). Judges (head_of (journaled_of h)).birth (replica_of (journaled_of h)) lacks talk.theirs (met_at (meetings_of h) talk.theirs.id) false) (sym none) judges in
      subst (λ (r : Option Hellos). MatchOption r (HasToTell h) (IsIdle h)) (sym is) (inr (inr (talk.theirs, said, found_so)))

  -- nor does it say that it has none, where a hello isn't judged
  pub idle_fault : (h : FolderHost D F) (theirs : Hello) (fault : SyncFault) → theirs_of h ≡ Some theirs → lacks_files h ≡ false →
      IsJudgeFault (head_of (journaled_of h)).birth (replica_of (journaled_of h)) false theirs (met_at (meetings_of h) theirs.id) fault → IsIdleFaultOf h fault
  idle_fault h theirs fault said none is =
      (none, (theirs, said, subst (λ (lacks : Bool). IsJudgeFault (head_of (journaled_of h)).birth (replica_of (journaled_of h)) lacks theirs (met_at (meetings_of h) theirs.id) fault) (sym none) is))
