-- what two hellos say of the two sides
use Rattle.std.specs.Prelude.{◌≡◌, ◌≢◌, ◌≤◌, ◌<◌, ◌⊎◌, ℕ, List, false, Option, Some, None}
use Rattle.mr_talk.specs.declared.hello.Hello.{Hello}
use Rattle.mr_talk.specs.declared.peer.Met.{Met}
use Rattle.mr_talk.specs.declared.peer.Standing.{Standing}
use Rattle.mr_talk.specs.declared.peer.Standing.TheVariants.{Good, Itself, SameId, Renewed, PeerIsOldCopy, OldCopy, PeerWentOn}

-- under the other's id another journal was met
abbrev pub IsRenewed : Hello → Option Met → Type 0
IsRenewed theirs None = ⊥
IsRenewed theirs (Some met) = met.birth ≢ theirs.birth

-- they are two replicas, and the other is the one that was met under its id, if one was
pub record AreTwo (mine theirs : Hello) (met : Option Met) : Type 0 where
  pub ids : mine.id ≢ theirs.id
  pub same : IsRenewed theirs met → ⊥

-- the message of the other's last version is known here, and has another digest
abbrev pub WentOn : Hello → Option (List ℕ) → Type 0
WentOn theirs None = ⊥
WentOn theirs (Some tip) = tip ≢ theirs.tip

-- none of the two is an old copy as far as is known: it would have issued fewer versions than are known of it
pub record AreNew (mine theirs : Hello) (known : ℕ) : Type 0 where
  pub there : known ≤ theirs.issued
  pub here : theirs.known ≤ mine.issued

-- What the other is. An old copy has issued fewer versions than are known of it, and one that went on has given the last one another message.
abbrev pub Stands : Hello → Hello → (known : ℕ) → (tip : Option (List ℕ)) → Option Met → Standing → Type 0
Stands mine theirs known tip met Itself = (mine.id ≡ theirs.id) × (mine.birth ≡ theirs.birth)
Stands mine theirs known tip met SameId = (mine.id ≡ theirs.id) × (mine.birth ≢ theirs.birth)
Stands mine theirs known tip met Renewed = (mine.id ≢ theirs.id) × IsRenewed theirs met
Stands mine theirs known tip met PeerIsOldCopy = AreTwo mine theirs met × (theirs.issued < known)
Stands mine theirs known tip met OldCopy = AreTwo mine theirs met × (known ≤ theirs.issued) × (mine.issued < theirs.known)
Stands mine theirs known tip met PeerWentOn = AreTwo mine theirs met × AreNew mine theirs known × WentOn theirs tip
Stands mine theirs known tip met Good = AreTwo mine theirs met × AreNew mine theirs known × (WentOn theirs tip → ⊥)

-- each knows just what it knew at the end of the last whole talk of these two
abbrev pub IsAsMet : Hello → Hello → Option Met → Type 0
IsAsMet mine theirs None = ⊥
IsAsMet mine theirs (Some met) = (met.birth ≡ theirs.birth) × (met.mine ≡ mine.knows) × (met.theirs ≡ theirs.knows)

-- nothing waits at either side, and both know the same, or each what it knew when they last met
pub record HasNothingToTell (mine theirs : Hello) (met : Option Met) : Type 0 where
  pub none_here : mine.is_waiting ≡ false
  pub none_there : theirs.is_waiting ≡ false
  pub same : (mine.knows ≡ theirs.knows) ⊎ IsAsMet mine theirs met
