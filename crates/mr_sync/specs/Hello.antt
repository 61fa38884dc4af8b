-- what a folder says of itself
use Rattle.std.specs.Prelude.{◌≡◌, ◌⊎◌, ◌==◌, ◌&&◌, ◌||◌, ℕ, Bool, not, List, length, take, replicate, MatchBool, Option, Some, None, option_map, unwrap_or}
use Rattle.std.specs.BTreeMap.{BTreeMap, get}
use Rattle.std.specs.List.{list_any}
use Rattle.std.specs.Ordering.{nat_cmp}
use Rattle.mr_filter.specs.Filter.{ClauseParts}
use Rattle.mr_forms.specs.Known.{Pairs}
use Rattle.mr_forms.specs.declared.fault.FormFault.TheVariants.{TooManyHoles}
use Rattle.mr_itemset.specs.Normal.{Normal, normal_known}
use Rattle.mr_itemset.specs.Sparing.{sparing_form}
use Rattle.mr_lookup.specs.Digest.{IsDigestOf}
use Rattle.mr_lookup.specs.Highest.{HasNone, IsHighest}
use Rattle.mr_lookup.specs.Versions.{versions_told}
use Rattle.mr_mail.specs.Mail.{Mail}
use Rattle.mr_version.specs.Name.{Name}
use Rattle.mr_wire.specs.Spelling.{message_bytes}
use Rattle.sha2.specs.Sha256.{sha256}
use Rattle.mr_compare.specs.declared.note.Meeting.{Meeting}
use Rattle.mr_replica.specs.Fragments.{HasHoleyPart}
use Rattle.mr_replica.specs.State.{State}
use Rattle.mr_talk.specs.declared.hello.Hello.{Hello}
use Rattle.mr_talk.specs.declared.peer.Met.{Met}
use Rattle.mr_talk.specs.declared.peer.Standing.TheVariants as standing
use Rattle.mr_talk.specs.Peer.{HasNothingToTell, Stands}
use Rattle.mr_sync.specs.declared.fault.SyncFault.{SyncFault}
use Rattle.mr_sync.specs.declared.fault.SyncFault.TheVariants.{OutOfMemory, Knowledge, Itself, SameId, Renewed, PeerIsOldCopy, OldCopy, PeerWentOn}
use Rattle.mr_sync.specs.Marks.{Tells, TellsNoneOf}

-- a clause with no condition, which each message meets, and a filter that has one, as `all` has
abbrev pub is_free : ClauseParts → Bool
is_free c = (length c.all_labels == 0) && ((length c.no_labels == 0) && ((c.flags_on == 0) && ((c.flags_off == 0) && (c.since == 0))))

abbrev pub keeps_all : List ClauseParts → Bool
keeps_all = list_any is_free

-- the highest counter that is known among an author's versions, or 0 where none is known
abbrev pub IsTop : Pairs → (author counter : ℕ) → Type 0
IsTop known author counter = IsHighest known author counter ⊎ (HasNone known author × (counter ≡ 0))

-- the highest counter that is known among an author's versions; 0 where there is no author
abbrev pub IsTopOf : Normal → Option ℕ → ℕ → Type 0
IsTopOf k None counter = counter ≡ 0
IsTopOf k (Some author) counter = IsTop (normal_known k) author counter

-- so many first bytes of the digest of what is known
pub record IsDigestFront (size : ℕ) (k : Normal) (front : List ℕ) : Type 0 where
  pub digest : List ℕ
  pub is_digest : IsDigestOf sparing_form k digest
  pub front_is : front ≡ take size digest

-- the first bytes of a message's digest, as a hello tells them
abbrev pub tip_of : Mail → List ℕ
tip_of message = take 4 (sha256 (message_bytes message))

-- the first bytes of the digest of the message of an author's version, if one is told of it
abbrev pub IsTip : List (Name × Mail) → (author counter : ℕ) → Option (List ℕ) → Type 0
IsTip told author counter None = TellsNoneOf told author counter
IsTip told author counter (Some tip) = (message : Mail) × Tells told author counter message × (tip ≡ tip_of message)

-- the hello of a replica, whose journal was begun so and which lacks files or none, to the one with this id
pub record IsHelloOf (birth : List ℕ) (s : State Normal) (lacks : Bool) (theirs : Option ℕ) (h : Hello) : Type 0 where
  pub id : h.id ≡ s.id
  pub birth_is : h.birth ≡ birth
  pub knows : IsDigestFront 12 s.knowledge h.knows
  pub issued : IsTopOf s.knowledge (Some s.id) h.issued
  -- the last version's message, zeros where none is told
  pub last : Option (List ℕ)
  pub last_is : IsTip (versions_told s.id s.log) s.id h.issued last
  pub tip : h.tip ≡ unwrap_or last (replicate 4 0)
  pub known : IsTopOf s.knowledge theirs h.known
  -- mail waits for a receipt, or a mail for its file
  pub waiting : h.is_waiting ≡ (lacks || not (length s.push_outs == 0))
  pub all : h.keeps_all ≡ keeps_all s.filter

-- a meeting as a talk compares it
abbrev pub met_by : Meeting → Met
met_by m = record { birth = m.birth; mine = take 12 m.mine; theirs = take 12 m.theirs }

-- what is remembered of the replica with this id, if it was met
abbrev pub met_at : BTreeMap ℕ Meeting → (id : ℕ) → Option Met
met_at meetings id = option_map met_by (get nat_cmp meetings id)

-- nothing stands in the way, by the hello that the replica has for the other side, and whether there is something to tell
pub record Judges (birth : List ℕ) (s : State Normal) (lacks : Bool) (theirs : Hello) (met : Option Met) (is_idle : Bool) : Type 0 where
  pub mine : Hello
  pub mine_is : IsHelloOf birth s lacks (Some theirs.id) mine
  -- what is told here of the other's last version
  pub tip : Option (List ℕ)
  pub tip_is : IsTip (versions_told s.id s.log) theirs.id theirs.issued tip
  pub good : Stands mine theirs mine.known tip met standing.Good
  pub idle : MatchBool is_idle (HasNothingToTell mine theirs met) (HasNothingToTell mine theirs met → ⊥)

-- why a replica says no hello: what it knows has a part with too many holes for a fragment, so it can't be told; or memory runs out
abbrev pub IsHelloFault : State Normal → SyncFault → Type 0
IsHelloFault s OutOfMemory = Unit {0}
IsHelloFault s (Knowledge e) = (e ≡ TooManyHoles) × HasHoleyPart (sparing_form.is_part s.knowledge)
IsHelloFault s fault = ⊥

-- why nothing may be told, and the replica that has to become another
abbrev pub StandsInTheWay : Hello → Hello → (tip : Option (List ℕ)) → Option Met → SyncFault → Type 0
StandsInTheWay mine theirs tip met (Itself id) = Stands mine theirs mine.known tip met standing.Itself × (id ≡ mine.id)
StandsInTheWay mine theirs tip met (SameId id) = Stands mine theirs mine.known tip met standing.SameId × (id ≡ mine.id)
StandsInTheWay mine theirs tip met (Renewed id) = Stands mine theirs mine.known tip met standing.Renewed × (id ≡ theirs.id)
StandsInTheWay mine theirs tip met (PeerIsOldCopy id) = Stands mine theirs mine.known tip met standing.PeerIsOldCopy × (id ≡ theirs.id)
StandsInTheWay mine theirs tip met (OldCopy id) = Stands mine theirs mine.known tip met standing.OldCopy × (id ≡ mine.id)
StandsInTheWay mine theirs tip met (PeerWentOn id) = Stands mine theirs mine.known tip met standing.PeerWentOn × (id ≡ theirs.id)
StandsInTheWay mine theirs tip met fault = ⊥

-- how the other side stands to the replica, by the hello that the replica has for it, is why nothing may be told
pub record MayNotTell (birth : List ℕ) (s : State Normal) (lacks : Bool) (theirs : Hello) (met : Option Met) (fault : SyncFault) : Type 0 where
  pub mine : Hello
  pub mine_is : IsHelloOf birth s lacks (Some theirs.id) mine
  -- what is told here of the other's last version
  pub tip : Option (List ℕ)
  pub tip_is : IsTip (versions_told s.id s.log) theirs.id theirs.issued tip
  pub stands : StandsInTheWay mine theirs tip met fault

-- why the other side isn't judged: nothing may be told to it, or the replica has no hello for it
abbrev pub IsJudgeFault : (birth : List ℕ) (s : State Normal) (lacks : Bool) (theirs : Hello) (met : Option Met) → SyncFault → Type 0
IsJudgeFault birth s lacks theirs met fault = MayNotTell birth s lacks theirs met fault ⊎ IsHelloFault s fault
