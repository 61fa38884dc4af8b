-- an open folder as it talks: what it was opened with, and the files that it lacks
use Rattle.std.specs.Prelude.{◌≡◌, ◌==◌, ◌⊎◌, ℕ, Bool, true, false, not, [], List, length, take, Option, Some, None}
use Rattle.std.specs.BTreeMap.{BTreeMap, is_at}
use Rattle.std.specs.BTreeSet.{insert_key}
use Rattle.std.specs.Cmp.Lexicographic.{slice_cmp}
use Rattle.std.specs.Ordering.{nat_cmp}
use Rattle.std.specs.Set.{remove_key}
use Rattle.mr_compare.specs.declared.note.Meeting.{Meeting}
use Rattle.mr_concise.specs.declared.vector.AuthorColumn.{AuthorColumn}
use Rattle.mr_itemset.specs.Normal.{Normal}
use Rattle.mr_kept.specs.Kept.{head_of, journal_of, replica_of}
use Rattle.mr_kept.specs.declared.journaled.Journaled.{Journaled}
use Rattle.mr_replica.specs.declared.event.Event.{Event}
use Rattle.mr_talk.specs.declared.hello.Hello.{Hello}
use Rattle.mr_talk.specs.declared.turn.Turn.{Turn}
use Rattle.mr_version.specs.Name.{Name}
use Rattle.mr_sync.specs.Asking.{AsksMet, IsMetAskFault, TakesMetAsk}
use Rattle.mr_sync.specs.Ending.{EndsBy, IsEndFault, MayEnd}
use Rattle.mr_sync.specs.Hello.{IsHelloFault, IsHelloOf, IsJudgeFault, Judges, met_at}
use Rattle.mr_sync.specs.Idle.{AreIdle}
use Rattle.mr_sync.specs.Taken.{TakesReceipts}
use Rattle.mr_sync.specs.declared.coming.Coming.{Coming}
use Rattle.mr_sync.specs.declared.fault.SyncFault.{SyncFault}
use Rattle.mr_sync.specs.declared.host.FolderHost.{FolderHost}
use Rattle.mr_sync.specs.declared.idle.Hellos.{Hellos}

module _ {D F : Type 0} where
  -- the replica with its journal
  abbrev pub journaled_of : FolderHost D F → Journaled Normal D (List AuthorColumn)
  journaled_of h = h.kept

  -- the tree of files
  abbrev pub files_of : FolderHost D F → F
  files_of h = h.files

  -- what is remembered of the replicas that it met, by their ids
  abbrev pub meetings_of : FolderHost D F → BTreeMap ℕ Meeting
  meetings_of h = h.meetings

  -- the digests of the files that it lacks and hasn't asked for yet, each once, in their order
  abbrev pub lacking_of : FolderHost D F → List (List ℕ)
  lacking_of h = h.talk.arriving.lacking.keys

  -- whether there is such a file
  abbrev pub lacks_files : FolderHost D F → Bool
  lacks_files h = not (length (lacking_of h) == 0)

  -- the folder has just been opened with these, and lacks no file
  pub record IsOpened (kept : Journaled Normal D (List AuthorColumn)) (files : F) (meetings : BTreeMap ℕ Meeting) (h : FolderHost D F) : Type 0 where
    pub journaled : journaled_of h ≡ kept
    pub files_are : files_of h ≡ files
    pub meetings_are : meetings_of h ≡ meetings
    pub none_lacking : lacking_of h ≡ []

  -- what the folder was opened with is as it was
  pub record SameParts (old new : FolderHost D F) : Type 0 where
    pub journaled : journaled_of new ≡ journaled_of old
    pub files_are : files_of new ≡ files_of old
    pub meetings_are : meetings_of new ≡ meetings_of old

  -- what the folder was opened with is as it was, and so are the files that it lacks
  pub record SameFolder (old new : FolderHost D F) : Type 0 where
    pub parts : SameParts old new
    pub lacking : lacking_of new ≡ lacking_of old

  -- the folder lacks the file of this digest too, once, and is else as it was
  pub record LacksToo (digest : List ℕ) (old new : FolderHost D F) : Type 0 where
    pub parts : SameParts old new
    pub lacking : lacking_of new ≡ insert_key (slice_cmp nat_cmp) (lacking_of old) digest

  -- the hello that the folder has for the one with this id, or for one whose id it doesn't know
  abbrev pub IsHelloFrom : FolderHost D F → Option ℕ → Hello → Type 0
  IsHelloFrom h = IsHelloOf (head_of (journaled_of h)).birth (replica_of (journaled_of h)) (lacks_files h)

  -- what the other side said of itself, if it did
  abbrev pub theirs_of : FolderHost D F → Option Hello
  theirs_of h = h.talk.theirs

  -- the digest of what the folder knew when it said that it has nothing open, if it did
  abbrev pub mine_of : FolderHost D F → Option (List ℕ)
  mine_of h = h.talk.mine

  -- the first bytes of that digest of the other side, if it said so
  abbrev pub knows_of : FolderHost D F → Option (List ℕ)
  knows_of h = h.talk.knows

  -- both sides have said that they have nothing open, and this is their meeting at that time
  pub record HasMet (h : FolderHost D F) (time : ℕ) (meeting : Meeting) : Type 0 where
    pub theirs : (said : Hello) × (theirs_of h ≡ Some said) × (meeting.id ≡ said.id) × (meeting.birth ≡ said.birth)
    pub mine : mine_of h ≡ Some meeting.mine
    pub knows : knows_of h ≡ Some (take 16 meeting.theirs)
    pub time_is : meeting.time ≡ time

  -- one of them hasn't said so
  abbrev pub HasNotMet : FolderHost D F → Type 0
  HasNotMet h = (theirs_of h ≡ None) ⊎ (mine_of h ≡ None) ⊎ (knows_of h ≡ None)

  -- the bytes by which the folder asks it
  abbrev pub AsksOf : FolderHost D F → List ℕ → FolderHost D F → Type 0
  AsksOf old bytes new = AsksMet (theirs_of old) (replica_of (journaled_of old)) bytes (replica_of (journaled_of new))

  -- what comes of the bytes by which it asks the folder
  abbrev pub TakesAskOf : FolderHost D F → List ℕ → FolderHost D F → Type 0
  TakesAskOf old bytes new = TakesMetAsk (theirs_of old) (replica_of (journaled_of old)) bytes (replica_of (journaled_of new))

  -- why the bytes by which it asks the folder are refused
  abbrev pub IsAskFaultOf : FolderHost D F → List ℕ → FolderHost D F → SyncFault → Type 0
  IsAskFaultOf old bytes new = IsMetAskFault (journal_of (journaled_of old)) (theirs_of old) (replica_of (journaled_of old)) bytes (replica_of (journaled_of new))

  -- what the folder finds of the one that said this: nothing stands in the way, and whether there is something to tell
  abbrev pub JudgesOf : FolderHost D F → Hello → Bool → Type 0
  JudgesOf h theirs = Judges (head_of (journaled_of h)).birth (replica_of (journaled_of h)) (lacks_files h) theirs (met_at (meetings_of h) theirs.id)

  -- why the folder says no hello
  abbrev pub IsHelloFaultOf : FolderHost D F → SyncFault → Type 0
  IsHelloFaultOf h = IsHelloFault (replica_of (journaled_of h))

  -- why the folder doesn't say whether there is something to tell to the one that said this: nothing may be told to it, or the folder has no hello for it
  abbrev pub IsMeetFaultOf : FolderHost D F → Hello → SyncFault → Type 0
  IsMeetFaultOf h theirs = IsJudgeFault (head_of (journaled_of h)).birth (replica_of (journaled_of h)) (lacks_files h) theirs (met_at (meetings_of h) theirs.id)

  -- the other side said something, the folder lacks no file, and this is why it doesn't say whether there is something to tell
  abbrev pub IsIdleFaultOf : FolderHost D F → SyncFault → Type 0
  IsIdleFaultOf h fault = (lacks_files h ≡ false) × ((theirs : Hello) × (theirs_of h ≡ Some theirs) × IsMeetFaultOf h theirs fault)

  -- the other side hasn't said anything, the folder lacks a file, or there is something to tell
  abbrev pub HasToTell : FolderHost D F → Type 0
  HasToTell h = (theirs_of h ≡ None) ⊎ (lacks_files h ≡ true) ⊎ ((theirs : Hello) × (theirs_of h ≡ Some theirs) × JudgesOf h theirs false)

  -- the folder lacks no file, and has nothing to tell by these hellos, of which the other side has said its own
  pub record IsIdle (h : FolderHost D F) (talk : Hellos) : Type 0 where
    pub said : theirs_of h ≡ Some talk.theirs
    pub lacks_none : lacks_files h ≡ false
    pub idle : AreIdle (head_of (journaled_of h)).birth (replica_of (journaled_of h)) (meetings_of h) talk

  -- ---- what comes, and the end of a turn

  -- the events of the replica's log
  abbrev pub log_of : FolderHost D F → List Event
  log_of h = (replica_of (journaled_of h)).log

  -- the last frame of a record that came
  abbrev pub last_of : FolderHost D F → List ℕ
  last_of h = h.talk.arriving.last

  -- the file that comes, if one does
  abbrev pub coming_of : FolderHost D F → Option Coming
  coming_of h = h.talk.coming

  -- the digests of the files that are wanted of the other side, each once, in their order; and of those that it wants, as it told them
  abbrev pub wanted_of : FolderHost D F → List (List ℕ)
  wanted_of h = h.talk.arriving.wanted.keys

  abbrev pub wants_of : FolderHost D F → List (List ℕ)
  wants_of h = h.talk.leaving.wants.items

  -- what waits for a receipt at the other side, by its items
  abbrev pub waiting_of : FolderHost D F → List (Name × Name)
  waiting_of h = h.talk.waiting.entries

  -- the other side, as it said itself, and what is remembered of those that were met are as they were
  pub record SameOthers (old new : FolderHost D F) : Type 0 where
    pub theirs_are : theirs_of new ≡ theirs_of old
    pub meetings_are : meetings_of new ≡ meetings_of old

  -- the folder takes the receipts that the bytes are, all of them
  abbrev pub TakesReceiptsOf : FolderHost D F → List ℕ → FolderHost D F → Type 0
  TakesReceiptsOf old bytes new = TakesReceipts (theirs_of old) (replica_of (journaled_of old)) bytes (replica_of (journaled_of new))

  -- the file of this digest isn't wanted of the other side any more, and all others are that were
  abbrev pub WantsNoMore : (digest : List ℕ) (old new : FolderHost D F) → Type 0
  WantsNoMore digest old new = wanted_of new ≡ remove_key (is_at (slice_cmp nat_cmp digest)) (wanted_of old)

  -- the folder may not say at the end of this turn that it has nothing open, and hasn't
  abbrev pub GoesOnBehind : (turn : Turn) (old new : FolderHost D F) → Type 0
  GoesOnBehind turn old new = (MayEnd turn old.talk → ⊥) × (mine_of new ≡ mine_of old)

  -- it may, and says these first bytes of the digest of what it knows, which is noted
  abbrev pub EndsBehind : (turn : Turn) (old new : FolderHost D F) (short : List ℕ) → Type 0
  EndsBehind turn old new short = MayEnd turn old.talk × EndsBy (replica_of (journaled_of old)).knowledge short (mine_of new)

  -- why the folder doesn't end the turn
  abbrev pub IsEndFaultOf : Turn → FolderHost D F → SyncFault → Type 0
  IsEndFaultOf turn h = IsEndFault turn h.talk (replica_of (journaled_of h)).knowledge
