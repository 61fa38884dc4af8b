-- what comes, and what a log has of it
use Rattle.std.specs.Prelude.{◌≡◌, ◌⊎◌, ◌++◌, ℕ, Bool, IsTrue, All, List, [], ◌∷◌, map, Option, Some, None, option_map, Ok, Err}
use Rattle.std.specs.BTreeMap.{insert_entry}
use Rattle.std.specs.List.{AllByRecursion, flat_map}
use Rattle.mr_folder.specs.Tree.{Tree}
use Rattle.mr_itemset.specs.Normal.{Normal}
use Rattle.mr_itemset.specs.Sparing.{sparing_form}
use Rattle.mr_replica.specs.State.{State}
use Rattle.mr_replica.specs.Step.{Steps}
use Rattle.mr_replica.specs.declared.event.Event.{Event}
use Rattle.mr_replica.specs.declared.event.Event.TheVariants.{Receive, Release}
use Rattle.mr_replica.specs.declared.event.Reply.TheVariants.{Done}
use Rattle.mr_replica.specs.declared.refusal.Refusal.TheVariants.{NotPushedOut}
use Rattle.mr_talk.specs.Packed.{Unpacks}
use Rattle.mr_talk.specs.declared.hello.Hello.{Hello}
use Rattle.mr_version.specs.Name.{Name, name_cmp}
use Rattle.mr_wire.specs.Grammar.{Spells}
use Rattle.mr_wire.specs.declared.frame.Frame.{Frame}
use Rattle.mr_wire.specs.declared.frame.Frame.TheVariants as frame
use Rattle.mr_wire.specs.declared.frame.Receipt.{Receipt}
use Rattle.mr_sync.specs.declared.lists.PushOut.{PushOut}
use Rattle.mr_sync.specs.Named.{HasOrListsOf, is_listed}
use Rattle.mr_sync.specs.Lists.{IsDigest, IsPushOut, push_out_bytes}

-- the bytes are those of these frames, one after the other
abbrev pub AreFrames : List Frame → List ℕ → Type 0
AreFrames [] bytes = bytes ≡ []
AreFrames (f ∷ frames) bytes = (format : ℕ) × (text : List ℕ) × (rest : List ℕ) × Spells format f text × (bytes ≡ text ++ rest) × AreFrames frames rest

-- the frame is a record that this source gave
abbrev pub IsRecordOf : ℕ → Frame → Type 0
IsRecordOf source (frame.Record sent) = sent.header.source ≡ source
IsRecordOf source (frame.Ask q) = ⊥
IsRecordOf source (frame.Receipt r) = ⊥

-- an event by which a record of this source is taken, and one by which push-outs are let go for a receipt of this giver
abbrev pub TakesRecordOf : ℕ → Event → Type 0
TakesRecordOf source (Receive f) = IsRecordOf source f
TakesRecordOf source event = ⊥

abbrev pub LetsGoFor : ℕ → Event → Type 0
LetsGoFor giver (Release r) = r.giver ≡ giver
LetsGoFor giver event = ⊥

-- a log has such events behind those that it had, and no other
pub record GrowsOnlyBy (P : Event → Type 0) (old new : List Event) : Type 0 where
  pub events : List Event
  pub log : new ≡ old ++ events
  pub are : AllByRecursion P events

-- a log has behind those that it had only events that are such of the other side; and none where that side hasn't said who it is
abbrev pub GrowsOnlyByTheirs : (P : ℕ → Event → Type 0) → Option Hello → (old new : List Event) → Type 0
GrowsOnlyByTheirs P None old new = new ≡ old
GrowsOnlyByTheirs P (Some theirs) old new = GrowsOnlyBy (P theirs.id) old new

-- The other side said who it is. The bytes, behind the last frame of a record that came, are packed frames; each is a record that this side gave, and the log has all of them, in their order, behind what it had. Behind the bytes another frame is the last.
pub record TakesRecords (theirs : Option Hello) (last : List ℕ) (old : State Normal) (bytes after : List ℕ) (new : State Normal) : Type 0 where
  pub other : ℕ
  pub met : option_map (λ h. h.id) theirs ≡ Some other
  pub text : List ℕ
  pub unpacked : Unpacks last bytes text after
  pub frames : List Frame
  pub spelled : AreFrames frames text
  pub given : AllByRecursion (IsRecordOf other) frames
  pub log : new.log ≡ old.log ++ map Receive frames

-- what is on the one list is on the other
abbrev pub AllStay : List (List ℕ) → List (List ℕ) → Type 0
AllStay old new = (digest : List ℕ) → IsTrue (is_listed old digest) → IsTrue (is_listed new digest)

-- records are taken so, and of each file that one of them needs the store has one by its digest, or it is on the list of those that are lacking
pub record TakesNamed (is_told : Bool) (theirs : Option Hello) (last : List ℕ) (old : State Normal) (bytes after : List ℕ) (new : State Normal) (tree : Tree) (lacking : List (List ℕ)) : Type 0 where
  pub taken : TakesRecords theirs last old bytes after new
  pub named : IsTrue is_told → All (HasOrListsOf tree lacking) taken.frames

-- A receipt lets go of the push-outs that it is for; or it is for none, which changes nothing.
abbrev pub LetsGo : State Normal → Receipt → State Normal → Type 0
LetsGo old r new = Steps sparing_form old (Release r) (Ok Done) new ⊎ Steps sparing_form old (Release r) (Err NotPushedOut) new

-- these receipts do so, all of them and one after the other
abbrev pub AllLetGo : State Normal → List Receipt → State Normal → Type 0
AllLetGo old [] new = new ≡ old
AllLetGo old (r ∷ receipts) new = (mid : State Normal) × LetsGo old r mid × AllLetGo mid receipts new

-- the frames are receipts of this giver, and all of them let go of what they are for
pub record ReleasesAll (giver : ℕ) (old : State Normal) (frames : List Frame) (new : State Normal) : Type 0 where
  pub receipts : List Receipt
  pub are : frames ≡ map frame.Receipt receipts
  pub given : AllByRecursion (λ (r : Receipt). r.giver ≡ giver) receipts
  pub released : AllLetGo old receipts new

-- the other side said who it is, the bytes are frames of receipts that it gave, and all of them let go of what they are for
pub record TakesReceipts (theirs : Option Hello) (old : State Normal) (bytes : List ℕ) (new : State Normal) : Type 0 where
  pub other : ℕ
  pub met : option_map (λ h. h.id) theirs ≡ Some other
  pub frames : List Frame
  pub spelled : AreFrames frames bytes
  pub releases : ReleasesAll other old frames new

-- the bytes are digests, and these are wanted too, behind those that were
pub record TakesWants (old : List (List ℕ)) (bytes : List ℕ) (new : List (List ℕ)) : Type 0 where
  pub digests : List (List ℕ)
  pub are : AllByRecursion IsDigest digests
  pub spelled : bytes ≡ flat_map (λ (d : List ℕ). d) digests
  pub wanted : new ≡ old ++ digests

-- the version that waits for a receipt of each item, these noted too: of several of one item the last
abbrev pub with_waiting : List (Name × Name) → List PushOut → List (Name × Name)
with_waiting waiting [] = waiting
with_waiting waiting (p ∷ list) = with_waiting (insert_entry name_cmp waiting p.item p.version) list

-- the bytes are a list of items and versions, and these wait for a receipt too
pub record TakesPushOuts (old : List (Name × Name)) (bytes : List ℕ) (new : List (Name × Name)) : Type 0 where
  pub list : List PushOut
  pub are : AllByRecursion IsPushOut list
  pub spelled : bytes ≡ flat_map push_out_bytes list
  pub waiting : new ≡ with_waiting old list
