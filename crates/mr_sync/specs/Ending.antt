-- when a side may say that it has nothing open
use Rattle.std.specs.Prelude.{◌≡◌, ℕ, Bool, true, false, List, [], take, Option, Some, None}
use Rattle.std.specs.BTreeSet.{btree_set_len}
use Rattle.mr_forms.specs.declared.fault.FormFault.TheVariants.{TooManyHoles}
use Rattle.mr_itemset.specs.Normal.{Normal}
use Rattle.mr_itemset.specs.Sparing.{sparing_form}
use Rattle.mr_lookup.specs.Digest.{IsDigestOf}
use Rattle.mr_replica.specs.Fragments.{HasHoleyPart}
use Rattle.mr_talk.specs.declared.turn.Turn.{Turn}
use Rattle.mr_talk.specs.declared.turn.Turn.TheVariants.{CalledSettles, CalledCloses, CallerCloses}
use Rattle.mr_sync.specs.declared.fault.SyncFault.{SyncFault}
use Rattle.mr_sync.specs.declared.fault.SyncFault.TheVariants.{OutOfMemory, Knowledge, Unfinished}
use Rattle.mr_sync.specs.declared.talk.Arriving.{Arriving}
use Rattle.mr_sync.specs.declared.talk.Talk.{Talk}

-- the other side told all that was asked for, and each file that was wanted of it came, or is missing there
pub record IsAllTold (arriving : Arriving) : Type 0 where
  pub finished : arriving.is_finished ≡ true
  pub none_wanted : btree_set_len arriving.wanted ≡ 0

-- that, and each file that is named came, and all that is to be told is told
pub record HasNothingOpen (talk : Talk) : Type 0 where
  pub all_told : IsAllTold talk.arriving
  pub none_lacking : btree_set_len talk.arriving.lacking ≡ 0
  pub no_stream : talk.leaving.stream ≡ None
  pub no_records : talk.leaving.said.records.items ≡ []
  pub no_receipts : talk.leaving.said.receipts.items ≡ []
  pub none_wanted_here : talk.leaving.wants.items ≡ []

-- a turn of which a side has to say so at the end: the sixth and the seventh
abbrev pub is_last : Turn → Bool
is_last CalledSettles = true
is_last CalledCloses = true
is_last CallerCloses = true
is_last turn = false

-- a side may say at the end of a turn, one in which it has to or not, that it has nothing open
abbrev pub MayEndIf : Bool → Talk → Type 0
MayEndIf true talk = IsAllTold talk.arriving
MayEndIf false talk = HasNothingOpen talk

-- a side may say at the end of this turn that it has nothing open: in the last turns where all that it asked for is told, else where nothing at all is open
abbrev pub MayEnd : Turn → Talk → Type 0
MayEnd turn talk = MayEndIf (is_last turn) talk

-- it would have to say so, and isn't told all that it asked for
pub record IsUnfinished (turn : Turn) (talk : Talk) (fault : SyncFault) : Type 0 where
  pub fault_is : fault ≡ Unfinished
  pub last : is_last turn ≡ true
  pub unfinished : ¬ (IsAllTold talk.arriving)

-- what is said of this knowledge by a side that has nothing open, the first bytes of its digest, and the digest that is noted
pub record EndsBy (k : Normal) (short : List ℕ) (mine : Option (List ℕ)) : Type 0 where
  pub digest : List ℕ
  pub is_digest : IsDigestOf sparing_form k digest
  pub short_is : short ≡ take 16 digest
  pub mine_is : mine ≡ Some digest

-- why a turn isn't ended: what was asked for isn't told in a last turn; or a side may say that it has nothing open, and its knowledge has a part with too many holes for a fragment, or memory runs out
abbrev pub IsEndFault : Turn → Talk → Normal → SyncFault → Type 0
IsEndFault turn talk k OutOfMemory = MayEnd turn talk
IsEndFault turn talk k (Knowledge e) = MayEnd turn talk × (e ≡ TooManyHoles) × HasHoleyPart (sparing_form.is_part k)
IsEndFault turn talk k fault = IsUnfinished turn talk fault
