-- what a commit of a replica whose host writes does
use Rattle.std.specs.Prelude.{◌≡◌, ◌≢◌, ◌++◌, true, false, List, Result, Ok, Err}
use Rattle.mr_forms.specs.Known.{Form}
use Rattle.mr_entry.specs.declared.entry.Entry.{Entry}
use Rattle.mr_kept.specs.Commit.{Committed, LeavesOneOfTwo, Uncommitted}
use Rattle.mr_kept.specs.Entries.{notes_of}
use Rattle.mr_kept.specs.Kept.{IsKept, head_of, notes_waiting, replica_of}
use Rattle.mr_kept.specs.Whole.{HasLogOf, IsOf}
use Rattle.mr_kept.specs.declared.fault.KeptFault.{KeptFault}
use Rattle.mr_kept.specs.declared.fault.KeptFault.TheVariants.{Failed, Unsettled}
use Rattle.mr_hosted.specs.Hosted.{SameDone, handed_out, is_settled, journaled_of, outbox_of}
use Rattle.mr_hosted.specs.Outbox.{file_of, may_leave, outbox_device}
use Rattle.mr_hosted.specs.declared.hosted.Hosted.{Hosted}

module _ {K V : Type 0} (form : Form K) where
  -- Whatever comes of it, the replica stays, and what the host has done; and in whichever act the host is killed, its file has what was there
  -- before, or that and all that waited.
  pub record Tries (old new : Hosted K V) : Type 0 where
    pub replica : replica_of (journaled_of new) ≡ replica_of (journaled_of old)
    pub head : head_of (journaled_of new) ≡ head_of (journaled_of old)
    pub host : SameDone old new
    pub leaves : LeavesOneOfTwo form outbox_device (journaled_of old) (journaled_of new)

  -- All that waited is to be kept: once the acts are done the file has it, and what was held back is handed out.
  pub record IsHanded (old new : Hosted K V) : Type 0 where
    pub tries : Tries old new
    pub committed : Committed outbox_device (journaled_of old) (handed_out new) (journaled_of new)
    -- so the file has the log of the replica then, and the notes from before and behind them those that waited: opening it gives a replica that is
    -- alike, and just these notes
    pub has_log : (entries : List Entry) → IsKept file_of may_leave entries (journaled_of old) → IsOf (head_of (journaled_of old)) (replica_of (journaled_of old))
        → HasLogOf form (file_of (outbox_of new)) (head_of (journaled_of new)) (replica_of (journaled_of new)) (notes_of entries ++ notes_waiting (journaled_of old))

  -- Nothing more is handed out. Unless there was no memory to note an act, all is as it was.
  pub record IsUnhanded (old : Hosted K V) (fault : KeptFault) (new : Hosted K V) : Type 0 where
    pub tries : Tries old new
    pub uncommitted : Uncommitted outbox_device (journaled_of old) fault (journaled_of new)
    pub unchanged : fault ≢ Failed → new ≡ old
    pub handed_out_is : handed_out new ≡ handed_out old

  -- One of these; or the host has acts to do, or one of them failed: then all is as it was.
  abbrev pub HostCommits : Hosted K V → Result (Unit {0}) KeptFault → Hosted K V → Type 0
  HostCommits old (Ok done) new = (is_settled old ≡ true) × IsHanded old new
  HostCommits old (Err Unsettled) new = (is_settled old ≡ false) × (new ≡ old)
  HostCommits old (Err fault) new = (is_settled old ≡ true) × IsUnhanded old fault new
