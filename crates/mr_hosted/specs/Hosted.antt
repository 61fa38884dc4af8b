-- what a host has done, and what is shown then
use Rattle.std.specs.Prelude.{◌≡◌, ◌&&◌, [], Bool, true, false, not, nat_le, List, drop, length}
use Rattle.mr_journal.specs.Journal.{device_of}
use Rattle.mr_kept.specs.Kept.{journal_of, nothing_waits}
use Rattle.mr_kept.specs.declared.journaled.Journaled.{Journaled}
use Rattle.mr_hosted.specs.Outbox.{acts_of}
use Rattle.mr_hosted.specs.declared.act.Act.{Act}
use Rattle.mr_hosted.specs.declared.outbox.Outbox.{Outbox}
use Rattle.mr_replica.specs.declared.event.Reply.{Reply}
use Rattle.mr_hosted.specs.declared.hosted.Hosted.{Hosted}

module _ {K V : Type 0} where
  abbrev pub journaled_of : Hosted K V → Journaled K Outbox V
  journaled_of h = h.journaled

  abbrev pub outbox_of : Hosted K V → Outbox
  outbox_of h = device_of (journal_of (journaled_of h))

  -- what the host has to do
  abbrev pub acts_left : Hosted K V → List Act
  acts_left h = drop h.done (acts_of (outbox_of h))

  -- what the last commit hands out
  abbrev pub handed_out : Hosted K V → List Reply
  handed_out h = h.handed_out.items

  -- the host has done nothing yet, nothing failed, and nothing is handed out
  pub record IsNew (h : Hosted K V) : Type 0 where
    pub none_done : h.done ≡ 0
    pub sound : h.has_failed ≡ false
    pub nothing : handed_out h ≡ []

  -- the host has done all, and nothing failed
  abbrev pub is_settled : Hosted K V → Bool
  is_settled h = not h.has_failed && nat_le (length (acts_of (outbox_of h))) h.done

  -- the host has done all, nothing failed, and neither an event nor a note waits
  abbrev pub may_show : Hosted K V → Bool
  may_show h = is_settled h && nothing_waits (journaled_of h)

  -- what the host has done and what failed is as it was
  pub record SameDone (old new : Hosted K V) : Type 0 where
    pub done : new.done ≡ old.done
    pub failed : new.has_failed ≡ old.has_failed

  -- what the host has done, what failed and what is handed out are as they were
  pub record SameHost (old new : Hosted K V) : Type 0 where
    pub done : new.done ≡ old.done
    pub failed : new.has_failed ≡ old.has_failed
    pub handed_out_is : handed_out new ≡ handed_out old

  -- all acts are done, and all else is as it was
  pub record Settled (old new : Hosted K V) : Type 0 where
    pub done : new.done ≡ length (acts_of (outbox_of old))
    pub failed : new.has_failed ≡ old.has_failed
    pub handed_out_is : handed_out new ≡ handed_out old
    pub journaled : journaled_of new ≡ journaled_of old

  -- an act failed, and all else is as it was
  pub record Failed (old new : Hosted K V) : Type 0 where
    pub done : new.done ≡ old.done
    pub failed : new.has_failed ≡ true
    pub handed_out_is : handed_out new ≡ handed_out old
    pub journaled : journaled_of new ≡ journaled_of old
