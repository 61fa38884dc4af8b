-- what may help against a fault
use Rattle.std.specs.Prelude.{Option, Some, None}
use Rattle.mr_entry.specs.declared.fault.EntryFault.TheVariants as entries
use Rattle.mr_fold.specs.declared.fold_fault.FoldFault.TheVariants as folds
use Rattle.mr_journal.specs.declared.fault.JournalFault.TheVariants as journals
use Rattle.mr_kept.specs.declared.fault.ExplainedFault.{ExplainedFault}
use Rattle.mr_kept.specs.declared.fault.ExplainedFault.TheVariants as explained
use Rattle.mr_kept.specs.declared.fault.KeptFault.TheVariants as kept
use Rattle.mr_kept.specs.declared.fault.OpenFault.{OpenFault}
use Rattle.mr_kept.specs.declared.fault.OpenFault.TheVariants as opens
use Rattle.mr_replica.specs.declared.refusal.Refusal.TheVariants as refusals
use Rattle.mailfold.specs.Fault.{ending_of_talk}
use Rattle.mailfold.specs.declared.advice.Advice.{Advice}
use Rattle.mailfold.specs.declared.advice.Advice.TheVariants.{SyncAgain, MovedOrRenew, Renew}
use Rattle.mailfold.specs.declared.ending.Ending.{Ending}
use Rattle.mailfold.specs.declared.ending.Ending.TheVariants.{Cut}
use Rattle.mailfold.specs.declared.fault.Fault.{Fault}
use Rattle.mailfold.specs.declared.fault.Fault.TheVariants as faults

-- a log of another place belongs to a folder that was moved or copied; one that is damaged is replaced, unless another version of the
-- program wrote it
abbrev pub advice_for_open : OpenFault → Option Advice
advice_for_open opens.Copied = Some MovedOrRenew
advice_for_open (opens.BadEntry _ (entries.OtherFormat _)) = None
advice_for_open (opens.BadEntry _ _) = Some Renew
advice_for_open (opens.Journal journals.NotAJournal) = Some Renew
advice_for_open (opens.Journal (journals.Damaged _)) = Some Renew
advice_for_open (opens.Misplaced _) = Some Renew
advice_for_open (opens.OtherCounter _) = Some Renew
advice_for_open opens.TooManyEvents = Some Renew
advice_for_open (opens.Replay _) = Some Renew
advice_for_open _ = None

-- what helps where a journal failed: a log that is full is replaced
abbrev pub advice_for_journal : ExplainedFault → Option Advice
advice_for_journal (explained.Open fault) = advice_for_open fault
advice_for_journal (explained.Kept (kept.Refused refusals.LogFull)) = Some Renew
advice_for_journal _ = None

-- a sync that was cut goes on
abbrev pub advice_at_ending : Ending → Option Advice
advice_at_ending Cut = Some SyncAgain
advice_at_ending _ = None

abbrev pub advice_for : Fault → Option Advice
advice_for (faults.Folder (folds.Journal fault)) = advice_for_journal fault
advice_for (faults.Talk fault) = advice_at_ending (ending_of_talk fault)
advice_for faults.UnreadLog = Some Renew
advice_for _ = None
