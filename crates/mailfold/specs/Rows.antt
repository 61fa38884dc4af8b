-- worked rows: what the definitions give for small values
use Rattle.std.proofs.Common.{arith}
use Rattle.std.specs.Prelude.{◌≡◌, ◌^◌, ◌-◌, ◌<◌, None, Some, codes, refl}
use Rattle.std.specs.Fmt.{digits}
use Rattle.mr_entry.specs.declared.fault.EntryFault.TheVariants as entries
use Rattle.mr_fold.specs.declared.fold_fault.FoldFault.TheVariants as folds
use Rattle.mr_kept.specs.declared.fault.ExplainedFault.TheVariants as explained
use Rattle.mr_kept.specs.declared.fault.KeptFault.TheVariants as kept
use Rattle.mr_kept.specs.declared.fault.OpenFault.TheVariants as opens
use Rattle.mr_replica.specs.declared.refusal.Refusal.TheVariants as refusals
use Rattle.mr_talk.specs.declared.fault.LineFault.TheVariants as lines
use Rattle.mr_talk.specs.declared.fault.MessageFault.TheVariants as messages
use Rattle.mr_talk.specs.declared.talk_fault.TalkFault.TheVariants as talks
use Rattle.mailfold.specs.declared.advice.Advice.TheVariants.{MovedOrRenew, Renew, SyncAgain}
use Rattle.mailfold.specs.declared.ending.Ending.TheVariants.{Stopped, Cut, InUse}
use Rattle.mailfold.specs.declared.fault.Fault.TheVariants as faults
use Rattle.mailfold.specs.Advice.{advice_for, advice_for_journal, advice_for_open}
use Rattle.mailfold.specs.Ending.{status_of}
use Rattle.mailfold.specs.inner.Expire.{IsYounger}
use Rattle.mailfold.specs.Fault.{ending_of_folder, ending_of_line, ending_of_talk}
use Rattle.mailfold.specs.LogNames.{inside, old_name}
use Rattle.mailfold.specs.Tallies.{sum_of}

-- a sync that was cut short ends with 3
pub cut_is_3 : status_of Cut ≡ 3
cut_is_3 = refl

-- a line that ends within a message is cut
pub truncated_is_cut : ending_of_line (lines.Message messages.Truncated) ≡ Cut
truncated_is_cut = refl

-- a line that brings something else is not
pub unknown_kind_is_a_fault : ending_of_line (lines.Message messages.BadKind) ≡ Stopped
unknown_kind_is_a_fault = refl

-- nor is a talk in which a message is out of place
pub out_of_place_is_a_fault : ending_of_talk talks.OutOfPlace ≡ Stopped
out_of_place_is_a_fault = refl

pub locked_is_in_use : ending_of_folder folds.InUse ≡ InUse
locked_is_in_use = refl

pub not_made_is_a_fault : ending_of_folder folds.NotMade ≡ Stopped
not_made_is_a_fault = refl

pub sum : sum_of 2 3 ≡ 5
sum = refl

-- a sum stays at its end
pub sum_at_the_end : sum_of (2 ^ 64 - 1) 5 ≡ 2 ^ 64 - 1
sum_at_the_end = refl

-- the twelfth old log
pub old_log_name : old_name 12 ≡ codes "log.12"
unfolding digits
old_log_name = refl

pub log_path : inside (codes "Mail") (codes "log") ≡ codes "Mail/.mailfold/log"
log_path = refl

-- a log of another place may have been moved
pub copied_or_moved : advice_for_open opens.Copied ≡ Some MovedOrRenew
copied_or_moved = refl

-- a log of another version of the program isn't to be replaced
pub other_format_has_no_advice : advice_for_open (opens.BadEntry 0 (entries.OtherFormat 2)) ≡ None
other_format_has_no_advice = refl

pub full_log_is_replaced : advice_for_journal (explained.Kept (kept.Refused refusals.LogFull)) ≡ Some Renew
full_log_is_replaced = refl

-- a sync that was cut goes on, and one that met a stranger doesn't
pub cut_goes_on : advice_for (faults.Talk (talks.Line lines.Closed)) ≡ Some SyncAgain
cut_goes_on = refl

pub out_of_place_has_no_advice : advice_for (faults.Talk talks.OutOfPlace) ≡ None
out_of_place_has_no_advice = refl

-- a file that changed at second 100 stays for a day of 86,400 seconds
pub last_second_of_a_day : IsYounger 100 1 86499
last_second_of_a_day = omega arith

-- and not for longer
pub a_day_later : ¬ IsYounger 100 1 86500
a_day_later younger = let wrong : 86500 < 86500 = younger in absurd (omega arith)

-- one that changed in the future stays, also where none is to stay for a day
pub from_the_future : IsYounger 101 0 100
from_the_future = omega arith
