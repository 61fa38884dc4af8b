-- what a user changed
use Rattle.std.specs.Prelude.{ℕ, Bool, not, ◌&&◌, ◌||◌, if◌then◌else◌, List, ◌++◌, filter, Option, Some, None}
use Rattle.std.specs.List.{list_all}
use Rattle.mr_mail.specs.Flag.{has_flag}
use Rattle.mr_mail.specs.Label.{has_label}
use Rattle.mr_mail.specs.declared.flags.Flag.{Flag}
use Rattle.mr_joins.specs.Labels.{in_order}
use Rattle.mr_joins.specs.Shown.{flags_where, or_inbox}
use Rattle.mr_joins.specs.View.{ViewParts, is_nowhere, nowhere}

-- a mail that was never shown was left nowhere
abbrev pub over : Option ViewParts → ViewParts
over None = nowhere
over (Some left) = left

-- what is to be so: what is seen and wasn't left so comes, what was left so and isn't seen goes, and all else is as it is shown
abbrev pub changed : Bool → Bool → Bool → Bool
changed left seen shown = if seen then (shown || not left) else (shown && not left)

-- whether the mail is to stand in the folder of a label
abbrev pub stays : ViewParts → ViewParts → ViewParts → List ℕ → Bool
stays shown left seen label = changed (has_label left.labels label) (has_label seen.labels label) (has_label shown.labels label)

-- the flags that it is to have
abbrev pub changed_flags : ℕ → ℕ → ℕ → ℕ
changed_flags shown left seen = flags_where (λ (f : Flag). changed (has_flag left f) (has_flag seen f) (has_flag shown f))

-- what is shown, with the changes from what was left to what is seen; the inbox where no folder is left
abbrev pub with_changes : ViewParts → ViewParts → ViewParts → ViewParts
with_changes shown left seen = record {
  labels = in_order (or_inbox (filter (stays shown left seen) shown.labels ++ filter (stays shown left seen) seen.labels));
  flags = changed_flags shown.flags left.flags seen.flags;
}

-- how the mail is to stand: what was deleted elsewhere as it is seen
abbrev pub wanted : ViewParts → Option ViewParts → ViewParts → ViewParts
wanted shown left seen = if is_nowhere shown then seen else with_changes shown (over left) seen

-- whether a view has each folder of another one
abbrev pub keeps_folders : ViewParts → ViewParts → Bool
keeps_folders view other = list_all (has_label view.labels) other.labels
