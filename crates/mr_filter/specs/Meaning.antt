-- which messages a filter selects, and when one filter covers another
use Rattle.std.specs.Prelude.{ℕ, Bool, not, ◌&&◌, nat_le, List}
use Rattle.std.specs.List.{list_all, list_any}
use Rattle.mr_mail.specs.Flag.{has_flag, has_flags, lacks_flags}
use Rattle.mr_mail.specs.Label.{has_label}
use Rattle.mr_mail.specs.Mail.{MailCard}
use Rattle.mr_filter.specs.Filter.{ClauseParts}
use Rattle.mr_filter.specs.Condition.{Condition, HasLabel, LacksLabel, HasFlag, LacksFlag, Since}

-- whether the condition is true of a message with this card
abbrev pub is_true_of : MailCard → Condition → Bool
is_true_of card (HasLabel label) = has_label card.labels label
is_true_of card (LacksLabel label) = not (has_label card.labels label)
is_true_of card (HasFlag flag) = has_flag card.flags flag
is_true_of card (LacksFlag flag) = not (has_flag card.flags flag)
is_true_of card (Since day) = nat_le day card.day

-- whether each of the wanted labels is among these
abbrev pub has_labels : List (List ℕ) → List (List ℕ) → Bool
has_labels labels wanted = list_all (has_label labels) wanted

-- whether none of the barred labels is among these
abbrev pub lacks_labels : List (List ℕ) → List (List ℕ) → Bool
lacks_labels labels barred = not (list_any (has_label labels) barred)

-- whether a message with this card meets each condition of the clause
abbrev pub meets : MailCard → ClauseParts → Bool
meets card clause =
    nat_le clause.since card.day
    && has_flags card.flags clause.flags_on && lacks_flags card.flags clause.flags_off
    && has_labels card.labels clause.all_labels && lacks_labels card.labels clause.no_labels

-- a filter selects what meets some clause of it
abbrev pub selects : List ClauseParts → MailCard → Bool
selects filter card = list_any (meets card) filter

-- whether each condition of the first clause is one of the second's, so that it bars no more
abbrev pub is_as_wide : ClauseParts → ClauseParts → Bool
is_as_wide wide narrow =
    nat_le wide.since narrow.since
    && has_flags narrow.flags_on wide.flags_on && has_flags narrow.flags_off wide.flags_off
    && has_labels narrow.all_labels wide.all_labels && has_labels narrow.no_labels wide.no_labels

-- whether each clause of the second filter has a clause of the first that is as wide
abbrev pub covers : List ClauseParts → List ClauseParts → Bool
covers filter other = list_all (λ narrow. list_any (λ wide. is_as_wide wide narrow) filter) other
