-- why a sender, a subject, a body, labels and a flag byte make no message
use Rattle.std.specs.Prelude.{ℕ, not, nat_lt, if◌then◌else◌, List, length, Option, Some, None}
use Rattle.std.specs.List.{list_all}
use Rattle.mr_mail.specs.Label.{is_label, different_labels}
use Rattle.mr_mail.specs.declared.fault.MessageFault.{MessageFault}
use Rattle.mr_mail.specs.declared.fault.MessageFault.TheVariants.{FromTooLong, SubjectTooLong, BodyTooLong, BadLabel, TooManyLabels, BadFlags}
use Rattle.mr_mail.specs.declared.message.TheConstants.{MAX_FROM_BYTES, MAX_SUBJECT_BYTES, MAX_BODY_BYTES}
use Rattle.mr_mail.specs.declared.label.TheConstants.{MAX_LABELS}

-- the first reason that can be decided; none: only memory may be wanting
abbrev pub first_fault : List ℕ → List ℕ → List ℕ → List (List ℕ) → ℕ → Option MessageFault
first_fault from subject body labels flags =
    if nat_lt MAX_FROM_BYTES (length from) then Some FromTooLong
    else (if nat_lt MAX_SUBJECT_BYTES (length subject) then Some SubjectTooLong
    else (if nat_lt MAX_BODY_BYTES (length body) then Some BodyTooLong
    else (if not (list_all is_label labels) then Some BadLabel
    else (if nat_lt MAX_LABELS (different_labels labels) then Some TooManyLabels
    else (if nat_lt 31 flags then Some BadFlags
    else None)))))
