-- the place that heads have together, or why they have none
use Rattle.std.specs.Prelude.{◌≡◌, ◌<◌, ◌≤◌, not, IsTrue, IfSome, List, length, slice_get, Option, Result, Ok, Err}
use Rattle.mr_mail.specs.Mail.{Mail, MailCard}
use Rattle.mr_mail.specs.declared.label.TheConstants.{MAX_LABELS}
use Rattle.mr_maildir.specs.Policy.{have_one_content}
use Rattle.mr_maildir.specs.declared.policy.MergeFault.{MergeFault}
use Rattle.mr_maildir.specs.declared.policy.MergeFault.TheVariants.{OutOfMemory, ContentsDiffer, TooManyLabels}
use Rattle.mr_desk.specs.Merge.{said_together}

-- ---- the merge

-- the place that they have together, or why they have none
abbrev pub PlacesTogether : Option MailCard → List Mail → Result MailCard MergeFault → Type 0
PlacesTogether card messages (Ok place) =
    let view = said_together card messages in
    IsTrue (have_one_content messages) × (length view.labels ≤ MAX_LABELS) × (place.labels ≡ view.labels) × (place.flags ≡ view.flags) × IfSome (slice_get messages 0) (λ first. place.day ≡ first.day)
PlacesTogether card messages (Err OutOfMemory) = Unit {0}
PlacesTogether card messages (Err ContentsDiffer) = IsTrue (not (have_one_content messages))
PlacesTogether card messages (Err TooManyLabels) = IsTrue (have_one_content messages) × (MAX_LABELS < length (said_together card messages).labels)
