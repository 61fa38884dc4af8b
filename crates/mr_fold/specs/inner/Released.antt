-- mail that left the folder's filter by a change that was made here
use Rattle.std.specs.Prelude.{Bool, false, ◌&&◌, Option, Some, None}
use Rattle.std.specs.List.{list_all}
use Rattle.mr_mail.specs.Label.{has_label}
use Rattle.mr_maildir.specs.View.{ViewParts}

-- the mail is seen in just the folders that were told of it
abbrev pub is_as_told : Option ViewParts → ViewParts → Bool
is_as_told None told = false
is_as_told (Some seen) told = list_all (λ label. has_label seen.labels label) told.labels && list_all (λ label. has_label told.labels label) seen.labels
