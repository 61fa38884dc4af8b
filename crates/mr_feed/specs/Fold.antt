-- what the fold of a feed's entries has
use Rattle.std.specs.Prelude.{◌≡◌, if◌then◌else◌, List, [], ◌∷◌, ◌++◌, Some, None, refl}
use Rattle.std.specs.Option.{is_some}
pub use Rattle.mr_version.specs.Sets.{is_listed}
use Rattle.mr_mail.specs.Mail.{MailCard}
use Rattle.mr_version.specs.Sets.{Versions}
use Rattle.mr_model.specs.Versions.{is}
use Rattle.mr_model.specs.History.{Entry, Entry.Added, Entry.Dropped}
use Rattle.mr_model.specs.Headline.{Cards, fold_from}

-- which versions have a card
abbrev pub with_card : Cards MailCard → Versions
with_card cards v = is_some (cards v)

-- a fold of two lists, one behind the other, is the second's from where the first's ends
pub fold_from-append : (cards : Cards MailCard) (xs ys : List (Entry MailCard)) → fold_from cards (xs ++ ys) ≡ fold_from (fold_from cards xs) ys
fold_from-append cards [] ys = refl
fold_from-append cards (Added item version card ∷ xs) ys = fold_from-append (λ u. if is version u then Some card else cards u) xs ys
fold_from-append cards (Dropped item version ∷ xs) ys = fold_from-append (λ u. if is version u then None else cards u) xs ys
