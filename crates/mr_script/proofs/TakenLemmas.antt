-- what a subscriber took, one answer further, and what a word names that is no label
use Rattle.std.proofs.Common.{◌≡◌, ◌∙◌, ◌&&◌, ℕ, ap, sym, refl, List, [], ◌∷◌, ◌++◌, Option, Some, None, Bool, false}
use Rattle.mr_script.proofs.Names.{Answered, Entry, Lists, MailCard, cons_option, filter_map-append, is_label, option_to_list, taken_at, taken_of}
use Rattle.mr_model.specs.Headline.{Cards}
use Rattle.mr_model.specs.declared.event.Subscriber.{Subscriber}
use Rattle.mr_subs.specs.Index.{labelled}
use Rattle.mr_subs.proofs.IndexLemmas.{rising-none}
use Rattle.mr_script.specs.Taken.{indexed}

cons_option-nil : (found : Option Entry) → cons_option found [] ≡ option_to_list found
cons_option-nil None = refl
cons_option-nil (Some entry) = refl

-- what was taken at one answer more comes behind
pub taken_of-more : (answers : List Answered) (id : ℕ) (subscriber : Subscriber) (x : Answered) →
    taken_of (answers ++ x ∷ []) id subscriber ≡ taken_of answers id subscriber ++ option_to_list (taken_at id subscriber x)
taken_of-more answers id subscriber x =
    filter_map-append (taken_at id subscriber) answers (x ∷ [])
    ∙ ap (λ (entries : List Entry). taken_of answers id subscriber ++ entries) (cons_option-nil (taken_at id subscriber x))

-- a word that is no label names no version
pub Lists-no_label : (cards : Cards MailCard) (word : List ℕ) → is_label word ≡ false → Lists (indexed cards word) []
Lists-no_label cards word other = record { rising = rising-none; exact = λ v. sym (ap (λ (b : Bool). b && labelled cards word v) other) }
