-- what a replica's subscribers took, and the lines of it, each with its line feed
use Rattle.std.specs.Prelude.{◌≡◌, ℕ, Bool, false, ◌&&◌, ◌==◌, if◌then◌else◌, List, [], ◌∷◌, Option, Some, None, codes}
use Rattle.std.specs.List.{concat, filter_map}
use Rattle.std.specs.List.Sorted.{IsStrictlySortedBy}
use Rattle.std.specs.Fmt.{decimal}
use Rattle.mr_version.specs.Name.{Name, name_cmp}
use Rattle.mr_mail.specs.Label.{is_label}
use Rattle.mr_mail.specs.Mail.{Mail, MailCard}
use Rattle.mr_model.specs.Versions.{Versions}
use Rattle.mr_model.specs.Headline.{Cards, fold}
use Rattle.mr_model.specs.History.{subscriber_number}
use Rattle.mr_model.specs.declared.event.Act.{Act}
use Rattle.mr_model.specs.declared.event.Act.TheVariants.{Take}
use Rattle.mr_model.specs.declared.event.Event.{Event}
use Rattle.mr_model.specs.declared.event.Subscriber.{Subscriber}
use Rattle.mr_model.specs.declared.event.Subscriber.TheVariants.{Indexer, Notifier}
use Rattle.mr_feed.specs.declared.entry.Entry.{Entry}
use Rattle.mr_feed.specs.Entry.{told}
use Rattle.mr_feed.specs.Fold.{is_listed}
use Rattle.mr_subs.specs.Index.{labelled}
use Rattle.mr_subs.specs.Unseen.{unseen_in, HasCount}
use Rattle.mr_world.specs.declared.answer.Answer.{Answer}
use Rattle.mr_world.specs.declared.answer.Answer.TheVariants.{TookEntry}
use Rattle.mr_world.specs.declared.answered.Answered.{Answered}
use Rattle.mr_script.specs.Holding.{spaced_names}

-- whether the act has this subscriber take an entry
abbrev pub is_take_by : Subscriber → Act Mail → Bool
is_take_by subscriber (Take u) = subscriber_number u == subscriber_number subscriber
is_take_by subscriber act = false

-- whether the event has this subscriber of the replica take an entry
abbrev pub is_take : ℕ → Subscriber → Event Mail → Bool
is_take id subscriber e = (e.replica == id) && is_take_by subscriber e.act

-- the entry that was taken, if the answer is that one was
abbrev pub entry_taken : Answer → Option Entry
entry_taken (TookEntry entry) = Some entry
entry_taken answer = None

-- the entry that this subscriber of the replica took at the event, if it took one
abbrev pub taken_at : ℕ → Subscriber → Answered → Option Entry
taken_at id subscriber x = if is_take id subscriber x.event then entry_taken x.answer else None

-- the entries that this subscriber of the replica took, in order
abbrev pub taken_of : List Answered → ℕ → Subscriber → List Entry
taken_of answers id subscriber = filter_map (taken_at id subscriber) answers

-- the cards that the subscriber has of what it took
abbrev pub cards_of : List Answered → ℕ → Subscriber → Cards MailCard
cards_of answers id subscriber = fold (told (taken_of answers id subscriber))

-- ---- the indexer

-- the versions whose card has the word as a label; a word that is no label names none
abbrev pub indexed : Cards MailCard → List ℕ → Versions
indexed cards word v = is_label word && labelled cards word v

-- these are just the versions of a set, in their order
pub record Lists (set : Versions) (versions : List Name) : Type 0 where
  pub rising : IsStrictlySortedBy name_cmp versions
  pub exact : (v : Name) → is_listed versions v ≡ set v

-- `index R LABEL:` and each version after a space
abbrev pub index_text : ℕ → List ℕ → List Name → List ℕ
index_text id word versions = concat (codes "index " ∷ decimal id ∷ codes " " ∷ word ∷ codes ":" ∷ spaced_names versions ∷ codes "\n" ∷ [])

-- the line has the versions that the indexer of the replica has under the word
pub record IsIndexLine (answers : List Answered) (id : ℕ) (word line : List ℕ) : Type 0 where
  pub versions : List Name
  pub are : Lists (indexed (cards_of answers id Indexer) word) versions
  pub written : line ≡ index_text id word versions

-- ---- the notifier

-- `unseen R: N`
abbrev pub unseen_text : ℕ → ℕ → List ℕ
unseen_text id count = concat (codes "unseen " ∷ decimal id ∷ codes ": " ∷ decimal count ∷ codes "\n" ∷ [])

-- the line has the number of the versions that the notifier of the replica has as unseen
pub record IsUnseenLine (answers : List Answered) (id : ℕ) (line : List ℕ) : Type 0 where
  pub count : ℕ
  pub is : HasCount (unseen_in (cards_of answers id Notifier)) count
  pub written : line ≡ unseen_text id count
