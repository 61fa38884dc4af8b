-- Which command a line is, or which fault it has: first its name, then the number of its words, then each of
-- them from left to right, with whether what it names is there, and then a message as a whole.
use Rattle.std.specs.Prelude.{ℕ, List, [], ◌∷◌, Option, Some, None, codes}
use Rattle.mr_mail.specs.Label.{text_eq}
use Rattle.mr_mail.specs.Mail.{Mail}
use Rattle.mr_model.specs.History.{◌does◌}
use Rattle.mr_model.specs.declared.event.Event.{Event}
use Rattle.mr_model.specs.declared.event.Act.TheVariants.{Retire, Pull, Answer, Next, Receive, CutIn, CutOut, Offer, Take, Close, Vouch, Release}
use Rattle.mr_command.specs.declared.command.Command.{Command}
use Rattle.mr_command.specs.declared.command.Command.TheVariants.{AddReplica, Happen, Sync, Ask}
use Rattle.mr_command.specs.declared.command.Sync.{Sync as Session}
use Rattle.mr_command.specs.declared.command.Question.{Question}
use Rattle.mr_command.specs.declared.command.Question.TheVariants.{Heads, PushOuts, Conflicts, Know, Feed, Log, Show, Unseen}
use Rattle.mr_command.specs.declared.fault.LineFault.TheVariants.{UnknownCommand, WrongWords, BadNumber}
use Rattle.mr_command.specs.declared.pool.Pool.TheVariants.{Asks, Records, Receipts}
use Rattle.mr_command.specs.Event.{reads_create, reads_edit, reads_part}
use Rattle.mr_command.specs.Named.{reads_replica}
use Rattle.mr_command.specs.Number.{SpellsNumber}
use Rattle.mr_command.specs.Opening.{reads_opening}
use Rattle.mr_command.specs.Question.{reads_bytes, reads_index}
use Rattle.mr_command.specs.Reading.{Reading, gives, fails, choose, names, ◌andthen◌}
use Rattle.mr_command.specs.Scene.{Scene}
use Rattle.mr_command.specs.Shape.{reads_alone, reads_numbered, reads_framed, reads_followed, reads_versioned}
use Rattle.mr_command.specs.Taking.{takes_two_or_three}
use Rattle.mr_command.specs.Words.{words}

-- the event is to happen
abbrev pub happens : Event Mail → Reading Command
happens e = gives (Happen e)

-- the question is to be answered
abbrev pub asks : Question → Reading Command
asks q = gives (Ask q)

-- a number that may be missing
abbrev pub reads_most : Option (List ℕ) → Reading (Option ℕ)
reads_most None = gives None
reads_most (Some word) = names SpellsNumber BadNumber word andthen λ n. gives (Some n)

module _ (scene : Scene) where
  -- `T S`, or `T S N`
  abbrev pub reads_sync : List (List ℕ) → Reading Session
  reads_sync args =
      takes_two_or_three args andthen λ (target, source, most).
      reads_replica scene target andthen λ t.
      reads_replica scene source andthen λ s.
      reads_most most andthen λ n.
      gives (record { target = t; source = s; most = n })

  -- a question, by its name
  abbrev pub reads_question : (name : List ℕ) → (args : List (List ℕ)) → Reading Command
  reads_question name args =
      choose (text_eq name (codes "heads")) (reads_alone scene args andthen λ id. asks (Heads id)) (
      choose (text_eq name (codes "pushouts")) (reads_alone scene args andthen λ id. asks (PushOuts id)) (
      choose (text_eq name (codes "conflicts")) (reads_alone scene args andthen λ id. asks (Conflicts id)) (
      choose (text_eq name (codes "know")) (reads_alone scene args andthen λ id. asks (Know id)) (
      choose (text_eq name (codes "feed")) (reads_alone scene args andthen λ id. asks (Feed id)) (
      choose (text_eq name (codes "log")) (reads_alone scene args andthen λ id. asks (Log id)) (
      choose (text_eq name (codes "show")) (reads_versioned scene args andthen λ (id, v). asks (Show id v)) (
      choose (text_eq name (codes "bytes")) (reads_bytes scene args andthen λ q. asks q) (
      choose (text_eq name (codes "index")) (reads_index scene args andthen λ q. asks q) (
      choose (text_eq name (codes "unseen")) (reads_alone scene args andthen λ id. asks (Unseen id)) (
      fails UnknownCommand))))))))))

  -- an event with no message, by its name, or else a question
  abbrev pub reads_event : (name : List ℕ) → (args : List (List ℕ)) → Reading Command
  reads_event name args =
      choose (text_eq name (codes "retire")) (reads_alone scene args andthen λ id. happens (id does Retire)) (
      choose (text_eq name (codes "pull")) (reads_alone scene args andthen λ id. happens (id does Pull)) (
      choose (text_eq name (codes "answer")) (reads_framed scene Asks args andthen λ (id, n). happens (id does Answer n)) (
      choose (text_eq name (codes "next")) (reads_numbered scene args andthen λ (id, n). happens (id does Next n)) (
      choose (text_eq name (codes "receive")) (reads_framed scene Records args andthen λ (id, n). happens (id does Receive n)) (
      choose (text_eq name (codes "part")) (reads_part scene args andthen λ e. happens e) (
      choose (text_eq name (codes "cutin")) (reads_numbered scene args andthen λ (id, n). happens (id does CutIn n)) (
      choose (text_eq name (codes "cutout")) (reads_numbered scene args andthen λ (id, n). happens (id does CutOut n)) (
      choose (text_eq name (codes "offer")) (reads_followed scene args andthen λ (id, s). happens (id does Offer s)) (
      choose (text_eq name (codes "take")) (reads_followed scene args andthen λ (id, s). happens (id does Take s)) (
      choose (text_eq name (codes "close")) (reads_followed scene args andthen λ (id, s). happens (id does Close s)) (
      choose (text_eq name (codes "vouch")) (reads_versioned scene args andthen λ (id, v). happens (id does Vouch v)) (
      choose (text_eq name (codes "release")) (reads_framed scene Receipts args andthen λ (id, n). happens (id does Release n)) (
      reads_question name args)))))))))))))

  -- a command, by its name
  abbrev pub reads_named : (name : List ℕ) → (args : List (List ℕ)) → Reading Command
  reads_named name args =
      choose (text_eq name (codes "replica")) (reads_opening scene args andthen λ spec. gives (AddReplica spec)) (
      choose (text_eq name (codes "create")) (reads_create scene args andthen λ e. happens e) (
      choose (text_eq name (codes "edit")) (reads_edit scene args andthen λ e. happens e) (
      choose (text_eq name (codes "sync")) (reads_sync args andthen λ session. gives (Sync session)) (
      reads_event name args))))

  -- the first word is a name
  abbrev pub reads_words : List (List ℕ) → Reading Command
  reads_words (name ∷ args) = reads_named name args
  reads_words [] = fails WrongWords

  -- the command that a line's text is
  abbrev pub reads_command : List ℕ → Reading Command
  reads_command line = reads_words (words line)
