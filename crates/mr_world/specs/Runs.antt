-- Whole runs of a world, and the history that they make.
use Rattle.std.specs.Prelude.{◌≡◌, ℕ, List, [], ◌∷◌}
use Rattle.mr_forms.specs.Known.{Form}
use Rattle.mr_filter.specs.Filter.{ClauseParts}
use Rattle.mr_mail.specs.Mail.{Mail, MailCard}
use Rattle.mr_model.specs.History.{Step, History}
use Rattle.mr_model.specs.Moment.{start}
use Rattle.mr_model.specs.Changes.{happens, change}
use Rattle.mr_replica.specs.Replay.{IsFresh}
use Rattle.mr_world.specs.declared.answered.Answered.{Answered}
use Rattle.mr_world.specs.Moves.{Moves}
use Rattle.mr_world.specs.Ports.{new_port}
use Rattle.mr_world.specs.Run.{LeadsBy}
use Rattle.mr_world.specs.Seen.{MailMoment, setting_of, seen_answer}
use Rattle.mr_world.specs.World.{World}

-- what a history sees of an event with its answer, at the moment m
abbrev pub seen_step : MailMoment → Answered → Step Mail MailCard
seen_step m x = record { event = x.event; reply = seen_answer m.issues x.answer }

-- the history of a run from the moment m on, by the replicas' filters
abbrev pub history_from : (ℕ → List ClauseParts) → MailMoment → List Answered → History Mail MailCard
history_from filters m [] = []
history_from filters m (x ∷ later) = seen_step m x ∷ history_from filters (happens (setting_of filters) m (change m (seen_step m x))) later

-- the history of a run of a world in which nothing happened before
abbrev pub history : (ℕ → List ClauseParts) → List Answered → History Mail MailCard
history filters xs = history_from filters start xs

module _ {K : Type 0} (form : Form K) where
  -- nothing has happened in the world
  pub record IsFreshWorld (filters : ℕ → List ClauseParts) (w : World K) : Type 0 where
    pub replicas : (r : ℕ) → (event_limit : ℕ) × IsFresh form r (filters r) event_limit (w.replicas r)
    pub asks : w.asks ≡ []
    pub records : w.records ≡ []
    pub receipts : w.receipts ≡ []
    pub ports : (r u : ℕ) → (capacity : ℕ) × (w.ports r u ≡ new_port capacity)

  -- From w, these events with these answers lead to w'.
  abbrev pub Runs : World K → List Answered → World K → Type 0
  Runs = LeadsBy (λ w x w'. Moves form w x.event x.answer w')
