-- How what replicas gave one another, and their ports, agree with a moment.
use Rattle.std.specs.Prelude.{◌≡◌, ℕ, List, [], ◌∷◌, ◌++◌, length}
use Rattle.mr_feed.specs.Entry.{told}
use Rattle.mr_filter.specs.Filter.{ClauseParts}
use Rattle.mr_mail.specs.Mail.{Mail, MailCard}
use Rattle.mr_model.specs.Versions.{Issue}
use Rattle.mr_model.specs.History.{Ask, Entry, claims}
use Rattle.mr_model.specs.Moment.{Mark}
use Rattle.mr_model.specs.Changes.{entries_of, is_closed}
use Rattle.mr_model.specs.Rules.{In}
use Rattle.mr_replica.specs.Answer.{asked_of}
use Rattle.mr_session.specs.Stream.{Asked, claimed}
use Rattle.mr_wire.specs.Frames.{Question}
use Rattle.mr_wire.specs.declared.frame.Receipt.{Receipt}
use Rattle.mr_world.specs.Ports.{Port}
use Rattle.mr_world.specs.Issued.{Shows, IsTrueLine}

-- who asks selects by its own filter, and claims of issued versions what it is seen to claim
pub record SeesAsk (issues : List (Issue Mail)) (filters : ℕ → List ClauseParts) (seen : Ask) (asked : Asked) : Type 0 where
  pub target : seen.target ≡ asked.target
  pub session : seen.session ≡ asked.session
  pub filter : asked.filter ≡ filters asked.target
  pub shows : Shows issues (claimed asked.claims) (claims seen)

-- each request of the pool is seen as what was asked, in its order
abbrev pub SeesAsks : List (Issue Mail) → (ℕ → List ClauseParts) → List Ask → List Question → Type 0
SeesAsks issues filters [] [] = Unit {0}
SeesAsks issues filters (seen ∷ older) (question ∷ questions) = SeesAsk issues filters seen (asked_of question) × SeesAsks issues filters older questions
SeesAsks issues filters [] (question ∷ questions) = ⊥
SeesAsks issues filters (seen ∷ older) [] = ⊥

-- each receipt is of a version as it was issued
abbrev pub ReceiptsAgree : List (Issue Mail) → List Receipt → Type 0
ReceiptsAgree issues receipts = (x : Receipt) → In x receipts → IsTrueLine issues x.descent

-- the port counts what was offered, and has what was offered and not taken
pub record PortAgrees (offered : List (Mark MailCard)) (taken : List (Entry MailCard)) (p : Port) : Type 0 where
  pub count : length (entries_of offered) ≡ p.offered
  pub waits : entries_of offered ≡ taken ++ told p.view.waiting
  pub closes : is_closed offered ≡ p.view.closed
