-- A world in which fragments list issued items alone.
use Rattle.std.specs.Prelude.{◌≡◌, ◌⊎◌, IsTrue, ℕ, Option, Some, None, List}
use Rattle.mr_version.specs.Name.{Name}
use Rattle.mr_forms.specs.Known.{Form, Pairs}
use Rattle.mr_mail.specs.Mail.{Mail}
use Rattle.mr_model.specs.Rules.{In}
use Rattle.mr_model.specs.Versions.{Issue, is_issued}
use Rattle.mr_replica.specs.State.{State}
use Rattle.mr_session.specs.Session.{Session}
use Rattle.mr_session.specs.Stream.{Stream}
use Rattle.mr_session.specs.Table.{open_at}
use Rattle.mr_wire.specs.Frames.{Sent}
use Rattle.mr_wire.specs.Values.{Piece}
use Rattle.mr_wire.specs.declared.frame.Body.{Body}
use Rattle.mr_wire.specs.declared.frame.Body.TheVariants.{Start, Item, MoveOut, Held, Know, End}
use Rattle.mr_world.specs.Normal.{IsNormalWorld}
use Rattle.mr_world.specs.World.{World}

-- the items that are listed were issued
abbrev pub AreIssuedItems : List (Issue Mail) → Option (List Name) → Type 0
AreIssuedItems issues None = Unit {0}
AreIssuedItems issues (Some items) = (i : Name) → In i items → IsTrue (is_issued issues i)

-- the items that each of the fragments lists were issued
abbrev pub ListIssued : List (Issue Mail) → List Piece → Type 0
ListIssued issues pieces = (piece : Piece) → In piece pieces → AreIssuedItems issues piece.items

-- the items that a record lists were issued
abbrev pub ListsIssued : List (Issue Mail) → Body → Type 0
ListsIssued issues (Know piece) = AreIssuedItems issues piece.items
ListsIssued issues (Start mode) = Unit {0}
ListsIssued issues (Item r) = Unit {0}
ListsIssued issues (MoveOut line) = Unit {0}
ListsIssued issues (Held vector) = Unit {0}
ListsIssued issues End = Unit {0}

-- what is known for an item is known for all, or else the item was issued
abbrev pub IsFiled : List (Issue Mail) → Pairs → Type 0
IsFiled issues pairs = (i v : Name) → IsTrue (pairs i v) → ((j : Name) → IsTrue (pairs j v)) ⊎ IsTrue (is_issued issues i)

module _ {K : Type 0} (form : Form K) where
  -- what a replica knows, gives and has taken lists issued items alone
  pub record IsListedReplica (issues : List (Issue Mail)) (s : State K) : Type 0 where
    pub filed : IsFiled issues (form.known s.knowledge)
    pub streams : (number : ℕ) (k : Stream) → open_at s.streams number ≡ Some k → ListIssued issues k.know
    pub sessions : (number : ℕ) (k : Session) → open_at s.sessions number ≡ Some k → ListIssued issues k.know

  -- all that is in a world lists issued items alone
  pub record IsListedWorld (issues : List (Issue Mail)) (w : World K) : Type 0 where
    pub replicas : (r : ℕ) → IsListedReplica issues (w.replicas r)
    pub records : (sent : Sent) → In sent w.records → ListsIssued issues sent.body

  -- Vectors are in normal form, and fragments list issued items alone: no replica takes a record of such a world for forged.
  pub record IsGenuine (issues : List (Issue Mail)) (w : World K) : Type 0 where
    pub normal : IsNormalWorld w
    pub listed : IsListedWorld issues w
