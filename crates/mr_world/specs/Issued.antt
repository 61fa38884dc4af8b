-- What frames and replicas say of versions, and what was issued.
use Rattle.std.specs.Prelude.{◌≡◌, if◌then◌else◌, IsTrue, Option, Some, None, List, [], ◌∷◌}
use Rattle.mr_version.specs.Name.{Name}
use Rattle.mr_forms.specs.Sets.{Versions}
use Rattle.mr_forms.specs.Known.{Pairs}
use Rattle.mr_concise.specs.declared.vector.AuthorColumn.{AuthorColumn}
use Rattle.mr_concise.specs.Vector.{vector_has}
use Rattle.mr_mail.specs.Mail.{Mail}
use Rattle.mr_madewith.specs.Revision.{Rev}
use Rattle.mr_model.specs.Versions.{Issue, is, is_issued, item_of, made_with}
use Rattle.mr_wire.specs.Values.{DescentParts}

-- the versions are of issues
abbrev pub AreOfIssues : List (Issue Mail) → Versions → Type 0
AreOfIssues issues set = (v : Name) → IsTrue (set v) → IsTrue (is_issued issues v)

-- The pairs name issued versions alone, and of an issued version and its item they say what the set says.
pub record Shows (issues : List (Issue Mail)) (pairs : Pairs) (set : Versions) : Type 0 where
  pub issued : (i : Name) → AreOfIssues issues (pairs i)
  pub same : (v : Name) → IsTrue (is_issued issues v) → pairs (item_of issues v) v ≡ set v

-- The version is one of the item. The vector has what it was made with, as far as its versions are of the item.
pub record IsBelow (issues : List (Issue Mail)) (item version : Name) (below : List AuthorColumn) : Type 0 where
  pub is_one : IsTrue (is_issued issues version)
  pub of_item : item_of issues version ≡ item
  pub issued : AreOfIssues issues (vector_has below)
  pub same : (v : Name) → IsTrue (is_issued issues v) → item_of issues v ≡ item → vector_has below v ≡ made_with issues version v

-- the message that a version was issued with
abbrev pub message_of : List (Issue Mail) → Name → Option Mail
message_of [] v = None
message_of (x ∷ earlier) v = if is x.version v then Some x.message else message_of earlier v

-- the revision is of an issue
pub record IsTrueRevision (issues : List (Issue Mail)) (r : Rev) : Type 0 where
  pub below : IsBelow issues r.item r.version r.below
  pub message : message_of issues r.version ≡ Some r.message

-- a version that is told without its message is of an issue
abbrev pub IsTrueLine : List (Issue Mail) → DescentParts → Type 0
IsTrueLine issues line = IsBelow issues line.item line.version line.below
