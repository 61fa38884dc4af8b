-- What the records of a stream tell, up to one of them.
use Rattle.std.specs.Prelude.{◌≡◌, ◌==◌, nat_lt, ℕ, Bool, false, ◌&&◌, List, [], ◌∷◌}
use Rattle.std.specs.List.{list_any}
use Rattle.mr_version.specs.Name.{Name}
use Rattle.mr_forms.specs.Sets.{Versions}
use Rattle.mr_forms.specs.Known.{Pairs}
use Rattle.mr_concise.specs.Vector.{vector_has}
use Rattle.mr_mail.specs.Mail.{Mail}
use Rattle.mr_model.specs.Versions.{Issue}
use Rattle.mr_model.specs.Rules.{In}
use Rattle.mr_session.specs.Session.{is_start}
use Rattle.mr_session.specs.Stream.{claimed}
use Rattle.mr_wire.specs.Frames.{Sent}
use Rattle.mr_wire.specs.declared.frame.Body.{Body}
use Rattle.mr_wire.specs.declared.frame.Body.TheVariants.{Start, Item, MoveOut, Held, Know, End}
use Rattle.mr_wire.specs.declared.frame.Mode.TheVariants.{Full}
use Rattle.mr_world.specs.Issued.{AreOfIssues, Shows, IsTrueRevision, IsTrueLine}

-- what a record says is of issues
abbrev pub IsTrueBody : List (Issue Mail) → Body → Type 0
IsTrueBody issues (Start mode) = Unit {0}
IsTrueBody issues (Item r) = IsTrueRevision issues r
IsTrueBody issues (MoveOut line) = IsTrueLine issues line
IsTrueBody issues (Held vector) = AreOfIssues issues (vector_has vector)
IsTrueBody issues (Know piece) = AreOfIssues issues (vector_has piece.vector)
IsTrueBody issues End = Unit {0}

-- what a record shows of its source's heads
abbrev pub shown_by : Body → Versions
shown_by (Held vector) v = vector_has vector v
shown_by (Start mode) v = false
shown_by (Item r) v = false
shown_by (MoveOut line) v = false
shown_by (Know piece) v = false
shown_by End v = false

-- what it tells of its source's knowledge
abbrev pub told_by : Body → Pairs
told_by (Know piece) i v = claimed (piece ∷ []) i v
told_by (Start mode) i v = false
told_by (Item r) i v = false
told_by (MoveOut line) i v = false
told_by (Held vector) i v = false
told_by End i v = false

-- the record is one of the stream's first n
abbrev pub is_among : (source stream n : ℕ) → Sent → Bool
is_among source stream n sent = (sent.header.source == source) && ((sent.header.stream == stream) && nat_lt sent.header.index n)

-- what the first n records of the stream show
abbrev pub shown : List Sent → (source stream n : ℕ) → Versions
shown given source stream n v = list_any (λ sent. is_among source stream n sent && shown_by sent.body v) given

-- what they tell
abbrev pub told_pairs : List Sent → (source stream n : ℕ) → Pairs
told_pairs given source stream n i v = list_any (λ sent. is_among source stream n sent && told_by sent.body i v) given

-- two records are at one place of one stream
abbrev pub AreAtOnePlace : Sent → Sent → Type 0
AreAtOnePlace x y = (x.header.source ≡ y.header.source) × (x.header.stream ≡ y.header.stream) × (x.header.index ≡ y.header.index)

-- two records are of one stream
abbrev pub AreOfOneStream : Sent → Sent → Type 0
AreOfOneStream x y = (x.header.source ≡ y.header.source) × (x.header.stream ≡ y.header.stream)

-- A full stream was drawn to this End: its Held records are the heads at the first of them, its Know records the
-- knowledge as the stream was opened.
pub record IsToldWhole (issues : List (Issue Mail)) (given : List Sent) (known_at_answer held_at_draw : ℕ → ℕ → Versions) (x : Sent) : Type 0 where
  pub held : (v : Name) → shown given x.header.source x.header.stream x.header.index v ≡ held_at_draw x.header.source x.header.stream v
  pub knows : Shows issues (told_pairs given x.header.source x.header.stream x.header.index) (known_at_answer x.header.source x.header.stream)

-- The records that were given say what was issued. A Start comes first, no place of a stream comes twice, and a full
-- stream that ended was told whole.
pub record RecordsAgree (issues : List (Issue Mail)) (given : List Sent) (known_at_answer held_at_draw : ℕ → ℕ → Versions) : Type 0 where
  pub each : (x : Sent) → In x given → IsTrueBody issues x.body
  pub starts : (x : Sent) → In x given → is_start x.body ≡ (x.header.index == 0)
  pub one_place : (x y : Sent) → In x given → In y given → AreAtOnePlace x y → x ≡ y
  pub whole : (x y : Sent) → In x given → In y given → AreOfOneStream x y → x.body ≡ End → y.body ≡ Start Full → IsToldWhole issues given known_at_answer held_at_draw x
