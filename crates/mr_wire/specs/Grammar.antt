-- what is in the grammar of frames
use Rattle.std.specs.Prelude.{◌≡◌, ◌≤◌, ◌<◌, ◌^◌, ◌⊎◌, ℕ, List, length, Option, Some, None, IfSome}
use Rattle.std.specs.List.{AllByRecursion}
use Rattle.std.specs.Str.{IsUtf8}
use Rattle.mr_version.specs.Name.{Name, IsVersion}
use Rattle.mr_mail.specs.Mail.{Mail, IsMail}
use Rattle.mr_filter.specs.Filter.{IsFilter}
use Rattle.mr_concise.specs.Vector.{IsVectorFrom}
use Rattle.mr_madewith.specs.Revision.{IsRevision}
use Rattle.mr_wire.specs.declared.decoding.TheConstants.{MAX_REST_BYTES}
use Rattle.mr_wire.specs.declared.frame.Header.{Header}
use Rattle.mr_wire.specs.declared.frame.Body.{Body}
use Rattle.mr_wire.specs.declared.frame.Body.TheVariants as body
use Rattle.mr_wire.specs.declared.frame.Frame.{Frame}
use Rattle.mr_wire.specs.declared.frame.Frame.TheVariants as frame
use Rattle.mr_wire.specs.Values.{DescentParts, Piece, AreItems}
use Rattle.mr_wire.specs.Frames.{Question, IsIndexOf, FragmentsRise}
use Rattle.mr_wire.specs.Kinds.{kind_byte, kind_of_byte}
use Rattle.mr_wire.specs.FrameSpelling.{descent_of, kind_of, rest_bytes, frame_bytes}
use Rattle.mr_version.specs.declared.author.TheConstants.{AUTHORS}

-- the item and the version are such, what it supersedes is a vector, and together they are as those of a revision
pub record IsDescent (descent : DescentParts) : Type 0 where
  pub item_in : IsVersion descent.item.author descent.item.counter
  pub version_in : IsVersion descent.version.author descent.version.counter
  pub vector_in : IsVectorFrom 0 descent.below
  pub revision_in : IsRevision descent.item descent.version descent.below

-- a message whose sender and subject are texts
pub record IsLetter (mail : Mail) : Type 0 where
  pub mail_in : IsMail mail
  pub from_is : IsUtf8 mail.from
  pub subject_is : IsUtf8 mail.subject

-- the name of a version
abbrev pub IsItem : Name → Type 0
IsItem v = IsVersion v.author v.counter

-- the items are as a fragment lists them, and each is the name of a version
pub record AreFramed (items : Option (List Name)) : Type 0 where
  pub rise : AreItems items
  pub each : IfSome items (AllByRecursion IsItem)

-- a fragment as a frame carries it
pub record IsFramed (piece : Piece) : Type 0 where
  pub items_in : AreFramed piece.items
  pub vector_in : IsVectorFrom 0 piece.vector

-- what a header is
pub record IsHeader (header : Header) : Type 0 where
  pub source_in : header.source < AUTHORS
  pub stream_in : (header.stream < 2 ^ 64) × (1 ≤ header.stream)
  pub target_in : header.target < AUTHORS
  pub session_in : (header.session < 2 ^ 64) × (1 ≤ header.session)
  pub index_in : header.index < 2 ^ 32

-- what a record says is in the grammar
abbrev pub IsSaid : Body → Type 0
IsSaid (body.Start mode) = Unit {0}
IsSaid (body.Item r) = IsDescent (descent_of r) × IsLetter r.message
IsSaid (body.MoveOut descent) = IsDescent descent
IsSaid (body.Held vector) = IsVectorFrom 0 vector
IsSaid (body.Know piece) = IsFramed piece
IsSaid body.End = Unit {0}

-- what a request says is in the grammar
pub record IsAsked (q : Question) : Type 0 where
  pub target_in : q.target < AUTHORS
  pub session_in : (q.session < 2 ^ 64) × (1 ≤ q.session)
  pub filter_in : IsFilter q.filter
  pub few : length q.fragments < 2 ^ 32
  pub each : AllByRecursion IsFramed q.fragments
  pub rise : FragmentsRise None q.fragments

-- the frame is in the grammar: its parts are, and the index is 0 exactly for a Start
abbrev pub IsFrame : Frame → Type 0
IsFrame (frame.Ask q) = IsAsked q
IsFrame (frame.Record r) = IsHeader r.header × IsIndexOf r.body r.header.index × IsSaid r.body
IsFrame (frame.Receipt r) = (r.giver < AUTHORS) × IsDescent r.descent

-- the text is the frame in the format: 2, or 1 for what is no receipt
pub record Spells (format : ℕ) (f : Frame) (text : List ℕ) : Type 0 where
  pub format_in : (format ≡ 1) ⊎ (format ≡ 2)
  pub kind_in : kind_of_byte format (kind_byte (kind_of f)) ≡ Some (kind_of f)
  pub in_grammar : IsFrame f
  pub few : length (rest_bytes format f) ≤ MAX_REST_BYTES
  pub written : text ≡ frame_bytes format f
