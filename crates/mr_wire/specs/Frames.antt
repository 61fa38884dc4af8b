-- records, as contracts see them
use Rattle.std.specs.Prelude.{◌≡◌, ◌≤◌, ◌<◌, ◌^◌, ℕ, Bool, true, false, List, [], ◌∷◌, length, Option, Some, None, refl}
use Rattle.std.specs.Coded.{Coded, code_by, coded×, coded_ℕ, coded_list}
use Rattle.mr_version.specs.Name.{Name}
use Rattle.mr_filter.specs.Filter.{ClauseParts, filter_code}
use Rattle.mr_wire.specs.Values.{Piece, piece_code, item_follows, least_item}
use Rattle.mr_wire.specs.declared.frame.Header.{Header}
use Rattle.mr_wire.specs.declared.frame.Body.{Body}
use Rattle.mr_wire.specs.declared.frame.Body.TheVariants.{Start, Item, MoveOut, Held, Know, End}

pub record Sent : Type 0 where
  pub header : Header
  pub body : Body

-- the index of a Start is 0, and that of another record is not
abbrev pub IsIndexOf : Body → ℕ → Type 0
IsIndexOf (Start mode) index = index ≡ 0
IsIndexOf (Item revision) index = 1 ≤ index
IsIndexOf (MoveOut descent) index = 1 ≤ index
IsIndexOf (Held vector) index = 1 ≤ index
IsIndexOf (Know piece) index = 1 ≤ index
IsIndexOf End index = 1 ≤ index

-- what each record keeps
pub record IsSent (header : Header) (body : Body) : Type 0 where
  pub stream_from : 1 ≤ header.stream
  pub session_from : 1 ≤ header.session
  pub index_is : IsIndexOf body header.index

-- a request: who asks, in which session, what it selects, and what it knows
pub record Question : Type 0 where
  pub target : ℕ
  pub session : ℕ
  pub filter : List ClauseParts
  pub fragments : List Piece

-- it is stored as the tuple of its parts
abbrev pub question_code : Coded Question
question_code =
    code_by ((ℕ × ℕ) × (List ClauseParts × List Piece)) (coded× (coded× coded_ℕ coded_ℕ) (coded× filter_code (coded_list piece_code)))
    (λ q. ((q.target, q.session), (q.filter, q.fragments)))
    (λ p. record { target = p.0.0; session = p.0.1; filter = p.1.0; fragments = p.1.1 }) (λ _. refl)

-- whether a fragment with this least item may follow one with that: all items come first, and once
abbrev pub least_follows : Option (Option Name) → Option Name → Bool
least_follows None least = true
least_follows (Some before) None = false
least_follows (Some before) (Some item) = item_follows before item

-- the fragments rise by their least items, and the first may follow the one before
abbrev pub FragmentsRise : Option (Option Name) → List Piece → Type 0
FragmentsRise before [] = Unit {0}
FragmentsRise before (piece ∷ pieces) = (least_follows before (least_item piece.items) ≡ true) × FragmentsRise (Some (least_item piece.items)) pieces

-- what each request keeps
pub record IsQuestion (session : ℕ) (fragments : List Piece) : Type 0 where
  pub session_from : 1 ≤ session
  pub rise : FragmentsRise None fragments
  pub few : length fragments < 2 ^ 32
