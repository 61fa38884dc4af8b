-- The laws of what stands behind the kind of a frame.
use Rattle.std.proofs.Common.{◌≡◌, ℕ, ◌≤◌, ◌<◌, true, List, [], ◌∷◌, ◌++◌, length, Option, Some, None, refl, sym, ap, subst, ◌∙◌, arith, append_assoc}
use Rattle.mr_wire.proofs.Names.{AllByRecursion, Body, ClauseParts, DescentParts, FragmentsRise, Frame, Header, IsAsked, IsDescent, IsFrame, IsFramed}
use Rattle.mr_wire.proofs.Names.{IsHeader, IsIndexOf, IsLetter, IsSaid, Kind, Mail, Name, Piece, Question, Reader, Receipt, Rev, Sent, as_at, ask_at}
use Rattle.mr_wire.proofs.Names.{ask_bytes, body_at, body_bytes, descent_bytes, descent_of, eq-eqb, frame_at, header_at, header_bytes, index_fits, kind_of}
use Rattle.mr_wire.proofs.Names.{kind_of_body, le-leb, least_item, leb-true, message_bytes, mode_at, mode_byte, mode_of, nat_le, next_asked, number_at}
use Rattle.mr_wire.proofs.Names.{only_at, part_bytes, receipt_at, record_at, rev_with, revision_at, then_at, u16, u8, w8, ◌>>=◌}
use Rattle.mr_wire.specs.declared.frame.Mode.{Mode}
use Rattle.mr_wire.specs.declared.frame.Body.TheVariants as body
use Rattle.mr_wire.specs.declared.frame.Frame.TheVariants as frame
use Rattle.mr_wire.specs.declared.kind.Kind.TheVariants as kind
use Rattle.mr_wire.proofs.Laws.{Reads, RunFits, bind_some, some_is, reads_like, reads_only, reads_as, reads_then, reads_counted, reads_run, reads_u8, reads_u32}
use Rattle.mr_wire.proofs.PartLaws.{reads_author, reads_vector}
use Rattle.mr_wire.proofs.FilterLaws.{reads_filter}
use Rattle.mr_wire.proofs.MessageLemmas.{reads_message}
use Rattle.mr_wire.proofs.ItemLemmas.{reads_fragment}
use Rattle.mr_wire.proofs.DescentLemmas.{reads_descent}
use Rattle.mr_wire.proofs.BodyLemmas.{reads_serial, reads_header, reads_asked, fragments_rise, index_of, AskedFits}

-- ---- one part seen as another value

pub as_takes : {X Y : Type 0} {f : X → Type 0} {s : X → List ℕ} {at : Reader X} (to : X → Y) → Reads f s at → (bytes : List ℕ) (y : Y) (rest : List ℕ) → as_at to at bytes ≡ Some (y, rest) → (x : X) × (y ≡ to x) × (bytes ≡ s x ++ rest) × f x
as_takes {X} {Y} {f} {s} {at} to reads bytes y rest e =
    let a = bind_some (at bytes) (λ x. Some (to x.0, x.1)) (y, rest) e in
    let is : (to a.0.0, a.0.1) ≡ (y, rest) = some_is (to a.0.0, a.0.1) (y, rest) a.2 in
    let t = reads.takes bytes a.0.0 a.0.1 a.1 in
    let rest_is : a.0.1 ≡ rest = ap (λ (p : Y × List ℕ). p.1) is in
    (a.0.0, sym (ap (λ (p : Y × List ℕ). p.0) is), t.0 ∙ ap (λ (z : List ℕ). s a.0.0 ++ z) rest_is, t.1)

pub as_again : {X Y : Type 0} {f : X → Type 0} {s : X → List ℕ} {at : Reader X} (to : X → Y) → Reads f s at → (x : X) (rest : List ℕ) → f x → as_at to at (s x ++ rest) ≡ Some (to x, rest)
as_again to reads x rest h = rw (reads.again x rest h) refl

-- ---- modes and revisions

reads_bit : Reads (λ n. n ≤ 1) u8 (only_at (λ n. nat_le n 1) (number_at w8))
reads_bit = reads_like (λ n. n ≤ 1) u8 (reads_only (λ n. nat_le n 1) reads_u8) (λ n h. leb-true n 1 h.1) (λ n h. (omega arith, le-leb n 1 h)) (λ n. refl)

mode_is : (n : ℕ) → n ≤ 1 → mode_byte (mode_of n) ≡ n
mode_is n h = grind arith

mode_byte_in : (mode : Mode) → mode_byte mode ≤ 1
mode_byte_in mode = grind arith

mode_of_byte : (mode : Mode) → mode_of (mode_byte mode) ≡ mode
mode_of_byte mode = grind arith

reads_revision : Reads (λ r. IsDescent (descent_of r) × IsLetter r.message) (λ r. descent_bytes (descent_of r) ++ message_bytes r.message) revision_at
reads_revision = reads_as (λ (p : DescentParts × Mail). rev_with p.0 p.1) (λ (r : Rev). (descent_of r, r.message)) (λ r. refl) (λ p. refl) (reads_then reads_descent (λ _. reads_message))

-- ---- bodies

-- what the bytes of a body tell
pub record TakesBody (k : Kind) (bytes : List ℕ) (says : Body) (rest : List ℕ) : Type 0 where
  pub parts : bytes ≡ body_bytes says ++ rest
  pub kind_is : kind_of_body says ≡ k
  pub said : IsSaid says

takes_of : {X : Type 0} {f : X → Type 0} {s : X → List ℕ} {at : Reader X} (to : X → Body) (k : Kind) → Reads f s at → ((x : X) → s x ≡ body_bytes (to x)) → ((x : X) → kind_of_body (to x) ≡ k) → ((x : X) → f x → IsSaid (to x)) →
    (bytes : List ℕ) (says : Body) (rest : List ℕ) → as_at to at bytes ≡ Some (says, rest) → TakesBody k bytes says rest
takes_of to k reads same kinds said bytes says rest e = grind (arith, as_takes)

-- a mode is spelled by its bit
reads_mode : Reads (λ (m : Mode). Unit {0}) (λ m. u8 (mode_byte m)) mode_at
reads_mode = grind (arith, as_takes, reads_bit, mode_is, as_again, mode_byte_in, mode_of_byte)

body_takes : (k : Kind) (bytes : List ℕ) (says : Body) (rest : List ℕ) → body_at k bytes ≡ Some (says, rest) → TakesBody k bytes says rest
body_takes kind.Start = takes_of body.Start kind.Start reads_mode (λ m. refl) (λ m. refl) (λ m h. tt)
body_takes kind.Item = takes_of body.Item kind.Item reads_revision (λ m. refl) (λ m. refl) (λ m h. h)
body_takes kind.MoveOut = takes_of body.MoveOut kind.MoveOut reads_descent (λ m. refl) (λ m. refl) (λ m h. h)
body_takes kind.Held = takes_of body.Held kind.Held reads_vector (λ m. refl) (λ m. refl) (λ m h. h)
body_takes kind.Know = takes_of body.Know kind.Know reads_fragment (λ m. refl) (λ m. refl) (λ m h. h)
body_takes kind.End = λ bytes says rest e.
    let is : (body.End, bytes) ≡ (says, rest) = some_is (body.End, bytes) (says, rest) e in
    subst (λ (p : Body × List ℕ). TakesBody kind.End bytes p.0 p.1) is (record { parts = refl; kind_is = refl; said = tt })
body_takes kind.Ask = λ bytes says rest e. absurd cc
body_takes kind.Receipt = λ bytes says rest e. absurd cc

body_again : (says : Body) (rest : List ℕ) → IsSaid says → body_at (kind_of_body says) (body_bytes says ++ rest) ≡ Some (says, rest)
body_again (body.Start mode) rest h = as_again body.Start reads_mode mode rest tt
body_again (body.Item r) rest h = as_again body.Item reads_revision r rest h
body_again (body.MoveOut descent) rest h = as_again body.MoveOut reads_descent descent rest h
body_again (body.Held vector) rest h = as_again body.Held reads_vector vector rest h
body_again (body.Know piece) rest h = as_again body.Know reads_fragment piece rest h
body_again body.End rest h = refl

-- ---- records

index_passes : (says : Body) (index : ℕ) → IsIndexOf says index → index_fits (kind_of_body says) index ≡ true
index_passes says index h = grind (arith, eq-eqb, le-leb)

-- what the bytes of a record tell
pub record TakesRecord (k : Kind) (bytes : List ℕ) (r : Sent) (rest : List ℕ) : Type 0 where
  pub parts : bytes ≡ (header_bytes r.header ++ body_bytes r.body) ++ rest
  pub kind_is : kind_of_body r.body ≡ k
  pub header_in : IsHeader r.header
  pub index_in : IsIndexOf r.body r.header.index
  pub said : IsSaid r.body

record_takes : (k : Kind) (bytes : List ℕ) (r : Sent) (rest : List ℕ) → record_at k bytes ≡ Some (r, rest) → TakesRecord k bytes r rest
record_takes k bytes r rest e =
    let a = bind_some (then_at (only_at (λ (h : Header). index_fits k h.index) header_at) (λ _. body_at k) bytes) (λ p. Some (record { header = p.0.0; body = p.0.1 }, p.1)) (r, rest) e in
    let b = bind_some (only_at (λ (h : Header). index_fits k h.index) header_at bytes) (λ x. body_at k x.1 >>= λ y. Some ((x.0, y.0), y.1)) a.0 a.1 in
    let c = bind_some (body_at k b.0.1) (λ y. Some ((b.0.0, y.0), y.1)) a.0 b.2 in
    let t = (reads_only (λ (h : Header). index_fits k h.index) reads_header).takes bytes b.0.0 b.0.1 b.1 in
    let v = body_takes k b.0.1 c.0.0 c.0.1 c.1 in
    let pair_is : ((b.0.0, c.0.0), c.0.1) ≡ a.0 = some_is ((b.0.0, c.0.0), c.0.1) a.0 c.2 in
    let made : Sent × List ℕ = (record { header = a.0.0.0; body = a.0.0.1 }, a.0.1) in
    let is : made ≡ (r, rest) = some_is made (r, rest) a.2 in
    let whole : bytes ≡ (header_bytes b.0.0 ++ body_bytes c.0.0) ++ c.0.1 = t.0 ∙ ap (λ (z : List ℕ). header_bytes b.0.0 ++ z) v.parts ∙ sym (append_assoc (header_bytes b.0.0) (body_bytes c.0.0) c.0.1) in
    let first : TakesRecord k bytes (record { header = b.0.0; body = c.0.0 }) c.0.1 = record { parts = whole; kind_is = v.kind_is; header_in = t.1.0; index_in = index_of k b.0.1 c.0.0 c.0.1 b.0.0.index c.1 t.1.1; said = v.said } in
    subst (λ (p : Sent × List ℕ). TakesRecord k bytes p.0 p.1) is (subst (λ (p : (Header × Body) × List ℕ). TakesRecord k bytes (record { header = p.0.0; body = p.0.1 }) p.1) pair_is first)

record_again : (r : Sent) (rest : List ℕ) → IsHeader r.header → IsIndexOf r.body r.header.index → IsSaid r.body → record_at (kind_of_body r.body) ((header_bytes r.header ++ body_bytes r.body) ++ rest) ≡ Some (r, rest)
record_again r rest header index said =
    ap (record_at (kind_of_body r.body)) (append_assoc (header_bytes r.header) (body_bytes r.body) rest)
    ∙ rw (reads_header.again r.header (body_bytes r.body ++ rest) header, index_passes r.body r.header.index index, body_again r.body rest said) refl

-- ---- requests and receipts

asked_are : (xs : List Piece) (before : Option (Option Name)) → RunFits AskedFits next_asked before xs → AllByRecursion IsFramed xs
asked_are [] before h = tt
asked_are (x ∷ xs) before h = (h.0.0, asked_are xs (Some (least_item x.items)) h.1)

asked_fit : (xs : List Piece) (before : Option (Option Name)) → AllByRecursion IsFramed xs → FragmentsRise before xs → RunFits AskedFits next_asked before xs
asked_fit [] before each rise = tt
asked_fit (x ∷ xs) before each rise = ((each.0, rise.0), asked_fit xs (Some (least_item x.items)) each.1 rise.1)

pub reads_ask : Reads IsAsked ask_bytes ask_at
reads_ask = reads_like IsAsked ask_bytes
    (reads_as (λ (p : ℕ × (ℕ × (List ClauseParts × List Piece))). record { target = p.0; session = p.1.0; filter = p.1.1.0; fragments = p.1.1.1 }) (λ (q : Question). (q.target, (q.session, (q.filter, q.fragments)))) (λ q. refl) (λ p. refl)
    (reads_then reads_author (λ _. reads_then reads_serial (λ _. reads_then reads_filter (λ _. reads_counted length reads_u32 (λ n. reads_run next_asked reads_asked None n))))))
    (λ q h. record { target_in = h.0; session_in = h.1.0; filter_in = h.1.1.0; few = h.1.1.1.0; each = asked_are q.fragments None h.1.1.1.1; rise = fragments_rise q.fragments None h.1.1.1.1 })
    (λ q h. (h.target_in, (h.session_in, (h.filter_in, (h.few, asked_fit q.fragments None h.each h.rise)))))
    (λ q. refl)

pub reads_receipt : Reads (λ (r : Receipt). (r.giver < 64) × IsDescent r.descent) (λ r. u16 r.giver ++ descent_bytes r.descent) receipt_at
reads_receipt = reads_as (λ (p : ℕ × DescentParts). record { giver = p.0; descent = p.1 }) (λ (r : Receipt). (r.giver, r.descent)) (λ r. refl) (λ p. refl) (reads_then reads_author (λ _. reads_descent))

-- ---- frames

-- what the bytes behind a kind tell
pub record TakesFrame (k : Kind) (bytes : List ℕ) (f : Frame) (rest : List ℕ) : Type 0 where
  pub parts : bytes ≡ part_bytes f ++ rest
  pub kind_is : kind_of f ≡ k
  pub in_grammar : IsFrame f

frame_of_takes : {X : Type 0} {f : X → Type 0} {s : X → List ℕ} {at : Reader X} (to : X → Frame) (k : Kind) → Reads f s at → ((x : X) → s x ≡ part_bytes (to x)) → ((x : X) → kind_of (to x) ≡ k) → ((x : X) → f x → IsFrame (to x)) →
    (bytes : List ℕ) (y : Frame) (rest : List ℕ) → as_at to at bytes ≡ Some (y, rest) → TakesFrame k bytes y rest
frame_of_takes to k reads same kinds said bytes y rest e = grind (arith, as_takes)

record_frame : (k : Kind) (bytes : List ℕ) (y : Frame) (rest : List ℕ) → as_at frame.Record (record_at k) bytes ≡ Some (y, rest) → TakesFrame k bytes y rest
record_frame k bytes y rest e =
    let a = bind_some (record_at k bytes) (λ r. Some (frame.Record r.0, r.1)) (y, rest) e in
    let t = record_takes k bytes a.0.0 a.0.1 a.1 in
    let made : Frame × List ℕ = (frame.Record a.0.0, a.0.1) in
    let is : made ≡ (y, rest) = some_is made (y, rest) a.2 in
    subst (λ (p : Frame × List ℕ). TakesFrame k bytes p.0 p.1) is (record { parts = t.parts; kind_is = t.kind_is; in_grammar = (t.header_in, t.index_in, t.said) })

pub frame_takes : (k : Kind) (bytes : List ℕ) (f : Frame) (rest : List ℕ) → frame_at k bytes ≡ Some (f, rest) → TakesFrame k bytes f rest
frame_takes kind.Ask = frame_of_takes frame.Ask kind.Ask reads_ask (λ x. refl) (λ x. refl) (λ x h. h)
frame_takes kind.Receipt = frame_of_takes frame.Receipt kind.Receipt reads_receipt (λ x. refl) (λ x. refl) (λ x h. h)
frame_takes kind.Start = record_frame kind.Start
frame_takes kind.Item = record_frame kind.Item
frame_takes kind.MoveOut = record_frame kind.MoveOut
frame_takes kind.Held = record_frame kind.Held
frame_takes kind.Know = record_frame kind.Know
frame_takes kind.End = record_frame kind.End

kinds_are_records : (says : Body) → frame_at (kind_of_body says) ≡ as_at frame.Record (record_at (kind_of_body says))
kinds_are_records says = grind arith

pub frame_again : (f : Frame) (rest : List ℕ) → IsFrame f → frame_at (kind_of f) (part_bytes f ++ rest) ≡ Some (f, rest)
frame_again (frame.Ask q) rest h = as_again frame.Ask reads_ask q rest h
frame_again (frame.Receipt r) rest h = as_again frame.Receipt reads_receipt r rest h
frame_again (frame.Record r) rest h =
    ap (λ (at : Reader Frame). at (part_bytes (frame.Record r) ++ rest)) (kinds_are_records r.body) ∙ rw (record_again r rest h.0 h.1 h.2) refl
