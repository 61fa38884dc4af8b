-- Records, requests, receipts and frames are read from their parts.
use Rattle.std.proofs.Common.{◌≡◌, ◌≢◌, ℕ, ◌≤◌, ◌<◌, ◌^◌, true, List, [], ◌∷◌, Option, Some, None, refl, subst, arith}
use Rattle.mr_wire.proofs.Names.{Body, ClauseParts, DescentParts, FragmentsRise, Header, IfSome, IsFramed, IsHeader, IsIndexOf, IsQuestion, IsSent, IsSomeAnd}
use Rattle.mr_wire.proofs.Names.{Kind, MatchOption, Name, Piece, Question, Reader, Receipt, Sent, Stands, Vec, as_at, ask_at, asked_at, author_at, body_at}
use Rattle.mr_wire.proofs.Names.{descent_at, eqb-true, filter_at, fragment_at, fragment_bytes, frame_at, header_at, header_bytes, index_fits, le-leb}
use Rattle.mr_wire.proofs.Names.{least_follows, least_item, leb-true, mode_at, nat_le, next_asked, number_at, receipt_at, record_at, revision_at, serial_at}
use Rattle.mr_wire.proofs.Names.{u64, vector_at, w32}
use Rattle.mr_wire.specs.declared.frame.Body.TheVariants as body
use Rattle.mr_wire.specs.declared.frame.Frame.TheVariants as frame
use Rattle.mr_wire.specs.declared.kind.Kind.TheVariants as kind
use Rattle.mr_wire.specs.inner.Bodies.{asked_run}
use Rattle.mr_wire.proofs.Laws.{Reads, RunFits, bind_some, some_is, reads_like, reads_only, reads_as, reads_then, reads_run, reads_u32, reads_u64}
use Rattle.mr_wire.proofs.PartLaws.{reads_author}
use Rattle.mr_wire.proofs.ItemLemmas.{reads_fragment}

-- ---- one part seen as another value

kept_as : {X Y : Type 0} (to : X → Y) (made : Option Y) (kept : Option X) (x : X) → IfSome kept (λ k. k ≡ x) → MatchOption kept (made ≡ None) (λ k. IsSomeAnd made (λ y. y ≡ to k)) → IfSome made (λ y. y ≡ to x)
kept_as to h kept x is made = grind arith

pub stands_as : {X Y : Type 0} {at : Reader X} {old new : List ℕ} {kept : Option X} {Note : X → Type 0} (to : X → Y) (made : Option Y) → Stands (λ (x : X). x) at old kept new Note → MatchOption kept (made ≡ None) (λ k. IsSomeAnd made (λ y. y ≡ to k)) →
    Stands (λ (y : Y). y) (as_at to at) old made new (λ _. Unit {0})
stands_as {X} {Y} {at} {old} {new} {kept} to made s h = record { part = to s.part; stands = rw s.stands refl; is_part = kept_as to made kept s.part s.is_part h; told = tt }

-- ---- records

at_as : {X : Type 0} (at : Reader X) (index : ℕ) (to : X → Body) → ((x : X) → IsIndexOf (to x) index) → (old : List ℕ) (says : Body) (new : List ℕ) → as_at to at old ≡ Some (says, new) → IsIndexOf says index
at_as at index to each old says new e = grind (arith, bind_some, some_is)

-- the index of what is read fits what it says
pub index_of : (k : Kind) (old : List ℕ) (says : Body) (new : List ℕ) (index : ℕ) → body_at k old ≡ Some (says, new) → index_fits k index ≡ true → IsIndexOf says index
index_of kind.Start old says new index e h = at_as mode_at index body.Start (λ mode. eqb-true index 0 h) old says new e
index_of kind.Item old says new index e h = at_as revision_at index body.Item (λ r. leb-true 1 index h) old says new e
index_of kind.MoveOut old says new index e h = at_as descent_at index body.MoveOut (λ r. leb-true 1 index h) old says new e
index_of kind.Held old says new index e h = at_as vector_at index body.Held (λ r. leb-true 1 index h) old says new e
index_of kind.Know old says new index e h = at_as fragment_at index body.Know (λ r. leb-true 1 index h) old says new e
index_of kind.End old says new index e h = let is : (body.End, old) ≡ (says, new) = some_is (body.End, old) (says, new) e in subst (λ (p : Body × List ℕ). IsIndexOf p.0 index) is (leb-true 1 index h)
index_of kind.Ask old says new index e h = absurd cc
index_of kind.Receipt old says new index e h = absurd cc

kept_record : (r : Option Sent) (kept : Option Body) (header : Header) (body : Body) → IfSome kept (λ b. b ≡ body) → IfSome r (λ r. IsSomeAnd kept (λ b. r ≡ record { header = header; body = b })) → IfSome r (λ r. r ≡ record { header = header; body = body })
kept_record r kept header body is made = grind arith

pub reads_serial : Reads (λ n. (n < 2 ^ 64) × (1 ≤ n)) u64 serial_at
reads_serial = reads_like (λ n. (n < 2 ^ 64) × (1 ≤ n)) u64 (reads_only (λ n. nat_le 1 n) reads_u64) (λ n h. (h.0, leb-true 1 n h.1)) (λ n h. (h.0, le-leb 1 n h.1)) (λ n. refl)

pub reads_header : Reads IsHeader header_bytes header_at
reads_header = reads_like IsHeader header_bytes
    (reads_as (λ (p : ℕ × (ℕ × (ℕ × (ℕ × ℕ)))). record { source = p.0; stream = p.1.0; target = p.1.1.0; session = p.1.1.1.0; index = p.1.1.1.1 }) (λ (h : Header). (h.source, (h.stream, (h.target, (h.session, h.index))))) (λ h. refl) (λ p. refl)
    (reads_then reads_author (λ _. reads_then reads_serial (λ _. reads_then reads_author (λ _. reads_then reads_serial (λ _. reads_u32))))))
    (λ h f. record { source_in = f.0; stream_in = f.1.0; target_in = f.1.1.0; session_in = f.1.1.1.0; index_in = f.1.1.1.1 })
    (λ h f. (f.source_in, (f.stream_in, (f.target_in, (f.session_in, f.index_in))))) (λ h. refl)

serials : (old : List ℕ) (header : Header) (rest : List ℕ) → header_at old ≡ Some (header, rest) → (1 ≤ header.stream) × (1 ≤ header.session)
serials old header rest e = let t = (reads_header.takes old header rest e).1 in (t.stream_in.1, t.session_in.1)

module _ (k : Kind) (old r1 new : List ℕ) (header : Header) (e : header_at old ≡ Some (header, r1)) (fits : index_fits k header.index ≡ true) (kept : Option Body) (Note : Body → Type 0) (s : Stands (λ (b : Body). b) (body_at k) r1 kept new Note) where
  is_sent : IsSent header s.part
  is_sent = let serial = serials old header r1 e in record { stream_from = serial.0; session_from = serial.1; index_is = index_of k r1 s.part new header.index s.stands fits }

  if_sent_of : (kept : Option Body) → IfSome kept (λ b. b ≡ s.part) → IfSome kept (IsSent header)
  if_sent_of kept h = grind (arith, is_sent)

  pub if_sent : IfSome kept (IsSent header)
  if_sent = if_sent_of kept s.is_part

  pub stands_record : (r : Option Sent) → IfSome r (λ r. IsSomeAnd kept (λ b. r ≡ record { header = header; body = b })) → Stands (λ (r : Sent). r) (record_at k) old r new (λ _. Unit {0})
  stands_record r made = record { part = record { header = header; body = s.part }; stands = rw (e, fits, s.stands) refl; is_part = kept_record r kept header s.part s.is_part made; told = tt }

-- ---- receipts

kept_receipt : (r : Option Receipt) (kept : Option DescentParts) (giver : ℕ) (descent : DescentParts) → IfSome kept (λ d. d ≡ descent) → IfSome r (λ r. IsSomeAnd kept (λ d. r ≡ record { giver = giver; descent = d })) → IfSome r (λ r. r ≡ record { giver = giver; descent = descent })
kept_receipt r kept giver descent is made = grind arith

pub stands_receipt : (old r1 new : List ℕ) (giver : ℕ) (kept : Option DescentParts) (Note : DescentParts → Type 0) (r : Option Receipt) → author_at old ≡ Some (giver, r1) → Stands (λ (d : DescentParts). d) descent_at r1 kept new Note →
    IfSome r (λ r. IsSomeAnd kept (λ d. r ≡ record { giver = giver; descent = d })) → Stands (λ (r : Receipt). r) receipt_at old r new (λ _. Unit {0})
stands_receipt old r1 new giver kept Note r e s made = record { part = record { giver = giver; descent = s.part }; stands = rw (e, s.stands) refl; is_part = kept_receipt r kept giver s.part s.is_part made; told = tt }

-- ---- requests

abbrev pub AskedFits : Option (Option Name) → Piece → Type 0
AskedFits before piece = IsFramed piece × (least_follows before (least_item piece.items) ≡ true)

pub reads_asked : (before : Option (Option Name)) → Reads (AskedFits before) fragment_bytes (asked_at before)
reads_asked before = reads_only (λ (piece : Piece). least_follows before (least_item piece.items)) reads_fragment

pub fragments_rise : (xs : List Piece) (before : Option (Option Name)) → RunFits AskedFits next_asked before xs → FragmentsRise before xs
fragments_rise [] before h = tt
fragments_rise (x ∷ xs) before h = (h.0.1, fragments_rise xs (Some (least_item x.items)) h.1)

module _ (old r1 r2 r3 r4 new : List ℕ) (target session count : ℕ) (e1 : author_at old ≡ Some (target, r1)) (e2 : serial_at r1 ≡ Some (session, r2)) (filter : Option (List ClauseParts)) (s3 : Stands (λ (f : List ClauseParts). f) filter_at r2 filter r3 (λ _. Unit {0}))
    (e4 : number_at w32 r3 ≡ Some (count, r4)) (kept : Option (Vec Piece)) (s5 : Stands (λ (v : Vec Piece). v.items) (asked_run count) r4 kept new (λ _. Unit {0})) where
  is_question : IsQuestion session s5.part
  is_question =
      let run = (reads_run next_asked reads_asked None count).takes r4 s5.part new s5.stands in
      let few = reads_u32.takes r3 count r4 e4 in
      let from = reads_serial.takes r1 session r2 e2 in
      record { session_from = from.1.1; rise = fragments_rise s5.part None run.1.1; few = omega (arith, run.1.0, few.1) }

  if_question_of : (kept : Option (Vec Piece)) → IfSome kept (λ v. v.items ≡ s5.part) → IfSome kept (λ v. IsQuestion session v.items)
  if_question_of kept h = grind (arith, is_question)

  pub if_question : IfSome kept (λ v. IsQuestion session v.items)
  if_question = if_question_of kept s5.is_part

  kept_ask : (a : Option Question) (filter : Option (List ClauseParts)) (kept : Option (Vec Piece)) → IfSome filter (λ f. f ≡ s3.part) → IfSome kept (λ v. v.items ≡ s5.part) →
      IfSome a (λ a. IsSomeAnd filter (λ f. IsSomeAnd kept (λ v. a ≡ record { target = target; session = session; filter = f; fragments = v.items }))) → IfSome a (λ a. a ≡ record { target = target; session = session; filter = s3.part; fragments = s5.part })
  kept_ask a filter kept is_f is_k made = grind arith

  pub stands_ask : (a : Option Question) → IfSome a (λ a. IsSomeAnd filter (λ f. IsSomeAnd kept (λ v. a ≡ record { target = target; session = session; filter = f; fragments = v.items }))) → Stands (λ (a : Question). a) ask_at old a new (λ _. Unit {0})
  stands_ask a made = record {
    part = record { target = target; session = session; filter = s3.part; fragments = s5.part };
    stands = rw (e1, e2, s3.stands, e4, s5.stands) refl;
    is_part = kept_ask a filter kept s3.is_part s5.is_part made;
    told = tt;
  }

-- what is no request and no receipt is a record
pub frame_of_record : (k : Kind) → k ≢ kind.Ask → k ≢ kind.Receipt → frame_at k ≡ as_at frame.Record (record_at k)
frame_of_record k ask receipt = grind arith
