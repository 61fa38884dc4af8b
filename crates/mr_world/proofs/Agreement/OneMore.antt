-- One more issue leaves what agrees.
use Rattle.std.proofs.Common.{◌≡◌, refl, sym, ap, subst, ◌∙◌, ℕ, ◌≤◌, Bool, true, ◌||◌, List, [], ◌∷◌, ◌⊎◌, inl, inr, IsTrue, IsFalse, Option, Some, arith}
use Rattle.mr_world.proofs.Names.Wire.{Body, End, Held, Item, Know, MoveOut, Question, Receipt, Sent, Start}
use Rattle.mr_world.proofs.Names.Replica.{asked_of}
use Rattle.mr_world.proofs.Names.Sessions.{Asked, Stream, claimed, is_full_mode}
use Rattle.mr_world.proofs.Names.Model.{Ask, In, Issue, Record, Versions, claims, is, is_issued, item_of, made_with}
use Rattle.mr_world.proofs.Names.Laws.{IsIssuable, IsIssueList, Within, false_from, fresh, is_path, item_back, made_issued, made_kept, not_new}
use Rattle.mr_world.proofs.Names.Laws.{or_parts, or_right}
use Rattle.mr_world.proofs.Names.Mails.{AuthorColumn, ClauseParts, Mail, Name, Pairs, Rev, vector_has}
use Rattle.mr_world.proofs.Names.World.{AreOfIssues, HoldsAs, IsBelow, IsTrueBody, IsTrueRevision, ReceiptsAgree, RecordsAgree, SeesAsk, SeesAsks}
use Rattle.mr_world.proofs.Names.World.{Shows, StreamAgrees, left_to_show, message_of, told_pairs}

-- What agrees of an open stream, once other issues, another request or another knowledge stand there: what it gave stays.
pub stream_kept : (issues issues' : List (Issue Mail)) (filters : ℕ → List ClauseParts) (records : List Sent) (given : List Record) (r opened opened' number : ℕ) (ask ask' : Option Ask) (known known' held : Versions) (k : Stream)
    (a : StreamAgrees issues filters records given r opened number ask known held k) → number ≤ opened' → ask' ≡ Some a.ask → SeesAsk issues' filters a.ask k.asked → AreOfIssues issues' (left_to_show k.held) →
    (is_full_mode k.mode ≡ true → Shows issues' (λ i v. told_pairs records r number k.next i v || claimed k.know i v) known') → ((i : Name) → AreOfIssues issues' (claimed k.know i)) →
    StreamAgrees issues' filters records given r opened' number ask' known' held k
stream_kept issues issues' filters records given r opened opened' number ask ask' known known' held k a old asked sees held_issued knows know_issued = grind arith

module _ (x : Issue Mail) (e : List (Issue Mail)) (ok : IsIssuable e x) (list : IsIssueList e) where
  pub issued_more : (v : Name) → IsTrue (is_issued e v) → IsTrue (is_issued (x ∷ e) v)
  issued_more v h = or_right (is x.version v) (is_issued e v) h

  pub item_more : (v : Name) → IsTrue (is_issued e v) → item_of (x ∷ e) v ≡ item_of e v
  item_more v h = item_back x e v (not_new x e ok v h)

  pub issued_split : (v : Name) → IsTrue (is_issued (x ∷ e) v) → (x.version ≡ v) ⊎ IsTrue (is_issued e v)
  issued_split v h = elim (or_parts (is x.version v) (is_issued e v) h) [ inl t ↦ inl (is_path x.version v t) | inr k ↦ inr k ]

  -- what names versions issued before does not name the new one
  pub not_named : (b : Bool) (v : Name) → (IsTrue b → IsTrue (is_issued e v)) → x.version ≡ v → IsFalse b
  not_named b v h p = false_from b (λ t. fresh x e ok (subst (λ (z : Name). IsTrue (is_issued e z)) (sym p) (h t)))

  pub shows_more : (pairs : Pairs) (set : Versions) → Within set (is_issued e) → Shows e pairs set → Shows (x ∷ e) pairs set
  shows_more pairs set within s = grind (arith, issued_more, issued_split, item_more, not_named, item_of)

  pub below_more : (item version : Name) (b : List AuthorColumn) → IsBelow e item version b → IsBelow (x ∷ e) item version b
  below_more item version b s = grind (arith, issued_more, item_more, issued_split, made_kept, not_named, vector_has, made_with, made_issued)

  pub message_more : (v : Name) → IsTrue (is_issued e v) → message_of (x ∷ e) v ≡ message_of e v
  message_more v h = rw (not_new x e ok v h) refl

  pub revision_more : (r : Rev) → IsTrueRevision e r → IsTrueRevision (x ∷ e) r
  revision_more r t = record { below = below_more r.item r.version r.below t.below; message = message_more r.version t.below.is_one ∙ t.message }

  pub body_more : (b : Body) → IsTrueBody e b → IsTrueBody (x ∷ e) b
  body_more (Start mode) t = tt
  body_more (Item r) t = revision_more r t
  body_more (MoveOut line) t = below_more line.item line.version line.below t
  body_more (Held v) t = λ w h. issued_more w (t w h)
  body_more (Know f) t = λ w h. issued_more w (t w h)
  body_more End t = tt

  pub holds_more : (rs : List Rev) (set : Versions) → HoldsAs e rs set → HoldsAs (x ∷ e) rs set
  holds_more rs set h = record { each = λ r i. revision_more r (h.each r i); same = h.same; in_order = h.in_order }

  pub ask_more : (filters : ℕ → List ClauseParts) (seen : Ask) (asked : Asked) → Within (claims seen) (is_issued e) → SeesAsk e filters seen asked → SeesAsk (x ∷ e) filters seen asked
  ask_more filters seen asked within s = record { target = s.target; session = s.session; filter = s.filter; shows = shows_more (claimed asked.claims) (claims seen) within s.shows }

  pub asks_more : (filters : ℕ → List ClauseParts) (seen : List Ask) (qs : List Question) → ((a : Ask) → In a seen → Within (claims a) (is_issued e)) → SeesAsks e filters seen qs → SeesAsks (x ∷ e) filters seen qs
  asks_more filters [] [] within s = tt
  asks_more filters [] (q ∷ qs) within s = s
  asks_more filters (a ∷ older) [] within s = s
  asks_more filters (a ∷ older) (q ∷ qs) within s = (ask_more filters a (asked_of q) (within a (inl refl)) s.0, asks_more filters older qs (λ b i. within b (inr i)) s.1)

  pub records_more : (records : List Sent) (known_at held_at : ℕ → ℕ → Versions) → ((s t : ℕ) → Within (known_at s t) (is_issued e)) → RecordsAgree e records known_at held_at → RecordsAgree (x ∷ e) records known_at held_at
  records_more records known_at held_at within a = record {
    each = λ y i. body_more y.body (a.each y i);
    starts = a.starts;
    one_place = a.one_place;
    whole = λ y z i j of ey ez. (let h = a.whole y z i j of ey ez in record { held = h.held; knows = shows_more (told_pairs records y.header.source y.header.stream y.header.index) (known_at y.header.source y.header.stream) (within y.header.source y.header.stream) h.knows });
  }

  pub receipts_more : (receipts : List Receipt) → ReceiptsAgree e receipts → ReceiptsAgree (x ∷ e) receipts
  receipts_more receipts a = λ y i. below_more y.descent.item y.descent.version y.descent.below (a y i)

  pub stream_more : (filters : ℕ → List ClauseParts) (records : List Sent) (given : List Record) (r opened number : ℕ) (ask_of : Option Ask) (known_at held_at : Versions) (k : Stream) →
      ((a : Ask) → ask_of ≡ Some a → Within (claims a) (is_issued e)) → Within known_at (is_issued e) →
      StreamAgrees e filters records given r opened number ask_of known_at held_at k → StreamAgrees (x ∷ e) filters records given r opened number ask_of known_at held_at k
  stream_more filters records given r opened number ask_of known_at held_at k claims_issued within a = grind (arith, stream_kept, ask_more, issued_more, shows_more, told_pairs, claimed)
