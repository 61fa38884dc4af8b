-- A session takes a record.
use Rattle.std.proofs.Common.{◌≡◌, ◌≢◌, refl, sym, ap, subst, ◌∙◌, ℕ, ◌+◌, ◌≤◌, ◌<◌, ◌==◌, nat_lt, Bool, true, false, not, ◌||◌, ◌&&◌, if◌then◌else◌, List, [], ◌∷◌, ◌++◌, filter, inl, inr, IsTrue, IsFalse, arith, eqb-true, eq-eqb, Option, Some, None}
use Rattle.mr_world.proofs.Names.Lists.{and_from, and_parts, list_any, ltb-false}
use Rattle.mr_world.proofs.Names.Wire.{Body, End, Full, Held, Item, Know, Mode, MoveOut, Partial, Piece, Sent, Start}
use Rattle.mr_world.proofs.Names.Replica.{some_same}
use Rattle.mr_world.proofs.Names.Sessions.{Origin, Session, SessionFault, Table, after_record, claimed, first_fault, if_so, is_full, is_full_mode}
use Rattle.mr_world.proofs.Names.Sessions.{is_of, is_start, new_session, open_at, with_body, with_closed, with_taken}
use Rattle.mr_world.proofs.Names.Model.{In, Record, in_session, is_start as is_start_seen, is_whole, same_stream, starts_full}
use Rattle.mr_world.proofs.Names.Laws.{cases}
use Rattle.mr_world.proofs.Names.Mails.{AuthorColumn, Name, in_any, vector_has}
use Rattle.mr_world.proofs.Names.World.{AreAtOnePlace, Follows, KeepsTold, SessionAgrees, SessionsAgree, seen_body, seen_record, shown, shown_by}
use Rattle.mr_world.proofs.Names.World.{told_by, told_pairs}
use Rattle.mr_session.specs.declared.fault.SessionFault.TheVariants.{NotStart, OtherStream, Repeated, Gap}
use Rattle.mr_world.proofs.Agreement.Parts.{parts_none, parts_taken}
use Rattle.mr_world.proofs.Groundwork.Tables.{changed_found, closed_found}
use Rattle.mr_world.proofs.Groundwork.Tools.{any_append, or_none, to_true}

-- a Start is seen as one
pub start_seen : (b : Body) → is_start_seen (seen_body b) ≡ is_start b
start_seen b = grind arith

-- another record starts no full stream
pub starts_none : (b : Body) → is_start b ≡ false → starts_full (seen_body b) ≡ false
starts_none b h = grind arith

pub full_is : (mode : Mode) → is_full_mode mode ≡ true → mode ≡ Full
full_is mode h = grind arith

no_fault : (b : Bool) (fault : SessionFault) (rest : Option SessionFault) → (if b then Some fault else rest) ≡ None → IsFalse b × (rest ≡ None)
no_fault b fault rest e = grind arith

no_start_fault : (b : Bool) → (if b then None else Some NotStart) ≡ None → IsTrue b
no_start_fault b e = grind arith

-- What was taken in the session, and the record that it takes next. A Start comes first, and nothing else does.
pub record IsNextOf (given : List Sent) (before : List Record) (k : Session) (x : Sent) : Type 0 where
  pub whole : IsTrue (is_whole (seen_record x) before)
  pub first : is_start x.body ≡ true → (before ≡ []) × (k ≡ new_session)
  pub bound : is_start x.body ≡ false → (mode : Mode) × (k.origin ≡ Some (record { source = x.header.source; stream = x.header.stream; mode = mode }))
  pub full : is_start x.body ≡ false → is_full k.origin ≡ list_any (λ y. starts_full y.body) before
  pub held : is_full k.origin ≡ true → (v : Name) → in_any vector_has k.held v ≡ shown given x.header.source x.header.stream x.header.index v
  pub know : is_full k.origin ≡ true → (i v : Name) → claimed k.know i v ≡ told_pairs given x.header.source x.header.stream x.header.index i v

pub next_of : (given : List Sent) (taken : List Record) (opened n : ℕ) (k : Session) (x : Sent) → is_start x.body ≡ (x.header.index == 0) → first_fault k.origin k.next x ≡ None →
    SessionAgrees given taken opened n k → IsNextOf given (filter (in_session n) taken) k x
next_of given taken opened n k x starts ok a = go (filter (in_session n) taken) a.follows
  where
    go : (ts : List Record) → Follows k ts → IsNextOf given ts k x
    go [] f =
        let none : k.origin ≡ None = ap (λ (s : Session). s.origin) f in
        let start : IsTrue (is_start x.body) = no_start_fault (is_start x.body) (sym (ap (λ (o : Option Origin). first_fault o k.next x) none) ∙ ok) in record {
          whole = and_from (x.header.index == 0) (is_start_seen (seen_body x.body)) (sym starts ∙ start) (start_seen x.body ∙ start);
          first = λ h. (refl, f);
          bound = λ h. absurd (cc);
          full = λ h. absurd (cc);
          held = λ h. (let c : false ≡ true = sym (ap is_full none) ∙ h in absurd (cc));
          know = λ h. (let c : false ≡ true = sym (ap is_full none) ∙ h in absurd (cc));
        }
    go (y ∷ before) f =
        let origin : Origin = record { source = y.source; stream = y.stream; mode = f.mode } in
        let ok' : first_fault (Some origin) k.next x ≡ None = sym (ap (λ (o : Option Origin). first_fault o k.next x) f.origin) ∙ ok in
        let one = no_fault (not (is_of origin x.header)) OtherStream (if nat_lt x.header.index k.next then Some Repeated else (if nat_lt k.next x.header.index then Some Gap else None)) ok' in
        let two = no_fault (nat_lt x.header.index k.next) Repeated (if nat_lt k.next x.header.index then Some Gap else None) one.1 in
        let three = no_fault (nat_lt k.next x.header.index) Gap None two.1 in
        let both = and_parts (y.source == x.header.source) (y.stream == x.header.stream) (to_true (is_of origin x.header) one.0) in
        let source : y.source ≡ x.header.source = eqb-true y.source x.header.source both.0 in
        let stream : y.stream ≡ x.header.stream = eqb-true y.stream x.header.stream both.1 in
        let ge : k.next ≤ x.header.index = ltb-false x.header.index k.next two.0 in
        let le : x.header.index ≤ k.next = ltb-false k.next x.header.index three.0 in
        let after : k.next ≡ y.index + 1 = f.next in
        let here : k.next ≡ x.header.index = omega arith in
        let keeps = λ (h : is_full k.origin ≡ true). a.keeps origin f.origin (full_is f.mode (sym (ap is_full f.origin) ∙ h)) in record {
          whole = and_from (same_stream (seen_record x) y) ((x.header.index == y.index + 1) && is_whole y before)
              (and_from (x.header.source == y.source) (x.header.stream == y.stream) (eq-eqb x.header.source y.source (sym source)) (eq-eqb x.header.stream y.stream (sym stream)))
              (and_from (x.header.index == y.index + 1) (is_whole y before) (eq-eqb x.header.index (y.index + 1) (omega arith)) f.whole);
          first = λ h. (let zero : x.header.index ≡ 0 = eqb-true x.header.index 0 (sym starts ∙ h) in absurd (omega arith));
          bound = λ h. (f.mode, f.origin ∙ (λ i. Some (record { source = source i; stream = stream i; mode = f.mode })));
          full = λ h. ap is_full f.origin ∙ f.full;
          held = λ h v. (keeps h).held v ∙ (λ i. shown given (source i) (stream i) (here i) v);
          know = λ h i v. (keeps h).know i v ∙ (λ j. told_pairs given (source j) (stream j) (here j) i v);
        }

-- ---- the session after it

module _ (given : List Sent) (taken : List Record) (opened n : ℕ) (k : Session) (x : Sent) (old : n ≤ opened) (session : x.header.session ≡ n) (i : In x given)
    (one : (y : Sent) → In y given → AreAtOnePlace y x → y ≡ x) (next : IsNextOf given (filter (in_session n) taken) k x) where
  abbrev before : List Record
  before = filter (in_session n) taken

  taken_now : filter (in_session n) (seen_record x ∷ taken) ≡ seen_record x ∷ before
  taken_now = rw (eq-eqb x.header.session n session) refl

  -- what is shown and told grows by this record's part
  shown_now : (v : Name) → shown given x.header.source x.header.stream (x.header.index + 1) v ≡ (shown given x.header.source x.header.stream x.header.index v || shown_by x.body v)
  shown_now v = parts_taken (λ b. shown_by b v) given x i (λ y j es et en. one y j (es, et, en))

  told_now : (j v : Name) → told_pairs given x.header.source x.header.stream (x.header.index + 1) j v ≡ (told_pairs given x.header.source x.header.stream x.header.index j v || told_by x.body j v)
  told_now j v = parts_taken (λ b. told_by b j v) given x i (λ y l es et en. one y l (es, et, en))

  -- the session is bound by a Start
  begins : (mode : Mode) → x.body ≡ Start mode →
      SessionAgrees given (seen_record x ∷ taken) opened n (record new_session { origin = Some (record { source = x.header.source; stream = x.header.stream; mode = mode }); next = x.header.index + 1 })
  begins mode e = let none = (next.first (ap is_start e)).0 in record {
    old = old;
    follows = subst (Follows (record new_session { origin = Some (record { source = x.header.source; stream = x.header.stream; mode = mode }); next = x.header.index + 1 })) (sym (taken_now ∙ ap (λ (ts : List Record). seen_record x ∷ ts) none)) (record {
      mode = mode;
      origin = refl;
      next = refl;
      whole = subst (λ (ts : List Record). IsTrue (is_whole (seen_record x) ts)) none next.whole;
      full = sym (ap (λ (b : Body). starts_full (seen_body b) || false) e ∙ or_none (is_full_mode mode));
    });
    keeps = λ o p full. (let q : record { source = x.header.source; stream = x.header.stream; mode = mode } ≡ o = some_same (record { source = x.header.source; stream = x.header.stream; mode = mode }) o p in
        subst (KeepsTold given (record new_session { origin = Some (record { source = x.header.source; stream = x.header.stream; mode = mode }); next = x.header.index + 1 })) q (record {
          held = λ v. sym (shown_now v ∙ (λ z. shown_first v z || shown_by (e z) v));
          know = λ j v. sym (told_now j v ∙ (λ z. told_first j v z || told_by (e z) j v));
        }));
  }
    where
      zero : x.header.index ≡ 0
      zero = go next.whole (next.first (ap is_start e)).0
        where
          go : IsTrue (is_whole (seen_record x) before) → before ≡ [] → x.header.index ≡ 0
          go h p = eqb-true x.header.index 0 (and_parts (x.header.index == 0) (is_start_seen (seen_body x.body)) (subst (λ (ts : List Record). IsTrue (is_whole (seen_record x) ts)) p h)).0

      shown_first : (v : Name) → shown given x.header.source x.header.stream x.header.index v ≡ false
      shown_first v = ap (λ (c : ℕ). shown given x.header.source x.header.stream c v) zero ∙ parts_none (λ b. shown_by b v) given x.header.source x.header.stream

      told_first : (j v : Name) → told_pairs given x.header.source x.header.stream x.header.index j v ≡ false
      told_first j v = ap (λ (c : ℕ). told_pairs given x.header.source x.header.stream c j v) zero ∙ parts_none (λ b. told_by b j v) given x.header.source x.header.stream

  -- it goes on by another record
  goes_on : is_start x.body ≡ false → (held : List (List AuthorColumn)) (know : List Piece) →
      (is_full k.origin ≡ true → (v : Name) → in_any vector_has held v ≡ (in_any vector_has k.held v || shown_by x.body v)) →
      (is_full k.origin ≡ true → (j v : Name) → claimed know j v ≡ (claimed k.know j v || told_by x.body j v)) →
      SessionAgrees given (seen_record x ∷ taken) opened n (record k { next = x.header.index + 1; held = held; know = know })
  goes_on differs held know hh hk = let bound = next.bound differs in record {
    old = old;
    follows = subst (Follows (record k { next = x.header.index + 1; held = held; know = know })) (sym taken_now) (record {
      mode = bound.0;
      origin = bound.1;
      next = refl;
      whole = next.whole;
      full = sym (ap is_full bound.1) ∙ (next.full differs ∙ sym (ap (λ (b : Bool). b || list_any (λ y. starts_full y.body) before) (starts_none x.body differs)));
    });
    keeps = λ o p full. (let q : record { source = x.header.source; stream = x.header.stream; mode = bound.0 } ≡ o = some_same (record { source = x.header.source; stream = x.header.stream; mode = bound.0 }) o (sym bound.1 ∙ p) in
        let is : is_full k.origin ≡ true = ap is_full p ∙ ap is_full_mode full in
        subst (KeepsTold given (record k { next = x.header.index + 1; held = held; know = know })) q (record {
          held = λ v. hh is v ∙ (ap (λ (b : Bool). b || shown_by x.body v) (next.held is v) ∙ sym (shown_now v));
          know = λ j v. hk is j v ∙ (ap (λ (b : Bool). b || told_by x.body j v) (next.know is j v) ∙ sym (told_now j v));
        }));
  }

  -- by one that shows nothing, or tells nothing
  shows_none : (b : Body) → x.body ≡ b → ((v : Name) → shown_by b v ≡ false) → (v : Name) → in_any vector_has k.held v ≡ (in_any vector_has k.held v || shown_by x.body v)
  shows_none b e none v = sym ((λ z. in_any vector_has k.held v || (ap (λ (c : Body). shown_by c v) e ∙ none v) z) ∙ or_none (in_any vector_has k.held v))

  tells_none : (b : Body) → x.body ≡ b → ((j v : Name) → told_by b j v ≡ false) → (j v : Name) → claimed k.know j v ≡ (claimed k.know j v || told_by x.body j v)
  tells_none b e none j v = sym ((λ z. claimed k.know j v || (ap (λ (c : Body). told_by c j v) e ∙ none j v) z) ∙ or_none (claimed k.know j v))

  keeps_one : {X : Type 0} (xs : List X) (y : X) → is_full k.origin ≡ true → xs ++ if_so (is_full k.origin) y ≡ xs ++ y ∷ []
  keeps_one xs y h = ap (λ b. xs ++ if_so b y) h

  session_taken : (b : Body) → x.body ≡ b → SessionAgrees given (seen_record x ∷ taken) opened n (record (with_body k x.header b) { next = x.header.index + 1 })
  session_taken (Start mode) e =
      subst (λ (s : Session). SessionAgrees given (seen_record x ∷ taken) opened n (record (with_body s x.header (Start mode)) { next = x.header.index + 1 })) (sym (next.first (ap is_start e)).1) (begins mode e)
  session_taken (Item r) e = goes_on (ap is_start e) k.held k.know (λ h. shows_none (Item r) e (λ v. refl)) (λ h. tells_none (Item r) e (λ j v. refl))
  session_taken (MoveOut line) e = goes_on (ap is_start e) k.held k.know (λ h. shows_none (MoveOut line) e (λ v. refl)) (λ h. tells_none (MoveOut line) e (λ j v. refl))
  session_taken (Held vector) e = goes_on (ap is_start e) (k.held ++ if_so (is_full k.origin) vector) k.know
      (λ h v. ap (λ (vs : List (List AuthorColumn)). in_any vector_has vs v) (keeps_one k.held vector h)
      ∙ (any_append (λ c. vector_has c v) k.held (vector ∷ []) ∙ (λ z. in_any vector_has k.held v || (or_none (vector_has vector v) ∙ ap (λ (b : Body). shown_by b v) (sym e)) z)))
      (λ h. tells_none (Held vector) e (λ j v. refl))
  session_taken (Know piece) e = goes_on (ap is_start e) k.held (k.know ++ if_so (is_full k.origin) piece)
      (λ h. shows_none (Know piece) e (λ v. refl))
      (λ h j v. ap (λ (ps : List Piece). claimed ps j v) (keeps_one k.know piece h)
      ∙ (any_claimed j v k.know (piece ∷ []) ∙ (λ z. claimed k.know j v || ap (λ (b : Body). told_by b j v) (sym e) z)))
    where
      any_claimed : (j v : Name) (ps qs : List Piece) → claimed (ps ++ qs) j v ≡ (claimed ps j v || claimed qs j v)
      any_claimed j v ps qs = any_append _ ps qs
  session_taken End e = goes_on (ap is_start e) k.held k.know (λ h. shows_none End e (λ v. refl)) (λ h. tells_none End e (λ j v. refl))

  pub session_goes_on : SessionAgrees given (seen_record x ∷ taken) opened n (after_record x k)
  session_goes_on = session_taken x.body refl

-- a session of another number
pub session_aside : (given : List Sent) (taken : List Record) (opened n : ℕ) (k : Session) (x : Record) → x.session ≢ n → SessionAgrees given taken opened n k → SessionAgrees given (x ∷ taken) opened n k
session_aside given taken opened n k x other a = grind (arith, in_session, cases, eqb-true)

-- ---- the table after it

module _ (given : List Sent) (taken : List Record) (sessions : Table Session) (x : Sent) (agree : SessionsAgree given taken sessions) (k : Session) (found : open_at sessions x.header.session ≡ Some k) where
  fresh_after : (n : ℕ) → sessions.opened < n → filter (in_session n) (seen_record x ∷ taken) ≡ []
  fresh_after n lt = grind (arith, cases, eqb-true)

  -- the session is closed
  pub sessions_closed : SessionsAgree given (seen_record x ∷ taken) (with_closed sessions x.header.session)
  sessions_closed = record {
    each = λ n c e. (let rest = closed_found sessions x.header.session n c e in session_aside given taken sessions.opened n c (seen_record x) rest.0 (agree.each n c rest.1));
    fresh = fresh_after;
  }

  -- the session goes on
  pub sessions_taken : SessionAgrees given (seen_record x ∷ taken) sessions.opened x.header.session (after_record x k) → SessionsAgree given (seen_record x ∷ taken) (with_taken x sessions)
  sessions_taken on = record {
    each = λ n c e. elim (changed_found sessions x.header.session (after_record x) n c e) [
      | inl here ↦ (let same : k ≡ here.1 = some_same k here.1 (sym found ∙ here.2) in
          subst (λ (q : ℕ). SessionAgrees given (seen_record x ∷ taken) sessions.opened q c) here.0 (subst (SessionAgrees given (seen_record x ∷ taken) sessions.opened x.header.session) (ap (after_record x) same ∙ here.3) on))
      | inr there ↦ session_aside given taken sessions.opened n c (seen_record x) there.0 (agree.each n c there.1)
    ];
    fresh = fresh_after;
  }
