-- A history that passes the test is a run.
use Rattle.std.proofs.Common.{◌≡◌, ◌≢◌, refl, sym, subst, ◌∙◌, ℕ, ◌+◌, ◌==◌, nat_lt, Bool, true, false, not, ◌||◌, ◌&&◌, List, [], ◌∷◌, ◌++◌, ◌⊎◌, inl, inr, IsTrue, IsFalse, append_assoc, eqb-true, eq-eqb, ltb-true, Option, Some, None, arith}
use Rattle.std.specs.Prelude.{⊤}
use Rattle.std.specs.List.{list_any, list_all}
use Rattle.std.proofs.lemmas.Bool.{and_from, and_parts, eqb-false}
use Rattle.mr_version.specs.Name.{Name}
use Rattle.mr_model.specs.Versions.{is, is_before, Issue, is_issued, issue_count, item_of, made_with}
use Rattle.mr_model.specs.History.{Setting, Body, Body.Start, Body.Item, Body.MoveOut, Body.Held, Body.Know, Body.End, Record, Receipt, Entry, Entry.Added, Entry.Dropped, Ask, claims, Reply, Reply.Issued, Reply.Done, Reply.Asked, Reply.Streaming, Reply.Gave, Reply.Took, Reply.Known, Reply.Finished, Reply.Offered, Reply.TookEntry, Reply.Vouched, History}
use Rattle.mr_model.specs.declared.event.Act.{Act}
use Rattle.mr_model.specs.declared.event.Act.TheVariants.{Create, Edit, Retire, Pull, Receive, DeliverPart, CutIn, Answer, Next, CutOut, Offer, Take, Close, Vouch, Release}
use Rattle.mr_model.specs.Moment.{Moment, known, stored, pushed_out, only, ◌with◌, Holds, Selects, start, selection, is_start, is_held, starts_full, numbered}
use Rattle.mr_model.specs.Changes.{Reception, Reception.AsTaken, Reception.AsKnown, Reception.AsFinished, Change, Change.Issues, Change.Asks, Change.Opens, Change.Gives, Change.Takes, Change.Retires, Change.Offers, Change.Closes, Change.TakesEntry, Change.Vouches, Change.Releases, Change.Stays, Change.Misfits, change_if_found, change_of, entries_of, is_closed, happens, change}
use Rattle.mr_model.specs.Rules.{IsOf, IsKnownEdit, IsDue, NoneDue, IsWalked, IsDraw, IsIssue, IsAsk, IsNext, IsReceived, IsVouched, IsReleased, IsRetirement, IsOffer, IsTake, IsAllowed, IsRun, reception_of, version_in}
use Rattle.mr_model.specs.Check.{Tests, AreSoundTests, is_of, each_of, some_of, has_held, has_start, has_full_start, each_issued, body_before, is_end, is_holding, is_told, is_due, none_due, none_skipped, is_walked, is_draw, is_addressed, is_open_for, is_next, is_next_version, is_based, is_issue, is_ask, is_none, same_reception, is_received, is_vouched, is_released, is_retirement, same_entry, begins_with, is_offer, is_take, is_allowed, is_run}
use Rattle.mr_model.proofs.Basics.{In, or_parts, or_left, or_right, is_path, is_from, not_both, not_true, any_elim, any_intro}
use Rattle.mr_model.proofs.Issues.{issue_in}
use Rattle.mr_model.proofs.Sets.{numbered_in, held_known}
use Rattle.mr_model.proofs.Core.{Inv}
use Rattle.mr_model.proofs.Runs.{start_holds, change_keeps}

pub all_elim : {A : Type 0} (p : A → Bool) (xs : List A) → IsTrue (list_all p xs) → (x : A) → In x xs → IsTrue (p x)
all_elim p [] h x i = elim i [ ]
all_elim p (y ∷ ys) h x i = let both = and_parts (p y) (list_all p ys) h in elim i [ inl e ↦ subst (λ z. IsTrue (p z)) e both.0 | inr j ↦ all_elim p ys both.1 x j ]

pub all_intro : {A : Type 0} (p : A → Bool) (xs : List A) → ((x : A) → In x xs → IsTrue (p x)) → IsTrue (list_all p xs)
all_intro p [] h = refl
all_intro p (y ∷ ys) h = and_from (p y) (list_all p ys) (h y (inl refl)) (all_intro p ys (λ x i. h x (inr i)))

pub then_true : (a b : Bool) → IsTrue (not a || b) → IsTrue a → IsTrue b
then_true true b h k = h
then_true false b h k = absurd (cc)

pub then_from : (a b : Bool) → (IsTrue a → IsTrue b) → IsTrue (not a || b)
then_from true b h = h refl
then_from false b h = refl

pub is_false : (b : Bool) → IsTrue (not b) → IsFalse b
is_false true h = absurd (cc)
is_false false h = refl

-- ---- the records of a stream

pub of_test : (k t : ℕ) (given : List Record) (y : Record) → IsOf given k t y → IsTrue (is_of k t y)
of_test k t given y of = and_from (y.source == k) (y.stream == t) (eq-eqb y.source k of.source_is) (eq-eqb y.stream t of.stream_is)

pub of_sound : (k t : ℕ) (given : List Record) (y : Record) → In y given → IsTrue (is_of k t y) → IsOf given k t y
of_sound k t given y i h = let same = and_parts (y.source == k) (y.stream == t) h in record { is_given = i; source_is = eqb-true y.source k same.0; stream_is = eqb-true y.stream t same.1 }

pub each_of_elim : (given : List Record) (k t : ℕ) (p : Record → Bool) → IsTrue (each_of given k t p) → (y : Record) → IsOf given k t y → IsTrue (p y)
each_of_elim given k t p h y of = then_true (is_of k t y) (p y) (all_elim (λ z. not (is_of k t z) || p z) given h y of.is_given) (of_test k t given y of)

pub each_of_intro : (given : List Record) (k t : ℕ) (p : Record → Bool) → ((y : Record) → IsOf given k t y → IsTrue (p y)) → IsTrue (each_of given k t p)
each_of_intro given k t p h = all_intro (λ z. not (is_of k t z) || p z) given (λ y i. then_from (is_of k t y) (p y) (λ j. h y (of_sound k t given y i j)))

pub some_of_sound : (given : List Record) (k t : ℕ) (p : Record → Bool) → IsTrue (some_of given k t p) → (x : Record) × IsOf given k t x × IsTrue (p x)
some_of_sound given k t p h = grind (arith, any_elim, and_parts, of_sound)

pub some_of_complete : (given : List Record) (k t : ℕ) (p : Record → Bool) → (x : Record) × IsOf given k t x × IsTrue (p x) → IsTrue (some_of given k t p)
some_of_complete given k t p h = any_intro (λ y. is_of k t y && p y) given h.0 h.1.is_given (and_from (is_of k t h.0) (p h.0) (of_test k t given h.0 h.1) h.2)

pub before_complete : (b : Body) (v : Name) → ((w : Name) → version_in b ≡ Some w → IsTrue (is_before w v)) → IsTrue (body_before b v)
before_complete b v h = grind arith

pub before_sound : (b : Body) (v w : Name) → IsTrue (body_before b v) → version_in b ≡ Some w → IsTrue (is_before w v)
before_sound b v w h e = grind arith

-- ---- what is due

pub holding_complete : {M C : Type 0} (m : Moment M C) (r : ℕ) (v : Name) → Holds m r v → IsTrue (is_holding m r v)
holding_complete m r v h = elim h [ inl a ↦ or_left (stored m r v) (pushed_out m r v) a | inr b ↦ or_right (stored m r v) (pushed_out m r v) b ]

pub holding_sound : {M C : Type 0} (m : Moment M C) (r : ℕ) (v : Name) → IsTrue (is_holding m r v) → Holds m r v
holding_sound m r v h = or_parts (stored m r v) (pushed_out m r v) h

pub told_complete : {M C : Type 0} (s : Setting M C) (m : Moment M C) (ask : Ask) (v : Name) → Selects s m ask.target v ⊎ IsKnownEdit m.issues ask v → IsTrue (is_told s m ask v)
told_complete s m ask v h = grind (arith, or_left, or_right, and_from, not_true, is_path)

pub told_sound : {M C : Type 0} (s : Setting M C) (m : Moment M C) (ask : Ask) (v : Name) → IsTrue (is_told s m ask v) → Selects s m ask.target v ⊎ IsKnownEdit m.issues ask v
told_sound s m ask v h = grind (arith, or_parts, and_parts, not_both, is_from)

pub due_complete : {M C : Type 0} (s : Setting M C) (m : Moment M C) (k t : ℕ) (ask : Ask) (v : Name) → IsDue s m k t ask v → IsTrue (is_due s m k t ask v)
due_complete s m k t ask v due = grind (arith, and_from, holding_complete, told_complete, each_of_intro, before_complete)

pub due_sound : {M C : Type 0} (s : Setting M C) (m : Moment M C) (k t : ℕ) (ask : Ask) (v : Name) → IsTrue (is_due s m k t ask v) → IsDue s m k t ask v
due_sound s m k t ask v h = grind (arith, and_parts, holding_sound, is_false, told_sound, before_sound, each_of_elim)

pub each_issued_elim : {M : Type 0} (issues : List (Issue M)) (p : Name → Bool) → IsTrue (each_issued issues p) → (v : Name) → IsTrue (is_issued issues v) → IsTrue (p v)
each_issued_elim issues p h v k = let r = issue_in issues v k in subst (λ (u : Name). IsTrue (p u)) r.2 (all_elim (λ x. p x.version) issues h r.0 r.1)

-- what is held was issued
pub held_issued : {M C : Type 0} (s : Setting M C) (m : Moment M C) → Inv s m → (r : ℕ) (v : Name) → Holds m r v → IsTrue (is_issued m.issues v)
held_issued s m inv r v h = (inv.core.sets.each r).issued v (held_known m.issues (m.holding r) v (inv.core.sets.each r) h)

pub none_due_sound : {M C : Type 0} (s : Setting M C) (m : Moment M C) → Inv s m → (k t : ℕ) (ask : Ask) → IsTrue (none_due s m k t ask) → NoneDue s m k t ask
none_due_sound s m inv k t ask h v due = grind (arith, each_issued_elim m.issues (λ u. not (is_due s m k t ask u)) h v (held_issued s m inv k v due.held), due_complete s m k t ask v due)

-- ---- what Next draws

pub walked_sound : {M C : Type 0} (s : Setting M C) (m : Moment M C) → Inv s m → (k t : ℕ) (ask : Ask) (w : Name) → IsTrue (is_walked s m k t ask w) → IsWalked s m k t ask w
walked_sound s m inv k t ask w h =
    let outer = and_parts (has_start m.given k t && not (has_held m.given k t)) (is_due s m k t ask w && none_skipped s m k t ask w) h in
    let first = and_parts (has_start m.given k t) (not (has_held m.given k t)) outer.0 in
    let second = and_parts (is_due s m k t ask w) (none_skipped s m k t ask w) outer.1 in
    record {
      begun = some_of_sound m.given k t (λ y. is_start y.body) first.0;
      walking = λ j. not_both (has_held m.given k t) first.1 (some_of_complete m.given k t (λ y. is_held y.body) j);
      due = due_sound s m k t ask w second.0;
      none_skipped = λ v due. elim (or_parts (is v w) (is_before w v) (then_true (is_due s m k t ask v) (is v w || is_before w v)
          (each_issued_elim m.issues (λ u. not (is_due s m k t ask u) || (is u w || is_before w u)) second.1 v (held_issued s m inv k v due.held)) (due_complete s m k t ask v due)))
          [ inl p ↦ inl (is_path v w p) | inr q ↦ inr q ];
    }

pub draw_sound : {M C : Type 0} (s : Setting M C) (c : Tests C) → AreSoundTests s c → (m : Moment M C) → Inv s m → (k t : ℕ) (ask : Ask) (b : Body) → IsTrue (is_draw s c m k t ask b) → IsDraw s m k t ask b
draw_sound s c law m inv k t ask (Start full) h = grind (arith, and_parts, each_of_elim, then_true)
draw_sound s c law m inv k t ask (Item w) h = let a = and_parts (is_walked s m k t ask w) (selection s m.issues ask.target w) h in (walked_sound s m inv k t ask w a.0, a.1)
draw_sound s c law m inv k t ask (MoveOut w) h = let a = and_parts (is_walked s m k t ask w) (not (selection s m.issues ask.target w)) h in (walked_sound s m inv k t ask w a.0, not_both (selection s m.issues ask.target w) a.1)
draw_sound s c law m inv k t ask Held h = grind (arith, and_parts, some_of_sound, or_parts, none_due_sound)
draw_sound s c law m inv k t ask Know h = some_of_sound m.given k t (λ y. is_held y.body) h
draw_sound s c law m inv k t ask End h = grind (arith, and_parts, some_of_sound, then_true, some_of_complete, or_parts, none_due_sound)

pub not_an_end : (b : Body) → IsTrue (not (is_end b)) → b ≢ End
not_an_end b h e = let k : IsTrue (not (is_end End)) = subst (λ (z : Body). IsTrue (not (is_end z))) e h in cc

pub next_sound : {M C : Type 0} (s : Setting M C) (c : Tests C) → AreSoundTests s c → (m : Moment M C) → Inv s m → (k t : ℕ) (x : Record) (o : Option Ask) → m.ask_of x.source x.stream ≡ o → IsTrue (is_next s c m k t x o) → IsNext s m k t x
next_sound s c law m inv k t x None e h = absurd (cc)
next_sound s c law m inv k t x (Some ask) e h = grind (arith, and_parts, eqb-true, ltb-true, each_of_elim, not_an_end, draw_sound)

-- ---- an issue, an Ask, a taken record, a receipt and a retirement

pub based_sound : {M C : Type 0} (m : Moment M C) (r : ℕ) (x : Issue M) (bases : List Name) → IsTrue (is_based m r x bases) →
    ((b : Name) → In b bases → Holds m r b) × ((b : Name) → In b bases → item_of m.issues b ≡ x.item) × (bases ≡ [] → x.item ≡ x.version)
based_sound m r x [] h = ((λ b i. elim i [ ]), (λ b i. elim i [ ]), (λ e. is_path x.item x.version h))
based_sound m r x (d ∷ bases) h = grind (arith, holding_sound, is_path, and_parts, all_elim)

pub issue_sound : {M C : Type 0} (m : Moment M C) (r : ℕ) (x : Issue M) → IsTrue (is_issue m r x) → IsIssue m r x
issue_sound m r x h = grind (arith, and_parts, based_sound, is_false, eqb-true)

pub ask_sound : {M C : Type 0} (m : Moment M C) (r : ℕ) (ask : Ask) → IsTrue (is_ask m r ask) → IsAsk m r ask
ask_sound m r ask h = grind (arith, and_parts, is_false, eqb-true, any_elim, is_path, all_elim)

pub none_sound : {A : Type 0} (o : Option A) → IsTrue (is_none o) → o ≡ None
none_sound o h = grind arith

pub reception_sound : (a b : Reception) → IsTrue (same_reception a b) → a ≡ b
reception_sound a b h = grind arith

pub received_sound : {M C : Type 0} (m : Moment M C) (r : ℕ) (x : Record) (reception : Reception) → In x m.given → IsTrue (is_received m r x reception) → IsReceived m r x reception
received_sound m r x reception pool h = grind (arith, and_parts, is_false, eqb-true, reception_sound)

pub vouched_sound : {M C : Type 0} (m : Moment M C) (r : ℕ) (v : Name) (x : Receipt) → IsTrue (is_vouched m r v x) → IsVouched m r v x
vouched_sound m r v x h = grind (arith, and_parts, is_false, eqb-true, is_path)

pub released_sound : {M C : Type 0} (m : Moment M C) (r : ℕ) (x : Receipt) → In x m.receipts → IsTrue (is_released m r x) → IsReleased m r x
released_sound {M} m r x pool h = grind (arith, and_parts, any_elim, is_false)

pub retirement_sound : {M C : Type 0} (s : Setting M C) (m : Moment M C) → Inv s m → (r : ℕ) → IsTrue (is_retirement m r) → IsRetirement m r
retirement_sound s m inv r h = grind (arith, each_issued_elim m.issues (λ v. not (pushed_out m r v)), held_issued s m inv r)

-- ---- subscribers

pub entry_sound : {M C : Type 0} (s : Setting M C) (c : Tests C) → AreSoundTests s c → (a b : Entry C) → IsTrue (same_entry c a b) → a ≡ b
entry_sound s c law (Added i v card) (Added j w other) h = grind (arith, and_parts, is_path)
entry_sound s c law (Dropped i v) (Dropped j w) h = let both = and_parts (is i j) (is v w) h in let item = is_path i j both.0 in let version = is_path v w both.1 in λ z. Dropped (item z) (version z)
entry_sound s c law (Added i v card) (Dropped j w) h = absurd (cc)
entry_sound s c law (Dropped i v) (Added j w other) h = absurd (cc)

pub begins_sound : {M C : Type 0} (s : Setting M C) (c : Tests C) → AreSoundTests s c → (xs ys : List (Entry C)) → IsTrue (begins_with c xs ys) → (rest : List (Entry C)) × (ys ≡ xs ++ rest)
begins_sound s c law [] ys h = (ys, refl)
begins_sound s c law (x ∷ xs) [] h = absurd (cc)
begins_sound {M} {C} s c law (x ∷ xs) (y ∷ ys) h = grind (arith, begins_sound s c law xs ys, and_parts, entry_sound)

-- the entry that follows a prefix
pub next_entry : {M C : Type 0} (s : Setting M C) (c : Tests C) → AreSoundTests s c → (xs ys : List (Entry C)) (e : Entry C) → IsTrue (begins_with c (xs ++ e ∷ []) ys) → (rest : List (Entry C)) × (ys ≡ xs ++ e ∷ rest)
next_entry s c law xs ys e h = let r = begins_sound s c law (xs ++ e ∷ []) ys h in (r.0, r.1 ∙ append_assoc xs (e ∷ []) r.0)

pub offer_sound : {M C : Type 0} (s : Setting M C) (c : Tests C) → AreSoundTests s c → (m : Moment M C) (r u : ℕ) (e : Entry C) → IsTrue (is_offer c m r u e) → IsOffer m r u e
offer_sound s c law m r u e h = grind (arith, and_parts, next_entry, is_false)

pub take_sound : {M C : Type 0} (s : Setting M C) (c : Tests C) → AreSoundTests s c → (m : Moment M C) (r u : ℕ) (e : Entry C) → IsTrue (is_take c m r u e) → IsTake m r u e
take_sound s c law m r u e h = let next = next_entry s c law (m.taken r u) (entries_of (m.offered r u)) e h in record { rest = next.0; next = next.1 }

-- ---- a change

-- what a change takes of a pool is there
abbrev pub IsFromPool : {M C : Type 0} → Moment M C → Change M C → Type 0
IsFromPool m (Opens k t ask) = In ask m.asks
IsFromPool m (Takes r x reception) = In x m.given
IsFromPool m (Releases r x) = In x m.receipts
IsFromPool m _ = ⊤

pub found_pool : {M C A : Type 0} (m : Moment M C) (xs : List A) (n : ℕ) (change : A → Change M C) → ((x : A) → In x xs → IsFromPool m (change x)) → IsFromPool m (change_if_found (numbered xs n) change)
found_pool {M} {C} {A} m xs n change h = grind (arith, numbered_in)

pub from_pool : {M C : Type 0} (m : Moment M C) (r : ℕ) (act : Act M) (reply : Reply C) → IsFromPool m (change_of m r act reply)
from_pool m r act reply = grind (arith, found_pool, numbered_in)

pub allowed_sound : {M C : Type 0} (s : Setting M C) (c : Tests C) → AreSoundTests s c → (m : Moment M C) → Inv s m → (change : Change M C) → IsFromPool m change → IsTrue (is_allowed s c m change) → IsAllowed s m change
allowed_sound s c law m inv change pool h = grind (arith, issue_sound m, ask_sound m, none_sound, eqb-false, next_sound s c law m inv, received_sound m, retirement_sound s m inv, offer_sound s c law m, take_sound s c law m, vouched_sound m, released_sound m)

pub run_sound : {M C : Type 0} (s : Setting M C) (c : Tests C) → AreSoundTests s c → (m : Moment M C) → Inv s m → (h : History M C) → IsTrue (is_run s c m h) → IsRun s m h
run_sound s c law m inv [] h = tt
run_sound s c law m inv (x ∷ later) h =
    let a = and_parts (is_allowed s c m (change m x)) (is_run s c (happens s m (change m x)) later) h in
    let ok = allowed_sound s c law m inv (change m x) (from_pool m x.event.replica x.event.act x.reply) a.0 in
    (ok, run_sound s c law (happens s m (change m x)) (change_keeps s m (change m x) ok inv) later a.1)

pub check_sound : {M C : Type 0} (s : Setting M C) (c : Tests C) → AreSoundTests s c → (h : History M C) → IsTrue (is_run s c start h) → IsRun s start h
check_sound s c law h = run_sound s c law start (start_holds s) h
