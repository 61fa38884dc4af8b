-- A test of a history against the rules, so that a worked history can be shown to keep them by computing.
use Rattle.std.specs.Prelude.{◌≡◌, ℕ, ◌+◌, ◌==◌, nat_lt, Bool, true, false, not, ◌||◌, ◌&&◌, IsTrue, List, [], ◌∷◌, ◌++◌, Option, Some, None}
use Rattle.std.specs.List.{list_any, list_all}
use Rattle.mr_version.specs.Name.{Name}
use Rattle.mr_model.specs.Versions.{is, is_before, Issue, issue_count, item_of, made_with}
use Rattle.mr_model.specs.History.{Setting, Ask, claims, Body, Body.Start, Body.Item, Body.MoveOut, Body.Held, Body.Know, Body.End, Record, Receipt, Entry, Entry.Added, Entry.Dropped, History}
use Rattle.mr_model.specs.Moment.{Moment, known, stored, pushed_out, only, ◌with◌, selection, is_start, is_held, starts_full}
use Rattle.mr_model.specs.Changes.{Reception, Reception.AsTaken, Reception.AsKnown, Reception.AsFinished, Change, Change.Issues, Change.Asks, Change.Opens, Change.Gives, Change.Takes, Change.Retires, Change.Offers, Change.Closes, Change.TakesEntry, Change.Vouches, Change.Releases, Change.Stays, Change.Misfits, entries_of, is_closed, happens, change}
use Rattle.mr_model.specs.Rules.{Covers, reception_of}

-- tests that the rules leave open: whether the filter of a source covers that of a target, and whether two cards are one
pub record Tests (C : Type 0) : Type 0 where
  pub covers : (source target : ℕ) → Bool
  pub same_card : C → C → Bool

-- they answer yes only where it is so
pub record AreSoundTests {M C : Type 0} (s : Setting M C) (c : Tests C) : Type 0 where
  pub covers : (source target : ℕ) → IsTrue (c.covers source target) → Covers s source target
  pub same_card : (a b : C) → IsTrue (c.same_card a b) → a ≡ b

-- ---- records of a stream

-- y is of stream t of k
abbrev pub is_of : ℕ → ℕ → Record → Bool
is_of k t y = (y.source == k) && (y.stream == t)

-- the test passes each record that the stream gave
abbrev pub each_of : List Record → ℕ → ℕ → (Record → Bool) → Bool
each_of given k t p = list_all (λ y. not (is_of k t y) || p y) given

-- the test passes some record that the stream gave
abbrev pub some_of : List Record → ℕ → ℕ → (Record → Bool) → Bool
some_of given k t p = list_any (λ y. is_of k t y && p y) given

-- the stream has given a Held record
abbrev pub has_held : List Record → ℕ → ℕ → Bool
has_held given k t = some_of given k t (λ y. is_held y.body)

-- the stream has given its Start
abbrev pub has_start : List Record → ℕ → ℕ → Bool
has_start given k t = some_of given k t (λ y. is_start y.body)

-- the stream has given the Start of a full stream
abbrev pub has_full_start : List Record → ℕ → ℕ → Bool
has_full_start given k t = some_of given k t (λ y. starts_full y.body)

-- the test passes each issued version
abbrev pub each_issued : {M : Type 0} → List (Issue M) → (Name → Bool) → Bool
each_issued issues p = list_all (λ x. p x.version) issues

-- a body that names no version, or one before v
abbrev pub body_before : Body → Name → Bool
body_before (Item w) v = is_before w v
body_before (MoveOut w) v = is_before w v
body_before _ v = true

-- whether a body is an End
abbrev pub is_end : Body → Bool
is_end End = true
is_end _ = false

-- ---- the walk

-- r holds b
abbrev pub is_holding : {M C : Type 0} → Moment M C → ℕ → Name → Bool
is_holding m r b = stored m r b || pushed_out m r b

-- the target's filter selects v, or v is an edit of an item whose creation the Ask claims
abbrev pub is_told : {M C : Type 0} → Setting M C → Moment M C → Ask → Name → Bool
is_told s m ask v = selection s m.issues ask.target v || (not (is (item_of m.issues v) v) && claims ask (item_of m.issues v))

-- the walk still has to tell v
abbrev pub is_due : {M C : Type 0} → Setting M C → Moment M C → ℕ → ℕ → Ask → Name → Bool
is_due s m k t ask v = (is_holding m k v && not (claims ask v)) && (is_told s m ask v && each_of m.given k t (λ y. body_before y.body v))

-- the walk has nothing more to tell
abbrev pub none_due : {M C : Type 0} → Setting M C → Moment M C → ℕ → ℕ → Ask → Bool
none_due s m k t ask = each_issued m.issues (λ v. not (is_due s m k t ask v))

-- each version that is due is w or comes after it
abbrev pub none_skipped : {M C : Type 0} → Setting M C → Moment M C → ℕ → ℕ → Ask → Name → Bool
none_skipped s m k t ask w = each_issued m.issues (λ v. not (is_due s m k t ask v) || (is v w || is_before w v))

-- the walk comes to w next
abbrev pub is_walked : {M C : Type 0} → Setting M C → Moment M C → ℕ → ℕ → Ask → Name → Bool
is_walked s m k t ask w = (has_start m.given k t && not (has_held m.given k t)) && (is_due s m k t ask w && none_skipped s m k t ask w)

-- the stream may give this next
abbrev pub is_draw : {M C : Type 0} → Setting M C → Tests C → Moment M C → ℕ → ℕ → Ask → Body → Bool
is_draw s c m k t ask (Start full) = each_of m.given k t (λ y. false) && (not full || c.covers k ask.target)
is_draw s c m k t ask (Item w) = is_walked s m k t ask w && selection s m.issues ask.target w
is_draw s c m k t ask (MoveOut w) = is_walked s m k t ask w && not (selection s m.issues ask.target w)
is_draw s c m k t ask Held = has_full_start m.given k t && (none_due s m k t ask || has_held m.given k t)
is_draw s c m k t ask Know = has_held m.given k t
is_draw s c m k t ask End = has_start m.given k t && ((not (has_full_start m.given k t) || has_held m.given k t) && (has_full_start m.given k t || none_due s m k t ask))

-- x is of stream t of k, for the session that asked
abbrev pub is_addressed : Record → ℕ → ℕ → Ask → Bool
is_addressed x k t ask = is_of k t x && ((x.target == ask.target) && (x.session == ask.session))

-- the stream has not ended, and x has a later index than each record before it
abbrev pub is_open_for : List Record → Record → Bool
is_open_for given x = each_of given x.source x.stream (λ y. nat_lt y.index x.index) && each_of given x.source x.stream (λ y. not (is_end y.body))

-- x is the next record of stream t of k, whose Ask this is
abbrev pub is_next : {M C : Type 0} → Setting M C → Tests C → Moment M C → ℕ → ℕ → Record → Option Ask → Bool
is_next s c m k t x None = false
is_next s c m k t x (Some ask) = is_addressed x k t ask && (is_open_for m.given x && is_draw s c m x.source x.stream ask x.body)

-- ---- the other changes

-- x has the next version of r, which is alive
abbrev pub is_next_version : {M C : Type 0} → Moment M C → ℕ → Issue M → Bool
is_next_version m r x = not (m.is_retired r) && ((x.version.author == r) && (x.version.counter == issue_count m.issues r + 1))

-- x is based on what r holds of its item; with no base it is its own item
abbrev pub is_based : {M C : Type 0} → Moment M C → ℕ → Issue M → List Name → Bool
is_based m r x [] = is x.item x.version
is_based m r x bases = list_all (λ b. is_holding m r b && is (item_of m.issues b) x.item) bases

-- r may issue x
abbrev pub is_issue : {M C : Type 0} → Moment M C → ℕ → Issue M → Bool
is_issue m r x = is_next_version m r x && is_based m r x x.bases

-- r may ask so
abbrev pub is_ask : {M C : Type 0} → Moment M C → ℕ → Ask → Bool
is_ask m r ask = not (m.is_retired r) && ((ask.target == r) && list_all (known m r) ask.claimed)

-- whether there is nothing
abbrev pub is_none : {A : Type 0} → Option A → Bool
is_none None = true
is_none (Some x) = false

-- whether two receptions are one
abbrev pub same_reception : Reception → Reception → Bool
same_reception AsTaken AsTaken = true
same_reception AsKnown AsKnown = true
same_reception AsFinished AsFinished = true
same_reception _ _ = false

-- r may take x with this answer
abbrev pub is_received : {M C : Type 0} → Moment M C → ℕ → Record → Reception → Bool
is_received m r x reception = not (m.is_retired r) && ((x.target == r) && same_reception reception (reception_of m r x.body))

-- r may vouch for v by this receipt
abbrev pub is_vouched : {M C : Type 0} → Moment M C → ℕ → Name → Receipt → Bool
is_vouched m r v x = not (m.is_retired r) && ((x.giver == r) && (is x.version v && stored m r v))

-- r may retire
abbrev pub is_retirement : {M C : Type 0} → Moment M C → ℕ → Bool
is_retirement m r = not (m.is_retired r) && each_issued m.issues (λ v. not (pushed_out m r v))

-- r may release what the receipt frees
abbrev pub is_released : {M C : Type 0} → Moment M C → ℕ → Receipt → Bool
is_released m r x = not (m.is_retired r) && list_any (λ y. pushed_out m r y.version && (only x.version with made_with m.issues x.version) y.version) m.issues

-- ---- subscribers

-- whether two entries are one
abbrev pub same_entry : {C : Type 0} → Tests C → Entry C → Entry C → Bool
same_entry c (Added i v card) (Added j w other) = (is i j && is v w) && c.same_card card other
same_entry c (Dropped i v) (Dropped j w) = is i j && is v w
same_entry c _ _ = false

-- the second list begins with the first
abbrev pub begins_with : {C : Type 0} → Tests C → List (Entry C) → List (Entry C) → Bool
begins_with c [] ys = true
begins_with c (x ∷ xs) [] = false
begins_with c (x ∷ xs) (y ∷ ys) = same_entry c x y && begins_with c xs ys

-- e may be offered next
abbrev pub is_offer : {M C : Type 0} → Tests C → Moment M C → ℕ → ℕ → Entry C → Bool
is_offer c m r u e = begins_with c (entries_of (m.offered r u) ++ e ∷ []) (m.feed r) && not (is_closed (m.offered r u))

-- e may be taken next
abbrev pub is_take : {M C : Type 0} → Tests C → Moment M C → ℕ → ℕ → Entry C → Bool
is_take c m r u e = begins_with c (m.taken r u ++ e ∷ []) (entries_of (m.offered r u))

-- ---- the rules

-- That a record, an Ask or a receipt is of its pool is not tested: `change_of` takes it from there.
abbrev pub is_allowed : {M C : Type 0} → Setting M C → Tests C → Moment M C → Change M C → Bool
is_allowed s c m (Issues r x) = is_issue m r x
is_allowed s c m (Asks r ask) = is_ask m r ask
is_allowed s c m (Opens k t ask) = not (ask.target == k) && is_none (m.ask_of k t)
is_allowed s c m (Gives k t x) = is_next s c m k t x (m.ask_of x.source x.stream)
is_allowed s c m (Takes r x reception) = is_received m r x reception
is_allowed s c m (Retires r) = is_retirement m r
is_allowed s c m (Offers r u e) = is_offer c m r u e
is_allowed s c m (Closes r u) = true
is_allowed s c m (TakesEntry r u e) = is_take c m r u e
is_allowed s c m (Vouches r v x) = is_vouched m r v x
is_allowed s c m (Releases r x) = is_released m r x
is_allowed s c m Stays = true
is_allowed s c m Misfits = false

-- whether each change of the history, from m on, passes the test
abbrev pub is_run : {M C : Type 0} → Setting M C → Tests C → Moment M C → History M C → Bool
is_run s c m [] = true
is_run s c m (x ∷ later) = is_allowed s c m (change m x) && is_run s c (happens s m (change m x)) later
