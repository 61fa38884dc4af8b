-- sessions and streams are closed one after the other
use Rattle.std.proofs.Common.{arith}
use Rattle.std.proofs.Common.{◌≡◌, ◌⊎◌, ⊎_elim, ℕ, ◌==◌, Bool, true, false, not, cond, List, [], ◌∷◌, ◌++◌, map, filter, Option, Some, Result, Ok, Err, inl, refl, sym, ap, subst, ◌∙◌, append_assoc, append-nil}
use Rattle.mr_kept.proofs.Names.{AllByRecursion, CutIn, CutOut, Done, Event, Form, GoesOn, IfOk, IsCut, IsFull, IsOfSameSetting, IsTrue, KeptFault, LogFull}
use Rattle.mr_kept.proofs.Names.{MatchBool, RefusesLate, Retired, State, Steps, Takes, closers, eqb_tells, false≢true}
use Rattle.mr_kept.proofs.Names.{leb-true, map-append, map_push, refused_if, step_changes, step_log, step_refused, step_setting, ◌orelse◌}
use Rattle.mr_session.specs.Table.{Numbered, Table, open_numbers, with_closed}
use Rattle.mr_replica.specs.declared.refusal.Refusal.{Refusal}
use Rattle.mr_kept.specs.declared.closing.Kind.{Kind}
use Rattle.mr_kept.specs.declared.closing.Kind.TheVariants.{Sessions, Streams}
use Rattle.mr_kept.specs.inner.Closing.{Closes, ClosesAll, cut_of, other, to_close}
use Rattle.mr_kept.proofs.EntryLemmas.{all_append, all_split}

-- ---- those that are left

-- the number is one of these
abbrev pub Among : List ℕ → ℕ → Type 0
Among [] n = ⊥
Among (m ∷ left) n = (n ≡ m) ⊎ Among left n

none_among : (ns : List ℕ) → ((n : ℕ) → Among ns n → ⊥) → ns ≡ []
none_among [] none = refl
none_among (n ∷ ns) none = absurd (none n (inl refl))

module _ {T : Type 0} where
  still_open : (n : ℕ) (xs : List (Numbered T)) (m : ℕ) → Among (map (λ (x : Numbered T). x.number) (filter (λ x. not (x.number == n)) xs)) m → Among (map (λ (x : Numbered T). x.number) xs) m × (m ≡ n → ⊥)
  still_open n [] m h = absurd h
  still_open n (x ∷ xs) m h = grind (arith, still_open n xs m, still_open n xs m, eqb_tells)

  still_to_close : (b : Bool) (table : Table T) (n m : ℕ) → Among (cond b [] (open_numbers (with_closed table n))) m → Among (cond b [] (open_numbers table)) m × (m ≡ n → ⊥)
  still_to_close b table n m h = grind (arith, still_open)

-- ---- so far

pub same_setting : {K : Type 0} (s : State K) → IsOfSameSetting s s
same_setting s = record { id = refl; filter = refl; event_limit = refl }

pub setting_on : {K : Type 0} (s mid new : State K) → IsOfSameSetting s mid → IsOfSameSetting mid new → IsOfSameSetting s new
setting_on s mid new first second = record { id = second.id ∙ first.id; filter = second.filter ∙ first.filter; event_limit = second.event_limit ∙ first.event_limit }

-- the refusal that comes last is the first where its case holds alone
full_last : (a b c : Bool) (e : Refusal) → (e ≡ LogFull → ⊥) → refused_if a Retired orelse refused_if b e orelse refused_if c LogFull ≡ Some LogFull → c ≡ true
full_last a b c e differs is = grind arith

module _ {K : Type 0} where
  -- those of a kind that are closed so far, and those that are left
  pub record ClosedSoFar (kind : Kind) (begin now : State K) (left : List ℕ) : Type 0 where
    pub done : List ℕ
    pub numbers : done ++ left ≡ to_close kind begin
    pub log_is : now.log ≡ begin.log ++ map (cut_of kind) done
    pub still : (n : ℕ) → Among (to_close kind now) n → Among left n
    pub others_are : to_close (other kind) now ≡ to_close (other kind) begin
    pub setting : IsOfSameSetting begin now

  pub closing_begins : (kind : Kind) (s : State K) (left : List ℕ) → left ≡ to_close kind s → ClosedSoFar kind s s left
  closing_begins kind s left is = grind (arith, append-nil, same_setting)

  pub closes : (kind : Kind) (begin now : State K) (left : List ℕ) (all : Bool) → ClosedSoFar kind begin now left → MatchBool all (left ≡ []) (IsFull now) → Closes kind all begin now
  closes kind begin now left all so_far ends = record {
    takes = record {
      more = map (cut_of kind) so_far.done;
      left = map (cut_of kind) left;
      first = sym (map-append (cut_of kind) so_far.done left) ∙ ap (map (cut_of kind)) so_far.numbers;
      log_is = so_far.log_is;
      setting = so_far.setting;
      rest = no_event all ends;
    };
    none_left = no_number all ends;
    others_are = so_far.others_are;
  }
    where
      no_event : (b : Bool) → MatchBool b (left ≡ []) (IsFull now) → MatchBool b (map (cut_of kind) left ≡ []) (IsFull now)
      no_event true is = ap (map (cut_of kind)) is
      no_event false full = full

      no_number : (b : Bool) → MatchBool b (left ≡ []) (IsFull now) → IsTrue b → to_close kind now ≡ []
      no_number true none is = none_among (to_close kind now) (λ n among. subst (λ (ns : List ℕ). Among ns n) none (so_far.still n among))
      no_number false full is = absurd (false≢true is)

module _ {K : Type 0} (form : Form K) where
  first_is : (s new : State K) (event : Event) (e : Refusal) (first : Option Refusal) → (RefusesLate form s event e → ⊥) → GoesOn form s event first (Err e) new → first ≡ Some e
  first_is s new event e first never h = grind arith

  -- what the log full means
  is_full : (kind : Kind) (s new : State K) (n : ℕ) → Steps form s (cut_of kind n) (Err LogFull) new → IsFull s
  is_full kind s new n h = grind (arith, first_is, leb-true, full_last)

  one_less : (kind : Kind) (now new : State K) (n m : ℕ) → Steps form now (cut_of kind n) (Ok Done) new → Among (to_close kind new) m → Among (to_close kind now) m × (m ≡ n → ⊥)
  one_less Sessions now new n m h among =
      still_to_close now.is_retired now.sessions n m (subst (λ (s : State K). Among (to_close Sessions s) m) (step_changes form now (CutIn n) Done new h) among)
  one_less Streams now new n m h among = still_to_close false now.streams n m (subst (λ (s : State K). Among (open_numbers s.streams) m) (step_changes form now (CutOut n) Done new h) among)

  others_stay : (kind : Kind) (now new : State K) (n : ℕ) → Steps form now (cut_of kind n) (Ok Done) new → to_close (other kind) new ≡ to_close (other kind) now
  others_stay kind now new n h = grind (arith, step_changes)

  pub one_more : (kind : Kind) (begin now new : State K) (n : ℕ) (left : List ℕ) → ClosedSoFar kind begin now (n ∷ left) → Steps form now (cut_of kind n) (Ok Done) new → ClosedSoFar kind begin new left
  one_more kind begin now new n left so_far h = record {
    done = so_far.done ++ n ∷ [];
    numbers = append_assoc so_far.done (n ∷ []) left ∙ so_far.numbers;
    log_is = step_log form now new (cut_of kind n) (Ok Done) h
        ∙ ap (λ (l : List Event). l ++ cut_of kind n ∷ []) so_far.log_is
        ∙ append_assoc begin.log (map (cut_of kind) so_far.done) (cut_of kind n ∷ [])
        ∙ ap (λ (l : List Event). begin.log ++ l) (sym (map_push (cut_of kind) so_far.done n));
    still = λ m among. let before = one_less kind now new n m h among in ⊎_elim (λ (same : m ≡ n). absurd (before.1 same)) (λ (later : Among left m). later) (so_far.still m before.0);
    others_are = others_stay kind now new n h ∙ so_far.others_are;
    setting = setting_on begin now new so_far.setting (step_setting form now new (cut_of kind n) (Ok Done) h);
  }

  pub stays_full : (kind : Kind) (begin now new : State K) (n : ℕ) (left : List ℕ) (e : Refusal) → ClosedSoFar kind begin now left → e ≡ LogFull → Steps form now (cut_of kind n) (Err e) new → Closes kind false begin new
  stays_full kind begin now new n left e so_far is h =
      let steps = subst (λ (r : Refusal). Steps form now (cut_of kind n) (Err r) new) is h in
      subst (λ (s : State K). Closes kind false begin s) (sym (step_refused form now (cut_of kind n) LogFull new steps)) (closes kind begin now left false so_far (is_full kind now new n steps))

-- ---- both kinds

module _ {K : Type 0} where
  -- the events that close sessions, and behind them those that close streams
  closers_are : (s : State K) → map (cut_of Sessions) (to_close Sessions s) ++ map (cut_of Streams) (to_close Streams s) ≡ closers s
  closers_are s = grind (arith, cond)

  -- the log took only some of the sessions
  pub closes_some : (s new : State K) (all : Bool) → all ≡ false → Closes Sessions all s new → ClosesAll false s new
  closes_some s new all is h = grind (arith, closes, closers_are, append_assoc, false≢true)

  both : (s mid new : State K) (all : Bool) → Closes Sessions true s mid → Closes Streams all mid new → ClosesAll all s new
  both s mid new all ins outs = grind (arith, append-nil, closers_are, append_assoc, setting_on, cond)

  -- all sessions, and then streams
  pub closes_both : (s mid new : State K) (b : Bool) (result : Result Bool KeptFault) → b ≡ true → Closes Sessions b s mid → IfOk result (λ all. Closes Streams all mid new) → IfOk result (λ all. ClosesAll all s new)
  closes_both s mid new b result is ins outs = grind (arith, both)

-- ---- what closes

are_cuts : (kind : Kind) (ns : List ℕ) → AllByRecursion IsCut (map (cut_of kind) ns)
are_cuts kind [] = tt
are_cuts Sessions (n ∷ ns) = (tt, are_cuts Sessions ns)
are_cuts Streams (n ∷ ns) = (tt, are_cuts Streams ns)

-- what is taken of those that close, closes
pub taken_cuts : {K : Type 0} (s new : State K) (all : Bool) (takes : Takes (closers s) all s new) → AllByRecursion IsCut takes.more
taken_cuts s new all takes =
    let cuts = all_append IsCut _ _ (are_cuts Sessions (to_close Sessions s)) (are_cuts Streams (to_close Streams s)) in
    (all_split IsCut takes.more takes.left (subst (λ (l : List Event). AllByRecursion IsCut l) (closers_are s ∙ sym takes.first) cuts)).0
