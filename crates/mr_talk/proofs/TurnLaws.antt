-- Both sides go through the same states, and there are at most seven turns.
use Rattle.std.proofs.Common.{◌≡◌, ℕ, ◌+◌, ◌≤◌, Bool, true, false, cond, List, [], ◌∷◌, ◌++◌, Option, Some, None, ◌⊎◌, inl, inr, refl, sym, ap, subst, ◌∙◌, arith}
use Rattle.mr_talk.proofs.Names.{Agree, Called, CalledAsks, CalledCloses, CalledGreets, CalledPasses, CalledSettles, CalledSettlesFile, CalledTells}
use Rattle.mr_talk.proofs.Names.{CalledTellsFile, Caller, CallerAsks, CallerCloses, CallerGreets, CallerSettles, CallerSettlesFile, CallerTells}
use Rattle.mr_talk.proofs.Names.{CallerTellsFile, CallerWants, Event, Failed, Follows, Kind, Leads, Over, Receives, Role, Sends, Turn, World, after, allowed}
use Rattle.mr_talk.proofs.Names.{called_receives, called_sends, caller_receives, caller_sends, count_by, happens, leb-true, nat_le, next_of, received}
use Rattle.mr_talk.proofs.Names.{sender_of, start}
use Rattle.std.proofs.lemmas.List.Sums.{sum_by-cons}
use Rattle.mr_talk.proofs.Tables.{turn_at, each_placed, placed_at}
use Rattle.mr_talk.specs.World.{ends_turn}

-- ---- at most seven turns

-- how many turns may still end
abbrev left : Turn → ℕ
left CallerGreets = 6
left CalledGreets = 6
left CalledAsks = 6
left CalledPasses = 6
left CallerAsks = 5
left CallerTells = 5
left CallerTellsFile = 5
left CalledTells = 4
left CalledTellsFile = 4
left CallerSettles = 3
left CallerSettlesFile = 3
left CallerWants = 3
left CalledSettles = 2
left CalledSettlesFile = 2
left CalledCloses = 2
left CallerCloses = 1
left Over = 0
left Failed = 0

abbrev one_of : Bool → ℕ
one_of true = 1
one_of false = 0

abbrev falls : Turn → Kind → Turn → Bool
falls t k next = nat_le (one_of (ends_turn k) + left next) (left t)

step_falls : (t : Turn) (k : Kind) (next : Turn) → next_of t k ≡ Some next → one_of (ends_turn k) + left next ≤ left t
step_falls t k next e = leb-true _ _ (placed_at t (falls t) (turn_at (λ (s : Turn). each_placed s (falls s)) refl t) k next e)

count_cons : (k : Kind) (ks : List Kind) → count_by ends_turn (k ∷ ks) ≡ one_of (ends_turn k) + count_by ends_turn ks
count_cons k ks = sum_by-cons (λ (x : Kind). cond (ends_turn x) 1 0) k ks ∙ ap (λ (n : ℕ). n + count_by ends_turn ks) (at_test (ends_turn k))
  where
    at_test : (b : Bool) → cond b 1 0 ≡ one_of b
    at_test true = refl
    at_test false = refl

runs_fall : (t : Turn) (ks : List Kind) (end : Turn) → Leads t ks end → count_by ends_turn ks + left end ≤ left t
runs_fall t [] end r = subst (λ (x : Turn). count_by ends_turn [] + left x ≤ left t) r (omega arith)
runs_fall t (k ∷ ks) end r =
    let one = step_falls t k r.0 r.1 in
    let more = runs_fall r.0 ks end r.2 in
    omega (arith, count_cons k ks)

pub seven_at_most : (ks : List Kind) (end : Turn) → Leads CallerGreets ks end → count_by ends_turn ks ≤ 6
seven_at_most ks end r = let h = runs_fall CallerGreets ks end r in omega arith

-- ---- no talk begins another

pub nothing_behind : (ks : List Kind) (k : Kind) (more : List Kind) (end : Turn) → Leads CallerGreets ks Over → Leads CallerGreets (ks ++ k ∷ more) end → ⊥
nothing_behind ks k more end r s = from CallerGreets ks r s
  where
    from : (t : Turn) (ks : List Kind) → Leads t ks Over → Leads t (ks ++ k ∷ more) end → ⊥
    from t [] r s = let e : next_of Over k ≡ Some s.0 = subst (λ (x : Turn). next_of x k ≡ Some s.0) r s.1 in cc
    from t (j ∷ ks) r s =
        let same : s.0 ≡ r.0 = cc_some (sym s.1 ∙ r.1) in
        from r.0 ks r.2 (subst (λ (x : Turn). Leads x (ks ++ k ∷ more) end) same s.2)
      where
        cc_some : {x y : Turn} → ◌≡◌ {A = Option Turn} (Some x) (Some y) → x ≡ y
        cc_some e = cc

-- ---- both sides

follows_more : (role : Role) (t : Turn) (ks : List Kind) (end next : Turn) (k : Kind) → Follows role t ks end → sender_of end ≡ Some role → next_of end k ≡ Some next → Follows role t (ks ++ k ∷ []) next
follows_more role t [] end next k f s n = (subst (λ (x : Turn). sender_of x ≡ Some role) (sym f) s, next, subst (λ (x : Turn). next_of x k ≡ Some next) (sym f) n, refl)
follows_more role t (j ∷ ks) end next k f s n = (f.0, f.1, f.2, follows_more role f.1 ks end next k f.3 s n)

-- a step is allowed only to the side whose turn it is
allowed_is : (role : Role) (sender : Option Role) (next : Option Turn) (t : Turn) → allowed role sender next ≡ Some t → (sender ≡ Some role) × (next ≡ Some t)
allowed_is Caller (Some Caller) next t e = (refl, e)
allowed_is Called (Some Called) next t e = (refl, e)
allowed_is Caller (Some Called) next t e = absurd cc
allowed_is Called (Some Caller) next t e = absurd cc
allowed_is Caller None next t e = absurd cc
allowed_is Called None next t e = absurd cc

two_senders : (t : Turn) → sender_of t ≡ Some Caller → sender_of t ≡ Some Called → ⊥
two_senders t a b = let e : ◌≡◌ {A = Option Role} (Some Caller) (Some Called) = sym a ∙ b in cc

-- what is on its way from here, and what comes here from the other side
abbrev AgreeHere : (here away : Role) (mine theirs : Turn) (going coming : List Kind) → Type 0
AgreeHere here away mine theirs going coming = (Follows here theirs going mine × (coming ≡ [])) ⊎ (Follows away mine coming theirs × (going ≡ []))

turned : {A B : Type 0} → A ⊎ B → B ⊎ A
turned (inl a) = inr a
turned (inr b) = inl b

-- who may send has received all, and the other side gets to its state
ahead : (here away : Role) (mine theirs : Turn) (going coming : List Kind) → (here ≡ away → ⊥) → AgreeHere here away mine theirs going coming → sender_of mine ≡ Some here → Follows here theirs going mine × (coming ≡ [])
ahead here away mine theirs going coming two (inl h) s = h
ahead here away mine theirs going [] two (inr h) s = (subst (λ (x : List Kind). Follows here theirs x mine) (sym h.1) (sym h.0), refl)
ahead here away mine theirs going (k ∷ ks) two (inr h) s = absurd (two (cc_some (sym s ∙ h.0.0)))
  where
    cc_some : {x y : Role} → ◌≡◌ {A = Option Role} (Some x) (Some y) → x ≡ y
    cc_some e = cc

-- a message that is sent is on its way
says : (here away : Role) (mine theirs : Turn) (going coming : List Kind) → (here ≡ away → ⊥) → AgreeHere here away mine theirs going coming → (k : Kind) (t : Turn) → allowed here (sender_of mine) (next_of mine k) ≡ Some t →
    Follows here theirs (going ++ k ∷ []) t × (coming ≡ [])
says here away mine theirs going coming two a k t e =
    let is = allowed_is here (sender_of mine) (next_of mine k) t e in
    let h = ahead here away mine theirs going coming two a is.0 in
    (follows_more here theirs going mine t k h.0 is.0 is.1, h.1)

-- one that is received is not any more
hears : (away : Role) (mine theirs : Turn) (k : Kind) (ks : List Kind) → Follows away mine (k ∷ ks) theirs → Follows away (received (next_of mine k)) ks theirs
hears away mine theirs k ks f = subst (λ (x : Turn). Follows away x ks theirs) (sym (ap received f.2)) f.3

not_empty : {k : Kind} {ks : List Kind} → ◌≡◌ {A = List Kind} (k ∷ ks) [] → ⊥
not_empty e = cc

caller_sends_keeps : (w : World) (k : Kind) → Agree w → (o : Option Turn) → allowed Caller (sender_of w.caller) (next_of w.caller k) ≡ o → Agree (caller_sends w k o)
caller_sends_keeps w k a None e = a
caller_sends_keeps w k a (Some t) e = inl (says Caller Called w.caller w.called w.to_called w.to_caller (λ e. cc) a k t e)

called_sends_keeps : (w : World) (k : Kind) → Agree w → (o : Option Turn) → allowed Called (sender_of w.called) (next_of w.called k) ≡ o → Agree (called_sends w k o)
called_sends_keeps w k a None e = a
called_sends_keeps w k a (Some t) e = inr (says Called Caller w.called w.caller w.to_caller w.to_called (λ e. cc) (turned a) k t e)

called_receives_keeps : (w : World) → Agree w → (ks : List Kind) → w.to_called ≡ ks → Agree (called_receives w ks)
called_receives_keeps w a [] e = a
called_receives_keeps w (inl h) (k ∷ ks) e = inl (hears Caller w.called w.caller k ks (subst (λ (x : List Kind). Follows Caller w.called x w.caller) e h.0), h.1)
called_receives_keeps w (inr h) (k ∷ ks) e = absurd (not_empty (sym e ∙ h.1))

caller_receives_keeps : (w : World) → Agree w → (ks : List Kind) → w.to_caller ≡ ks → Agree (caller_receives w ks)
caller_receives_keeps w a [] e = a
caller_receives_keeps w (inr h) (k ∷ ks) e = inr (hears Called w.caller w.called k ks (subst (λ (x : List Kind). Follows Called w.caller x w.called) e h.0), h.1)
caller_receives_keeps w (inl h) (k ∷ ks) e = absurd (not_empty (sym e ∙ h.1))

step_keeps : (w : World) (e : Event) → Agree w → Agree (happens w e)
step_keeps w (Sends Caller k) a = caller_sends_keeps w k a _ refl
step_keeps w (Sends Called k) a = called_sends_keeps w k a _ refl
step_keeps w (Receives Caller) a = caller_receives_keeps w a _ refl
step_keeps w (Receives Called) a = called_receives_keeps w a _ refl

pub agree_after : (es : List Event) (w : World) → Agree w → Agree (after es w)
agree_after [] w a = a
agree_after (e ∷ es) w a = agree_after es (happens w e) (step_keeps w e a)

pub agree_from_start : (es : List Event) → Agree (after es start)
agree_from_start es = agree_after es start (inl (refl, refl))

one_in : (w : World) → Agree w → sender_of w.caller ≡ Some Caller → sender_of w.called ≡ Some Called → ⊥
one_in w a s t = at_list w.to_called (ahead Caller Called w.caller w.called w.to_called w.to_caller (λ e. cc) a s).0
  where
    at_list : (ks : List Kind) → Follows Caller w.called ks w.caller → ⊥
    at_list [] f = two_senders w.caller s (subst (λ (x : Turn). sender_of x ≡ Some Called) f t)
    at_list (k ∷ ks) f = two_senders w.called f.0 t

pub one_sends : (es : List Event) → sender_of (after es start).caller ≡ Some Caller → sender_of (after es start).called ≡ Some Called → ⊥
one_sends es = one_in (after es start) (agree_from_start es)

same_in : (w : World) → Agree w → w.to_called ≡ [] → w.to_caller ≡ [] → w.caller ≡ w.called
same_in w (inl h) p q = sym (subst (λ (x : List Kind). Follows Caller w.called x w.caller) p h.0)
same_in w (inr h) p q = subst (λ (x : List Kind). Follows Called w.caller x w.called) q h.0

pub same_at_end : (es : List Event) → (after es start).to_called ≡ [] → (after es start).to_caller ≡ [] → (after es start).caller ≡ (after es start).called
same_at_end es = same_in (after es start) (agree_from_start es)
