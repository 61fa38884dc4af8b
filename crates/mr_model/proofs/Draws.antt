-- A record that a source gives.
use Rattle.std.proofs.Common.{◌≡◌, refl, sym, ap, subst, ◌∙◌, ℕ, ◌<◌, ◌==◌, Bool, not, ◌&&◌, List, ◌∷◌, ◌⊎◌, inl, inr, IsTrue, IsFalse, arith, eqb-true, eq-eqb, Some}
use Rattle.mr_model.proofs.Names.{Ask, Body, Body.End, Body.Held, Body.Item, Body.Know, Body.MoveOut, Body.Start, Covers, HasHeld, Holds, IsDraw, IsDue}
use Rattle.mr_model.proofs.Names.{IsNext, IsOf, Moment, Name, Record, Setting, Versions, after_giving, and_from, and_parts, at_two, both_ways, claims}
use Rattle.mr_model.proofs.Names.{is_before, is_first_held, is_held, known, list_any, same_stream, selection, starts_full, version_in}
use Rattle.mr_model.specs.Moment.{stored}
use Rattle.mr_model.proofs.Basics.{cases, any_elim, false_from}
use Rattle.mr_model.proofs.Sets.{SetsHold, held_known, choice, two_elim}
use Rattle.mr_model.proofs.Sound.{IsSound}
use Rattle.mr_model.proofs.Streams.{StreamsHold, IsWalkedFor, IsHeldFor}

-- ---- the pool with one more record

pub of_more : (x : Record) (given : List Record) (k t : ℕ) (y : Record) → IsOf given k t y → IsOf (x ∷ given) k t y
of_more x given k t y of = record { is_given = inr of.is_given; source_is = of.source_is; stream_is = of.stream_is }

pub of_split : (x : Record) (given : List Record) (k t : ℕ) (y : Record) → IsOf (x ∷ given) k t y → (x ≡ y) ⊎ IsOf given k t y
of_split x given k t y of = elim of.is_given [ inl p ↦ inl p | inr i ↦ inr (record { is_given = i; source_is = of.source_is; stream_is = of.stream_is }) ]

pub held_more : (x : Record) (given : List Record) (k t : ℕ) → HasHeld given k t → HasHeld (x ∷ given) k t
held_more x given k t h = (h.0, of_more x given k t h.0 h.1, h.2)

pub held_split : (x : Record) (given : List Record) (k t : ℕ) → HasHeld (x ∷ given) k t → (IsTrue (is_held x.body) × ((x.source ≡ k) × (x.stream ≡ t))) ⊎ HasHeld given k t
held_split x given k t h = grind (arith, of_split)

-- ---- what a draw leaves to the walk

pub after_draw : {M C : Type 0} (s : Setting M C) (m : Moment M C) (k t : ℕ) (ask : Ask) (b : Body) → IsDraw s m k t ask b → (v : Name) → IsDue s m k t ask v → ¬ HasHeld m.given k t →
    (version_in b ≡ Some v) ⊎ (((w : Name) → version_in b ≡ Some w → IsTrue (is_before w v)) × IsFalse (is_held b))
after_draw s m k t ask (Item w) d v due not_yet = elim (d.0.none_skipped v due) [ inl p ↦ inl (ap Some (sym p)) | inr lt ↦ inr ((λ u e. let p : w ≡ u = cc in subst (λ (z : Name). IsTrue (is_before z v)) p lt), refl) ]
after_draw s m k t ask (MoveOut w) d v due not_yet = elim (d.0.none_skipped v due) [ inl p ↦ inl (ap Some (sym p)) | inr lt ↦ inr ((λ u e. let p : w ≡ u = cc in subst (λ (z : Name). IsTrue (is_before z v)) p lt), refl) ]
after_draw s m k t ask Held d v due not_yet = elim d.walked [ inl none ↦ absurd (none v due) | inr h ↦ absurd (not_yet h) ]
after_draw s m k t ask Know d v due not_yet = absurd (not_yet d)
after_draw s m k t ask _ d v due not_yet = inr ((λ w e. absurd (cc)), refl)

-- the source holds what it gives
pub drawn_held : {M C : Type 0} (s : Setting M C) (m : Moment M C) (k t : ℕ) (ask : Ask) (b : Body) → IsDraw s m k t ask b → (w : Name) → version_in b ≡ Some w → Holds m k w
drawn_held s m k t ask b d w e = grind arith

pub drawn_move_out : {M C : Type 0} (s : Setting M C) (m : Moment M C) (k t : ℕ) (ask : Ask) (b : Body) → IsDraw s m k t ask b → (w : Name) → b ≡ MoveOut w → IsFalse (selection s m.issues ask.target w)
drawn_move_out s m k t ask b d w e = grind (arith, false_from)

pub drawn_start : {M C : Type 0} (s : Setting M C) (m : Moment M C) (k t : ℕ) (ask : Ask) (b : Body) → IsDraw s m k t ask b → IsTrue (starts_full b) → Covers s k ask.target
drawn_start s m k t ask b d h = grind arith

-- ---- the walk

pub given_walked : {M C : Type 0} (s : Setting M C) (m : Moment M C) (x : Record) (ask : Ask) → SetsHold m → IsSound s m.issues x.source (m.holding x.source) → IsDraw s m x.source x.stream ask x.body →
    IsWalkedFor s m.issues m.given x.source x.stream ask (m.known_at_answer x.source x.stream) →
    IsWalkedFor s m.issues (x ∷ m.given) x.source x.stream ask (m.known_at_answer x.source x.stream)
given_walked s m x ask sets sound d inv v h a b = elim (inv v h a b) [
  | inl j ↦ inl j
  | inr j ↦ elim j [
    | inl c ↦ inr (inl c)
    | inr c ↦ elim c [
      | inl g ↦ inr (inr (inl (g.0, of_more x m.given x.source x.stream g.0 g.1, g.2)))
      | inr g ↦ elim (sound.complete v (sets.answer_known x.source x.stream v h) a) [
        | inr e ↦ inl e
        | inl held ↦ elim (cases (claims ask v)) [
          | inl t ↦ inr (inl t)
          | inr n ↦ elim (after_draw s m x.source x.stream ask x.body d v (record { held = inl held; unclaimed = n; told = inl b; ahead = g.0 }) g.1) [
            | inl e ↦ inr (inr (inl (x, record { is_given = inl refl; source_is = refl; stream_is = refl }, e)))
            | inr e ↦ inr (inr (inr (
              (λ y w of l. elim (of_split x m.given x.source x.stream y of) [ inl p ↦ e.0 w (ap (λ (z : Record). version_in z.body) p ∙ l) | inr old ↦ g.0 y w old l ]),
              (λ hh. elim (held_split x m.given x.source x.stream hh) [ inl y ↦ both_ways (is_held x.body) e.1 y.0 | inr old ↦ g.1 old ]),
            )))
          ]
        ]
      ]
    ]
  ]
]

-- the walk of another stream is as it was
pub other_walked : {M C : Type 0} (s : Setting M C) (m : Moment M C) (x : Record) (k t : ℕ) (ask : Ask) (learned : Versions) → ¬ ((x.source ≡ k) × (x.stream ≡ t)) →
    IsWalkedFor s m.issues m.given k t ask learned → IsWalkedFor s m.issues (x ∷ m.given) k t ask learned
other_walked s m x k t ask learned other inv v h a b = grind (arith, of_more, of_split, held_split)

pub same_or_other : (x : Record) (k t : ℕ) → ((x.source ≡ k) × (x.stream ≡ t)) ⊎ ¬ ((x.source ≡ k) × (x.stream ≡ t))
same_or_other x k t = grind (arith, cases, and_parts, eqb-true, both_ways, and_from, eq-eqb)

-- ---- a source gives x

pub giving_streams : {M C : Type 0} (s : Setting M C) (m : Moment M C) (source stream : ℕ) (x : Record) → IsNext s m source stream x → SetsHold m → IsSound s m.issues x.source (m.holding x.source) →
    StreamsHold s m → StreamsHold s (after_giving m x)
giving_streams s m source stream x rule sets sound inv = record {
  asks_known = inv.asks_known;
  claims_known = inv.claims_known;
  asked = λ k t y of. elim (of_split x m.given k t y of) [
    | inl p ↦ (
      rule.ask,
      subst (λ (z : ℕ). m.ask_of k z ≡ Some rule.ask) (ap (λ (z : Record). z.stream) p ∙ of.stream_is) (subst (λ (z : ℕ). m.ask_of z x.stream ≡ Some rule.ask) (ap (λ (z : Record). z.source) p ∙ of.source_is) rule.opened),
      sym (ap (λ (z : Record). z.target) p) ∙ rule.target,
    )
    | inr old ↦ inv.asked k t y old
  ];
  covers = λ y i h. elim i [
    | inl p ↦ subst (λ (z : Record). IsTrue (starts_full z.body) → Covers s z.source z.target) p
        (λ j. subst (λ (q : ℕ). Covers s x.source q) (sym rule.target) (drawn_start s m x.source x.stream rule.ask x.body rule.draw j)) h
    | inr j ↦ inv.covers y j h
  ];
  move_outs = λ y w i e. elim i [
    | inl p ↦ subst (λ (q : ℕ). IsFalse (selection s m.issues q w)) (sym rule.target ∙ ap (λ (z : Record). z.target) p) (drawn_move_out s m x.source x.stream rule.ask x.body rule.draw w (ap (λ (z : Record). z.body) p ∙ e))
    | inr j ↦ inv.move_outs y w j e
  ];
  one_index = λ k t y z ofy ofz e. elim (of_split x m.given k t y ofy) [
    | inl p ↦ elim (of_split x m.given k t z ofz) [
      | inl q ↦ sym p ∙ q
      | inr oldz ↦ (let lt : z.index < x.index = rule.index z (older k t y z ofy oldz p) in let same : x.index ≡ z.index = ap (λ (a : Record). a.index) p ∙ e in absurd (omega arith))
    ]
    | inr oldy ↦ elim (of_split x m.given k t z ofz) [
      | inl q ↦ (let lt : y.index < x.index = rule.index y (older k t z y ofz oldy q) in let same : x.index ≡ y.index = ap (λ (a : Record). a.index) q ∙ sym e in absurd (omega arith))
      | inr oldz ↦ inv.one_index k t y z oldy oldz e
    ]
  ];
  end_last = λ k t y z ofy ofz e. elim (of_split x m.given k t z ofz) [
    | inl q ↦ elim (of_split x m.given k t y ofy) [
      | inl p ↦ (let same : y.index ≡ z.index = ap (λ (a : Record). a.index) (sym p ∙ q) in omega arith)
      | inr oldy ↦ absurd (rule.open_still y (older k t z y ofz oldy q) e)
    ]
    | inr oldz ↦ elim (of_split x m.given k t y ofy) [
      | inl p ↦ (let lt : z.index < x.index = rule.index z (older k t y z ofy oldz p) in let same : x.index ≡ y.index = ap (λ (a : Record). a.index) p in omega arith)
      | inr oldy ↦ inv.end_last k t y z oldy oldz e
    ]
  ];
  end_held = λ k t y z ofy ofz e h. elim (of_split x m.given k t y ofy) [
    | inl p ↦ elim (of_split x m.given k t z ofz) [
      | inl q ↦ (let j : IsTrue (starts_full End) = subst (λ (b : Body). IsTrue (starts_full b)) (ap (λ (a : Record). a.body) p ∙ e) (subst (λ (a : Record). IsTrue (starts_full a.body)) (sym q) h) in absurd (cc))
      | inr oldz ↦ (let d : IsDraw s m x.source x.stream rule.ask End = subst (λ (b : Body). IsDraw s m x.source x.stream rule.ask b) (ap (λ (a : Record). a.body) p ∙ e) rule.draw in
          held_more x m.given k t (moved k t y ofy p (d.after_held (z, older k t y z ofy oldz p, h))))
    ]
    | inr oldy ↦ elim (of_split x m.given k t z ofz) [
      | inl q ↦ absurd (rule.open_still y (older k t z y ofz oldy q) e)
      | inr oldz ↦ held_more x m.given k t (inv.end_held k t y z oldy oldz e h)
    ]
  ];
  taken_given = λ r y i. let j = inv.taken_given r y i in (inr j.0, j.1);
  taken_known = inv.taken_known;
  walked = λ k t ask e. elim (same_or_other x k t) [
    | inr other ↦ other_walked s m x k t ask (m.known_at_answer k t) other (inv.walked k t ask e)
    | inl same ↦ subst (λ (q : ℕ). (ask : Ask) → m.ask_of q t ≡ Some ask → IsWalkedFor s m.issues (x ∷ m.given) q t ask (m.known_at_answer q t)) same.0
        (subst (λ (u : ℕ). (ask : Ask) → m.ask_of x.source u ≡ Some ask → IsWalkedFor s m.issues (x ∷ m.given) x.source u ask (m.known_at_answer x.source u)) same.1
        (λ a j. given_walked s m x a sets sound (subst (λ (z : Ask). IsDraw s m x.source x.stream z x.body) (the_ask a j) rule.draw) (inv.walked x.source x.stream a j))) ask e
  ];
  held_for = λ k t h. choice (λ (hd : ℕ → ℕ → Versions). IsHeldFor s m.issues k (m.known_at_answer k t) (hd k t)) first (at_two m.held_at_draw x.source x.stream (stored m x.source)) m.held_at_draw
      (λ is_first. two_elim (λ z y (a : Versions). HasHeld (x ∷ m.given) z y → IsHeldFor s m.issues z (m.known_at_answer z y) a) m.held_at_draw x.source x.stream (stored m x.source) k t
      (λ hh. record {
        unheld = λ v j a. sound.complete v (sets.answer_known x.source x.stream v j) a;
        heads = λ v w j l. sound.heads v w j (sets.answer_known x.source x.stream w l);
      })
      (λ other hh. elim (held_split x m.given k t hh) [ inl new ↦ absurd (other (sym new.1.0, sym new.1.1)) | inr old ↦ inv.held_for k t old ]) h)
      (λ not_yet. elim (held_split x m.given k t h) [
        | inr old ↦ inv.held_for k t old
        | inl new ↦ inv.held_for k t (earlier not_yet k t new)
      ]);
}
  where
    first : Bool
    first = is_first_held m.given x

    older : (k t : ℕ) (y z : Record) → IsOf (x ∷ m.given) k t y → IsOf m.given k t z → x ≡ y → IsOf m.given x.source x.stream z
    older k t y z ofy ofz p = record { is_given = ofz.is_given; source_is = ofz.source_is ∙ (sym ofy.source_is ∙ sym (ap (λ (a : Record). a.source) p)); stream_is = ofz.stream_is ∙ (sym ofy.stream_is ∙ sym (ap (λ (a : Record). a.stream) p)) }

    moved : (k t : ℕ) (y : Record) → IsOf (x ∷ m.given) k t y → x ≡ y → HasHeld m.given x.source x.stream → HasHeld m.given k t
    moved k t y ofy p h = subst (HasHeld m.given k) (ap (λ (a : Record). a.stream) p ∙ ofy.stream_is) (subst (λ (q : ℕ). HasHeld m.given q x.stream) (ap (λ (a : Record). a.source) p ∙ ofy.source_is) h)

    the_ask : (a : Ask) → m.ask_of x.source x.stream ≡ Some a → rule.ask ≡ a
    the_ask a j = let e : Some rule.ask ≡ Some a = sym rule.opened ∙ j in cc

    earlier : IsFalse first → (k t : ℕ) → (IsTrue (is_held x.body) × ((x.source ≡ k) × (x.stream ≡ t))) → HasHeld m.given k t
    earlier not_yet k t new = elim (cases (list_any (λ y. same_stream y x && is_held y.body) m.given)) [
      | inl some ↦ (let r = any_elim (λ y. same_stream y x && is_held y.body) m.given some in
          let both = and_parts (same_stream r.0 x) (is_held r.0.body) r.2 in
          let same = and_parts (r.0.source == x.source) (r.0.stream == x.stream) both.0 in
          (r.0, record { is_given = r.1; source_is = eqb-true r.0.source x.source same.0 ∙ new.1.0; stream_is = eqb-true r.0.stream x.stream same.1 ∙ new.1.1 }, both.1))
      | inr none ↦ absurd (both_ways first not_yet (and_from (is_held x.body) (not (list_any (λ y. same_stream y x && is_held y.body) m.given)) new.0 (rw none refl)))
    ]

pub giving_sets : {M C : Type 0} (s : Setting M C) (m : Moment M C) (source stream : ℕ) (x : Record) → IsNext s m source stream x → SetsHold m → SetsHold (after_giving m x)
giving_sets s m source stream x rule inv =
    let held = λ (w : Name) (e : version_in x.body ≡ Some w). held_known m.issues (m.holding x.source) w (inv.each x.source) (drawn_held s m x.source x.stream rule.ask x.body rule.draw w e) in grind (arith, held, inv.given_known)
