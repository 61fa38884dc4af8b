-- What another replica sees at a moment, and at the moment without the lost steps: the same.
use Rattle.std.proofs.Common.{◌≡◌, ◌≢◌, sym, subst, ◌∙◌, ℕ, if◌then◌else◌, ◌⊎◌, inl, inr, IsTrue, arith}
use Rattle.mr_version.specs.Name.{Name}
use Rattle.mr_model.specs.Versions.{item_of}
use Rattle.mr_model.specs.History.{Setting, Ask, claims, Body, Body.Start, Body.Item, Body.MoveOut, Body.Held, Body.Know, Body.End, Record}
use Rattle.mr_model.specs.Moment.{Moment, Knows, Holds, selection, is_start, is_held, starts_full}
use Rattle.mr_model.specs.Changes.{Reception.AsTaken, Reception.AsKnown, Reception.AsFinished}
use Rattle.mr_model.specs.Rules.{IsOf, IsDue, NoneDue, IsWalked, IsDraw, reception_of}
use Rattle.mr_model.proofs.Sets.{held_known}
use Rattle.mr_model.proofs.Core.{Inv}
use Rattle.mr_crash.specs.Crash.{Replica, replica}
use Rattle.mr_crash.proofs.LostIssues.{IsLeft, is_left, item_same, selection_same}
use Rattle.mr_crash.proofs.Agreeing.{Agrees}

-- k sees at m what it sees at m': its own sets, its streams, and what is said of the versions that it knows
pub record Sees {M C : Type 0} (s : Setting M C) (m m' : Moment M C) (k : ℕ) : Type 0 where
  pub own : replica m k ≡ replica m' k
  pub there : (t : ℕ) (x : Record) → IsOf m.given k t x → IsOf m'.given k t x
  pub back : (t : ℕ) (x : Record) → IsOf m'.given k t x → IsOf m.given k t x
  pub held : (v : Name) → Holds m k v → Knows m k v
  pub selected : (q : ℕ) (v : Name) → Knows m k v → selection s m.issues q v ≡ selection s m'.issues q v
  pub item : (v : Name) → Knows m k v → item_of m.issues v ≡ item_of m'.issues v

-- what another replica knows was not lost
pub known_left : {M C : Type 0} (s : Setting M C) (r k : ℕ) (b m m' : Moment M C) → Agrees r b m m' → Inv s m' → k ≢ r → (v : Name) → Knows m k v → IsLeft r b.issues v
known_left {M} {C} s r k b m m' a inv' other v h = is_left r b.issues a.lost v ((inv'.core.sets.each k).issued v (subst (λ (z : Replica C). IsTrue (z.holding.known v)) (a.others k other) h))

pub sees : {M C : Type 0} (s : Setting M C) (r k : ℕ) (b m m' : Moment M C) → Agrees r b m m' → Inv s m → Inv s m' → k ≢ r → Sees s m m' k
sees s r k b m m' a inv inv' other = record {
  own = a.others k other;
  there = λ t x o. record { is_given = a.back x o.is_given (λ e. other (sym o.source_is ∙ e)); source_is = o.source_is; stream_is = o.stream_is };
  back = λ t x o. record { is_given = a.there x o.is_given; source_is = o.source_is; stream_is = o.stream_is };
  held = λ v h. held_known m.issues (m.holding k) v (inv.core.sets.each k) h;
  selected = λ q v h. selection_same r b.issues s a.lost inv.core.sets.list q v (known_left s r k b m m' a inv' other v h);
  item = λ v h. item_same r b.issues a.lost inv.core.sets.list v (known_left s r k b m m' a inv' other v h);
}

pub turned : {M C : Type 0} (s : Setting M C) (m m' : Moment M C) (k : ℕ) → Sees s m m' k → Sees s m' m k
turned {M} {C} s m m' k w = grind (arith, w.own, w.back, w.there, w.held, w.selected, w.item)

-- ---- what its streams may give

module _ {M C : Type 0} (s : Setting M C) (m m' : Moment M C) (k : ℕ) (w : Sees s m m' k) (t : ℕ) where
  given_there : (P : Record → Type 0) → (x : Record) × IsOf m.given k t x × P x → (x : Record) × IsOf m'.given k t x × P x
  given_there P h = (h.0, w.there t h.0 h.1, h.2)

  given_back : (P : Record → Type 0) → (x : Record) × IsOf m'.given k t x × P x → (x : Record) × IsOf m.given k t x × P x
  given_back P h = (h.0, w.back t h.0 h.1, h.2)

  pub due_there : (ask : Ask) (v : Name) → IsDue s m k t ask v → IsDue s m' k t ask v
  due_there ask v d = record {
    held = subst (λ (z : Replica C). IsTrue (z.holding.stored v) ⊎ IsTrue (z.holding.pushed_out v)) w.own d.held;
    unclaimed = d.unclaimed;
    told = elim d.told [
      | inl a ↦ inl (subst IsTrue (w.selected ask.target v knows) a)
      | inr e ↦ inr (record { edit = subst (λ (i : Name). i ≢ v) (w.item v knows) e.edit; creator = subst (λ (i : Name). IsTrue (claims ask i)) (w.item v knows) e.creator })
    ];
    ahead = λ x u o e. d.ahead x u (w.back t x o) e;
  }
    where
      knows : Knows m k v
      knows = w.held v d.held

-- the same draws are allowed
module _ {M C : Type 0} (s : Setting M C) (m m' : Moment M C) (k : ℕ) (w : Sees s m m' k) (t : ℕ) where
  none_there : (ask : Ask) → NoneDue s m k t ask → NoneDue s m' k t ask
  none_there ask n v d = n v (due_there s m' m k (turned s m m' k w) t ask v d)

  walked_there : (ask : Ask) (v : Name) → IsWalked s m k t ask v → IsWalked s m' k t ask v
  walked_there ask v d = record {
    begun = given_there s m m' k w t (λ x. IsTrue (is_start x.body)) d.begun;
    walking = λ h. d.walking (given_back s m m' k w t (λ x. IsTrue (is_held x.body)) h);
    due = due_there s m m' k w t ask v d.due;
    none_skipped = λ u h. d.none_skipped u (due_there s m' m k (turned s m m' k w) t ask u h);
  }

  pub draw_there : (ask : Ask) (body : Body) → IsDraw s m k t ask body → IsDraw s m' k t ask body
  draw_there ask (Start full) d = record { first = λ x o. d.first x (w.back t x o); covers = d.covers }
  draw_there ask (Item v) d = (walked_there ask v d.0, subst IsTrue (w.selected ask.target v (w.held v d.0.due.held)) d.1)
  draw_there ask (MoveOut v) d = (walked_there ask v d.0, λ h. d.1 (subst IsTrue (sym (w.selected ask.target v (w.held v d.0.due.held))) h))
  draw_there ask Held d = record {
    full = given_there s m m' k w t (λ x. IsTrue (starts_full x.body)) d.full;
    walked = elim d.walked [ inl n ↦ inl (none_there ask n) | inr h ↦ inr (given_there s m m' k w t (λ x. IsTrue (is_held x.body)) h) ];
  }
  draw_there ask Know d = given_there s m m' k w t (λ x. IsTrue (is_held x.body)) d
  draw_there ask End d = record {
    begun = given_there s m m' k w t (λ x. IsTrue (is_start x.body)) d.begun;
    after_held = λ h. given_there s m m' k w t (λ x. IsTrue (is_held x.body)) (d.after_held (given_back s m m' k w t (λ x. IsTrue (starts_full x.body)) h));
    after_walk = λ n. none_there ask (d.after_walk (λ h. n (given_there s m m' k w t (λ x. IsTrue (starts_full x.body)) h)));
  }

-- it answers a record alike
pub reception_same : {M C : Type 0} (m m' : Moment M C) (k : ℕ) (body : Body) → replica m k ≡ replica m' k → reception_of m k body ≡ reception_of m' k body
reception_same m m' k (Item v) e = λ i. if (e i).holding.known v then AsKnown else AsTaken
reception_same m m' k (MoveOut v) e = λ i. if (e i).holding.known v then AsKnown else AsTaken
reception_same m m' k End e = λ i. AsFinished
reception_same m m' k _ e = λ i. AsTaken
