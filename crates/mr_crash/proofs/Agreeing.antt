-- A moment, and the moment without the lost steps: how they agree, from change to change.
use Rattle.std.proofs.Common.{◌≡◌, ◌≢◌, refl, sym, subst, ◌∙◌, ℕ, ◌==◌, List, ◌++◌, ◌⊎◌, inl, inr, eqb-true, eq-eqb, Some, arith}
use Rattle.std.proofs.lemmas.Bool.{both_ways}
use Rattle.mr_model.specs.Versions.{Issue}
use Rattle.mr_model.specs.History.{Setting, Ask, Body.End, Record}
use Rattle.mr_model.specs.Moment.{Moment}
use Rattle.mr_model.specs.Changes.{Change, Change.Issues, happens}
use Rattle.mr_model.specs.Rules.{In, IsAllowed}
use Rattle.mr_model.proofs.Basics.{cases}
use Rattle.mr_model.proofs.EarlierMoments.{change_opened}
use Rattle.mr_crash.specs.Frames.{Frame.RecordFrame}
use Rattle.mr_crash.specs.Crash.{Replica, replica}
use Rattle.mr_crash.proofs.LostIssues.{Lost, Lost.none, Lost.gone, Lost.stays}
use Rattle.mr_crash.proofs.Changes.{IsBy, replica_other, pools_grow, pools_new, given_new, new_issues, issues_after, change_ended}

-- z has gone on from z': streams of z' teach as they taught, and those that have ended showed what they showed
pub record IsOnFrom {C : Type 0} (given : List Record) (r : ℕ) (z z' : Replica C) : Type 0 where
  pub opened : (t : ℕ) (ask : Ask) → z'.ask_of t ≡ Some ask → (z.ask_of t ≡ Some ask) × (z.known_at_answer t ≡ z'.known_at_answer t)
  pub ended : (x : Record) → In x given → x.source ≡ r → x.body ≡ End → z.held_at_draw x.stream ≡ z'.held_at_draw x.stream

-- m' is m without what r did since b
pub record Agrees {M C : Type 0} (r : ℕ) (b m m' : Moment M C) : Type 0 where
  pub others : (q : ℕ) → q ≢ r → replica m q ≡ replica m' q
  pub itself : replica b r ≡ replica m' r
  pub lost : Lost r b.issues m.issues m'.issues
  pub there : (x : Record) → In x m'.given → In x m.given
  pub back : (x : Record) → In x m.given → x.source ≢ r → In x m'.given
  pub on_from : IsOnFrom m'.given r (replica m r) (replica m' r)

pub agrees_first : {M C : Type 0} (r : ℕ) (b : Moment M C) → Agrees r b b b
agrees_first r b = record {
  others = λ q n. refl;
  itself = refl;
  lost = none;
  there = λ x i. i;
  back = λ x i n. i;
  on_from = record { opened = λ t ask e. (e, refl); ended = λ x i own e. refl };
}

-- ---- a step of r is lost

pub issues_gone : {M C : Type 0} (s : Setting M C) (m : Moment M C) (r : ℕ) (e left : List (Issue M)) (c : Change M C) → IsBy r c → IsAllowed s m c → Lost r e m.issues left → Lost r e (new_issues c ++ m.issues) left
issues_gone s m r e left (Issues q x) by rule l = gone (rule.author ∙ by) l
issues_gone s m r e left _ by rule l = l

pub agrees_lost : {M C : Type 0} (s : Setting M C) (r : ℕ) (b m m' : Moment M C) (c : Change M C) → Agrees r b m m' → IsBy r c → IsAllowed s m c → Agrees r b (happens s m c) m'
agrees_lost {M} s r b m m' c a by rule = record {
  others = λ q n. replica_other s m c r q rule by n ∙ a.others q n;
  itself = a.itself;
  lost = rw issues_after (issues_gone s m r b.issues m'.issues c by rule a.lost);
  there = λ x i. pools_grow s m c (RecordFrame x) (a.there x i);
  back = λ x i n. grind (arith, given_new s m c r rule by x i, a.back x);
  on_from = record {
    opened = λ t ask e. grind (arith, a.on_from.opened t ask e, change_opened s m r t ask);
    ended = λ x i own e. grind (arith, change_ended s m c rule x (a.there x i) e, a.on_from.ended x i own e);
  };
}

-- ---- a step of another replica is left

pub issues_stay : {M C : Type 0} (s : Setting M C) (m : Moment M C) (r k : ℕ) (e left : List (Issue M)) (c : Change M C) → IsBy k c → k ≢ r → IsAllowed s m c → Lost r e m.issues left →
    Lost r e (new_issues c ++ m.issues) (new_issues c ++ left)
issues_stay s m r k e left (Issues q x) by other rule l = stays (λ own. other (sym (rule.author ∙ by) ∙ own)) l
issues_stay s m r k e left _ by other rule l = l

pub same_or_other : (q k : ℕ) → (q ≡ k) ⊎ (q ≢ k)
same_or_other q k = grind (arith, cases (q == k), eqb-true, eq-eqb)

pub agrees_left : {M C : Type 0} (s : Setting M C) (r k : ℕ) (b m m' : Moment M C) (c : Change M C) → Agrees r b m m' → IsBy k c → k ≢ r → IsAllowed s m c → IsAllowed s m' c →
    replica (happens s m c) k ≡ replica (happens s m' c) k → Agrees r b (happens s m c) (happens s m' c)
agrees_left {M} {C} s r k b m m' c a by other rule rule' same = record {
  others = λ q n. elim (same_or_other q k) [
    | inl e ↦ subst (λ (z : ℕ). replica (happens s m c) z ≡ replica (happens s m' c) z) (sym e) same
    | inr o ↦ replica_other s m c k q rule by o ∙ (a.others q n ∙ sym (replica_other s m' c k q rule' by o))
  ];
  itself = a.itself ∙ sym its';
  lost = subst (λ (is : List (Issue M)). Lost r b.issues is (happens s m' c).issues) (sym (issues_after s m c))
      (subst (λ (is : List (Issue M)). Lost r b.issues (new_issues c ++ m.issues) is) (sym (issues_after s m' c)) (issues_stay s m r k b.issues m'.issues c by other rule a.lost));
  there = λ x i. elim (given_new s m' c k rule' by x i) [ inl j ↦ pools_grow s m c (RecordFrame x) (a.there x j) | inr p ↦ pools_new s m c (RecordFrame x) p.1 ];
  back = λ x i n. elim (given_new s m c k rule by x i) [ inl j ↦ pools_grow s m' c (RecordFrame x) (a.back x j n) | inr p ↦ pools_new s m' c (RecordFrame x) p.1 ];
  on_from = subst (λ (z : Replica C). IsOnFrom (happens s m' c).given r z (replica (happens s m' c) r)) (sym its)
      (subst (λ (z : Replica C). IsOnFrom (happens s m' c).given r (replica m r) z) (sym its') before);
}
  where
    its : replica (happens s m c) r ≡ replica m r
    its = replica_other s m c k r rule by (λ e. other (sym e))

    its' : replica (happens s m' c) r ≡ replica m' r
    its' = replica_other s m' c k r rule' by (λ e. other (sym e))

    before : IsOnFrom (happens s m' c).given r (replica m r) (replica m' r)
    before = record {
      opened = a.on_from.opened;
      ended = λ x i own e. elim (given_new s m' c k rule' by x i) [ inl j ↦ a.on_from.ended x j own e | inr p ↦ absurd (other (sym p.0 ∙ own)) ];
    }
