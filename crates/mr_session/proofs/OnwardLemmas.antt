-- how a table goes on once a stream gave what it had prepared
use Rattle.std.proofs.Common.{◌≡◌, ◌≤◌, ℕ, Bool, if◌then◌else◌, List, [], ◌∷◌, Option, Some, None, Result, Ok, Err, IfOk, refl, sym, ap, ◌∙◌, arith}
use Rattle.mr_session.proofs.Names.{Gives, GivesIn, Holdings, IsTable, Numbered, Prepared, RisesFrom, Stream, Table, advanced, after_given, at, eqb_tells}
use Rattle.mr_session.proofs.Names.{gone_on, is_end, is_last, open_at, with_changed, with_closed}
use Rattle.mr_session.specs.declared.outgoing.onward.Onward.{Onward}
use Rattle.mr_session.specs.declared.outgoing.onward.Onward.TheVariants as onward

module _ {T : Type 0} where
  -- nothing is under 0
  at_zero : (low : ℕ) (xs : List (Numbered T)) → RisesFrom low xs → at xs 0 ≡ None
  at_zero low [] rises = refl
  at_zero low (x ∷ xs) rises = grind (arith, at_zero x.number xs rises.1, eqb_tells)

  -- an open number is at least 1
  pub number_from : (n : ℕ) (table : Table T) (v : T) → IsTable table → open_at table n ≡ Some v → 1 ≤ n
  number_from n table v kept found = grind (arith, at_zero)

-- a record that was prepared is drawn, and leaves the table that has gone on
pub prepared_in : {E : Type 0} (source number : ℕ) (table : Table Stream) (h : Holdings) (prepared : Result Prepared E) (s : Stream) → open_at table number ≡ Some s → IfOk prepared (λ p. Gives source number s h p.record (after_given p.onward s))
    → IfOk prepared (λ p. is_end p.record.body ≡ is_last p.onward) → IfOk prepared (λ p. GivesIn source number table h p.record (advanced number p.onward table))
prepared_in source number table h (Ok p) s found gives last =
    let is : advanced number p.onward table ≡ (if is_end p.record.body then with_closed table number else with_changed number (λ _. after_given p.onward s) table) =
    ap (λ (o : Option Stream). gone_on o number p.onward table) found ∙ ap (λ (b : Bool). if b then with_closed table number else with_changed number (λ _. after_given p.onward s) table) (sym last) in
    (s, after_given p.onward s, found, gives, is)
prepared_in source number table h (Err e) s found gives last = tt

-- a stream that is not closed has gone on in its table
pub gone_open : (number : ℕ) (way : Onward) (table new : Table Stream) (before after : Stream) → (way ≡ onward.Closed → ⊥) → open_at table number ≡ Some before → after ≡ after_given way before → new ≡ with_changed number (λ _. after) table → new ≡ advanced number way table
gone_open number way table new before after open_still found went is =
    is ∙ ap (λ (s : Stream). with_changed number (λ _. s) table) went ∙ sym (ap (λ (o : Option Stream). gone_on o number way table) found ∙ by_way way open_still)
  where
    by_way : (w : Onward) → (w ≡ onward.Closed → ⊥) → (if is_last w then with_closed table number else with_changed number (λ _. after_given way before) table) ≡ with_changed number (λ _. after_given way before) table
    by_way onward.Closed still = absurd (still refl)
    by_way w still = refl
