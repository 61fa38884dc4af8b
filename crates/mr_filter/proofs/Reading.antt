-- how far the reading of a text has come
use Rattle.std.proofs.Common.{◌≡◌, ℕ, length, ◌<◌, ◌≤◌, Bool, true, ◌||◌, ◌++◌, List, [], ◌∷◌, sym, ◌∙◌, ap, subst, inl, inr, codes, arith, append_assoc}
use Rattle.mr_filter.proofs.Names.{All, All-push, AllByRecursion, AllZip, AreLabelsOf, ClauseParts, Combines, Condition, IsClause, IsClauseInGrammar}
use Rattle.mr_filter.proofs.Names.{IsCondition, IsFilter, IsUtf8, IsWithCondition, MAX_CLAUSE_LABELS, NamesTooMany, ReadsClause}
use Rattle.std.specs.List.Sorted.{IsStrictlySortedBy}
use Rattle.mr_filter.proofs.Names.{SpellsCondition, barred_label, barred_labels, bit_off, bit_on, bit_or, clauses_of, different_labels, false≢true}
use Rattle.mr_filter.proofs.Names.{filter_map-append, label_count, label_count_with, list_any, list_any-append, or_zero_r, pieces_of, text_eq, wanted_label}
use Rattle.mr_filter.proofs.Names.{wanted_labels}
use Rattle.mr_filter.specs.inner.Draft.{no_condition}
use Rattle.mr_filter.proofs.CombineLemmas.{all_bits-append, latest_day-append}
use Rattle.mr_filter.proofs.CountLemmas.{different_labels-le}
use Rattle.mr_filter.proofs.ZipLemmas.{AllZip-append, length_zip}

-- labels so far, with those of one more condition
AreLabelsOf-more : (given labels added new : List (List ℕ)) → AreLabelsOf given labels → AreLabelsOf (labels ++ added) new → AreLabelsOf (given ++ added) new
AreLabelsOf-more given labels added new so_far more = record {
  rising = more.rising;
  same = λ label.
      more.same label
      ∙ list_any-append (text_eq label) labels added
      ∙ ap (λ has. has || list_any (text_eq label) added) (so_far.same label)
      ∙ sym (list_any-append (text_eq label) given added);
}

pub Combines-more : (given : List Condition) (old new : ClauseParts) (c : Condition) → Combines given old → IsWithCondition old c new → Combines (given ++ c ∷ []) new
Combines-more given old new c so_far more = record {
  wanted = rw (filter_map-append wanted_label given (c ∷ [])) (AreLabelsOf-more (wanted_labels given) old.all_labels (wanted_labels (c ∷ [])) new.all_labels so_far.wanted more.wanted);
  barred = rw (filter_map-append barred_label given (c ∷ [])) (AreLabelsOf-more (barred_labels given) old.no_labels (barred_labels (c ∷ [])) new.no_labels so_far.barred more.barred);
  on = more.on ∙ (λ i. bit_or (so_far.on i) (sym (or_zero_r (bit_on c)) i)) ∙ sym (all_bits-append bit_on given (c ∷ []));
  off = more.off ∙ (λ i. bit_or (so_far.off i) (sym (or_zero_r (bit_off c)) i)) ∙ sym (all_bits-append bit_off given (c ∷ []));
  since = let both = latest_day-append given (c ∷ []) in let was = so_far.since in let now = more.since in omega (arith, both, was, now);
}

-- no condition asks nothing
pub Combines-none : Combines [] no_condition
unfolding IsStrictlySortedBy
Combines-none = grind arith

-- the pieces before the rest are conditions, which the draft asks together
pub record HasReadConditions (text rest : List ℕ) (draft : ClauseParts) : Type 0 where
  pub before : List (List ℕ)
  pub given : List Condition
  pub pieces : pieces_of text ≡ before ++ pieces_of rest
  pub spelled : AllZip SpellsCondition before given
  pub combined : Combines given draft
  pub utf8 : IsUtf8 rest

-- the clauses before the rest are these
pub record HasReadClauses (text rest : List ℕ) (clauses : List ClauseParts) : Type 0 where
  pub before : List (List ℕ)
  pub pieces : clauses_of text ≡ before ++ clauses_of rest
  pub read : AllZip ReadsClause before clauses
  pub kept : All IsClause clauses
  pub utf8 : IsUtf8 rest

-- one that stands in a list of which each is so
pub at_place : (P : List ℕ → Type 0) (before : List (List ℕ)) (x : List ℕ) (after : List (List ℕ)) → AllByRecursion P (before ++ x ∷ after) → P x
at_place P [] x after each = each.0
at_place P (y ∷ before) x after each = at_place P before x after each.1

-- one more clause
pub HasReadClauses-more : (text rest next piece : List ℕ) (clauses new : List ClauseParts) (clause : ClauseParts) → HasReadClauses text rest clauses → clauses_of rest ≡ piece ∷ clauses_of next → ReadsClause piece clause → IsClause clause → IsUtf8 next → new ≡ clauses ++ clause ∷ [] → HasReadClauses text next new
HasReadClauses-more text rest next piece clauses new clause so_far cut read kept utf8 added = record {
  before = so_far.before ++ piece ∷ [];
  pieces = so_far.pieces ∙ ap (λ ps. so_far.before ++ ps) cut ∙ sym (append_assoc so_far.before (piece ∷ []) (clauses_of next));
  read = rw added (AllZip-append ReadsClause so_far.before (piece ∷ []) clauses (clause ∷ []) so_far.read (read, tt));
  kept = rw added (All-push IsClause clauses clause so_far.kept kept);
  utf8 = utf8;
}

-- the last clause
pub HasReadClauses-all : (text rest piece : List ℕ) (clauses new : List ClauseParts) (clause : ClauseParts) → HasReadClauses text rest clauses → clauses_of rest ≡ piece ∷ [] → ReadsClause piece clause → new ≡ clauses ++ clause ∷ [] → AllZip ReadsClause (clauses_of text) new
HasReadClauses-all text rest piece clauses new clause so_far cut read added = grind (arith, AllZip-append)

-- one more condition
pub HasReadConditions-more : (text rest next piece : List ℕ) (draft new : ClauseParts) (condition : Condition) → HasReadConditions text rest draft → pieces_of rest ≡ piece ∷ pieces_of next → SpellsCondition piece condition → IsUtf8 next → IsWithCondition draft condition new → HasReadConditions text next new
HasReadConditions-more text rest next piece draft new condition so_far cut spelled utf8 added = record {
  before = so_far.before ++ piece ∷ [];
  given = so_far.given ++ condition ∷ [];
  pieces = so_far.pieces ∙ ap (λ ps. so_far.before ++ ps) cut ∙ sym (append_assoc so_far.before (piece ∷ []) (pieces_of next));
  spelled = AllZip-append SpellsCondition so_far.before (piece ∷ []) so_far.given (condition ∷ []) so_far.spelled (spelled, tt);
  combined = Combines-more so_far.given draft new condition so_far.combined added;
  utf8 = utf8;
}

-- the last condition
pub HasReadConditions-all : (text rest piece : List ℕ) (draft new : ClauseParts) (condition : Condition) → HasReadConditions text rest draft → pieces_of rest ≡ piece ∷ [] → SpellsCondition piece condition → IsWithCondition draft condition new → ReadsClause text new
HasReadConditions-all text rest piece draft new condition so_far cut spelled added = record {
  given = so_far.given ++ condition ∷ [];
  spelled = inr (rw (so_far.pieces ∙ ap (λ ps. so_far.before ++ ps) cut) (AllZip-append SpellsCondition so_far.before (piece ∷ []) so_far.given (condition ∷ []) so_far.spelled (spelled, tt)));
  combined = Combines-more so_far.given draft new condition so_far.combined added;
}

-- what is among the first labels is among all of them
or_more : (a b c : Bool) → (a || b) ≡ true → (a || (b || c)) ≡ true
or_more a b c some = grind (arith, false≢true)

different_labels-more : (given labels added later : List (List ℕ)) → AreLabelsOf given labels → different_labels (labels ++ added) ≤ different_labels (given ++ (added ++ later))
different_labels-more given labels added later so_far = grind (arith, different_labels-le, list_any-append, or_more)

label_count-more : (given later : List Condition) (draft : ClauseParts) (c : Condition) → Combines given draft → label_count_with draft c ≤ label_count (given ++ c ∷ later)
label_count-more given later draft c so_far =
    let wanted : different_labels (draft.all_labels ++ wanted_labels (c ∷ [])) ≤ different_labels (wanted_labels (given ++ c ∷ later)) =
    rw (filter_map-append wanted_label given (c ∷ later), filter_map-append wanted_label (c ∷ []) later) (different_labels-more (wanted_labels given) draft.all_labels (wanted_labels (c ∷ [])) (wanted_labels later) so_far.wanted) in
    let barred : different_labels (draft.no_labels ++ barred_labels (c ∷ [])) ≤ different_labels (barred_labels (given ++ c ∷ later)) =
    rw (filter_map-append barred_label given (c ∷ later), filter_map-append barred_label (c ∷ []) later) (different_labels-more (barred_labels given) draft.no_labels (barred_labels (c ∷ [])) (barred_labels later) so_far.barred) in
    omega (arith, wanted, barred)

-- the conditions of pieces of which each is one
conditions_spelled : (pieces : List (List ℕ)) → AllByRecursion IsCondition pieces → (given : List Condition) × AllZip SpellsCondition pieces given
conditions_spelled [] each = ([], tt)
conditions_spelled (p ∷ pieces) each =
    let rest = conditions_spelled pieces each.1 in (each.0.0 ∷ rest.0, (each.0.1, rest.1))

behind_place : (P : List ℕ → Type 0) (before : List (List ℕ)) (x : List ℕ) (after : List (List ℕ)) → AllByRecursion P (before ++ x ∷ after) → AllByRecursion P after
behind_place P [] x after each = each.1
behind_place P (y ∷ before) x after each = behind_place P before x after each.1

-- a clause names too many labels if the conditions so far do with the next one, whatever follows
pub NamesTooMany-so_far : (text rest piece : List ℕ) (after : List (List ℕ)) (draft : ClauseParts) (condition : Condition) → IsClauseInGrammar text → (text ≡ codes "all" → ⊥) → HasReadConditions text rest draft → pieces_of rest ≡ piece ∷ after → SpellsCondition piece condition → MAX_CLAUSE_LABELS < label_count_with draft condition → NamesTooMany text
NamesTooMany-so_far text rest piece after draft condition fine other so_far cut spelled many =
    let pieces : pieces_of text ≡ so_far.before ++ piece ∷ after = so_far.pieces ∙ ap (λ ps. so_far.before ++ ps) cut in
    let each : AllByRecursion IsCondition (pieces_of text) = elim fine [ inl all ↦ absurd (other all) | inr each ↦ each ] in
    let later = conditions_spelled after (behind_place IsCondition so_far.before piece after (rw (← pieces) each)) in
    let most = label_count-more so_far.given later.0 draft condition so_far.combined in
    record {
      given = so_far.given ++ condition ∷ later.0;
      spelled = inr (subst (λ ps. AllZip SpellsCondition ps (so_far.given ++ condition ∷ later.0)) (sym pieces) (AllZip-append SpellsCondition so_far.before (piece ∷ after) so_far.given (condition ∷ later.0) so_far.spelled (spelled, later.1)));
      many = omega (arith, most, many);
    }

-- each piece of a clause that isn't `all` is a condition
pub piece_in_grammar : (text : List ℕ) (before after : List (List ℕ)) (piece : List ℕ) → IsClauseInGrammar text → (text ≡ codes "all" → ⊥) → pieces_of text ≡ before ++ piece ∷ after → IsCondition piece
piece_in_grammar text before after piece fine other pieces =
    elim fine [
      | inl all ↦ absurd (other all)
      | inr each ↦ at_place IsCondition before piece after (rw (← pieces) each)
    ]

-- the clauses of a text with at most sixteen are a filter
pub IsFilter-read : (text : List ℕ) (clauses : List ClauseParts) → AllZip ReadsClause (clauses_of text) clauses → All IsClause clauses → length (clauses_of text) ≤ 16 → IsFilter clauses
IsFilter-read text clauses read kept few = grind (arith, length_zip)
