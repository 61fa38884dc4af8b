-- a text means one filter, and one that means a filter has no fault
use Rattle.std.proofs.Common.{◌≡◌, ℕ, ◌+◌, ◌/◌, ◌%◌, true, false, Result, eqb, List, [], ◌∷◌, ◌++◌, refl, sym, ◌∙◌, ap, subst, inl, inr, arith, codes}
use Rattle.mr_filter.proofs.Names.{AllByRecursion, AllZip, AreLabelsOf, BadFilter, ClauseParts, Combines, Condition, Flag, HasFlag, HasLabel}
use Rattle.mr_filter.proofs.Names.{HasTooManyClauses, HasTooManyLabels, IfErr, IfOk, IsClause, IsFilter, IsFirstBad, IsValueOf, LacksColon, LacksFlag}
use Rattle.mr_filter.proofs.Names.{LacksLabel, NamesTooMany, OutOfMemory, Reads, ReadsClause, Since, Spells, SpellsCondition, SpellsConditions}
use Rattle.mr_filter.proofs.Names.{TooManyClauses, TooManyLabels, bytes_eq-Decides, clauses_of, date_digits, eq_by_cmp, false≢true, flag_name, is_err}
use Rattle.mr_filter.proofs.Names.{kind_of, length-AreLabelsOf, list_any, nat_list_cmp_total, pieces_of, text_cmp, text_eq, texts_ties}
use Rattle.std.specs.BTreeSet.{BTreeSet}
use Rattle.std.proofs.lemmas.Map.Lookups.{btree_set_from_contains, exact_bytes}
use Rattle.mr_mail.specs.declared.flags.Flag.TheVariants.{Seen, Answered, Flagged, Draft, Deleted}
use Rattle.mr_filter.specs.declared.fault.FilterFault.{FilterFault}
use Rattle.mr_filter.specs.Fault.{IsFaultOf}
use Rattle.mr_filter.proofs.Reading.{at_place}
use Rattle.mr_filter.proofs.ZipLemmas.{length_zip, zip_unique, zip_at, zip_kept}

-- texts that a test tells apart are not the same
apart : (xs ys : List ℕ) → text_eq xs ys ≡ false → xs ≡ ys → ⊥
apart xs ys told same = false≢true (sym told ∙ (bytes_eq-Decides xs ys).1 same)

-- what stands before the first colon and what stands behind it
colon_parts : (k l v w : List ℕ) → LacksColon k → LacksColon l → k ++ 58 ∷ v ≡ l ++ 58 ∷ w → (k ≡ l) × (v ≡ w)
colon_parts [] [] v w none other same = (refl, cc)
colon_parts [] (b ∷ l) v w none other same = let h : 58 ≡ b = cc in absurd (false≢true (sym other.0 ∙ ap (λ n. eqb n 58) (sym h)))
colon_parts (a ∷ k) [] v w none other same = let h : a ≡ 58 = cc in absurd (false≢true (sym none.0 ∙ ap (λ n. eqb n 58) h))
colon_parts (a ∷ k) (b ∷ l) v w none other same = grind (arith, colon_parts k l v w none.1 other.1)

kind_lacks : (c : Condition) → LacksColon (kind_of c)
kind_lacks c = grind arith

flag_name-injective : (f g : Flag) → flag_name f ≡ flag_name g → f ≡ g
flag_name-injective Seen Seen same = refl
flag_name-injective Answered Answered same = refl
flag_name-injective Flagged Flagged same = refl
flag_name-injective Draft Draft same = refl
flag_name-injective Deleted Deleted same = refl
flag_name-injective f g same = grind (arith, apart)

-- four digits are of one number below 10,000, and two of one below 100
two_digits-injective : (m n : ℕ) → 48 + m / 10 ≡ 48 + n / 10 → 48 + m % 10 ≡ 48 + n % 10 → m ≡ n
two_digits-injective m n tens units = omega arith

date_digits-injective : (a b c d e f : ℕ) → date_digits a b c ≡ date_digits d e f → (a ≡ d) × (b ≡ e) × (c ≡ f)
date_digits-injective a b c d e f same = grind (arith, two_digits-injective)

-- a text spells one day
Spells-unique : (text : List ℕ) (a b : ℕ) → Spells text a → Spells text b → a ≡ b
Spells-unique text a b x y = grind (arith, date_digits-injective)

-- a kind and a value are of one condition
value_unique : (c d : Condition) (value : List ℕ) → kind_of c ≡ kind_of d → IsValueOf c value → IsValueOf d value → c ≡ d
value_unique (HasLabel a) (HasLabel b) value kinds x y = ap HasLabel (sym x.1 ∙ y.1)
value_unique (LacksLabel a) (LacksLabel b) value kinds x y = ap LacksLabel (sym x.1 ∙ y.1)
value_unique (HasFlag f) (HasFlag g) value kinds x y = ap HasFlag (flag_name-injective f g (sym x ∙ y))
value_unique (LacksFlag f) (LacksFlag g) value kinds x y = ap LacksFlag (flag_name-injective f g (sym x ∙ y))
value_unique (Since a) (Since b) value kinds x y = ap Since (Spells-unique value a b x y)
value_unique c d value kinds x y = grind (arith, flag_name-injective, Spells-unique, apart)

SpellsCondition-unique : (text : List ℕ) (c d : Condition) → SpellsCondition text c → SpellsCondition text d → c ≡ d
SpellsCondition-unique text c d x y = grind (arith, colon_parts, kind_lacks, value_unique)

-- what has no colon is no condition
colon_stands : (k v : List ℕ) → LacksColon (k ++ 58 ∷ v) → ⊥
colon_stands [] v lacks = false≢true (sym lacks.0)
colon_stands (a ∷ k) v lacks = colon_stands k v lacks.1

no_condition : (text : List ℕ) → LacksColon text → (c : Condition) → SpellsCondition text c → ⊥
no_condition text lacks c spelled = colon_stands (kind_of c) spelled.0 (subst LacksColon spelled.2 lacks)

all_is_none : (given : List Condition) → AllZip SpellsCondition (pieces_of (codes "all")) given → ⊥
all_is_none given each = grind (arith, no_condition, codes)

pub SpellsConditions-unique : (text : List ℕ) (given other : List Condition) → SpellsConditions text given → SpellsConditions text other → given ≡ other
SpellsConditions-unique text given other x y = grind (arith, all_is_none, zip_unique, SpellsCondition-unique)

-- labels that rise are determined by what is among them
pub AreLabelsOf-unique : (given xs ys : List (List ℕ)) → AreLabelsOf given xs → AreLabelsOf given ys → xs ≡ ys
AreLabelsOf-unique given xs ys x y =
    let same_test : eq_by_cmp text_cmp ≡ text_eq = λ i a b. sym (texts_ties a b) i in
    let same : (label : List ℕ) → list_any (eq_by_cmp text_cmp label) xs ≡ list_any (eq_by_cmp text_cmp label) ys =
    λ label. ap (λ e. list_any (e label) xs) same_test ∙ x.same label ∙ sym (y.same label) ∙ ap (λ e. list_any (e label) ys) (sym same_test) in
    let first : BTreeSet (List ℕ) = record { keys = xs } in
    let second : BTreeSet (List ℕ) = record { keys = ys } in
    btree_set_from_contains nat_list_cmp_total first second x.rising y.rising same exact_bytes

Combines-unique : (given : List Condition) (a b : ClauseParts) → Combines given a → Combines given b → a ≡ b
Combines-unique given a b x y =
    let wanted = AreLabelsOf-unique _ a.all_labels b.all_labels x.wanted y.wanted in
    let barred = AreLabelsOf-unique _ a.no_labels b.no_labels x.barred y.barred in
    let on : a.flags_on ≡ b.flags_on = x.on ∙ sym y.on in
    let off : a.flags_off ≡ b.flags_off = x.off ∙ sym y.off in
    let since : a.since ≡ b.since = x.since ∙ sym y.since in
    λ i. record { all_labels = wanted i; no_labels = barred i; flags_on = on i; flags_off = off i; since = since i }

ReadsClause-unique : (text : List ℕ) (a b : ClauseParts) → ReadsClause text a → ReadsClause text b → a ≡ b
ReadsClause-unique text a b x y =
    Combines-unique x.given a b x.combined (subst (λ given. Combines given b) (SpellsConditions-unique text y.given x.given y.spelled x.spelled) y.combined)

-- `none` is no clause
pub none_is_no_clause : (given : List Condition) → SpellsConditions (codes "none") given → ⊥
none_is_no_clause given spelled = grind (arith, apart, codes, no_condition)

none_is_no_filter : (filter : List ClauseParts) → AllZip ReadsClause (clauses_of (codes "none")) filter → ⊥
none_is_no_filter filter each = grind (arith, none_is_no_clause)

-- a text means one filter
pub Reads-unique : (text : List ℕ) (a b : List ClauseParts) → Reads text a → Reads text b → a ≡ b
Reads-unique text a b x y =
    elim x [
      | inl p ↦ elim y [
        | inl q ↦ p.1 ∙ sym q.1
        | inr q ↦ absurd (none_is_no_filter b (subst (λ t. AllZip ReadsClause (clauses_of t) b) p.0 q))
      ]
      | inr p ↦ elim y [
        | inl q ↦ absurd (none_is_no_filter a (subst (λ t. AllZip ReadsClause (clauses_of t) a) q.0 p))
        | inr q ↦ zip_unique ReadsClause ReadsClause-unique (clauses_of text) a b p q
      ]
    ]

-- a text that means a filter has no bad piece
no_bad_piece : (text : List ℕ) (filter : List ClauseParts) (place : ℕ) → Reads text filter → IsFirstBad text place → ⊥
no_bad_piece text filter place reads bad = grind (arith, zip_at)

no_more_clauses : (text : List ℕ) (filter : List ClauseParts) → Reads text filter → IsFilter filter → HasTooManyClauses text → ⊥
no_more_clauses text filter reads kept many = grind (arith, length_zip)

-- a clause's text that means a clause names no more labels than the clause has
pub names_few : (text : List ℕ) (clause : ClauseParts) → ReadsClause text clause → IsClause clause → NamesTooMany text → ⊥
names_few text clause read kept crowded =
    let combined = subst (λ given. Combines given clause) (SpellsConditions-unique text read.given crowded.given read.spelled crowded.spelled) read.combined in
    let wanted = length-AreLabelsOf _ _ combined.wanted in
    let barred = length-AreLabelsOf _ _ combined.barred in
    let more = crowded.many in
    let few = kept.few in
    absurd (omega (arith, wanted, barred))

-- what the reading of a clause says of its labels
pub crowded_at : {X E : Type 0} (found : Result X E) (P : Type 0) → IfErr found (λ _. P) → true ≡ is_err found → P
crowded_at found P many failed = grind (arith, false≢true)

pub uncrowded_at : {E : Type 0} (text : List ℕ) (found : Result ClauseParts E) → IfOk found (ReadsClause text) → IfOk found IsClause → false ≡ is_err found → NamesTooMany text → ⊥
uncrowded_at text found read kept failed = grind (arith, names_few, false≢true)

no_more_labels : (text : List ℕ) (filter : List ClauseParts) → Reads text filter → IsFilter filter → HasTooManyLabels text → ⊥
no_more_labels text filter reads kept many =
    let crowded = many.crowded in
    elim reads [
      | inl none ↦
          let each : AllByRecursion (λ clause. SpellsConditions clause crowded.many.given → ⊥) (clauses_of text) =
          subst (λ t. AllByRecursion (λ clause. SpellsConditions clause crowded.many.given → ⊥) (clauses_of t)) (sym none.0) (none_is_no_clause crowded.many.given, tt) in
          at_place (λ clause. SpellsConditions clause crowded.many.given → ⊥) crowded.before crowded.clause crowded.after
          (subst (AllByRecursion (λ clause. SpellsConditions clause crowded.many.given → ⊥)) crowded.clauses each) crowded.many.spelled
      | inr each ↦
          let both = zip_kept ReadsClause IsClause (clauses_of text) filter each kept.each in
          in_clause (zip_at (λ t c. ReadsClause t c × IsClause c) crowded.before crowded.clause crowded.after filter (subst (λ cs. AllZip (λ t c. ReadsClause t c × IsClause c) cs filter) crowded.clauses both))
    ]
  where
    in_clause : (c : ClauseParts) × (ReadsClause many.crowded.clause c × IsClause c) → ⊥
    in_clause (c, (read, in_limits)) = names_few many.crowded.clause c read in_limits many.crowded.many

-- at a text that means a filter only memory can be wanting
pub Reads-fault : (text : List ℕ) (filter : List ClauseParts) → Reads text filter → IsFilter filter → (fault : FilterFault) → IsFaultOf text fault → fault ≡ OutOfMemory
Reads-fault text filter reads kept OutOfMemory is = refl
Reads-fault text filter reads kept (BadFilter place) is = absurd (no_bad_piece text filter place reads is)
Reads-fault text filter reads kept TooManyClauses is = absurd (no_more_clauses text filter reads kept is)
Reads-fault text filter reads kept TooManyLabels is = absurd (no_more_labels text filter reads kept is)
