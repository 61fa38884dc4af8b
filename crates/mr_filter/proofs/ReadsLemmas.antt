-- what a filter's text means is the filter
use Rattle.std.proofs.Common.{◌≡◌, ℕ, not, Bool, true, false, eqb, List, [], ◌∷◌, ◌++◌, refl, ◌∙◌, ap, inl, inr, codes, arith}
use Rattle.mr_filter.proofs.Names.{All, All-head, All-tail, AllByRecursion, AllZip, ClauseParts, Condition, IsClause, IsClauseText, IsFilter, IsFilterText}
use Rattle.mr_filter.proofs.Names.{Reads, ReadsClause, SpellsCondition, SpellsConditions, clauses_of, conditions_of, join_or, list_all, pieces_of}
use Rattle.mr_filter.proofs.CutLemmas.{Lacks, cut_at-join_or}
use Rattle.mr_filter.proofs.SpellingLemmas.{is_plain, condition-plain}
use Rattle.mr_filter.proofs.CombineLemmas.{Combines-conditions_of}

-- a list of plain bytes has neither mark
not_true : (b : Bool) → not b ≡ true → b ≡ false
not_true b h = grind arith

lacks_first : (bytes : List ℕ) → list_all is_plain bytes ≡ true → Lacks 38 bytes
lacks_first [] each = tt
lacks_first (b ∷ bytes) each = grind (arith, lacks_first bytes, not_true, eqb, is_plain)

lacks_second : (bytes : List ℕ) → list_all is_plain bytes ≡ true → Lacks 124 bytes
lacks_second [] each = tt
lacks_second (b ∷ bytes) each = grind (arith, lacks_second bytes, not_true, eqb, is_plain)

Lacks-append : (mark : ℕ) (xs ys : List ℕ) → Lacks mark xs → Lacks mark ys → Lacks mark (xs ++ ys)
Lacks-append mark [] ys first second = second
Lacks-append mark (x ∷ xs) ys first second = (first.0, Lacks-append mark xs ys first.1 second)

-- pieces that spell conditions have neither mark
pieces_lack : (pieces : List (List ℕ)) (given : List Condition) → AllZip SpellsCondition pieces given → AllByRecursion (Lacks 38) pieces × AllByRecursion (Lacks 124) pieces
pieces_lack [] given spelled = (tt, tt)
pieces_lack (p ∷ pieces) [] spelled = absurd spelled
pieces_lack (p ∷ pieces) (c ∷ given) spelled =
    let plain = condition-plain p c spelled.0 in
    let rest = pieces_lack pieces given spelled.1 in
    ((lacks_first p plain, rest.0), (lacks_second p plain, rest.1))

-- so a clause's text has no second mark
joined_lacks : (piece : List ℕ) (more : List (List ℕ)) → AllByRecursion (Lacks 124) (piece ∷ more) → Lacks 124 (join_or (codes "all") (codes " & ") (piece ∷ more))
joined_lacks piece [] lacks = lacks.0
joined_lacks piece (next ∷ more) lacks = grind (arith, joined_lacks next more lacks.1, Lacks-append, codes)

clause_lacks : (clause : ClauseParts) (text : List ℕ) → IsClauseText clause text → Lacks 124 text
clause_lacks clause text is = by is.pieces is.spelled is.joined
  where
    by : (pieces : List (List ℕ)) → AllZip SpellsCondition pieces (conditions_of clause) → text ≡ join_or (codes "all") (codes " & ") pieces → Lacks 124 text
    by [] spelled joined = rw joined (refl, (refl, (refl, tt)))
    by (p ∷ pieces) spelled joined = rw joined (joined_lacks p pieces (pieces_lack (p ∷ pieces) (conditions_of clause) spelled).1)

-- no piece spells no condition
none_given : (given : List Condition) → AllZip SpellsCondition [] given → given ≡ []
none_given given spelled = grind arith

clause_read : (clause : ClauseParts) (text : List ℕ) → IsClause clause → IsClauseText clause text → ReadsClause text clause
clause_read clause text kept is = record {
  given = conditions_of clause;
  spelled = by is.pieces is.spelled is.joined;
  combined = Combines-conditions_of clause kept;
}
  where
    by : (pieces : List (List ℕ)) → AllZip SpellsCondition pieces (conditions_of clause) → text ≡ join_or (codes "all") (codes " & ") pieces → SpellsConditions text (conditions_of clause)
    by [] spelled joined = inl (joined, none_given (conditions_of clause) spelled)
    by (p ∷ pieces) spelled joined =
        inr (rw (ap pieces_of joined ∙ cut_at-join_or 38 refl (codes "all") p pieces (pieces_lack (p ∷ pieces) (conditions_of clause) spelled).0) spelled)

clauses_lack : (filter : List ClauseParts) (texts : List (List ℕ)) → AllZip IsClauseText filter texts → AllByRecursion (Lacks 124) texts
clauses_lack filter [] spelled = tt
clauses_lack [] (t ∷ texts) spelled = absurd spelled
clauses_lack (c ∷ filter) (t ∷ texts) spelled = (clause_lacks c t spelled.0, clauses_lack filter texts spelled.1)

clauses_read : (filter : List ClauseParts) (texts : List (List ℕ)) → All IsClause filter → AllZip IsClauseText filter texts → AllZip ReadsClause texts filter
clauses_read [] [] each spelled = tt
clauses_read [] (t ∷ texts) each spelled = absurd spelled
clauses_read (c ∷ filter) [] each spelled = absurd spelled
clauses_read (c ∷ filter) (t ∷ texts) each spelled =
    (clause_read c t (All-head IsClause c filter each) spelled.0, clauses_read filter texts (All-tail IsClause c filter each) spelled.1)

none_written : (filter : List ClauseParts) → AllZip IsClauseText filter [] → filter ≡ []
none_written [] spelled = refl
none_written (c ∷ filter) spelled = absurd spelled

pub Reads-text : (filter : List ClauseParts) (text : List ℕ) → IsFilter filter → IsFilterText filter text → Reads text filter
Reads-text filter text kept is = by is.pieces is.spelled is.joined
  where
    by : (pieces : List (List ℕ)) → AllZip IsClauseText filter pieces → text ≡ join_or (codes "none") (codes " | ") pieces → Reads text filter
    by [] spelled joined = inl (joined, none_written filter spelled)
    by (p ∷ pieces) spelled joined =
        inr (rw (ap clauses_of joined ∙ cut_at-join_or 124 refl (codes "none") p pieces (clauses_lack filter (p ∷ pieces) spelled)) (clauses_read filter (p ∷ pieces) kept.each spelled))
