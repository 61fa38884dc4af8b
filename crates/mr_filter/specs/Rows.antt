-- worked rows: what the definitions give for small values
use Rattle.std.proofs.Common.{inl, inr, ap, sym, arith}
use Rattle.std.specs.Prelude.{◌≡◌, ◌≢◌, ◌<◌, ◌||◌, ℕ, Bool, true, false, List, [], ◌∷◌, length, get_or, codes, refl}
use Rattle.std.specs.List.Sorted.{IsStrictlySortedBy}
use Rattle.mr_mail.specs.declared.flags.Flag.TheVariants.{Seen, Draft, Deleted}
use Rattle.mr_mail.specs.Label.{text_eq}
use Rattle.mr_mail.specs.Mail.{MailCard}
use Rattle.mr_filter.specs.Filter.{ClauseParts, clause_with}
use Rattle.mr_filter.specs.Condition.{Condition, HasLabel, LacksLabel, HasFlag, LacksFlag, Since, SpellsCondition, label_count, bits_on, bits_off, latest_day}
use Rattle.mr_filter.specs.inner.Draft.{no_condition, label_count_with}
use Rattle.mr_filter.specs.Grammar.{clauses_of, pieces_of, Reads, HasTrueClause, IsCondition, IsFirstBad}
use Rattle.mr_filter.specs.Meaning.{is_true_of, meets, selects, is_as_wide, covers}
use Rattle.mr_filter.specs.Text.{conditions_of, join_or}

-- ---- texts, cut

-- the empty text is one clause, which is empty
pub empty_text : clauses_of [] ≡ [] ∷ []
empty_text = refl

-- a text is cut at each mark between two spaces, and these fall away
pub three_clauses : clauses_of (codes "a | b | c") ≡ codes "a" ∷ codes "b" ∷ codes "c" ∷ []
three_clauses = refl

-- a mark that lacks a space on one side doesn't cut
pub bare_marks : clauses_of (codes "a|b |c| d") ≡ codes "a|b |c| d" ∷ []
bare_marks = refl

-- a space belongs to one separator alone: the text is cut from the left, and the second mark stays
pub shared_space : clauses_of (codes "a | | b") ≡ codes "a" ∷ codes "| b" ∷ []
shared_space = refl

-- the same with nothing before the first separator
pub shared_space_alone : clauses_of (codes " | | ") ≡ [] ∷ codes "| " ∷ []
shared_space_alone = refl

-- with a space for each of the marks, an empty clause stands between them
pub empty_between : clauses_of (codes "a |  | b") ≡ codes "a" ∷ [] ∷ codes "b" ∷ []
empty_between = refl

-- a separator at the end has an empty clause behind it
pub empty_behind : clauses_of (codes "a | ") ≡ codes "a" ∷ [] ∷ []
empty_behind = refl

-- clauses are cut at their own mark alone
pub two_pieces : pieces_of (codes "a & b|c") ≡ codes "a" ∷ codes "b|c" ∷ []
two_pieces = refl

-- ---- conditions, together

-- a label that is wanted and barred counts twice, and one that is wanted twice counts once
pub labels_counted : label_count (HasLabel (codes "a") ∷ LacksLabel (codes "a") ∷ HasLabel (codes "a") ∷ Since 5 ∷ []) ≡ 2
labels_counted = refl

-- each flag counts once, however often it is named
pub flags_wanted : bits_on (HasFlag Seen ∷ HasFlag Deleted ∷ LacksFlag Draft ∷ HasFlag Seen ∷ []) ≡ 17
flags_wanted = refl

pub flags_barred : bits_off (HasFlag Seen ∷ HasFlag Deleted ∷ LacksFlag Draft ∷ HasFlag Seen ∷ []) ≡ 8
flags_barred = refl

-- the latest of the days counts, wherever it stands
pub latest : latest_day (Since 5 ∷ Since 9 ∷ HasFlag Seen ∷ Since 7 ∷ []) ≡ 9
latest = refl

-- with no day every day will do
pub no_day : latest_day (HasFlag Seen ∷ []) ≡ 0
no_day = refl

-- the clause that wants label a
abbrev wants_a : ClauseParts
wants_a = clause_with (codes "a" ∷ []) [] 0 0 0

-- a label that the clause wants already is not counted again, and one that it is to bar is
pub wanted_again : label_count_with wants_a (HasLabel (codes "a")) ≡ 1
wanted_again = refl

pub barred_too : label_count_with wants_a (LacksLabel (codes "a")) ≡ 2
barred_too = refl

-- ---- what is selected

-- a message with labels a and b, which is seen, of day 5
abbrev card : MailCard
card = record { labels = codes "a" ∷ codes "b" ∷ []; flags = 1; day = 5 }

-- a first day is of the day itself too
pub since_that_day : is_true_of card (Since 5) ≡ true
since_that_day = refl

pub since_next_day : is_true_of card (Since 6) ≡ false
since_next_day = refl

-- the clause of no condition is met by all, and a filter of no clause selects nothing
pub all_meet : meets card no_condition ≡ true
all_meet = refl

pub none_selected : selects [] card ≡ false
none_selected = refl

-- each condition of a clause has to be met
pub meets_each : meets card (clause_with (codes "a" ∷ []) (codes "c" ∷ []) 1 16 5) ≡ true
meets_each = refl

pub lacks_wanted : meets card (clause_with (codes "a" ∷ codes "c" ∷ []) [] 0 0 0) ≡ false
lacks_wanted = refl

pub has_barred : meets card (clause_with (codes "a" ∷ []) (codes "b" ∷ codes "c" ∷ []) 0 0 0) ≡ false
has_barred = refl

-- one clause of a filter is enough
pub one_clause : selects (clause_with (codes "c" ∷ []) [] 0 0 0 ∷ clause_with [] [] 1 0 0 ∷ []) card ≡ true
one_clause = refl

-- ---- what is covered

-- a filter of no clause is covered by each, and covers no other
pub covers_none : covers [] [] ≡ true
covers_none = refl

pub none_covers : covers [] (no_condition ∷ []) ≡ false
none_covers = refl

-- an earlier first day is the wider one
pub earlier_is_wider : is_as_wide (clause_with [] [] 0 0 3) (clause_with [] [] 0 0 5) ≡ true
earlier_is_wider = refl

pub later_is_not : is_as_wide (clause_with [] [] 0 0 5) (clause_with [] [] 0 0 3) ≡ false
later_is_not = refl

-- a clause that asks more is not as wide
pub asks_more : is_as_wide wants_a no_condition ≡ false
asks_more = refl

-- clauses are compared one by one: seen ones and unseen ones are all together, and yet don't cover all
pub one_by_one : covers (clause_with [] [] 1 0 0 ∷ clause_with [] [] 0 1 0 ∷ []) (no_condition ∷ []) ≡ false
one_by_one = refl

-- ---- how filters are written

-- labels that are wanted and barred come first, then the flags in their order, and a first day last
pub written_order : conditions_of (clause_with (codes "b" ∷ []) (codes "a" ∷ []) 17 8 5)
    ≡ HasLabel (codes "b") ∷ LacksLabel (codes "a") ∷ HasFlag Seen ∷ HasFlag Deleted ∷ LacksFlag Draft ∷ Since 5 ∷ []
written_order = refl

-- the first of all days is not written
pub first_day_unwritten : conditions_of no_condition ≡ []
first_day_unwritten = refl

-- the separator stands between clauses alone, and a word of its own for no clause
pub joined : join_or (codes "none") (codes " | ") (codes "a" ∷ codes "b" ∷ []) ≡ codes "a | b"
joined = refl

pub joined_one : join_or (codes "none") (codes " | ") (codes "a" ∷ []) ≡ codes "a"
joined_one = refl

pub joined_none : join_or (codes "none") (codes " | ") [] ≡ codes "none"
joined_none = refl

-- ---- what texts mean

-- `none` is the filter of no clause
pub reads_none : Reads (codes "none") []
reads_none = inl (refl, refl)

-- `all` is the clause of no condition
pub reads_all : Reads (codes "all") (no_condition ∷ [])
unfolding IsStrictlySortedBy
reads_all = inr (
  record {
    given = [];
    spelled = inl (refl, refl);
    combined = record { wanted = record { rising = tt; same = λ _. refl }; barred = record { rising = tt; same = λ _. refl }; on = refl; off = refl; since = refl };
  },
  tt,
)

-- a label twice is wanted once
pub reads_twice : Reads (codes "label:a & label:a") (wants_a ∷ [])
unfolding IsStrictlySortedBy
reads_twice = inr (
  record {
    given = HasLabel (codes "a") ∷ HasLabel (codes "a") ∷ [];
    spelled = inr ((codes "a", (refl, refl), refl), ((codes "a", (refl, refl), refl), tt));
    combined = record {
      wanted = record { rising = (tt, tt); same = λ label. once (text_eq label (codes "a")) };
      barred = record { rising = tt; same = λ _. refl };
      on = refl;
      off = refl;
      since = refl;
    };
  },
  tt,
)
  where
    once : (b : Bool) → (b || false) ≡ (b || (b || false))
    once true = refl
    once false = refl

-- some clause is true of a message where the last one is
pub true_at_last : HasTrueClause card (clauses_of (codes "label:c | flag:seen"))
true_at_last = inr (inl (record { given = HasFlag Seen ∷ []; spelled = inr ((codes "seen", refl, refl), tt); each = refl }))

-- ---- the first bad place

-- no kind of condition begins with this byte
abbrev IsNoStart : ℕ → Type 0
IsNoStart a = (a ≢ 108) × (a ≢ 33) × (a ≢ 102) × (a ≢ 115)

-- so a text that begins with it is no condition, nor is the empty text
no_kind : (text : List ℕ) → IsNoStart (get_or text 0 0) → (condition : Condition) → SpellsCondition text condition → ⊥
no_kind text none (HasLabel _) spelled = none.0 (ap (λ t. get_or t 0 0) spelled.2)
no_kind text none (LacksLabel _) spelled = none.1 (ap (λ t. get_or t 0 0) spelled.2)
no_kind text none (HasFlag _) spelled = none.2 (ap (λ t. get_or t 0 0) spelled.2)
no_kind text none (LacksFlag _) spelled = none.1 (ap (λ t. get_or t 0 0) spelled.2)
no_kind text none (Since _) spelled = none.3 (ap (λ t. get_or t 0 0) spelled.2)

other_length : (xs ys : List ℕ) → length xs < length ys → xs ≢ ys
other_length xs ys less same = let as_long : length xs ≡ length ys = ap (λ t. length t) same in absurd (omega arith)

nothing_is_bad : IsCondition [] → ⊥
nothing_is_bad is = no_kind [] ((λ e. absurd (omega arith)), (λ e. absurd (omega arith)), (λ e. absurd (omega arith)), (λ e. absurd (omega arith))) is.0 is.1

none_is_bad : IsCondition (codes "none") → ⊥
none_is_bad is = no_kind (codes "none") ((λ e. absurd (omega arith)), (λ e. absurd (omega arith)), (λ e. absurd (omega arith)), (λ e. absurd (omega arith))) is.0 is.1

all_is_bad : IsCondition (codes "all") → ⊥
all_is_bad is = no_kind (codes "all") ((λ e. absurd (omega arith)), (λ e. absurd (omega arith)), (λ e. absurd (omega arith)), (λ e. absurd (omega arith))) is.0 is.1

-- the empty text is no filter, and bad from its start
pub empty_is_bad : IsFirstBad [] 0
empty_is_bad = record {
  before = [];
  clause = [];
  after = [];
  in_clause = 0;
  clauses = refl;
  fine = tt;
  bad = record { before = []; piece = []; after = []; pieces = refl; fine = tt; bad = nothing_is_bad; not_all = other_length [] (codes "all") (omega arith); place_is = refl };
  not_none = other_length [] (codes "none") (omega arith);
  place_is = refl;
}

-- `none` is a filter by itself, and no clause of one
pub none_among_clauses : IsFirstBad (codes "none | all") 0
none_among_clauses = record {
  before = [];
  clause = codes "none";
  after = codes "all" ∷ [];
  in_clause = 0;
  clauses = refl;
  fine = tt;
  bad = record { before = []; piece = codes "none"; after = []; pieces = refl; fine = tt; bad = none_is_bad; not_all = λ same. other_length (codes "all") (codes "none") (omega arith) (sym same); place_is = refl };
  not_none = λ same. other_length (codes "none") (codes "none | all") (omega arith) (sym same);
  place_is = refl;
}

-- so is `all` a clause by itself, and no condition; the bytes before it count, separators and all
pub all_among_conditions : IsFirstBad (codes "all | flag:seen & all") 18
all_among_conditions = record {
  before = codes "all" ∷ [];
  clause = codes "flag:seen & all";
  after = [];
  in_clause = 12;
  clauses = refl;
  fine = (inl refl, tt);
  bad = record {
    before = codes "flag:seen" ∷ [];
    piece = codes "all";
    after = [];
    pieces = refl;
    fine = ((HasFlag Seen, (codes "seen", refl, refl)), tt);
    bad = all_is_bad;
    not_all = λ same. other_length (codes "all") (codes "flag:seen & all") (omega arith) (sym same);
    place_is = refl;
  };
  not_none = λ same. other_length (codes "none") (codes "all | flag:seen & all") (omega arith) (sym same);
  place_is = refl;
}
