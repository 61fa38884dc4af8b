-- what is given of a stream at a time
use Rattle.std.proofs.Common.{◌≡◌, ◌≢◌, ◌⊎◌, ⊎_elim, ℕ, ◌+◌, ◌-◌, ◌<◌, ◌≤◌, Bool, true, false, List, [], ◌∷◌, ◌++◌, length, take, append_assoc, Result, Ok, Err, refl, sym, ap, subst, ◌∙◌, arith}
use Rattle.mr_kept.proofs.Names.{Form, Gave, IsErrAnd, Journal, Journaled, KeptFault, Next, SameJournal, Sent, State, Steps, append-nil, cases_lt}
use Rattle.mr_kept.proofs.Names.{err_from_is_err_and, has_failed, journal_of, leaving, length-append, list_any, map, map-append, replica_of, sum_by}
use Rattle.mr_kept.proofs.Names.{take-append-le, take-length}
use Rattle.std.proofs.lemmas.List.Folds.{list_any-append}
use Rattle.std.proofs.lemmas.List.Sums.{sum_by-append, sum_by-cons}
use Rattle.mr_kept.specs.Answered.{Answered}
use Rattle.mr_kept.specs.Telling.{Gives, Tells, WantsMore, is_end, size_of}

-- ---- one record more

-- each beginning of the records with one more wants more
wanted_more : (records bytes : ℕ) (given : List Sent) (sent : Sent) (count : ℕ) → length given ≡ count → ((n : ℕ) → n < count → WantsMore records bytes (take n given)) → WantsMore records bytes given
    → (n : ℕ) → n < count + 1 → WantsMore records bytes (take n (given ++ sent ∷ []))
wanted_more records bytes given sent count is before now n less = grind (arith, take, take-append-le, ⊎_elim, take-length, cases_lt)

left_more : (given : List Sent) (sent : Sent) (bytes left size : ℕ) → left ≡ bytes - sum_by size_of given → size ≡ size_of sent → left - size ≡ bytes - sum_by size_of (given ++ sent ∷ [])
left_more given sent bytes left size is same = grind (arith, sum_by-append, sum_by-cons)

any_more : (given : List Sent) (sent : Sent) (last : Bool) → list_any is_end given ≡ false → is_end sent ≡ last → list_any is_end (given ++ sent ∷ []) ≡ last
any_more given sent last none is = grind (arith, list_any-append)

-- ---- the journal stays

module _ {K D V : Type 0} where
  same_then : (a b c : Journaled K D V) → SameJournal a b → SameJournal b c → SameJournal a c
  same_then a b c first second = grind arith

module _ {K : Type 0} (form : Form K) where
  -- one record more
  gives_more : (s : State K) (stream : ℕ) (given : List Sent) (mid new : State K) (sent : Sent) → Gives form s stream given mid → Steps form mid (Next stream) (Ok (Gave sent)) new
      → Gives form s stream (given ++ sent ∷ []) new
  gives_more s stream [] mid new sent h step = (new, subst (λ (z : State K). Steps form z (Next stream) (Ok (Gave sent)) new) h step, refl)
  gives_more s stream (x ∷ given) mid new sent h step = (h.0, h.1, gives_more h.0 stream given mid new sent h.2 step)

  -- So many records were given, so many bytes are left, and the End isn't among them.
  pub record GivenSoFar {D V : Type 0} (stream records bytes : ℕ) (old now : Journaled K D V) (count left : ℕ) : Type 0 where
    pub given : List Sent
    pub gives : Gives form (replica_of old) stream given (replica_of now)
    pub length_is : length given ≡ count
    pub left_is : left ≡ bytes - sum_by size_of given
    pub no_end : list_any is_end given ≡ false
    pub wanted : (n : ℕ) → n < count → WantsMore records bytes (take n given)
    pub leaving_is : leaving now ≡ leaving old ++ map Gave given
    pub sound : given ≢ [] → has_failed (journal_of old) ≡ false
    pub same : SameJournal old now

  module _ {D V : Type 0} (stream records bytes : ℕ) where
    pub none_given : (old : Journaled K D V) → GivenSoFar stream records bytes old old 0 bytes
    none_given old = grind (arith, append-nil)

    leaving_more : (old mid new : Journaled K D V) (given : List Sent) (sent : Sent) → leaving mid ≡ leaving old ++ map Gave given → leaving new ≡ leaving mid ++ Gave sent ∷ []
        → leaving new ≡ leaving old ++ map Gave (given ++ sent ∷ [])
    leaving_more old mid new given sent before now = grind (arith, append_assoc, map-append)

    module _ {old mid : Journaled K D V} {count left : ℕ} (so : GivenSoFar stream records bytes old mid count left) (few : count < records) (some : left ≡ 0 → ⊥) where
      wants_more : WantsMore records bytes so.given
      wants_more = record { few = omega (arith, so.length_is, few); short = omega (arith, so.left_is, some); no_end = so.no_end }

      -- one record more, which is no End
      pub one_given : (new : Journaled K D V) (size : ℕ) (sent : Sent) → size ≡ size_of sent → is_end sent ≡ false → Steps form (replica_of mid) (Next stream) (Ok (Gave sent)) (replica_of new) → leaving new ≡ leaving mid ++ Gave sent ∷ []
          → has_failed (journal_of mid) ≡ false → SameJournal mid new → GivenSoFar stream records bytes old new (count + 1) (left - size)
      one_given new size sent size_is last step held sound same = record {
        given = so.given ++ sent ∷ [];
        gives = gives_more (replica_of old) stream so.given (replica_of mid) (replica_of new) sent so.gives step;
        length_is = length-append so.given (sent ∷ []) ∙ ap (λ (n : ℕ). n + 1) so.length_is;
        left_is = left_more so.given sent bytes left size so.left_is size_is;
        no_end = any_more so.given sent false so.no_end last;
        wanted = wanted_more records bytes so.given sent count so.length_is so.wanted wants_more;
        leaving_is = leaving_more old mid new so.given sent so.leaving_is held;
        sound = λ _. ap has_failed (sym so.same.journal) ∙ sound;
        same = same_then old mid new so.same same;
      }

      -- with the End it is over
      pub end_given : (new : Journaled K D V) (sent : Sent) → is_end sent ≡ true → Steps form (replica_of mid) (Next stream) (Ok (Gave sent)) (replica_of new) → leaving new ≡ leaving mid ++ Gave sent ∷ [] → has_failed (journal_of mid) ≡ false
          → Tells form stream records bytes old (Ok true) new
      end_given new sent last step held sound =
          let all : list_any is_end (so.given ++ sent ∷ []) ≡ true = any_more so.given sent true so.no_end last in
          let longer : length (so.given ++ sent ∷ []) ≡ length so.given + 1 = length-append so.given (sent ∷ []) in
          record {
            given = so.given ++ sent ∷ [];
            reached = replica_of new;
            gives = gives_more (replica_of old) stream so.given (replica_of mid) (replica_of new) sent so.gives step;
            wanted = λ n less. wanted_more records bytes so.given sent count so.length_is so.wanted wants_more n (omega (arith, less, longer, so.length_is));
            leaving_is = leaving_more old mid new so.given sent so.leaving_is held;
            sound = λ _. ap has_failed (sym so.same.journal) ∙ sound;
            ends_by = (λ (more : WantsMore records bytes (so.given ++ sent ∷ [])). let is : true ≡ false = sym all ∙ more.no_end in cc, sym all, refl);
          }

      -- or with a Next that isn't answered
      pub refused_by : (new : Journaled K D V) (fault : KeptFault) (answer : Result Bool KeptFault) → Answered form (journal_of mid) (replica_of mid) (Next stream) (Err fault) (replica_of new) → leaving new ≡ leaving mid
          → IsErrAnd answer (λ e. e ≡ fault) → Tells form stream records bytes old answer new
      refused_by new fault answer answered held exit =
          let p = err_from_is_err_and answer exit in
          rw (p.1, p.2) (record {
            given = so.given;
            reached = replica_of mid;
            gives = so.gives;
            wanted = λ n less. so.wanted n (omega (arith, less, so.length_is));
            leaving_is = held ∙ so.leaving_is;
            sound = so.sound;
            ends_by = (wants_more, subst (λ (j : Journal D). Answered form j (replica_of mid) (Next stream) (Err fault) (replica_of new)) so.same.journal answered);
          })

    -- with as many records or bytes as are wanted
    pub enough_given : (old now : Journaled K D V) (count left : ℕ) → GivenSoFar stream records bytes old now count left → (records ≤ count) ⊎ (left ≡ 0) → Tells form stream records bytes old (Ok false) now
    enough_given old now count left so enough = record {
      given = so.given;
      reached = replica_of now;
      gives = so.gives;
      wanted = λ n less. so.wanted n (omega (arith, less, so.length_is));
      leaving_is = so.leaving_is;
      sound = so.sound;
      ends_by = (
        λ (more : WantsMore records bytes so.given). ⊎_elim (λ (many : records ≤ count). omega (arith, many, more.few, so.length_is)) (λ (none : left ≡ 0). omega (arith, none, more.short, so.left_is)) enough,
        sym so.no_end,
        refl,
      );
    }
