-- Beginnings of replicas, and of lists of them.
use Rattle.std.proofs.Common.{◌≡◌, ◌≢◌, ◌≤◌, ◌<◌, ◌-◌, ◌++◌, ◌∙◌, ℕ, List, [], ◌∷◌, ap, sym, subst, arith, length, refl, inl, inr, append-nil, append_assoc, length-append, take, Result, Ok, Err}
use Rattle.std.specs.Prelude.{All, IfOk}
use Rattle.std.specs.declared.alloc.AllocError.{AllocError}
use Rattle.std.specs.List.{AllZip}
use Rattle.std.proofs.lemmas.List.Elements.{All-cons, All-head, All-tail, AllZip-push}
use Rattle.std.proofs.lemmas.List.Kept.{AllPairs-cons}
use Rattle.std.proofs.lemmas.List.{length-take}
use Rattle.std.proofs.lemmas.List.Sums.{sum_by-cons}
use Rattle.mr_forms.proofs.PartLemmas.{AllPairs-head, AllPairs-tail}
use Rattle.mr_filter.specs.Filter.{ClauseParts}
use Rattle.mr_forms.specs.Known.{Form}
use Rattle.mr_model.specs.Rules.{In}
use Rattle.mr_replica.specs.State.{State}
use Rattle.mr_replica.specs.Replay.{AdmitsAll, IsItsLog, Replays}
use Rattle.mr_replica.proofs.Replaying.{step_setting}
use Rattle.mr_replica.specs.declared.event.Event.{Event}
use Rattle.mr_settle.specs.Explains.{AreDistinct}
use Rattle.mr_settle.specs.History.{log_in}
use Rattle.mr_settle.specs.Stuck.{IsStuck, IsWhy}
use Rattle.mr_settle.specs.declared.fault.JoinFault.{JoinFault}
use Rattle.mr_settle.specs.declared.fault.JoinFault.TheVariants as faults
use Rattle.mr_audit.specs.Beginning.{IsBeginning}
use Rattle.mr_audit.specs.inner.Beginning.{IsPutBack, event_count}
use Rattle.mr_audit.specs.Verdict.{IsVerdict}
use Rattle.mr_audit.specs.inner.Verdict.{Says}
use Rattle.mr_audit.specs.declared.verdict.Verdict.{Verdict}
use Rattle.mr_audit.specs.declared.verdict.Verdict.TheVariants.{Unexplained}

module _ {K : Type 0} (form : Form K) where
  -- a replica is a beginning of itself
  pub itself : (end : State K) → IsItsLog form end → IsBeginning form end end
  itself end its = record { id = refl; filter = refl; event_limit = refl; later = []; log = sym (append-nil end.log); is_its_log = its }

  -- a beginning of a beginning is one
  pub earlier : (a b c : State K) → IsBeginning form a b → IsBeginning form b c → IsBeginning form a c
  earlier a b c h k = record {
    id = k.id ∙ h.id;
    filter = k.filter ∙ h.filter;
    event_limit = k.event_limit ∙ h.event_limit;
    later = k.later ++ h.later;
    log = h.log ∙ ap (λ (l : List Event). l ++ h.later) k.log ∙ append_assoc c.log k.later h.later;
    is_its_log = k.is_its_log;
  }

  no_longer : (end start : State K) → IsBeginning form end start → length start.log ≤ length end.log
  no_longer end start h = omega (arith, ap length h.log, length-append start.log h.later)

  -- events change no id, filter or limit
  all_setting : (s new : State K) (events : List Event) → AdmitsAll form s events new → (new.id ≡ s.id) × (new.filter ≡ s.filter) × (new.event_limit ≡ s.event_limit)
  all_setting s new [] h = (ap (λ (z : State K). z.id) h, ap (λ (z : State K). z.filter) h, ap (λ (z : State K). z.event_limit) h)
  all_setting s new (event ∷ events) h =
      let one = step_setting form s h.0 event (Ok h.1.0) h.1.1 in
      let rest = all_setting h.0 new events h.2 in
      (rest.0 ∙ one.id, rest.1 ∙ one.filter, rest.2 ∙ one.event_limit)

  -- what a beginning of the log makes is a beginning
  pub replayed_beginning : (end start : State K) (id : ℕ) (filter : List ClauseParts) (event_limit : ℕ) (before later : List Event) → id ≡ end.id → filter ≡ end.filter → event_limit ≡ end.event_limit
      → Replays form id filter event_limit before start → IsItsLog form start → start.log ≡ before → end.log ≡ before ++ later → IsBeginning form end start
  replayed_beginning end start id filter event_limit before later id_is filter_is limit_is h its log whole =
      let same = all_setting h.fresh start before h.admits in
      let fresh = h.is_fresh.is_empty in
      record {
        id = same.0 ∙ ap (λ (z : State K). z.id) fresh ∙ id_is;
        filter = same.1 ∙ ap (λ (z : State K). z.filter) fresh ∙ filter_is;
        event_limit = same.2 ∙ ap (λ (z : State K). z.event_limit) fresh ∙ limit_is;
        later = later;
        log = whole ∙ ap (λ (l : List Event). l ++ later) (sym log);
        is_its_log = its;
      }

  -- it has no more events than were asked for
  pub put_back_of : (replica events : ℕ) (end : State K) (result : Result (State K) AllocError) → IfOk result (IsBeginning form end) → IfOk result (λ start. start.log ≡ take events end.log) → IfOk result (IsPutBack form replica events end)
  put_back_of replica events end (Ok start) h log = record { beginning = h; few = λ _. omega (arith, ap length log, length-take events end.log) }
  put_back_of replica events end (Err e) h log = tt

  -- ---- of lists

  themselves : (ends : List (State K)) → All (IsItsLog form) ends → AllZip (IsBeginning form) ends ends
  themselves [] all = tt
  themselves (end ∷ ends) all = (itself end (All-head (IsItsLog form) end ends all), themselves ends (All-tail (IsItsLog form) end ends all))

  pub begin_as : (now ends : List (State K)) → now ≡ ends → All (IsItsLog form) now → AllZip (IsBeginning form) ends ends
  begin_as now ends is all = subst (λ (xs : List (State K)). AllZip (IsBeginning form) xs xs) is (themselves now all)

  pub all_earlier : (xs ys zs : List (State K)) → AllZip (IsBeginning form) xs ys → AllZip (IsBeginning form) ys zs → AllZip (IsBeginning form) xs zs
  all_earlier [] [] [] h k = h
  all_earlier [] [] (z ∷ zs) h k = absurd k
  all_earlier [] (y ∷ ys) zs h k = absurd h
  all_earlier (x ∷ xs) [] zs h k = absurd h
  all_earlier (x ∷ xs) (y ∷ ys) [] h k = absurd k
  all_earlier (x ∷ xs) (y ∷ ys) (z ∷ zs) h k = (earlier x y z h.0 k.0, all_earlier xs ys zs h.1 k.1)

  other_ids : (id : ℕ) (ends starts : List (State K)) → All (λ z. id ≢ z.id) ends → AllZip (IsBeginning form) ends starts → All (λ z. id ≢ z.id) starts
  other_ids id [] [] all are = all
  other_ids id [] (start ∷ starts) all are = absurd are
  other_ids id (end ∷ ends) [] all are = absurd are
  other_ids id (end ∷ ends) (start ∷ starts) all are =
      All-cons (λ (z : State K). id ≢ z.id) start starts
      (λ same. All-head (λ (z : State K). id ≢ z.id) end ends all (same ∙ are.0.id))
      (other_ids id ends starts (All-tail (λ (z : State K). id ≢ z.id) end ends all) are.1)

  -- beginnings have the ids of the ends
  pub still_distinct : (ends starts : List (State K)) → AreDistinct ends → AllZip (IsBeginning form) ends starts → AreDistinct starts
  still_distinct [] [] distinct are = distinct
  still_distinct [] (start ∷ starts) distinct are = absurd are
  still_distinct (end ∷ ends) [] distinct are = absurd are
  still_distinct (end ∷ ends) (start ∷ starts) distinct are =
      let R : State K → State K → Type 0 = λ s t. s.id ≢ t.id in
      let others : All (λ (z : State K). start.id ≢ z.id) ends =
      subst (λ (id : ℕ). All (λ (z : State K). id ≢ z.id) ends) (sym are.0.id) (AllPairs-head R end ends distinct) in
      AllPairs-cons R start starts (other_ids start.id ends starts others are.1) (still_distinct ends starts (AllPairs-tail R end ends distinct) are.1)

  -- ---- what is put back

  module _ (replica events : ℕ) where
    pub put_back_begins : (ends starts : List (State K)) → AllZip (IsPutBack form replica events) ends starts → AllZip (IsBeginning form) ends starts
    put_back_begins [] [] are = are
    put_back_begins [] (start ∷ starts) are = absurd are
    put_back_begins (end ∷ ends) [] are = absurd are
    put_back_begins (end ∷ ends) (start ∷ starts) are = (are.0.beginning, put_back_begins ends starts are.1)

    no_more : (ends starts : List (State K)) → AllZip (IsPutBack form replica events) ends starts → event_count starts ≤ event_count ends
    no_more [] [] are = omega arith
    no_more [] (start ∷ starts) are = absurd are
    no_more (end ∷ ends) [] are = absurd are
    no_more (end ∷ ends) (start ∷ starts) are =
        omega (arith, no_longer end start are.0.beginning, no_more ends starts are.1, sum_by-cons (λ (s : State K). length s.log) end ends, sum_by-cons (λ (s : State K). length s.log) start starts)

    -- fewer events are left where the log had more
    pub fewer_left : (ends starts : List (State K)) (end : State K) → AllZip (IsPutBack form replica events) ends starts → In end ends → end.id ≡ replica → events < length end.log
        → event_count starts < event_count ends
    fewer_left [] starts end are among id more = absurd among
    fewer_left (x ∷ xs) [] end are among id more = absurd are
    fewer_left (x ∷ xs) (start ∷ starts) end are (inl is) id more =
        let long : length x.log ≡ length end.log = ap (λ (s : State K). length s.log) is in
        omega (arith, long, are.0.few (ap (λ (s : State K). s.id) is ∙ id), no_more xs starts are.1, more, sum_by-cons (λ (s : State K). length s.log) x xs, sum_by-cons (λ (s : State K). length s.log) start starts)
    fewer_left (x ∷ xs) (start ∷ starts) end are (inr later) id more =
        omega (arith, no_longer x start are.0.beginning, fewer_left xs starts end are.1 later id more, sum_by-cons (λ (s : State K). length s.log) x xs, sum_by-cons (λ (s : State K). length s.log) start starts)

  -- where events are left out, going back to before the first of them leaves fewer
  pub stuck_fewer : (ends starts : List (State K)) (replica event : ℕ) → IsStuck form ends replica event → AllZip (IsPutBack form replica (event - 1)) ends starts → event_count starts < event_count ends
  stuck_fewer ends starts replica event stuck are =
      let first = stuck.first in
      let done : length (log_in stuck.world first.end.id) ≡ length (log_in stuck.world replica) = ap (λ (r : ℕ). length (log_in stuck.world r)) first.id in
      fewer_left replica (event - 1) ends starts first.end are first.among first.id (omega (arith, done, first.next, first.has_left))

  -- the same of a verdict
  pub named_fewer : (now ends starts : List (State K)) (verdict : Verdict) (replica event : ℕ) → now ≡ ends → IsVerdict form now verdict → verdict ≡ Unexplained replica event
      → AllZip (IsPutBack form replica (event - 1)) ends starts → event_count starts < event_count ends
  named_fewer now ends starts verdict replica event is told named are =
      stuck_fewer ends starts replica event (subst (λ (xs : List (State K)). IsStuck form xs replica event) is (subst (IsVerdict form now) named told)) are

  -- what the fault of logs that don't join says is a verdict
  pub verdict_told : (ends : List (State K)) (fault : JoinFault) (result : Result Verdict AllocError) → IsWhy form ends fault → IfOk result (Says fault) → IfOk result (IsVerdict form ends)
  verdict_told ends faults.OutOfMemory (Ok verdict) why says = absurd says
  verdict_told ends (faults.Unexplained replica event) (Ok verdict) why says = subst (IsVerdict form ends) (sym says) why
  verdict_told ends fault (Err e) why says = tt

  -- ---- a loop that puts back

  module _ (replica events : ℕ) where
    -- these were made of the ends so far
    pub record BackSoFar (all yielded left starts : List (State K)) : Type 0 where
      pub whole : all ≡ yielded ++ left
      pub each : AllZip (IsPutBack form replica events) yielded starts

    pub back_begin : (all left : List (State K)) → left ≡ all → BackSoFar all [] left []
    back_begin all left e = record { whole = sym e; each = tt }

    pub back_more : (all yielded left next starts : List (State K)) (end start : State K) → BackSoFar all yielded left starts → left ≡ end ∷ next → IsPutBack form replica events end start
        → BackSoFar all (yielded ++ end ∷ []) next (starts ++ start ∷ [])
    back_more all yielded left next starts end start so taken is = record {
      whole = so.whole ∙ (ap (λ (rest : List (State K)). yielded ++ rest) taken ∙ sym (append_assoc yielded (end ∷ []) next));
      each = AllZip-push (IsPutBack form replica events) yielded starts end start so.each is;
    }

    pub back_end : (all yielded left starts : List (State K)) → BackSoFar all yielded left starts → left ≡ [] → AllZip (IsPutBack form replica events) all starts
    back_end all yielded left starts so none = rw (so.whole, none, append-nil yielded) so.each
