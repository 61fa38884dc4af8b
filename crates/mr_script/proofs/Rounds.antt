-- the rounds of a sync, one after the other
use Rattle.std.proofs.Common.{◌≡◌, ◌+◌, ◌<◌, ◌≤◌, ℕ, cond, List, [], ◌∷◌, ◌++◌, length, Ok, Err, refl, sym, subst, arith, length-append}
use Rattle.std.proofs.lemmas.List.Sums.{sum_by_push, count_by-le-length}
use Rattle.mr_script.proofs.Names.{Cut, Form, LineFault, Rounds, Sync, SyncCounts, SyncEnd, TakesAll, WorldView, counts_of, counts_with, is_item, is_move_out}
use Rattle.mr_script.proofs.Names.{most_of, round}
use Rattle.mr_script.specs.declared.sync.Round.TheVariants.{Taken, Ended}
use Rattle.mr_script.specs.declared.sync.Told.{Told}
use Rattle.mr_script.specs.declared.sync.Told.TheVariants as told
use Rattle.mr_script.specs.Sync.Rounds.{ended, enough, fails}

same_counts : (a b c d : ℕ) → a ≡ b → c ≡ d → ◌≡◌ {A = SyncCounts} (record { items = a; move_outs = c }) (record { items = b; move_outs = d })
same_counts a b c d e f = cc

-- one record more is counted
pub counted_more : (taken : List Told) (t : Told) → counts_with (counts_of taken) t ≡ counts_of (taken ++ t ∷ [])
counted_more taken told.Item =
    same_counts _ _ _ _ (sym (sum_by_push (λ x. cond (is_item x) 1 0) taken told.Item))
    (let more = sum_by_push (λ x. cond (is_move_out x) 1 0) taken told.Item in omega (arith, more))
counted_more taken told.MoveOut =
    same_counts _ _ _ _ (let more = sum_by_push (λ x. cond (is_item x) 1 0) taken told.MoveOut in omega (arith, more))
    (sym (sum_by_push (λ x. cond (is_move_out x) 1 0) taken told.MoveOut))
counted_more taken told.Other =
    same_counts _ _ _ _ (let more = sum_by_push (λ x. cond (is_item x) 1 0) taken told.Other in omega (arith, more))
    (let more = sum_by_push (λ x. cond (is_move_out x) 1 0) taken told.Other in omega (arith, more))

module _ {K : Type 0} (form : Form K) (sync : Sync) (stream : ℕ) where
  -- one round more
  pub takes_more : (w mid w' : WorldView K) (taken : List Told) (t : Told) → TakesAll form sync stream w taken mid → round form sync stream mid (Ok (Taken t)) w' → TakesAll form sync stream w (taken ++ t ∷ []) w'
  takes_more w mid w' [] t h more = (w', subst (λ (v : WorldView K). round form sync stream v (Ok (Taken t)) w') h more, refl)
  takes_more w mid w' (x ∷ later) t h more = (h.0, h.1, takes_more h.0 mid w' later t h.2 more)

  -- so many rounds took records, which are counted
  pub record RoundsSoFar (w now : WorldView K) (number : ℕ) (counts : SyncCounts) : Type 0 where
    pub taken : List Told
    pub all : TakesAll form sync stream w taken now
    pub count : number ≡ length taken
    pub counts_are : counts ≡ counts_of taken

  pub rounds_begin : (w : WorldView K) → RoundsSoFar w w 0 (counts_of [])
  rounds_begin w = record { taken = []; all = refl; count = refl; counts_are = refl }

  module _ (w now : WorldView K) (number : ℕ) (counts : SyncCounts) (so : RoundsSoFar w now number counts) where
    -- fewer are counted than rounds took
    pub few_items : counts.items ≤ number
    few_items = rw (so.counts_are, so.count) (count_by-le-length is_item so.taken)

    pub few_move_outs : counts.move_outs ≤ number
    few_move_outs = rw (so.counts_are, so.count) (count_by-le-length is_move_out so.taken)

    -- one more
    pub rounds_more : (new : WorldView K) (t : Told) → round form sync stream now (Ok (Taken t)) new → RoundsSoFar w new (number + 1) (counts_with counts t)
    rounds_more new t h = record {
      taken = so.taken ++ t ∷ [];
      all = takes_more w now new so.taken t so.all h;
      count = omega (arith, so.count, length-append so.taken (t ∷ []));
      counts_are = rw so.counts_are (counted_more so.taken t);
    }

    -- the last one
    pub rounds_ended : (new : WorldView K) (end : SyncEnd) → number < most_of sync → round form sync stream now (Ok (Ended end)) new → Rounds form sync stream w (Ok (record { counts = counts; end = end })) new
    rounds_ended new end within h = rw so.counts_are (ended so.taken so.all (rw so.count at within) h)

    -- as many as may be
    pub rounds_enough : number ≡ most_of sync → Rounds form sync stream w (Ok (record { counts = counts; end = Cut })) now
    rounds_enough all = rw so.counts_are (enough so.taken so.all (rw so.count at all))

    -- one that fails
    pub rounds_failed : (new : WorldView K) (fault : LineFault) → number < most_of sync → round form sync stream now (Err fault) new → Rounds form sync stream w (Err fault) new
    rounds_failed new fault within h = fails so.taken so.all (rw so.count at within) h
