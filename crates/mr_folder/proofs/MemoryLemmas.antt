-- steps in memory, and what a crash leaves of them
use Rattle.std.proofs.Common.{◌≡◌, ◌≢◌, ◌⊎◌, inl, inr, ⊎_elim, ℕ, suc, ◌-◌, ◌≤◌, true, false, if◌then◌else◌, List, ◌∷◌, length, Some, None, Result, Ok, Err, is_ok, OnOk, refl, sym, ap, ◌∙◌, subst, arith}
use Rattle.mr_folder.proofs.Names.{Follows, Goes, HasSame, IsUntouched, Left, LeftSince, Links, MayGo, MayLeave, MayLink, MayMove, Moves, NoneOr, OnlyAt}
use Rattle.mr_folder.proofs.Names.{Passes, Puts, Step, Syncs, SyncsPath, Tree, bytes_decides, bytes_eq, false_from_ne_true, only_now, steps_of, tree_of}
use Rattle.mr_folder.specs.declared.memory.MemoryTree.{MemoryTree}
use Rattle.mr_folder.proofs.ShowLemmas.{link_none}

-- one more step
one_more : (step : Step) (old : List Step) → Passes (length old) (length (step ∷ old)) (LeftSince old) (LeftSince (step ∷ old)) (MayLeave (step ∷ old))
one_more step old = record {
  later = omega arith;
  no_more = λ t c le left. earlier c (length old - t) (subst (λ n. Left n (step ∷ old) c) (longer t le) left);
  no_less = λ t c le left. subst (λ n. Left n (step ∷ old) c) (sym (longer t le)) (inr left);
}
  where
    longer : (t : ℕ) → t ≤ length old → length (step ∷ old) - t ≡ suc (length old - t)
    longer t le = omega arith

    earlier : (c : Tree) (n : ℕ) → Left (suc n) (step ∷ old) c → Left n old c ⊎ MayLeave (step ∷ old) c
    earlier c n (inl may) = inr may
    earlier c n (inr left) = inl left

-- and none
no_more_steps : (old : List Step) → Passes (length old) (length old) (LeftSince old) (LeftSince old) (MayLeave old)
no_more_steps old = record {
  later = omega arith;
  no_more = λ t c le left. inl left;
  no_less = λ t c le left. left;
}

-- a call that makes a step, or fails and makes none
pub write_time : {U E : Type 0} (r : Result U E) (step : Step) (old new : List Step) → new ≡ (if is_ok r then step ∷ old else old) → Passes (length old) (length new) (LeftSince old) (LeftSince new) (MayLeave new)
write_time (Ok u) step old new is = subst (λ l. Passes (length old) (length l) (LeftSince old) (LeftSince l) (MayLeave l)) (sym is) (one_more step old)
write_time (Err e) step old new is = subst (λ l. Passes (length old) (length l) (LeftSince old) (LeftSince l) (MayLeave l)) (sym is) (no_more_steps old)

pub write_files : {U E : Type 0} (R : Tree → Tree → Type 0) (r : Result U E) (step : Step) (old new : List Step) → ((t : Tree) → R t t) → R (tree_of old) (tree_of (step ∷ old)) → new ≡ (if is_ok r then step ∷ old else old) → R (tree_of old) (tree_of new)
write_files R (Ok u) step old new none does is = subst (λ l. R (tree_of old) (tree_of l)) (sym is) does
write_files R (Err e) step old new none does is = subst (λ l. R (tree_of old) (tree_of l)) (sym is) (none (tree_of old))

pub write_crash : {U E : Type 0} (R : Tree → Tree → Type 0) (r : Result U E) (step : Step) (old new : List Step) → ((t : Tree) → R t t) → Follows R (MayLeave old) (MayLeave (step ∷ old)) → new ≡ (if is_ok r then step ∷ old else old) → Follows R (MayLeave old) (MayLeave new)
write_crash R (Ok u) step old new none does is = subst (λ l. Follows R (MayLeave old) (MayLeave l)) (sym is) does
write_crash R (Err e) step old new none does is = subst (λ l. Follows R (MayLeave old) (MayLeave l)) (sym is) (λ c may. (c, may, none c))

-- a path is itself, and no other
same_path : (p : List ℕ) → bytes_eq p p ≡ true
same_path p = (bytes_decides p p).1 refl

other_path : (p q : List ℕ) → p ≢ q → bytes_eq p q ≡ false
other_path p q apart = false_from_ne_true (bytes_eq p q) (λ is. apart ((bytes_decides p q).0 is))

-- what each step does to the files
pub put_only : (at bytes : List ℕ) (old : List Step) → OnlyAt at (tree_of old) (tree_of (Puts at bytes ∷ old))
put_only at bytes old = λ other apart. let no = other_path other at apart in rw no refl

pub put_there : (at bytes : List ℕ) (old : List Step) → tree_of (Puts at bytes ∷ old) at ≡ Some bytes
put_there at bytes old = let yes = same_path at in rw yes refl

pub moved : (from to : List ℕ) (old : List Step) → tree_of (Moves from to ∷ old) to ≡ tree_of old from
moved from to old = let yes = same_path to in rw yes refl

pub moved_away : (from to : List ℕ) (old : List Step) → from ≢ to → tree_of (Moves from to ∷ old) from ≡ None
moved_away from to old apart = let no = other_path from to apart in let yes = same_path from in rw (no, yes) refl

pub move_does : (from to : List ℕ) (old : List Step) → MayMove from to (tree_of old) (tree_of (Moves from to ∷ old))
move_does from to old = record {
  source = elim (bytes_eq from to) as (λ b. ((if b then tree_of old from else (if bytes_eq from from then None else tree_of old from)) ≡ tree_of old from) ⊎ ((if b then tree_of old from else (if bytes_eq from from then None else tree_of old from)) ≡ None)) [
    | true ↦ inl refl
    | false ↦ inr (let yes = same_path from in rw yes refl)
  ];
  target = inr (moved from to old);
  only = λ other a b. let no = other_path other to b in let none = other_path other from a in rw (no, none) refl;
}

pub linked : (from to : List ℕ) (old : List Step) → tree_of (Links from to ∷ old) to ≡ tree_of old from
linked from to old = let yes = same_path to in rw yes refl

pub link_does : (from to : List ℕ) (old : List Step) → tree_of old to ≡ None → MayLink from to (tree_of old) (tree_of (Links from to ∷ old))
link_does from to old free = record {
  target = inr (free, linked from to old);
  only = λ other apart. let no = other_path other to apart in rw no refl;
}

pub gone : (at : List ℕ) (old : List Step) → tree_of (Goes at ∷ old) at ≡ None
gone at old = let yes = same_path at in rw yes refl

pub go_does : (at : List ℕ) (old : List Step) → MayGo at (tree_of old) (tree_of (Goes at ∷ old))
go_does at old = record {
  place = inr (gone at old);
  only = λ other apart. let no = other_path other at apart in rw no refl;
}

-- calls that write nothing
abbrev pub Untouched : MemoryTree → MemoryTree → Type 0
Untouched old new = IsUntouched {F = MemoryTree} (λ m. tree_of (steps_of m)) (λ m. MayLeave (steps_of m)) (λ m. length (steps_of m)) (λ m t c. LeftSince (steps_of m) t c) old new

pub untouched : (old new : MemoryTree) → steps_of new ≡ steps_of old → Untouched old new
untouched old new is = record {
  same = ap tree_of is;
  no_more = λ c left. subst (λ l. MayLeave l c) is left;
  moments = record {
    later = let long = ap length is in omega arith;
    each = λ c left. only_now (steps_of old) c (subst (λ l. LeftSince l (length (steps_of old)) c) is left);
    before = λ t c le left. inl (subst (λ l. LeftSince l t c) is left);
  };
}

-- a sync, after which a crash leaves no more than before
pub untouched_by : (step : Step) (old new : MemoryTree) → tree_of (step ∷ steps_of old) ≡ tree_of (steps_of old) → ((c : Tree) → MayLeave (step ∷ steps_of old) c → MayLeave (steps_of old) c) → steps_of new ≡ step ∷ steps_of old → Untouched old new
untouched_by step old new same narrow is = record {
  same = ap tree_of is ∙ same;
  no_more = λ c left. narrow c (subst (λ l. MayLeave l c) is left);
  moments = record {
    later = let long = ap length is in omega arith;
    each = λ c left. here c (subst (λ l. LeftSince l (length (steps_of old)) c) is left);
    before = λ t c le left. earlier t c le (subst (λ l. LeftSince l t c) is left);
  };
}
  where
    earlier : (t : ℕ) (c : Tree) → t ≤ length (steps_of old) → LeftSince (step ∷ steps_of old) t c → LeftSince (steps_of old) t c ⊎ MayLeave (steps_of old) c
    earlier t c le left = ⊎_elim (λ before. inl before) (λ now. inr (narrow c now)) ((one_more step (steps_of old)).no_more t c le left)

    here : (c : Tree) → LeftSince (step ∷ steps_of old) (length (steps_of old)) c → MayLeave (steps_of old) c
    here c left = ⊎_elim (only_now (steps_of old) c) (λ may. may) (earlier (length (steps_of old)) c (omega arith) left)

pub sync_untouched : {U E : Type 0} (r : Result U E) (at : List ℕ) (old new : MemoryTree) → steps_of new ≡ (if is_ok r then Syncs at ∷ steps_of old else steps_of old) → Untouched old new
sync_untouched (Ok u) at old new is = untouched_by (Syncs at) old new refl (λ c may. subst (MayLeave (steps_of old)) (sym may.2.0) may.1) is
sync_untouched (Err e) at old new is = untouched old new is

pub sync_path_untouched : {U E : Type 0} (r : Result U E) (at : List ℕ) (old new : MemoryTree) → steps_of new ≡ (if is_ok r then SyncsPath at ∷ steps_of old else steps_of old) → Untouched old new
sync_path_untouched (Ok u) at old new is = untouched_by (SyncsPath at) old new refl (λ c may. subst (MayLeave (steps_of old)) (sym may.2.0) may.1) is
sync_path_untouched (Err e) at old new is = untouched old new is

pub synced : (at : List ℕ) (old new : List Step) → new ≡ Syncs at ∷ old → NoneOr at (tree_of old at) (MayLeave new)
synced at old new is = subst (λ l. NoneOr at (tree_of old at) (MayLeave l)) (sym is) (λ c may. may.2.1)

-- what a step does, where the call made it
pub write_ok : {U E : Type 0} (Q : List Step → Type 0) (r : Result U E) (step : Step) (old new : List Step) → Q (step ∷ old) → new ≡ (if is_ok r then step ∷ old else old) → OnOk r (Q new)
write_ok Q (Ok u) step old new does is = subst Q (sym is) does
write_ok Q (Err e) step old new does is = tt

pub link_files : {U E : Type 0} (r : Result U E) (from to : List ℕ) (old new : List Step) → OnOk r (tree_of old to ≡ None) → new ≡ (if is_ok r then Links from to ∷ old else old) → MayLink from to (tree_of old) (tree_of new)
link_files (Ok u) from to old new free is = subst (λ l. MayLink from to (tree_of old) (tree_of l)) (sym is) (link_does from to old free)
link_files (Err e) from to old new free is = subst (λ l. MayLink from to (tree_of old) (tree_of l)) (sym is) (link_none from to (tree_of old))
