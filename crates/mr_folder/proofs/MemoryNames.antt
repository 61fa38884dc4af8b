-- what is found of files in memory, and their names in the store
use Rattle.std.proofs.Common.{◌≡◌, ℕ, ◌+◌, ◌<◌, Bool, true, false, if◌then◌else◌, List, [], ◌∷◌, ◌++◌, length, get_or, take, drop, map, Option, Some, None, is_some, Contains, codes, refl, sym, ap, ◌∙◌, subst, arith, ◌⊎◌, inl, inr, ⊎_elim}
use Rattle.mr_folder.proofs.Names.{Err, Global, Goes, IfOk, Links, MatchOption, Moves, Ok, Puts, Result, Step, String, Syncs, SyncsPath, TellsDigests, Tree}
use Rattle.mr_folder.proofs.Names.{Vec, at_drop_more, behind_store, bytes_decides, bytes_eq, encode_lower, false≢true, filter_map, get_or-map, length-map}
use Rattle.mr_folder.proofs.Names.{nat_eq, option_copied, starts_with, step_of, stored_name, stored_path, string_bytes, take-append-drop, target, tree_of}
use Rattle.std.specs.Borrow.{Bor}
use Rattle.std.specs.Str.Pattern.{FindsTextPrefix}
use Rattle.std.proofs.lemmas.Str.Pattern.{starts_text}
use Rattle.mr_folder.specs.Memory.{after}
use Rattle.mr_folder.specs.declared.memory.Change.{Change}
use Rattle.mr_folder.proofs.HeldLemmas.{from_filter_map, to_filter_map, first_among, more_among}

-- what behind_store gives stands behind the store's folder
behind : (path name : List ℕ) → behind_store path ≡ Some name → path ≡ codes ".mailfold/files/" ++ name
behind path name is = go (starts_with nat_eq path (codes ".mailfold/files/")) refl is
  where
    go : (b : Bool) → starts_with nat_eq path (codes ".mailfold/files/") ≡ b → (if b then Some (drop 16 path) else None) ≡ Some name → path ≡ codes ".mailfold/files/" ++ name
    go true starts some =
        let front : codes ".mailfold/files/" ≡ take 16 path = (bytes_decides (codes ".mailfold/files/") (take 16 path)).0 starts in
        let rest : drop 16 path ≡ name = cc in
        sym (take-append-drop 16 path) ∙ (ap (λ l. l ++ drop 16 path) (sym front) ∙ ap (λ l. codes ".mailfold/files/" ++ l) rest)
    go false starts none = absurd (cc)

-- a file that is there has been put there by some step
put_by : (step : Step) (tree : Tree) (path : List ℕ) → is_some (after step tree path) ≡ true → (path ≡ target step) ⊎ (is_some (tree path) ≡ true)
put_by (Puts at bytes) tree path there = elim (bytes_eq path at) as (λ b. bytes_eq path at ≡ b → is_some (if b then Some bytes else tree path) ≡ true → (path ≡ at) ⊎ (is_some (tree path) ≡ true)) [ true ↦ λ is _. inl ((bytes_decides path at).0 is) | false ↦ λ _ before. inr before ] refl there
put_by (Moves from to) tree path there = elim (bytes_eq path to) as (λ b. bytes_eq path to ≡ b → is_some (if b then tree from else (if bytes_eq path from then None else tree path)) ≡ true → (path ≡ to) ⊎ (is_some (tree path) ≡ true)) [
  | true ↦ λ is _. inl ((bytes_decides path to).0 is)
  | false ↦ λ _ rest. elim (bytes_eq path from) as (λ b. is_some (if b then None else tree path) ≡ true → (path ≡ to) ⊎ (is_some (tree path) ≡ true)) [ true ↦ λ none. absurd (false≢true none) | false ↦ λ before. inr before ] rest
] refl there
put_by (Links from to) tree path there = elim (bytes_eq path to) as (λ b. bytes_eq path to ≡ b → is_some (if b then tree from else tree path) ≡ true → (path ≡ to) ⊎ (is_some (tree path) ≡ true)) [ true ↦ λ is _. inl ((bytes_decides path to).0 is) | false ↦ λ _ before. inr before ] refl there
put_by (Goes at) tree path there = elim (bytes_eq path at) as (λ b. is_some (if b then None else tree path) ≡ true → (path ≡ at) ⊎ (is_some (tree path) ≡ true)) [ true ↦ λ none. absurd (false≢true none) | false ↦ λ before. inr before ] there
put_by (Syncs at) tree path there = inr there
put_by (SyncsPath at) tree path there = inr there

among_targets : (steps : List Step) (path : List ℕ) → is_some (tree_of steps path) ≡ true → Contains (map target steps) path
among_targets [] path there = absurd (false≢true there)
among_targets (step ∷ before) path there =
    ⊎_elim
    (λ same. subst (λ p. Contains (p ∷ map target before) path) same (first_among path (map target before)))
    (λ earlier. more_among (target step) path (map target before) (among_targets before path earlier))
    (put_by step (tree_of before) path there)

-- the names of the files that are there tell which digests the store has
pub names_tell : (steps : List Step) (names : List (List ℕ)) → names ≡ filter_map (stored_name (tree_of steps)) (map target steps) → TellsDigests (tree_of steps) names
names_tell steps names are = λ digest is. (
  λ among.
      let found = from_filter_map (stored_name (tree_of steps)) (map target steps) (encode_lower digest) (subst (λ l. Contains l (encode_lower digest)) are among) in
      there digest found.0 (is_some (tree_of steps found.0)) refl found.2,
  λ has.
      let name : stored_name (tree_of steps) (stored_path digest) ≡ Some (encode_lower digest) = ap (λ b. if b then behind_store (stored_path digest) else None) has in
      subst (λ l. Contains l (encode_lower digest)) (sym are) (to_filter_map (stored_name (tree_of steps)) (map target steps) (stored_path digest) (encode_lower digest) (among_targets steps (stored_path digest) has) name),
)
  where
    there : (digest path : List ℕ) (b : Bool) → is_some (tree_of steps path) ≡ b → (if b then behind_store path else None) ≡ Some (encode_lower digest) → is_some (tree_of steps (stored_path digest)) ≡ true
    there digest path true some named = subst (λ p. is_some (tree_of steps p) ≡ true) (behind path (encode_lower digest) named) some
    there digest path false none named = absurd (cc)

-- the same of what a call gives
pub names_ok : {E : Type 0} (steps : List Step) (r : Result (Vec (String Global) Global) E) → IfOk r (λ names. map (λ s. string_bytes s) names.items ≡ filter_map (stored_name (tree_of steps)) (map target steps)) → IfOk r (λ names. TellsDigests (tree_of steps) (map (λ s. string_bytes s) names.items))
names_ok steps (Ok names) are = names_tell steps (map (λ s. string_bytes s) names.items) are
names_ok steps (Err e) are = tt

-- what is found of a file by one change more
pub look_step : (changes : List Change) (i : ℕ) (change : Change) (path : List ℕ) → i < length changes → change ≡ get_or changes i change → tree_of (drop i (map step_of changes)) path ≡ after (step_of change) (tree_of (drop (i + 1) (map step_of changes))) path
look_step changes i change path lt is =
    let long = length-map changes step_of in
    at_drop_more (λ l. tree_of l path) (map step_of changes) i (step_of change) (omega arith)
    ∙ ap (λ s. after s (tree_of (drop (i + 1) (map step_of changes))) path) (get_or-map step_of changes i change ∙ ap step_of (sym is))

-- the path at which one change more may put a file
pub target_at : (changes : List Change) (i : ℕ) (change : Change) → i < length changes → change ≡ get_or changes i change → get_or (map target (map step_of changes)) i (target (step_of change)) ≡ target (step_of change)
target_at changes i change lt is = get_or-map target (map step_of changes) i (step_of change) ∙ ap target (get_or-map step_of changes i change ∙ ap step_of (sym is))

-- what `strip_prefix` gives
pub behind-strip_prefix : (path : List ℕ) (r : Option (Bor (List ℕ))) → MatchOption r (FindsTextPrefix (codes ".mailfold/files/") path None) (λ x. (n : ℕ) × FindsTextPrefix (codes ".mailfold/files/") path (Some n) × (x.now ≡ drop n path) × (length x.now + n ≡ length path)) → option_copied r ≡ behind_store path
behind-strip_prefix path None h = ap (λ t. if t then Some (drop 16 path) else None) (starts_text false (codes ".mailfold/files/") path h)
behind-strip_prefix path (Some x) h =
    let starts : true ≡ starts_with nat_eq path (codes ".mailfold/files/") = starts_text true (codes ".mailfold/files/") path (16, (refl, h.1.1 ∙ ap (λ n. codes ".mailfold/files/" ++ drop n path) h.1.0, h.1.2), h.1.2) in
    ap Some (h.2 ∙ ap (λ n. drop n path) h.1.0) ∙ ap (λ t. if t then Some (drop 16 path) else None) starts
