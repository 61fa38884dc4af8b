-- lists of files that are lacking
use Rattle.std.proofs.Common.{◌≡◌, ◌⊎◌, ◌+◌, ◌≤◌, ◌<◌, inl, inr, ℕ, Bool, true, false, List, length, get_or, is_some, IsTrue, Option, None, Some, refl, sym, ap, subst, ◌∙◌, ◌||◌}
use Rattle.std.proofs.lemmas.Map.Text.{is_eq-slice_cmp}
use Rattle.std.proofs.lemmas.Slice.Eq.{bytes_eq-Decides}
use Rattle.std.specs.Cmp.Lexicographic.{slice_cmp}
use Rattle.std.specs.List.{AllWithin}
use Rattle.std.specs.Ordering.{is_eq, nat_cmp}
use Rattle.mr_folder.specs.Inside.{stored_path}
use Rattle.mr_folder.specs.Tree.{Tree}
use Rattle.mr_sync.proofs.Names.{AllWithin-more, Frame, get_or_default, some_is}
use Rattle.mr_sync.specs.Named.{FrameNeeds, HasOrLists, HasOrListsOf, is_listed}
use Rattle.mr_sync.specs.Taken.{AllStay}

-- what is there or on the list is so where the files are the same, and the list has no less
pub lists_on : (digest : List ℕ) (old new : Tree) (before after : List (List ℕ)) → new ≡ old → AllStay before after → HasOrLists old before digest → HasOrLists new after digest
lists_on digest old new before after same stay (inl there) = inl (subst (λ t. IsTrue (is_some (t (stored_path digest)))) (sym same) there)
lists_on digest old new before after same stay (inr on) = inr (stay digest on)

-- one frame more
pub lists_more : (frames : List Frame) (i : ℕ) (frame : Frame) (old new : Tree) (before after : List (List ℕ)) → new ≡ old → AllStay before after → AllWithin (HasOrListsOf old before) frames 0 i → i < length frames → frame ≡ get_or frames i frame → HasOrListsOf new after frame →
    AllWithin (HasOrListsOf new after) frames 0 (i + 1)
lists_more frames i frame old new before after same stay so_far within is one =
    AllWithin-more (HasOrListsOf new after) frames 0 i (λ k d low lt digest needs. lists_on digest old new before after same stay (so_far k d low lt digest needs))
    (λ d. subst (HasOrListsOf new after) (is ∙ get_or_default frames i frame d within) one)

-- what is put on a list is on it, and so is what was
pub listed_now : (digest : List ℕ) (before after : List (List ℕ)) → ((other : List ℕ) → is_listed after other ≡ (is_listed before other || is_eq (slice_cmp nat_cmp digest other))) → IsTrue (is_listed after digest)
listed_now digest before after puts = puts digest ∙ last (is_listed before digest) _ (is_eq-slice_cmp digest digest ∙ (bytes_eq-Decides digest digest).1 refl)
  where
    last : (a b : Bool) → b ≡ true → (a || b) ≡ true
    last true b is = refl
    last false b is = is

pub listed_still : (digest : List ℕ) (before after : List (List ℕ)) → ((other : List ℕ) → is_listed after other ≡ (is_listed before other || is_eq (slice_cmp nat_cmp digest other))) → AllStay before after
listed_still digest before after puts = λ other on. puts other ∙ ap (λ b. b || is_eq (slice_cmp nat_cmp digest other)) on

-- the one file that a frame needs is on the list, or is there; or it needs none
pub needs_one : (tree : Tree) (lacking : List (List ℕ)) (f : Frame) (digest : List ℕ) → ((other : List ℕ) → FrameNeeds f other → ◌≡◌ {A = Option (List ℕ)} (Some digest) (Some other)) → HasOrLists tree lacking digest → HasOrListsOf tree lacking f
needs_one tree lacking f digest needed is = λ other needs. subst (HasOrLists tree lacking) (some_is digest other (needed other needs)) is

pub needs_none : (tree : Tree) (lacking : List (List ℕ)) (f : Frame) → ((other : List ℕ) → FrameNeeds f other → ◌≡◌ {A = Option (List ℕ)} None (Some other)) → HasOrListsOf tree lacking f
needs_none tree lacking f needed = λ other needs. absurd (no other (needed other needs))
  where
    no : (other : List ℕ) → ◌≡◌ {A = Option (List ℕ)} None (Some other) → ⊥
    no other e = cc
