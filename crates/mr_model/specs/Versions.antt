-- Versions, the list of all that was issued, and what a version supersedes.
use Rattle.std.specs.Prelude.{◌≡◌, ◌≢◌, ℕ, ◌+◌, ◌==◌, Bool, false, ◌&&◌, ◌||◌, if◌then◌else◌, IsTrue, List, [], ◌∷◌, ◌++◌}
use Rattle.std.specs.List.{list_any}
use Rattle.mr_version.specs.Name.{Name, name_eq}
pub use Rattle.mr_version.specs.Sets.{Versions, nothing, is_before}

-- v is w
abbrev pub is : Name → Name → Bool
is v w = name_eq v w

-- ---- the issue list

-- what an author issued: a version of an item, the versions that it was based on, and its message
pub record Issue (M : Type 0) : Type 0 where
  pub version : Name
  pub item : Name
  pub bases : List Name
  pub message : M

-- The issue list has the newest first: what stands behind an issue was issued before it.

-- v is the version of some issue
abbrev pub is_issued : {M : Type 0} → List (Issue M) → Versions
is_issued [] v = false
is_issued (x ∷ earlier) v = is x.version v || is_issued earlier v

-- v was issued
abbrev pub IsIssued : {M : Type 0} → List (Issue M) → Name → Type 0
IsIssued issues v = IsTrue (is_issued issues v)

-- the item of an issued version
abbrev pub item_of : {M : Type 0} → List (Issue M) → Name → Name
item_of [] v = v
item_of (x ∷ earlier) v = if is x.version v then x.item else item_of earlier v

-- how many versions the author issued
abbrev pub issue_count : {M : Type 0} → List (Issue M) → (author : ℕ) → ℕ
issue_count [] author = 0
issue_count (x ∷ earlier) author = if x.version.author == author then issue_count earlier author + 1 else issue_count earlier author

-- the last version of the item that the author issued, if there is one
abbrev pub last_own : {M : Type 0} → List (Issue M) → (author : ℕ) → (item : Name) → List Name
last_own [] author item = []
last_own (x ∷ earlier) author item =
    if (x.version.author == author) && is x.item item then x.version ∷ [] else last_own earlier author item

-- ---- supersession

-- what an issue replaces: its bases, and its author's last version of the item before it
abbrev pub replacements : {M : Type 0} → List (Issue M) → Issue M → List Name
replacements earlier x = x.bases ++ last_own earlier x.version.author x.item

-- w replaces b
abbrev pub replaces : {M : Type 0} → List (Issue M) → (w b : Name) → Bool
replaces [] w b = false
replaces (x ∷ earlier) w b = if is x.version w then list_any (λ c. is c b) (replacements earlier x) else replaces earlier w b

-- what w was made with, all that it supersedes: what it replaces, and what those were made with
abbrev pub made_with : {M : Type 0} → List (Issue M) → Name → Versions
made_with [] w v = false
made_with (x ∷ earlier) w v =
    if is x.version w then list_any (λ b. is b v || made_with earlier b v) (replacements earlier x) else made_with earlier w v

-- w supersedes v
abbrev pub Supersedes : {M : Type 0} → List (Issue M) → (w v : Name) → Type 0
Supersedes issues w v = IsTrue (made_with issues w v)

-- some issued version supersedes v
abbrev pub is_superseded : {M : Type 0} → List (Issue M) → Versions
is_superseded issues v = list_any (λ x. made_with issues x.version v) issues

-- v is superseded
abbrev pub IsSuperseded : {M : Type 0} → List (Issue M) → Name → Type 0
IsSuperseded issues v = IsTrue (is_superseded issues v)

-- two issued versions of one item, of which neither supersedes the other
pub record Conflicts {M : Type 0} (issues : List (Issue M)) (v w : Name) : Type 0 where
  pub first_issued : IsIssued issues v
  pub second_issued : IsIssued issues w
  pub one_item : item_of issues v ≡ item_of issues w
  pub differ : v ≢ w
  pub not_first : ¬ Supersedes issues v w
  pub not_second : ¬ Supersedes issues w v

-- ---- the issues in the order of their versions

-- x put before the first issue with a later version
abbrev pub insert_in_order : {M : Type 0} → Issue M → List (Issue M) → List (Issue M)
insert_in_order x [] = x ∷ []
insert_in_order x (y ∷ ys) = if is_before x.version y.version then x ∷ y ∷ ys else y ∷ insert_in_order x ys

-- all issues by rising versions
abbrev pub in_version_order : {M : Type 0} → List (Issue M) → List (Issue M)
in_version_order [] = []
in_version_order (x ∷ earlier) = insert_in_order x (in_version_order earlier)
