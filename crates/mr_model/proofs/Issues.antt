-- Supersession over an issue list in which each version is new, and each base was issued before.
use Rattle.std.proofs.Common.{◌≡◌, refl, sym, ap, subst, ◌∙◌, ℕ, ◌+◌, ◌<◌, ◌≤◌, ◌==◌, ◌||◌, ◌&&◌, List, [], ◌∷◌, ◌⊎◌, inl, inr, IsTrue, IsFalse, arith, eqb-true, eq-eqb}
use Rattle.mr_model.proofs.Names.{HoldsOfReplaced, IsTransitive, Issue, Name, Versions, and_from, and_parts, both_ways, eqb-false, is, is_issued}
use Rattle.mr_model.proofs.Names.{is_superseded, issue_count, item_of, last_own, list_any, made_with, replacements, replaces, ⊤}
use Rattle.mr_model.proofs.Basics.{In, cases, or_parts, or_left, or_right, is_refl, is_path, is_from, any_elim, any_intro, in_append, append_right}

-- the item of x was issued before it and is its own item; or x creates its item
abbrev pub HasItem : {M : Type 0} → List (Issue M) → Issue M → Type 0
HasItem earlier x = (x.item ≡ x.version) ⊎ (IsTrue (is_issued earlier x.item) × (item_of earlier x.item ≡ x.item))

pub record IsIssuable {M : Type 0} (earlier : List (Issue M)) (x : Issue M) : Type 0 where
  pub counter : x.version.counter ≡ issue_count earlier x.version.author + 1
  pub later : (v : Name) → IsTrue (is_issued earlier v) → v.author ≡ x.version.author → v.counter < x.version.counter
  pub bases_issued : (b : Name) → In b x.bases → IsTrue (is_issued earlier b)
  pub bases_item : (b : Name) → In b x.bases → item_of earlier b ≡ x.item
  pub item : HasItem earlier x

abbrev pub IsIssueList : {M : Type 0} → List (Issue M) → Type 0
IsIssueList [] = ⊤
IsIssueList (x ∷ earlier) = IsIssuable earlier x × IsIssueList earlier

pub made_new : {M : Type 0} (x : Issue M) (e : List (Issue M)) (w v : Name) → IsTrue (is x.version w) → made_with (x ∷ e) w v ≡ list_any (λ b. is b v || made_with e b v) (replacements e x)
made_new x e w v h = rw h refl

pub made_old : {M : Type 0} (x : Issue M) (e : List (Issue M)) (w v : Name) → IsFalse (is x.version w) → made_with (x ∷ e) w v ≡ made_with e w v
made_old x e w v h = rw h refl

pub fresh : {M : Type 0} (x : Issue M) (e : List (Issue M)) → IsIssuable e x → ¬ IsTrue (is_issued e x.version)
fresh x e ok h = let lt : x.version.counter < x.version.counter = ok.later x.version h refl in omega arith

-- a version issued before x is not x
pub not_new : {M : Type 0} (x : Issue M) (e : List (Issue M)) → IsIssuable e x → (v : Name) → IsTrue (is_issued e v) → IsFalse (is x.version v)
not_new x e ok v h = grind (arith, cases, fresh, is_path)

pub last_own-here : {M : Type 0} (x : Issue M) (e : List (Issue M)) (a : ℕ) (i : Name) → IsTrue ((x.version.author == a) && is x.item i) → last_own (x ∷ e) a i ≡ x.version ∷ []
last_own-here x e a i t = rw t refl

pub last_own-back : {M : Type 0} (x : Issue M) (e : List (Issue M)) (a : ℕ) (i : Name) → IsFalse ((x.version.author == a) && is x.item i) → last_own (x ∷ e) a i ≡ last_own e a i
last_own-back x e a i t = rw t refl

pub last_own_issued : {M : Type 0} (e : List (Issue M)) (a : ℕ) (i b : Name) → In b (last_own e a i) → IsTrue (is_issued e b)
last_own_issued [] a i b h = elim h [ ]
last_own_issued (x ∷ e) a i b h = grind (arith, last_own_issued e a i b, cases, last_own-here, or_left, is_from, or_right, last_own-back)

pub replaced_issued : {M : Type 0} (x : Issue M) (e : List (Issue M)) → IsIssuable e x → (b : Name) → In b (replacements e x) → IsTrue (is_issued e b)
replaced_issued x e ok b h = grind (arith, in_append x.bases (last_own e x.version.author x.item) b h, ok.bases_issued b, last_own_issued e x.version.author x.item b)

-- ---- what replaced and made_with say, taken apart

-- v is b, or b supersedes v
abbrev pub Reaches : {M : Type 0} → List (Issue M) → Name → Name → Type 0
Reaches e b v = (b ≡ v) ⊎ IsTrue (made_with e b v)

pub made_by : {M : Type 0} (x : Issue M) (e : List (Issue M)) (w v : Name) → IsTrue (is x.version w) → IsTrue (made_with (x ∷ e) w v) → (b : Name) × In b (replacements e x) × Reaches e b v
made_by x e w v h k = grind (arith, any_elim, made_new, or_parts, is_path)

pub made_from : {M : Type 0} (x : Issue M) (e : List (Issue M)) (w v b : Name) → IsTrue (is x.version w) → In b (replacements e x) → Reaches e b v → IsTrue (made_with (x ∷ e) w v)
made_from x e w v b h i r = grind (arith, made_new, any_intro, or_left, is_from, or_right)

-- what is in a made_with was issued, and so was what it is in the below of
pub made_issued : {M : Type 0} (issues : List (Issue M)) → IsIssueList issues → (w v : Name) → IsTrue (made_with issues w v) → IsTrue (is_issued issues w) × IsTrue (is_issued issues v)
made_issued [] ok w v h = absurd (cc)
made_issued (x ∷ e) ok w v h = grind (arith, made_issued e ok.1, made_issued e ok.1 w v, cases, made_by, or_left, or_right, replaced_issued, made_old)

-- what the newest supersedes was issued before it
pub made_before : {M : Type 0} (x : Issue M) (e : List (Issue M)) → IsIssueList (x ∷ e) → (w v : Name) → IsTrue (is x.version w) → IsTrue (made_with (x ∷ e) w v) → IsTrue (is_issued e v)
made_before x e ok w v t h = grind (arith, made_by, replaced_issued, made_issued)

-- an issue leaves what an issued version supersedes as it was
pub made_kept : {M : Type 0} (x : Issue M) (e : List (Issue M)) → IsIssuable e x → (w v : Name) → IsTrue (is_issued e w) → made_with (x ∷ e) w v ≡ made_with e w v
made_kept x e ok w v h = made_old x e w v (not_new x e ok w h)

pub made_trans : {M : Type 0} (issues : List (Issue M)) → IsIssueList issues → (w v u : Name) → IsTrue (made_with issues w v) → IsTrue (made_with issues v u) → IsTrue (made_with issues w u)
made_trans [] ok w v u h k = absurd (cc)
made_trans (x ∷ e) ok w v u h k = elim (cases (is x.version w)) [
  | inl t ↦ (let r = made_by x e w v t h in let from = made_from x e w u r.0 t r.1 in grind (arith, r.2, from, made_kept x e ok.0 v u (made_before x e ok w v t h), made_trans e ok.1 r.0 v u))
  | inr n ↦ grind (arith, made_old x e w v n, made_old x e w u n, made_kept x e ok.0 v u, made_issued e ok.1 w v, made_trans e ok.1 w v u)
]

pub made_irrefl : {M : Type 0} (issues : List (Issue M)) → IsIssueList issues → (w : Name) → ¬ IsTrue (made_with issues w w)
made_irrefl [] ok w h = absurd (cc)
made_irrefl (x ∷ e) ok w h = grind (arith, made_irrefl e ok.1 w, cases, both_ways, not_new, made_before, made_old)

pub item_here : {M : Type 0} (x : Issue M) (e : List (Issue M)) (v : Name) → IsTrue (is x.version v) → item_of (x ∷ e) v ≡ x.item
item_here x e v h = rw h refl

pub item_back : {M : Type 0} (x : Issue M) (e : List (Issue M)) (v : Name) → IsFalse (is x.version v) → item_of (x ∷ e) v ≡ item_of e v
item_back x e v h = rw h refl

-- of the author's versions of the item, the last is v or has v in its made_with
pub chain_last : {M : Type 0} (e : List (Issue M)) → IsIssueList e → (a : ℕ) (i v : Name) → IsTrue (is_issued e v) → v.author ≡ a → item_of e v ≡ i → (p : Name) × In p (last_own e a i) × Reaches e p v
chain_last [] ok a i v h ea ei = absurd (cc)
chain_last (x ∷ e) ok a i v h ea ei = elim (cases ((x.version.author == a) && is x.item i)) [
  | inl t ↦ (
    x.version,
    subst (In x.version) (sym (last_own-here x e a i t)) (inl refl),
    elim (cases (is x.version v)) [
      | inl s ↦ inl (is_path x.version v s)
      | inr n ↦ (let both = and_parts (x.version.author == a) (is x.item i) t in
          let hv : IsTrue (is_issued e v) = elim (or_parts (is x.version v) (is_issued e v) h) [ inl y ↦ absurd (both_ways (is x.version v) n y) | inr y ↦ y ] in
          let r = chain_last e ok.1 a i v hv ea (sym (item_back x e v n) ∙ ei) in
          let here : In r.0 (last_own e x.version.author x.item) = subst (λ z. In r.0 (last_own e z x.item)) (sym (eqb-true x.version.author a both.0)) (subst (λ (z : Name). In r.0 (last_own e a z)) (sym (is_path x.item i both.1)) r.1) in
          inr (made_from x e x.version v r.0 (is_refl x.version) (append_right x.bases (last_own e x.version.author x.item) r.0 here) r.2))
    ],
  )
  | inr t ↦ elim (cases (is x.version v)) [
    | inl s ↦ absurd (both_ways ((x.version.author == a) && is x.item i) t (and_from (x.version.author == a) (is x.item i)
        (eq-eqb x.version.author a (ap (λ (z : Name). z.author) (is_path x.version v s) ∙ ea)) (is_from x.item i (sym (item_here x e v s) ∙ ei))))
    | inr n ↦ (let hv : IsTrue (is_issued e v) = elim (or_parts (is x.version v) (is_issued e v) h) [ inl y ↦ absurd (both_ways (is x.version v) n y) | inr y ↦ y ] in
        let r = chain_last e ok.1 a i v hv ea (sym (item_back x e v n) ∙ ei) in (
          r.0,
          subst (In r.0) (sym (last_own-back x e a i t)) r.1,
          elim r.2 [ inl q ↦ inl q | inr q ↦ inr (subst IsTrue (sym (made_kept x e ok.0 r.0 v (last_own_issued e a i r.0 r.1))) q) ],
        ))
  ]
]

-- of an author's versions of one item, a later one has an earlier one in its made_with
pub chain : {M : Type 0} (issues : List (Issue M)) → IsIssueList issues → (v w : Name) → IsTrue (is_issued issues v) → IsTrue (is_issued issues w) → v.author ≡ w.author → item_of issues v ≡ item_of issues w → v.counter < w.counter → IsTrue (made_with issues w v)
chain [] ok v w hv hw ea ei lt = absurd (cc)
chain (x ∷ e) ok v w hv hw ea ei lt = elim (cases (is x.version w)) [
  | inl t ↦ elim (cases (is x.version v)) [
    | inl s ↦ (let same : v.counter ≡ w.counter = ap (λ (z : Name). z.counter) (sym (is_path x.version v s) ∙ is_path x.version w t) in absurd (omega arith))
    | inr n ↦ (let hv' : IsTrue (is_issued e v) = elim (or_parts (is x.version v) (is_issued e v) hv) [ inl y ↦ absurd (both_ways (is x.version v) n y) | inr y ↦ y ] in
        let r = chain_last e ok.1 x.version.author x.item v hv' (ea ∙ ap (λ (z : Name). z.author) (sym (is_path x.version w t))) (sym (item_back x e v n) ∙ (ei ∙ item_here x e w t)) in
        made_from x e w v r.0 t (append_right x.bases (last_own e x.version.author x.item) r.0 r.1) r.2)
  ]
  | inr m ↦ (let hw' : IsTrue (is_issued e w) = elim (or_parts (is x.version w) (is_issued e w) hw) [ inl y ↦ absurd (both_ways (is x.version w) m y) | inr y ↦ y ] in
      elim (cases (is x.version v)) [
        | inl s ↦ (let p : x.version ≡ v = is_path x.version v s in
            let lt' : w.counter < x.version.counter = ok.0.later w hw' (sym ea ∙ ap (λ (z : Name). z.author) (sym p)) in
            let same : x.version.counter ≡ v.counter = ap (λ (z : Name). z.counter) p in absurd (omega arith))
        | inr n ↦ (let hv' : IsTrue (is_issued e v) = elim (or_parts (is x.version v) (is_issued e v) hv) [ inl y ↦ absurd (both_ways (is x.version v) n y) | inr y ↦ y ] in
            subst IsTrue (sym (made_old x e w v m)) (chain e ok.1 v w hv' hw' ea (sym (item_back x e v n) ∙ (ei ∙ item_back x e w m)) lt))
      ])
]

-- ---- superseded

pub issue_in : {M : Type 0} (issues : List (Issue M)) (w : Name) → IsTrue (is_issued issues w) → (x : Issue M) × In x issues × (x.version ≡ w)
issue_in [] w h = absurd (cc)
issue_in (x ∷ e) w h = elim (or_parts (is x.version w) (is_issued e w) h) [ inl t ↦ (x, inl refl, is_path x.version w t) | inr k ↦ (let r = issue_in e w k in (r.0, inr r.1, r.2)) ]

pub superseded_by : {M : Type 0} (issues : List (Issue M)) → IsIssueList issues → (w v : Name) → IsTrue (made_with issues w v) → IsTrue (is_superseded issues v)
superseded_by issues ok w v h = grind (arith, issue_in, made_issued, any_intro)

pub superseded_in : {M : Type 0} (issues : List (Issue M)) (v : Name) → IsTrue (is_superseded issues v) → (w : Name) × IsTrue (made_with issues w v)
superseded_in issues v h = let r = any_elim (λ x. made_with issues x.version v) issues h in (r.0.version, r.2)

pub superseded_kept : {M : Type 0} (x : Issue M) (e : List (Issue M)) → IsIssueList (x ∷ e) → (v : Name) → IsTrue (is_superseded e v) → IsTrue (is_superseded (x ∷ e) v)
superseded_kept x e ok v h = grind (arith, superseded_in, superseded_by, made_kept, made_issued)

-- ---- what is superseded is of the same item

pub last_own_item : {M : Type 0} (e : List (Issue M)) → IsIssueList e → (a : ℕ) (i b : Name) → In b (last_own e a i) → item_of e b ≡ i
last_own_item [] ok a i b h = elim h [ ]
last_own_item (x ∷ e) ok a i b h = elim (cases ((x.version.author == a) && is x.item i)) [
  | inl t ↦ grind (arith, last_own-here x e a i t, item_here x e b, is_from x.version b, is_path x.item i, and_parts)
  | inr n ↦ (let k = subst (In b) (last_own-back x e a i n) h in item_back x e b (not_new x e ok.0 b (last_own_issued e a i b k)) ∙ last_own_item e ok.1 a i b k)
]

pub replaced_item : {M : Type 0} (x : Issue M) (e : List (Issue M)) → IsIssueList (x ∷ e) → (b : Name) → In b (replacements e x) → item_of e b ≡ x.item
replaced_item x e ok b h = elim (in_append x.bases (last_own e x.version.author x.item) b h) [ inl i ↦ ok.0.bases_item b i | inr i ↦ last_own_item e ok.1 x.version.author x.item b i ]

pub made_item : {M : Type 0} (issues : List (Issue M)) → IsIssueList issues → (w v : Name) → IsTrue (made_with issues w v) → item_of issues w ≡ item_of issues v
made_item [] ok w v h = absurd (cc)
made_item (x ∷ e) ok w v h = grind (arith, made_item e ok.1, made_item e ok.1 w v, cases, made_by, item_here, replaced_item, item_back, not_new, made_before, made_old, made_issued)

-- ---- counters and items

pub count_here : {M : Type 0} (x : Issue M) (e : List (Issue M)) (a : ℕ) → x.version.author ≡ a → issue_count (x ∷ e) a ≡ issue_count e a + 1
count_here x e a p = rw (eq-eqb x.version.author a p) refl

pub count_back : {M : Type 0} (x : Issue M) (e : List (Issue M)) (a : ℕ) → IsFalse (x.version.author == a) → issue_count (x ∷ e) a ≡ issue_count e a
count_back x e a n = rw n refl

-- the counters of what an author issued are from 1 to its count
pub counter_within : {M : Type 0} (issues : List (Issue M)) → IsIssueList issues → (v : Name) → IsTrue (is_issued issues v) → (1 ≤ v.counter) × (v.counter ≤ issue_count issues v.author)
counter_within [] ok v h = absurd (cc)
counter_within (x ∷ e) ok v h = grind (arith, counter_within e ok.1 v, or_parts, is_path, count_here, cases, eqb-true, count_back)

pub later_from_count : {M : Type 0} (issues : List (Issue M)) → IsIssueList issues → (a c : ℕ) → c ≡ issue_count issues a + 1 → (v : Name) → IsTrue (is_issued issues v) → v.author ≡ a → v.counter < c
later_from_count issues ok a c e v h p = grind (arith, counter_within)

-- each counter from 1 to an author's count was issued
pub counter_issued : {M : Type 0} (issues : List (Issue M)) → IsIssueList issues → (v : Name) → 1 ≤ v.counter → v.counter ≤ issue_count issues v.author → IsTrue (is_issued issues v)
counter_issued [] ok v low high = absurd (omega arith)
counter_issued (x ∷ e) ok v low high = grind (arith, counter_issued e ok.1 v low, cases, or_right, count_back, eqb-true, count_here, or_left, is_from, eqb-false)

-- the item of an issued version was issued, and is its own item
pub item_is_issued : {M : Type 0} (issues : List (Issue M)) → IsIssueList issues → (v : Name) → IsTrue (is_issued issues v) → IsTrue (is_issued issues (item_of issues v)) × (item_of issues (item_of issues v) ≡ item_of issues v)
item_is_issued [] ok v h = absurd (cc)
item_is_issued {M} (x ∷ e) ok v h = grind (arith, item_is_issued e ok.1 v, cases, item_here, or_parts, both_ways, item_back, or_right, not_new, is_from, or_left)

-- ---- made_with is the closure of replaces

pub replaces_here : {M : Type 0} (x : Issue M) (e : List (Issue M)) (w b : Name) → IsTrue (is x.version w) → replaces (x ∷ e) w b ≡ list_any (λ c. is c b) (replacements e x)
replaces_here x e w b t = rw t refl

pub replaces_back : {M : Type 0} (x : Issue M) (e : List (Issue M)) (w b : Name) → IsFalse (is x.version w) → replaces (x ∷ e) w b ≡ replaces e w b
replaces_back x e w b n = rw n refl

pub replaces_issued : {M : Type 0} (issues : List (Issue M)) (w b : Name) → IsTrue (replaces issues w b) → IsTrue (is_issued issues w)
replaces_issued [] w b h = absurd (cc)
replaces_issued (x ∷ e) w b h = grind (arith, replaces_issued e w b, cases, or_left, or_right, replaces_back)

-- what is replaced is superseded
pub made_with_replaced : {M : Type 0} (issues : List (Issue M)) (w b : Name) → IsTrue (replaces issues w b) → IsTrue (made_with issues w b)
made_with_replaced [] w b h = absurd (cc)
made_with_replaced (x ∷ e) w b h = elim (cases (is x.version w)) [
  | inl t ↦ (let r = any_elim (λ c. is c b) (replacements e x) (subst IsTrue (replaces_here x e w b t) h) in made_from x e w b r.0 t r.1 (inl (is_path r.0 b r.2)))
  | inr n ↦ subst IsTrue (sym (made_old x e w b n)) (made_with_replaced e w b (subst IsTrue (replaces_back x e w b n) h))
]

-- a transitive relation that holds of what is replaced holds of what is superseded
pub made_with_least : {M : Type 0} (issues : List (Issue M)) → IsIssueList issues → (R : Name → Versions) → HoldsOfReplaced issues R → IsTransitive R → (w v : Name) → IsTrue (made_with issues w v) → IsTrue (R w v)
made_with_least [] ok R one more w v h = absurd (cc)
made_with_least (x ∷ e) ok R one more w v h = elim (cases (is x.version w)) [
  | inl t ↦ (let r = made_by x e w v t h in let first = one w r.0 (subst IsTrue (sym (replaces_here x e w r.0 t)) (any_intro (λ c. is c r.0) (replacements e x) r.0 r.1 (is_refl r.0))) in
      grind (arith, r.2, first, more w r.0 v, made_with_least e ok.1 R older more r.0 v))
  | inr n ↦ made_with_least e ok.1 R older more w v (subst IsTrue (made_old x e w v n) h)
]
  where
    older : HoldsOfReplaced e R
    older u b k = one u b (subst IsTrue (sym (replaces_back x e u b (not_new x e ok.0 u (replaces_issued e u b k)))) k)
