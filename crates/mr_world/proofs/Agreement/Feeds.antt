-- The feed of a replica is that of the history.
use Rattle.std.proofs.Common.{◌≡◌, append_assoc, refl, sym, ap, subst, ◌∙◌, ℕ, List, [], ◌∷◌, ◌++◌, map, filter, inl, inr, IsTrue, Some, arith}
use Rattle.mr_world.proofs.Names.Lists.{⊤}
use Rattle.mr_world.proofs.Names.Replica.{added, dropped, told_more}
use Rattle.mr_world.proofs.Names.Model.{EachPair, Entry as SeenEntry, In, Issue, Versions, added_entry, dropped_entry, feed_after, in_version_order}
use Rattle.mr_world.proofs.Names.Model.{is_before, item_of, ◌without◌}
use Rattle.mr_world.proofs.Names.Laws.{IsIssueList, before_trans, each_at, filter_in, in_filter, in_issued, in_ordered, is_from, issue_in, item_back}
use Rattle.mr_world.proofs.Names.Laws.{item_here, not_new, ordered_in, ordered_rising, pairs_filter}
use Rattle.mr_world.proofs.Names.Mails.{AreInVersionOrder, ClauseParts, Entry, Mail, MailCard, Name, Rev, card_of, told, told_entry, version_of}
use Rattle.mr_world.proofs.Names.World.{HoldsAs, IsTrueRevision, message_of, setting_of}
use Rattle.mr_model.specs.History.{Entry.Added as SeenAdded, Entry.Dropped as SeenDropped}
use Rattle.mr_world.proofs.Groundwork.Orders.{before_irrefl, first_before, held_in, in_held, rest_in_order}

pub told_append : (xs ys : List Entry) → told (xs ++ ys) ≡ told xs ++ told ys
told_append [] ys = refl
told_append (x ∷ xs) ys = ap (λ (z : List (SeenEntry MailCard)). told_entry x ∷ z) (told_append xs ys)

abbrev pub version_of_issue : Issue Mail → Name
version_of_issue x = x.version

-- the revision is of the issue
pub record IsOfIssue (x : Issue Mail) (r : Rev) : Type 0 where
  pub version : x.version ≡ r.version
  pub item : x.item ≡ r.item
  pub message : x.message ≡ r.message

-- each revision is of the issue at its place
abbrev pub MatchIssues : List (Issue Mail) → List Rev → Type 0
MatchIssues [] [] = ⊤
MatchIssues (x ∷ xs) (r ∷ rs) = IsOfIssue x r × MatchIssues xs rs
MatchIssues [] (r ∷ rs) = ⊥
MatchIssues (x ∷ xs) [] = ⊥

-- the issues stand by rising versions
abbrev pub IssuesRise : List (Issue Mail) → Type 0
IssuesRise xs = EachPair (λ (x y : Issue Mail). IsTrue (is_before x.version y.version)) xs

-- a true revision is of each issue of its version
pub of_issue : (issues : List (Issue Mail)) → IsIssueList issues → (x : Issue Mail) → In x issues → (r : Rev) → IsTrueRevision issues r → x.version ≡ r.version → IsOfIssue x r
of_issue issues ok x i r t e = record {
  version = e;
  item = sym (item_in issues ok x i) ∙ (ap (item_of issues) e ∙ t.below.of_item);
  message = same_some (sym (message_in issues ok x i) ∙ (ap (message_of issues) e ∙ t.message));
}
  where
    same_some : {A : Type 0} {a b : A} → Some a ≡ Some b → a ≡ b
    same_some e = cc

    item_in : (issues : List (Issue Mail)) → IsIssueList issues → (x : Issue Mail) → In x issues → item_of issues x.version ≡ x.item
    item_in [] ok x i = elim i [ ]
    item_in (y ∷ e) ok x i = elim i [
      | inl p ↦ item_here y e x.version (is_from y.version x.version (ap version_of_issue p)) ∙ ap (λ (z : Issue Mail). z.item) p
      | inr j ↦ item_back y e x.version (not_new y e ok.0 x.version (in_issued e x j)) ∙ item_in e ok.1 x j
    ]

    message_in : (issues : List (Issue Mail)) → IsIssueList issues → (x : Issue Mail) → In x issues → message_of issues x.version ≡ Some x.message
    message_in [] ok x i = elim i [ ]
    message_in (y ∷ e) ok x i = elim i [
      | inl p ↦ (let t = is_from y.version x.version (ap version_of_issue p) in rw t (ap (λ (z : Issue Mail). Some z.message) p))
      | inr j ↦ (let n = not_new y e ok.0 x.version (in_issued e x j) in rw n (message_in e ok.1 x j))
    ]

-- issues and revisions that both rise, with the same versions, are at the same places
pub same_places : (all : List (Issue Mail)) → IsIssueList all → (xs : List (Issue Mail)) (rs : List Rev) → IssuesRise xs → AreInVersionOrder rs →
    ((x : Issue Mail) → In x xs → In x all) → ((r : Rev) → In r rs → IsTrueRevision all r) →
    ((x : Issue Mail) → In x xs → (r : Rev) × In r rs × (r.version ≡ x.version)) → ((r : Rev) → In r rs → (x : Issue Mail) × In x xs × (x.version ≡ r.version)) → MatchIssues xs rs
same_places all ok [] [] o o' within true_ there back = tt
same_places all ok [] (r ∷ rs) o o' within true_ there back = elim (back r (inl refl)).1 [ ]
same_places all ok (x ∷ xs) [] o o' within true_ there back = elim (there x (inl refl)).1 [ ]
same_places all ok (x ∷ xs) (r ∷ rs) o o' within true_ there back = (
  of_issue all ok x (within x (inl refl)) r (true_ r (inl refl)) first,
  same_places all ok xs rs o.1 (rest_in_order r rs o') (λ y i. within y (inr i)) (λ q i. true_ q (inr i)) rest_there rest_back,
)
  where
    later : (y : Issue Mail) → In y xs → IsTrue (is_before x.version y.version)
    later y i = each_at (λ (y : Issue Mail). IsTrue (is_before x.version y.version)) xs o.0 y i

    first : x.version ≡ r.version
    first = let t = there x (inl refl) in elim t.1 [
      | inl p ↦ sym (ap version_of p ∙ t.2)
      | inr i ↦ (let b = back r (inl refl) in elim b.1 [
        | inl q ↦ ap version_of_issue q ∙ b.2
        | inr j ↦ absurd (before_irrefl x.version (before_trans x.version r.version x.version
            (subst (λ (z : Name). IsTrue (is_before x.version z)) b.2 (later b.0 j))
            (subst (λ (z : Name). IsTrue (is_before r.version z)) t.2 (first_before r rs o' t.0 i))))
      ])
    ]

    rest_there : (y : Issue Mail) → In y xs → (q : Rev) × In q rs × (q.version ≡ y.version)
    rest_there y i = let t = there y (inr i) in elim t.1 [
      | inl p ↦ absurd (before_irrefl x.version (subst (λ (z : Name). IsTrue (is_before x.version z)) (sym t.2 ∙ (sym (ap version_of p) ∙ sym first)) (later y i)))
      | inr j ↦ (t.0, j, t.2)
    ]

    rest_back : (q : Rev) → In q rs → (y : Issue Mail) × In y xs × (y.version ≡ q.version)
    rest_back q i = let b = back q (inr i) in elim b.1 [
      | inl p ↦ absurd (before_irrefl r.version (subst (λ (z : Name). IsTrue (is_before r.version z)) (sym b.2 ∙ (sym (ap version_of_issue p) ∙ first)) (first_before r rs o' q i)))
      | inr j ↦ (b.0, j, b.2)
    ]

-- what is told of issues is what is told of their revisions
pub dropped_same : (xs : List (Issue Mail)) (rs : List Rev) → MatchIssues xs rs → map dropped_entry xs ≡ told (map dropped rs)
dropped_same [] [] a = refl
dropped_same [] (r ∷ rs) a = absurd a
dropped_same (x ∷ xs) [] a = absurd a
dropped_same (x ∷ xs) (r ∷ rs) a = λ i. SeenDropped (a.0.item i) (a.0.version i) ∷ dropped_same xs rs a.1 i

module _ (filters : ℕ → List ClauseParts) where
  pub added_same : (xs : List (Issue Mail)) (rs : List Rev) → MatchIssues xs rs → map (added_entry (setting_of filters)) xs ≡ told (map added rs)
  added_same [] [] a = refl
  added_same [] (r ∷ rs) a = absurd a
  added_same (x ∷ xs) [] a = absurd a
  added_same (x ∷ xs) (r ∷ rs) a = λ i. SeenAdded (a.0.item i) (a.0.version i) (card_of (a.0.message i)) ∷ added_same xs rs a.1 i

  -- revisions of a set of versions are of the issues of the set
  pub revisions_are : (issues : List (Issue Mail)) → IsIssueList issues → (rs : List Rev) (set : Versions) → HoldsAs issues rs set →
      MatchIssues (filter (λ x. set x.version) (in_version_order issues)) rs
  revisions_are issues ok rs set h = grind (arith, same_places, in_version_order, pairs_filter, is_before, ordered_rising, ordered_in, in_filter, held_in, issue_in, filter_in, in_ordered, in_held)

  -- what left and what came
  pub feed_is : (issues : List (Issue Mail)) → IsIssueList issues → (old new : Versions) (feed : List Entry) (gone come : List Rev) →
      HoldsAs issues gone (old without new) → HoldsAs issues come (new without old) → feed_after (setting_of filters) issues old new (told feed) ≡ told (told_more feed gone come)
  feed_is issues ok old new feed gone come hg hc =
      let left = dropped_same (filter (λ x. (old without new) x.version) (in_version_order issues)) gone (revisions_are issues ok gone (old without new) hg) in
      let entered = added_same (filter (λ x. (new without old) x.version) (in_version_order issues)) come (revisions_are issues ok come (new without old) hc) in
      (λ i. (told feed ++ left i) ++ entered i)
      ∙ (append_assoc (told feed) (told (map dropped gone)) (told (map added come))
      ∙ sym (told_append feed (map dropped gone ++ map added come) ∙ ap (λ (z : List (SeenEntry MailCard)). told feed ++ z) (told_append (map dropped gone) (map added come))))
