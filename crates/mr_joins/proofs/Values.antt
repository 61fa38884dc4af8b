-- values
use Rattle.std.proofs.Common.{◌≡◌, ◌≢◌, ℕ, ◌<◌, ◌≤◌, max, inl, inr, length, Bool, true, false, cond, ◌&&◌, ◌||◌, List, [], ◌∷◌, ◌++◌, map, refl, sym, ◌∙◌, ap, subst, arith}
use Rattle.std.specs.List.{AllByRecursion, fold, list_any, flat_map}
use Rattle.std.specs.List.Sorted.{IsStrictlySortedBy}
use Rattle.std.proofs.lemmas.List.Elements.{All-from_recursion, recursion_from_All}
use Rattle.mr_version.specs.Name.{Name, name_eq}
use Rattle.mr_mail.specs.Label.{text_cmp, has_label}
use Rattle.mr_joins.specs.declared.count.Count.{Count}
use Rattle.mr_joins.specs.declared.element.Element.{Element}
use Rattle.mr_joins.specs.declared.element.Element.TheVariants as element
use Rattle.mr_joins.specs.declared.mark.Mark.{Mark}
use Rattle.mr_joins.specs.Count.{never, once, larger, is_set}
use Rattle.mr_joins.specs.Element.{element_eq}
use Rattle.mr_joins.specs.Says.{Says, both, together, IsBelow, IsAmong, AreAmong, Agree, IsDeleted, Stands}
use Rattle.mr_joins.specs.Value.{Key, mark_cmp, says, IsMark, IsValue, with_mark, join, joined, values_of}
use Rattle.mr_joins.specs.Shown.{has, is_deleted, folders_shown, flags_shown, flags_set, flags_where, first_labels, or_inbox, shown_view}
use Rattle.mr_joins.specs.Edited.{elements_of, is_wanted, new_mark, new_mail, deleted, changed, changed_count, edited}
use Rattle.mr_joins.proofs.Marks.{larger_assoc, larger_comm, larger_never, never_larger, rising-with_mark, marks-with_mark, rising-join, marks-join, says-join, same_marks}
use Rattle.mr_joins.proofs.LabelLemmas.{text_eq-itself}
use Rattle.mr_joins.proofs.Heads.{above, least, same_set, told, all_deleted, change_wins}
use Rattle.mr_joins.proofs.ShownLemmas.{deleted_says, says_deleted, has_says, says_has, stands_somewhere, deleted_nowhere, shown_standing, folders_are, first_all, flags_where-has_flag}
use Rattle.mr_joins.proofs.EditedLemmas.{says-deleted, rising-deleted, marks-deleted, deletes, deleted_stays, says-put, marks-put, passing, among_elements, and_true, name_eq-itself, some_of}
use Rattle.mr_joins.proofs.EditLaws.{says-changed, rising-changed, marks-changed, above-changed, changed_folders, changed_flags, changed_nothing}

-- what each value's marks are, one after the other
pub marks_of : (xs : List Mark) → IsValue xs → AllByRecursion IsMark xs
marks_of xs v = recursion_from_All IsMark xs v.each

pub value_from : (xs : List Mark) → IsStrictlySortedBy mark_cmp xs → AllByRecursion IsMark xs → IsValue xs
value_from xs rising each = record { rising = rising; each = All-from_recursion IsMark xs each }

pub value-nothing : IsValue []
unfolding IsStrictlySortedBy
value-nothing = value_from [] tt tt

pub value-with_mark : (m : Mark) (xs : List Mark) → IsMark m → IsValue xs → IsValue (with_mark m xs)
value-with_mark m xs one v = value_from (with_mark m xs) (rising-with_mark m xs v.rising) (marks-with_mark m xs one (marks_of xs v))

pub value-join : (a b : List Mark) → IsValue a → IsValue b → IsValue (join a b)
value-join a b v w = value_from (join a b) (rising-join a b v.rising) (marks-join a b (marks_of a v) (marks_of b w))

pub value-deleted : (xs : List Mark) → IsValue xs → IsValue (deleted xs)
value-deleted xs v = value_from (deleted xs) (rising-deleted xs v.rising) (marks-deleted xs (marks_of xs v))

pub value-edited : (xs : List Mark) (item : Name) (labels : List (List ℕ)) (flags : ℕ) → IsValue xs → IsValue (edited xs item labels flags)
value-edited xs item [] flags v = value-deleted xs v
value-edited xs item (label ∷ labels) flags v =
    value_from (changed xs item (label ∷ labels) flags) (rising-changed xs item (label ∷ labels) flags v.rising (marks_of xs v)) (marks-changed xs item (label ∷ labels) flags v.rising (marks_of xs v))

-- values that say the same are one
pub same_value : (xs ys : List Mark) → IsValue xs → IsValue ys → Agree (says xs) (says ys) → xs ≡ ys
same_value xs ys v w same = same_marks xs ys v.rising w.rising (marks_of xs v) (marks_of ys w) same

-- ---- joins

pub says_both : (a b : List Mark) → IsValue a → IsValue b → Agree (says (join a b)) (both (says a) (says b))
says_both a b v w key = says-join a b key v.rising w.rising

pub join-comm : (a b : List Mark) → IsValue a → IsValue b → join a b ≡ join b a
join-comm a b v w =
    same_value (join a b) (join b a) (value-join a b v w) (value-join b a w v)
    (λ key. says_both a b v w key ∙ larger_comm (says a key) (says b key) ∙ sym (says_both b a w v key))

pub join-assoc : (a b c : List Mark) → IsValue a → IsValue b → IsValue c → join (join a b) c ≡ join a (join b c)
join-assoc a b c v w x =
    same_value (join (join a b) c) (join a (join b c)) (value-join (join a b) c (value-join a b v w) x) (value-join a (join b c) v (value-join b c w x))
    (λ key.
    says_both (join a b) c (value-join a b v w) x key
    ∙ ap (λ (n : Count). larger n (says c key)) (says_both a b v w key)
    ∙ larger_assoc (says a key) (says b key) (says c key)
    ∙ sym (says_both a (join b c) v (value-join b c w x) key ∙ ap (larger (says a key)) (says_both b c w x key)))

larger_itself : (c : Count) → larger c c ≡ c
larger_itself c = grind arith

pub join-itself : (a : List Mark) → IsValue a → join a a ≡ a
join-itself a v = same_value (join a a) a (value-join a a v v) v (λ key. says_both a a v v key ∙ larger_itself (says a key))

-- ---- all of some values together

joined_from : (heads : List (List Mark)) (value : List Mark) → IsValue value → AllByRecursion IsValue heads → IsValue (fold join value heads)
joined_from [] value v all = v
joined_from (head ∷ heads) value v all = joined_from heads (join value head) (value-join value head v all.0) all.1

pub value-joined : (heads : List (List Mark)) → AllByRecursion IsValue heads → IsValue (joined heads)
value-joined heads all = joined_from heads [] value-nothing all

says_from : (heads : List (List Mark)) (value : List Mark) (key : Key) → IsValue value → AllByRecursion IsValue heads → says (fold join value heads) key ≡ larger (says value key) (together (values_of heads) key)
says_from [] value key v all = sym (larger_never (says value key))
says_from (head ∷ heads) value key v all =
    says_from heads (join value head) key (value-join value head v all.0) all.1
    ∙ ap (λ (c : Count). larger c (together (values_of heads) key)) (says_both value head v all.0 key)
    ∙ larger_assoc (says value key) (says head key) (together (values_of heads) key)

pub says-joined : (heads : List (List Mark)) → AllByRecursion IsValue heads → Agree (says (joined heads)) (together (values_of heads))
says-joined heads all key = says_from heads [] key value-nothing all ∙ never_larger (together (values_of heads) key)

among_map : {A B : Type 0} (f : A → B) (x : A) (xs : List A) → IsAmong x xs → IsAmong (f x) (map f xs)
among_map f x [] h = absurd h
among_map f x (y ∷ xs) h = elim h [ inl e ↦ inl (ap f e) | inr i ↦ inr (among_map f x xs i) ]

of_among : {A B : Type 0} (f : A → B) (y : B) (xs : List A) → IsAmong y (map f xs) → (x : A) × IsAmong x xs × (y ≡ f x)
of_among f y [] h = absurd h
of_among f y (x ∷ xs) h = elim h [ inl e ↦ (x, inl refl, e) | inr i ↦ let r = of_among f y xs i in (r.0, inr r.1, r.2) ]

values_among : (heads others : List (List Mark)) → AreAmong heads others → AreAmong (values_of heads) (values_of others)
values_among heads others h x i = let r = of_among says x heads i in subst (λ (v : Says Key). IsAmong v (values_of others)) (sym r.2) (among_map says r.0 others (h r.0 r.1))

-- a value that says what another one does is at or above the same
pub below_agree : (a b c : Says Key) → Agree b c → IsBelow a b → IsBelow a c
below_agree a b c same h = record {
  raised = λ key. subst (λ (n : Count). (a key).raised ≤ n.raised) (same key) (h.raised key);
  gone = λ key. subst (λ (n : Count). (a key).gone ≤ n.gone) (same key) (h.gone key);
}

pub agree_below : (a b c : Says Key) → Agree b c → IsBelow b a → IsBelow c a
agree_below a b c same h = record {
  raised = λ key. subst (λ (n : Count). n.raised ≤ (a key).raised) (same key) (h.raised key);
  gone = λ key. subst (λ (n : Count). n.gone ≤ (a key).gone) (same key) (h.gone key);
}

turned : (a b : Says Key) → Agree a b → Agree b a
turned a b same key = sym (same key)

pub joined-above : (heads : List (List Mark)) → AllByRecursion IsValue heads → (head : List Mark) → IsAmong head heads → IsBelow (says head) (says (joined heads))
joined-above heads all head h =
    below_agree (says head) (together (values_of heads)) (says (joined heads)) (turned (says (joined heads)) (together (values_of heads)) (says-joined heads all)) (above (values_of heads) (says head) (among_map says head heads h))

pub joined-least : (heads : List (List Mark)) → AllByRecursion IsValue heads → (value : Says Key) → ((head : List Mark) → IsAmong head heads → IsBelow (says head) value) → IsBelow (says (joined heads)) value
joined-least heads all value each =
    agree_below value (together (values_of heads)) (says (joined heads)) (turned (says (joined heads)) (together (values_of heads)) (says-joined heads all))
    (least (values_of heads) value (λ v i. let r = of_among says v heads i in subst (λ (w : Says Key). IsBelow w value) (sym r.2) (each r.0 r.1)))

-- which heads there are tells what they say together
pub joined-set : (heads others : List (List Mark)) → AllByRecursion IsValue heads → AllByRecursion IsValue others → AreAmong heads others → AreAmong others heads → joined others ≡ joined heads
joined-set heads others all also h i =
    same_value (joined others) (joined heads) (value-joined others also) (value-joined heads all)
    (λ key. says-joined others also key ∙ same_set (values_of others) (values_of heads) (values_among others heads i) (values_among heads others h) key ∙ sym (says-joined heads all key))

each_kept : (kept heads : List (List Mark)) → AllByRecursion IsValue heads → AreAmong kept heads → AllByRecursion IsValue kept
each_kept [] heads all h = tt
each_kept (x ∷ kept) heads all h = (one x heads all (h x (inl refl)), each_kept kept heads all (λ y i. h y (inr i)))
  where
    one : (x : List Mark) (heads : List (List Mark)) → AllByRecursion IsValue heads → IsAmong x heads → IsValue x
    one x [] all i = absurd i
    one x (y ∷ heads) all i = elim i [ inl e ↦ subst IsValue (sym e) all.0 | inr j ↦ one x heads all.1 j ]

-- where what they say together was told, whatever is beside it, that is what they say
pub joined-told : (heads kept : List (List Mark)) → AllByRecursion IsValue heads → AreAmong kept heads → joined (joined heads ∷ kept) ≡ joined heads
joined-told heads kept all h =
    let v : IsValue (joined heads) = value-joined heads all in
    let also : AllByRecursion IsValue kept = each_kept kept heads all h in
    same_value (joined (joined heads ∷ kept)) (joined heads) (value-joined (joined heads ∷ kept) (v, also)) v
    (λ key.
    says-joined (joined heads ∷ kept) (v, also) key
    ∙ ap (λ (c : Count). larger c (together (values_of kept) key)) (says-joined heads all key)
    ∙ told (values_of heads) (values_of kept) (values_among kept heads h) key
    ∙ sym (says-joined heads all key))

-- where all heads are deleted, the mail is
pub joined-deleted : (heads : List (List Mark)) → AllByRecursion IsValue heads → ((head : List Mark) → IsAmong head heads → IsDeleted (says head)) → IsDeleted (says (joined heads))
joined-deleted heads all each key =
    subst (λ (c : Count). c.raised ≤ c.gone) (sym (says-joined heads all key))
    (all_deleted (values_of heads) (λ v i. let r = of_among says v heads i in subst IsDeleted (sym r.2) (each r.0 r.1)) key)

-- where one raised something beyond what each deletion knew, it stands
pub joined-stands : (heads : List (List Mark)) → AllByRecursion IsValue heads → (head : List Mark) (key : Key) → IsAmong head heads → ((other : List Mark) → IsAmong other heads → (says other key).gone < (says head key).raised) → Stands (says (joined heads))
joined-stands heads all head key h each =
    let s = change_wins (values_of heads) (says head) key (among_map says head heads h) (λ v i. let r = of_among says v heads i in subst (λ (w : Says Key). (w key).gone < (says head key).raised) (sym r.2) (each r.0 r.1)) in
    (s.0, subst (λ (c : Count). c.gone < c.raised) (sym (says-joined heads all s.0)) s.1)

-- ---- deletions and edits

pub deleted-gone : (xs : List Mark) → IsDeleted (says (deleted xs))
deleted-gone xs = deleted_says (deleted xs) (deletes xs)

pub deleted-above : (xs : List Mark) → IsBelow (says xs) (says (deleted xs))
deleted-above xs = record {
  raised = λ key. subst (λ (c : Count). (says xs key).raised ≤ c.raised) (sym (says-deleted xs key)) (omega arith);
  gone = λ key. subst (λ (c : Count). (says xs key).gone ≤ c.gone) (sym (says-deleted xs key)) (second (says xs key).raised (says xs key).gone);
}
  where
    second : (a b : ℕ) → b ≤ max a b
    second a b = omega arith

pub edited-says : (xs : List Mark) (item : Name) (labels : List (List ℕ)) (flags : ℕ) → IsValue xs → labels ≢ [] → (key : Key) → says (edited xs item labels flags) key ≡ changed_count xs item labels flags key
edited-says xs item [] flags v some key = absurd (some refl)
edited-says xs item (label ∷ labels) flags v some key = says-changed xs item (label ∷ labels) flags v.rising (marks_of xs v) key

-- nothing falls
pub edited-above : (xs : List Mark) (item : Name) (labels : List (List ℕ)) (flags : ℕ) → IsValue xs → IsBelow (says xs) (says (edited xs item labels flags))
edited-above xs item [] flags v = deleted-above xs
edited-above xs item (label ∷ labels) flags v = above-changed xs item (label ∷ labels) flags v.rising (marks_of xs v)

-- what was wanted is what is shown
pub edited-shown : (xs : List Mark) (item : Name) (labels : List (List ℕ)) (flags : ℕ) → IsValue xs → flags ≤ 31 → labels ≢ [] → IsStrictlySortedBy text_cmp labels → length labels ≤ 16 →
    shown_view (edited xs item labels flags) ≡ record { labels = labels; flags = flags }
edited-shown xs item [] flags v range some order few = absurd (some refl)
edited-shown xs item (label ∷ labels) flags v range some order few =
    let folders = changed_folders xs item label labels flags v.rising (marks_of xs v) order few in
    let own = changed_flags xs item label labels flags v.rising (marks_of xs v) range in
    λ i. record { labels = folders i; flags = own i }

pub edited-deletes : (xs : List Mark) (item : Name) (labels : List (List ℕ)) (flags : ℕ) → labels ≡ [] → IsDeleted (says (edited xs item labels flags))
edited-deletes xs item [] flags none = deleted-gone xs
edited-deletes xs item (label ∷ labels) flags none = absurd (cc)

-- where that is what was shown nothing rises
pub edited-nothing : (xs : List Mark) (item : Name) (labels : List (List ℕ)) (flags : ℕ) → IsValue xs → labels ≡ folders_shown xs → flags ≡ flags_shown xs → edited xs item labels flags ≡ xs
edited-nothing xs item [] flags v folders own = deleted_stays xs (gone (is_deleted xs) refl) (marks_of xs v)
  where
    gone : (b : Bool) → is_deleted xs ≡ b → is_deleted xs ≡ true
    gone true h = h
    gone false h = absurd (stands_somewhere xs h (sym folders))
edited-nothing xs item (label ∷ labels) flags v folders own = changed_nothing xs item label labels flags v.rising (marks_of xs v) folders own

-- ---- a new mail

once_each : (item : Name) (es : List Element) → map (new_mark item) es ≡ flat_map (some_of (λ e. true) (new_mark item)) es
once_each item [] = refl
once_each item (e ∷ es) = ap (λ (ms : List Mark). new_mark item e ∷ ms) (once_each item es)

rising-nothing : IsStrictlySortedBy mark_cmp []
unfolding IsStrictlySortedBy
rising-nothing = tt

pub value-new_mail : (item : Name) (labels : List (List ℕ)) (flags : ℕ) → IsValue (new_mail item labels flags)
value-new_mail item labels flags =
    value_from (new_mail item labels flags) (rising-join [] (map (new_mark item) (elements_of labels flags)) rising-nothing)
    (marks-join [] (map (new_mark item) (elements_of labels flags)) tt
    (subst (AllByRecursion IsMark) (sym (once_each item (elements_of labels flags))) (marks-put (λ e. true) item (λ e. once) (elements_of labels flags) (λ e. (omega arith, omega arith)))))

pub says-new_mail : (item : Name) (labels : List (List ℕ)) (flags : ℕ) (key : Key) → says (new_mail item labels flags) key ≡ cond (name_eq key.0 item && is_wanted labels flags key.1) once never
says-new_mail item labels flags key =
    ap (λ (ms : List Mark). says (join [] ms) key) (once_each item (elements_of labels flags))
    ∙ says-put (λ e. true) item (λ e. once) (elements_of labels flags) [] key rising-nothing
    ∙ never_larger (cond (name_eq key.0 item && list_any (λ e. element_eq key.1 e && true) (elements_of labels flags)) once never)
    ∙ ap (λ (b : Bool). cond (name_eq key.0 item && b) once never)
    (passing (λ e. true) item (λ e. once) (elements_of labels flags) key.1 ∙ and_true (list_any (element_eq key.1) (elements_of labels flags)) ∙ among_elements labels flags key.1)

has-new_mail : (item : Name) (labels : List (List ℕ)) (flags : ℕ) (e : Element) → has (new_mail item labels flags) e ≡ is_wanted labels flags e
has-new_mail item labels flags e = one_truth (has (new_mail item labels flags) e) (is_wanted labels flags e) there back
  where
    one_truth : (a b : Bool) → (a ≡ true → b ≡ true) → (b ≡ true → a ≡ true) → a ≡ b
    one_truth true b f g = sym (f refl)
    one_truth false true f g = g refl
    one_truth false false f g = refl

    set_once : (n w : Bool) → is_set (cond (n && w) once never) ≡ true → w ≡ true
    set_once n true h = refl
    set_once true false h = h
    set_once false false h = h

    there : has (new_mail item labels flags) e ≡ true → is_wanted labels flags e ≡ true
    there h =
        let r = has_says (new_mail item labels flags) e (value-new_mail item labels flags).rising h in
        set_once (name_eq r.0 item) (is_wanted labels flags e) (ap is_set (sym (says-new_mail item labels flags (r.0, e))) ∙ r.1)

    back : is_wanted labels flags e ≡ true → has (new_mail item labels flags) e ≡ true
    back h = says_has (new_mail item labels flags) item e (ap is_set (says-new_mail item labels flags (item, e) ∙ (λ i. cond (name_eq-itself item i && h i) once never)))

-- what is wanted is what is shown
pub new_mail-shown : (item : Name) (labels : List (List ℕ)) (flags : ℕ) → flags ≤ 31 → labels ≢ [] → IsStrictlySortedBy text_cmp labels → length labels ≤ 16 → shown_view (new_mail item labels flags) ≡ record { labels = labels; flags = flags }
new_mail-shown item [] flags range some order few = absurd (some refl)
new_mail-shown item (label ∷ labels) flags range some order few = λ i. record { labels = folders i; flags = own i }
  where
    new : List Mark
    new = new_mail item (label ∷ labels) flags

    first : is_wanted (label ∷ labels) flags (element.Folder label) ≡ true
    first = ap (λ (b : Bool). b || has_label labels label) (text_eq-itself label)

    none : (b : Bool) → is_deleted new ≡ b → b ≡ false
    none true h =
        let dead : (says new (item, element.Folder label)).raised ≤ (says new (item, element.Folder label)).gone = deleted_says new h (item, element.Folder label) in
        let told : says new (item, element.Folder label) ≡ once = says-new_mail item (label ∷ labels) flags (item, element.Folder label) ∙ (λ i. cond (name_eq-itself item i && first i) once never) in
        absurd (too_many (subst (λ (c : Count). c.raised ≤ c.gone) told dead))
      where
        too_many : 1 ≤ 0 → ⊥
        too_many h = omega arith
    none false h = refl

    stands : is_deleted new ≡ false
    stands = none (is_deleted new) refl

    folders : folders_shown new ≡ label ∷ labels
    folders =
        shown_standing new stands
        ∙ ap (λ (ls : List (List ℕ)). or_inbox (first_labels ls)) (folders_are new (label ∷ labels) order (λ l. has-new_mail item (label ∷ labels) flags (element.Folder l)))
        ∙ ap or_inbox (first_all (label ∷ labels) few)

    own : flags_shown new ≡ flags
    own =
        ap (λ (b : Bool). cond b 16 (flags_set new)) stands
        ∙ ap flags_where (λ i f. has-new_mail item (label ∷ labels) flags (element.Flag f) i)
        ∙ flags_where-has_flag flags range

-- ---- some steps of loops

pub each_more : (values : List (List Mark)) (value : List Mark) → AllByRecursion IsValue values → IsValue value → AllByRecursion IsValue (values ++ value ∷ [])
each_more [] value all v = (v, tt)
each_more (x ∷ values) value all v = (all.0, each_more values value all.1 v)

pub itself : {X : Type 0} (xs : List X) → map (λ (x : X). x) xs ≡ xs
itself [] = refl
itself (x ∷ xs) = ap (λ (ys : List _). x ∷ ys) (itself xs)

-- a mail is shown in no folder just where it is deleted
pub nowhere-deleted : (xs : List Mark) → IsValue xs → (folders_shown xs ≡ [] → IsDeleted (says xs)) × (IsDeleted (says xs) → folders_shown xs ≡ [])
nowhere-deleted xs v = (λ e. deleted_says xs (gone (is_deleted xs) refl e), λ h. deleted_nowhere xs (says_deleted xs v.rising h))
  where
    gone : (b : Bool) → is_deleted xs ≡ b → folders_shown xs ≡ [] → is_deleted xs ≡ true
    gone true h e = h
    gone false h e = absurd (stands_somewhere xs h e)
