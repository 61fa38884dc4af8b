use Rattle.std.proofs.Common.{◌≡◌, ◌≢◌, ℕ, List, [], ◌∷◌, None, All, IfSome, map, refl, ap, sym, ◌∙◌, arith}
use Rattle.mr_itemset.proofs.Names.{All-cons, All-head, All-nil, All-tail, AreListable, AreNormalOf, ArePartsThat, AreSame, ConciseFragment, HasItems}
use Rattle.mr_itemset.proofs.Names.{IsNormal, IsNormalPart, MAX_ITEMS, Name, Normal, Part, Shown, all_covered, all_grouped, flat_map, flat_map-map}
use Rattle.mr_itemset.proofs.Names.{fragment_text, fragments_in, has_item, is_of, items_text, join_by, knowledge_text, listed_items, map-map, normal_known}
use Rattle.mr_itemset.proofs.Names.{normal_text, part_of, said, shown, shown_group, shown_items, shown_text, vector_has}
use Rattle.mr_forms.specs.declared.fragment.ItemSet.{ItemSet}
use Rattle.mr_itemset.proofs.FormLemmas.{normal_parts_that}
use Rattle.mr_itemset.proofs.GroupedLemmas.{parts_in, parts_are_normal}

-- what it says
abbrev pub part_in : Shown → Part
part_in s = record { items = s.items; versions = vector_has s.vector }

-- the fragments' parts are those of the normal form
pub parts_shown : (k : Normal) (fs : List ConciseFragment) → map shown fs ≡ fragments_in k → map (part_of vector_has) fs ≡ parts_in k
parts_shown k fs are =
    sym (map-map part_in shown fs) ∙ ap (map part_in) are
    ∙ ap (λ ps. (record { items = None; versions = vector_has k.all }) ∷ ps) (map-map part_in shown_group (all_grouped MAX_ITEMS [] k.listed))

-- so they are in normal form
pub shown_normal : {limit : ℕ} (k : Normal) (fs : List ConciseFragment) → IsNormal limit k → map shown fs ≡ fragments_in k → AreNormalOf k (map (part_of vector_has) fs)
shown_normal k fs normal are = rw (parts_shown k fs are) (parts_are_normal k normal)

pub shown_parts : {limit : ℕ} (k : Normal) (fs : List ConciseFragment) → IsNormal limit k → map shown fs ≡ fragments_in k → ArePartsThat (IsNormalPart k) (map (part_of vector_has) fs)
shown_parts k fs normal are = normal_parts_that k (map (part_of vector_has) fs) normal (shown_normal k fs normal are)

has_item-is_of : (items : ItemSet) (i : Name) → is_of (listed_items items) i ≡ has_item items i
has_item-is_of items i = grind arith

pub said_covered : (fs : List ConciseFragment) (i v : Name) → said (map (part_of vector_has) fs) i v ≡ all_covered vector_has fs i v
said_covered [] i v = refl
said_covered (f ∷ fs) i v = rw (has_item-is_of f.items i, said_covered fs i v) refl

-- and cover what is known
pub shown_known : {limit : ℕ} (k : Normal) (fs : List ConciseFragment) → IsNormal limit k → map shown fs ≡ fragments_in k → AreSame (normal_known k) (all_covered vector_has fs)
shown_known k fs normal are i v = (shown_normal k fs normal are).same i v ∙ said_covered fs i v

has_items : (items : ItemSet) → IfSome (listed_items items) AreListable → HasItems items
has_items items listable = grind arith

pub each_has_items : (fs : List ConciseFragment) → All (λ p. IfSome p.items AreListable) (map (part_of vector_has) fs) → All (λ f. HasItems f.items) fs
each_has_items [] listable = All-nil (λ f. HasItems f.items)
each_has_items (f ∷ fs) listable =
    All-cons (λ g. HasItems g.items) f fs (has_items f.items (All-head (λ p. IfSome p.items AreListable) (part_of vector_has f) (map (part_of vector_has) fs) listable))
    (each_has_items fs (All-tail (λ p. IfSome p.items AreListable) (part_of vector_has f) (map (part_of vector_has) fs) listable))

-- each for some item
pub shown_has_items : {limit : ℕ} (k : Normal) (fs : List ConciseFragment) → IsNormal limit k → map shown fs ≡ fragments_in k → All (λ f. HasItems f.items) fs
shown_has_items k fs normal are = each_has_items fs (shown_normal k fs normal are).normal.in_order.listable

-- ---- the text

items_shown : (items : ItemSet) → items_text items ≡ shown_items (listed_items items)
items_shown items = grind arith

each_text : (fs : List ConciseFragment) → flat_map (λ f. 59 ∷ 32 ∷ fragment_text f) fs ≡ flat_map (λ f. 59 ∷ 32 ∷ shown_text (shown f)) fs
each_text [] = refl
each_text (f ∷ fs) = rw (items_shown f.items, each_text fs) refl

joined : (fs : List ConciseFragment) → fs ≢ [] → knowledge_text fs ≡ join_by shown_text (59 ∷ 32 ∷ []) (map shown fs)
joined [] some = absurd (some refl)
joined (f ∷ fs) some = rw (items_shown f.items, each_text fs, flat_map-map (λ s. 59 ∷ 32 ∷ shown_text s) shown fs) refl

-- THE TEXT of the fragments is that of the knowledge
pub text_shown : (k : Normal) (fs : List ConciseFragment) → map shown fs ≡ fragments_in k → knowledge_text fs ≡ normal_text k
text_shown k fs are = grind (arith, joined)
