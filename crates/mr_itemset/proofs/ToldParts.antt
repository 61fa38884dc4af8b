-- The fragments that tell what not all items have are the parts of their form, and mean what is known.
use Rattle.std.proofs.Common.{◌≡◌, ◌<◌, ℕ, false, List, [], ◌∷◌, length, get_or, Option, Some, None, IfSome, All, Contains, map, refl, ap, sym, ◌∙◌, subst, arith}
use Rattle.mr_itemset.proofs.Names.{AllZip, AllZip-get_or, AreInOrder, AreListable, ArePartsThat, AreSame, AuthorColumn, ComesFirst, ConciseFragment}
use Rattle.mr_itemset.proofs.Names.{HasItems, HasNormalVersions, IsNormal, IsNormalPart, IsSparest, IsToldOf, IsToldPart, MAX_ITEMS, Name, Normal, Part}
use Rattle.mr_itemset.proofs.Names.{Shown, Spares, Tells, Versions, all_covered, all_grouped, cases_Bool, fragments_in, length_all_zip, map-map, normal_known}
use Rattle.mr_itemset.proofs.Names.{part_of, said, shown, shown_group, vector_has}
use Rattle.mr_itemset.proofs.GroupedLemmas.{part_of_group, parts_in, parts_are_normal}
use Rattle.mr_itemset.proofs.ShownLemmas.{part_in, said_covered, each_has_items}
use Rattle.mr_itemset.proofs.FormLemmas.{normal_parts_that}
use Rattle.mr_itemset.proofs.ToldLemmas.{told_unique, told_same, has_fewest}

-- of the other part's items it says what is told
abbrev TellsPart : Versions → Part → Part → Type 0
TellsPart all p t = (t.items ≡ p.items) × Tells all p.items p.versions t.versions

-- just one set says it
tells_unique : (all own a b : Versions) (items : Option (List Name)) → Tells all items own a → Tells all items own b → a ≡ b
tells_unique all own a b items of_a of_b = grind (arith, told_unique)

module _ (k : Normal) (ps ts : List Part) (tell : AllZip (TellsPart (vector_has k.all)) ps ts) where
  same_length : length ps ≡ length ts
  same_length = length_all_zip (TellsPart (vector_has k.all)) ps ts tell

  told_at : (n : ℕ) (d e : Part) → n < length ts → TellsPart (vector_has k.all) (get_or ps n d) (get_or ts n e)
  told_at n d e within = let same = same_length in AllZip-get_or (TellsPart (vector_has k.all)) ps ts n d e tell (omega arith)

  told_order : AreInOrder ps → AreInOrder ts
  told_order order =
      let same = same_length in
      record {
        listable = λ n d within. subst (λ (items : Option (List Name)). IfSome items AreListable) (sym (told_at n d d within).0) (order.listable n d (omega arith));
        in_order = λ i j d less within.
            let first : i < length ts = omega arith in
            subst (λ (items : Option (List Name)). ComesFirst items (get_or ts j d).items) (sym (told_at i d d first).0)
            (subst (λ (items : Option (List Name)). ComesFirst (get_or ps i d).items items) (sym (told_at j d d within).0) (order.in_order i j d less (omega arith)));
      }

  told_is_part : All (IsNormalPart k) ps → All (IsToldPart k) ts
  told_is_part are n d within =
      let same = same_length in
      let t = told_at n d d within in
      record {
        own = (get_or ps n d).versions;
        normal = subst (λ (items : Option (List Name)). HasNormalVersions k items (get_or ps n d).versions) (sym t.0) (are n d (omega arith));
        tells = subst (λ (items : Option (List Name)). Tells (vector_has k.all) items (get_or ps n d).versions (get_or ts n d).versions) (sym t.0) t.1;
      }

  told_has_all : ((p : Part) → IsNormalPart k p → Contains ps p) → (t : Part) → IsToldPart k t → Contains ts t
  told_has_all has t is =
      let there = has (record { items = t.items; versions = is.own }) is.normal in
      let same = same_length in
      let within : there.0 < length ts = let l = there.1 in omega arith in
      let tells = told_at there.0 (record { items = t.items; versions = is.own }) t within in
      let items : (get_or ts there.0 t).items ≡ t.items = tells.0 ∙ ap (λ (q : Part). q.items) there.2 in
      let says : Tells (vector_has k.all) t.items is.own (get_or ts there.0 t).versions = subst (λ (q : Part). Tells (vector_has k.all) q.items q.versions (get_or ts there.0 t).versions) there.2 tells.1 in
      let versions : (get_or ts there.0 t).versions ≡ t.versions = tells_unique (vector_has k.all) is.own (get_or ts there.0 t).versions t.versions t.items says is.tells in
      (there.0, within, ap (λ (o : Option (List Name)). record { items = o; versions = (get_or ts there.0 t).versions }) items ∙ ap (λ (s : Versions). record { items = t.items; versions = s }) versions)

  -- THE PARTS are those of the form
  pub told_parts : ArePartsThat (IsNormalPart k) ps → ArePartsThat (IsToldPart k) ts
  told_parts are = grind (arith, told_order, told_is_part, told_has_all)

-- ---- the meaning

one_said : (all own says : Versions) (items : Option (List Name)) (v : Name) → Tells all items own says → all v ≡ false → says v ≡ own v
one_said all own says items v tells lacks = grind (arith, told_same)

-- of a version that not all items have the parts say the same
said_same : (all : Versions) (ps ts : List Part) (i v : Name) → AllZip (TellsPart all) ps ts → all v ≡ false → said ts i v ≡ said ps i v
said_same all [] [] i v tell lacks = refl
said_same all [] (t ∷ ts) i v tell lacks = absurd tell
said_same all (p ∷ ps) [] i v tell lacks = absurd tell
said_same all (p ∷ ps) (t ∷ ts) i v tell lacks = grind (arith, said_same all ps ts i v tell.1 lacks, one_said)

-- and so they do of one that all have, since the first part says it of all
all_said : (all : Versions) (ps ts : List Part) (i v : Name) → AllZip (TellsPart all) ((record { items = None; versions = all }) ∷ ps) ts → said ts i v ≡ said ((record { items = None; versions = all }) ∷ ps) i v
all_said all ps ts i v tell = grind (arith, cases_Bool, said_same)

-- ---- the fragments

zip_map : (all : List AuthorColumn) (ws ts : List Shown) → AllZip (IsToldOf all) ws ts → AllZip (TellsPart (vector_has all)) (map part_in ws) (map part_in ts)
zip_map all [] [] told = tt
zip_map all [] (t ∷ ts) told = absurd told
zip_map all (w ∷ ws) [] told = absurd told
zip_map all (w ∷ ws) (t ∷ ts) told = ((told.0.items, told.0.tells), zip_map all ws ts told.1)

module _ {limit : ℕ} (k : Normal) (fs : List ConciseFragment) (normal : IsNormal limit k) (told : AllZip (IsToldOf k.all) (fragments_in k) (map shown fs)) where
  tell : AllZip (TellsPart (vector_has k.all)) (parts_in k) (map (part_of vector_has) fs)
  tell =
      let zipped = zip_map k.all (fragments_in k) (map shown fs) told in
      let parts : map part_in (fragments_in k) ≡ parts_in k = ap (λ (ps : List Part). (record { items = None; versions = vector_has k.all }) ∷ ps) (map-map part_in shown_group (all_grouped MAX_ITEMS [] k.listed)) in
      subst (λ (ps : List Part). AllZip (TellsPart (vector_has k.all)) ps (map (part_of vector_has) fs)) parts
      (subst (AllZip (TellsPart (vector_has k.all)) (map part_in (fragments_in k))) (map-map part_in shown fs) zipped)

  pub told_fragments_parts : ArePartsThat (IsToldPart k) (map (part_of vector_has) fs)
  told_fragments_parts = told_parts k (parts_in k) (map (part_of vector_has) fs) tell (normal_parts_that k (parts_in k) normal (parts_are_normal k normal))

  pub told_fragments_known : AreSame (normal_known k) (all_covered vector_has fs)
  told_fragments_known i v =
      (parts_are_normal k normal).same i v
      ∙ sym (all_said (vector_has k.all) (map part_of_group (all_grouped MAX_ITEMS [] k.listed)) (map (part_of vector_has) fs) i v tell)
      ∙ said_covered fs i v

  pub told_fragments_items : All (λ f. HasItems f.items) fs
  told_fragments_items = each_has_items fs told_fragments_parts.in_order.listable

-- ---- the fewest holes

spares : (all own says : Versions) (items : Option (List Name)) → Tells all items own says → Spares all items own says
spares all own says None tells = tt
spares all own says (Some items) tells = has_fewest all own says tells

pub told_sparest : (all : List AuthorColumn) (ws ts : List Shown) → AllZip (IsToldOf all) ws ts → AllZip (IsSparest all) ws ts
told_sparest all [] [] told = tt
told_sparest all [] (t ∷ ts) told = absurd told
told_sparest all (w ∷ ws) [] told = absurd told
told_sparest all (w ∷ ws) (t ∷ ts) told = (spares (vector_has all) (vector_has w.vector) (vector_has t.vector) w.items told.0.tells, told_sparest all ws ts told.1)
