-- mails as they are seen in a scan, one after the other
use Rattle.std.proofs.Common.{◌≡◌, ℕ, Bool, true, false, cond, List, [], ◌∷◌, ◌++◌, map, Option, Some, append_assoc, append-nil, refl, ap, sym, subst, ◌∙◌}
use Rattle.std.specs.BTreeMap.{BTreeMap, IsFromIterResult, IsOrdered}
use Rattle.std.specs.Cmp.{eq_by_cmp_equiv}
use Rattle.std.specs.Cmp.Lexicographic.{nat_list_cmp_total}
use Rattle.std.specs.Global.{Vec}
use Rattle.std.specs.List.{IsDistinct}
use Rattle.std.specs.Map.{keys_of}
use Rattle.std.specs.Ordering.{eq_by_cmp, is_eq}
use Rattle.std.proofs.lemmas.List.{map-append}
use Rattle.std.proofs.lemmas.Map.Keys.{IsDistinct-from_sorted}
use Rattle.std.proofs.lemmas.Map.Made.{update_all_none}
use Rattle.mr_mail.specs.Label.{text_cmp}
use Rattle.mr_maildir.specs.File.{FileParts}
use Rattle.mr_maildir.specs.View.{ViewParts}
use Rattle.mr_scan.specs.Seen.{seen_view}
use Rattle.mr_compare.specs.Sides.{at_digest}
use Rattle.mr_fold.specs.inner.Seeing.{AreSeen, IsSeenIn}

-- a mail's files, and how it was left
abbrev pub Looked : Type 0
Looked = (List ℕ × Vec FileParts) × Option ViewParts

abbrev pub entry_of : Looked → List ℕ × Vec FileParts
entry_of looked = looked.0

abbrev pub seen_of : Looked → List ℕ × ViewParts
seen_of looked = (looked.0.0, seen_view looked.1 looked.0.1.items)

-- of all entries of a scan these are left, and the others were looked at
pub record SeenSoFar (all rest : List (List ℕ × Vec FileParts)) (views : List (List ℕ × ViewParts)) : Type 0 where
  pub looked : List Looked
  pub are : all ≡ map entry_of looked ++ rest
  pub seen : views ≡ map seen_of looked

-- one entry more
pub seen_more : (all rest new_rest : List (List ℕ × Vec FileParts)) (views new_views : List (List ℕ × ViewParts)) (digest : List ℕ) (files : Vec FileParts) (left : Option ViewParts) → rest ≡ (digest, files) ∷ new_rest
    → new_views ≡ views ++ (digest, seen_view left files.items) ∷ [] → SeenSoFar all rest views → SeenSoFar all new_rest new_views
seen_more all rest new_rest views new_views digest files left next more far = record {
  looked = far.looked ++ ((digest, files), left) ∷ [];
  are =
      far.are ∙ ap (λ es. map entry_of far.looked ++ es) next
      ∙ sym (ap (λ es. es ++ new_rest) (map-append entry_of far.looked (((digest, files), left) ∷ [])) ∙ append_assoc (map entry_of far.looked) ((digest, files) ∷ []) new_rest);
  seen = more ∙ ap (λ vs. vs ++ (digest, seen_view left files.items) ∷ []) far.seen ∙ sym (map-append seen_of far.looked (((digest, files), left) ∷ []));
}

-- each is seen in its files
seen_by : (b : Bool) (files : Vec FileParts) (left : Option ViewParts) (all : Option (Vec FileParts)) (seen : Option ViewParts) → IsSeenIn all seen → IsSeenIn (cond b (Some files) all) (cond b (Some (seen_view left files.items)) seen)
seen_by true files left all seen h = (left, refl)
seen_by false files left all seen h = h

each_seen : (looked : List Looked) (digest : List ℕ) → IsSeenIn (at_digest (map entry_of looked) digest) (at_digest (map seen_of looked) digest)
each_seen [] digest = refl
each_seen (l ∷ looked) digest = seen_by (is_eq (text_cmp digest l.0.0)) l.0.1 l.1 (at_digest (map entry_of looked) digest) (at_digest (map seen_of looked) digest) (each_seen looked digest)

same_keys : (looked : List Looked) → keys_of (map entry_of looked) ≡ keys_of (map seen_of looked)
same_keys [] = refl
same_keys (l ∷ looked) = ap (λ ks. l.0.0 ∷ ks) (same_keys looked)

-- once all were looked at, a table of the views has just these
pub all_seen : (scan : BTreeMap (List ℕ) (Vec FileParts)) (views : List (List ℕ × ViewParts)) (table : BTreeMap (List ℕ) ViewParts) → IsOrdered text_cmp scan → SeenSoFar scan.entries [] views → IsFromIterResult text_cmp views table
    → AreSeen scan.entries table.entries
all_seen scan views table ordered far made digest =
    let entries : scan.entries ≡ map entry_of far.looked = far.are ∙ append-nil (map entry_of far.looked) in
    let keys : keys_of scan.entries ≡ keys_of views = ap keys_of entries ∙ same_keys far.looked ∙ ap keys_of (sym far.seen) in
    let apart : IsDistinct (eq_by_cmp text_cmp) (keys_of views) = subst (IsDistinct (eq_by_cmp text_cmp)) keys (IsDistinct-from_sorted text_cmp (keys_of scan.entries) ordered) in
    let found : at_digest table.entries digest ≡ at_digest views digest = made.0 digest ∙ update_all_none (eq_by_cmp_equiv nat_list_cmp_total) (eq_by_cmp text_cmp) (λ x y. refl) views digest apart in
    subst (IsSeenIn (at_digest scan.entries digest)) (sym found)
    (subst (λ es. IsSeenIn (at_digest es digest) (at_digest views digest)) (sym entries)
    (subst (λ vs. IsSeenIn (at_digest (map entry_of far.looked) digest) (at_digest vs digest)) (sym far.seen) (each_seen far.looked digest)))
