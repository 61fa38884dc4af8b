-- the files of a mail, with one more
use Rattle.std.proofs.Common.{◌≡◌, ℕ, Bool, true, false, cond, List, [], ◌∷◌, ◌++◌, Option, Some, None, refl, ap, sym, ◌∙◌}
use Rattle.std.specs.Cmp.{tied_itself}
use Rattle.std.specs.Cmp.Lexicographic.{nat_list_cmp_total}
use Rattle.std.specs.declared.cmp.Ordering.{Ordering}
use Rattle.std.specs.declared.cmp.Ordering.TheVariants.{Less, Equal, Greater}
use Rattle.std.specs.Ordering.{is_eq}
use Rattle.std.specs.Map.{lookup}
use Rattle.std.specs.Global.{Vec}
use Rattle.mr_mail.specs.Label.{text_cmp}
use Rattle.mr_maildir.specs.File.{FileParts}
use Rattle.mr_scan.specs.inner.Scan.{items_of, files_at, files_with}

-- what a table has of a digest
abbrev found : {X : Type 0} → List ℕ → List (List ℕ × X) → Option X
found digest table = lookup (λ own. is_eq (text_cmp digest own)) table

-- digests that compare alike find the same
alike : {X : Type 0} (x y : List ℕ) → text_cmp x y ≡ Equal → (table : List (List ℕ × X)) → found x table ≡ found y table
alike x y same [] = refl
alike {X} x y same (e ∷ table) =
    ap (λ (o : Ordering). cond (is_eq o) (Some e.1) (found x table)) (nat_list_cmp_total.congr x y e.0 same)
    ∙ ap (λ (r : Option X). cond (is_eq (text_cmp y e.0)) (Some e.1) r) (alike x y same table)

-- a mail that isn't there is put in with one file
pub put_first : (old new : List (List ℕ × Vec FileParts)) (digest : List ℕ) (file : FileParts) (one : Vec FileParts) → one.items ≡ file ∷ [] →
    found digest old ≡ None →
    ((other : List ℕ) → found other new ≡ cond (is_eq (text_cmp digest other)) (Some one) (found other old)) →
    (other : List ℕ) → files_at new other ≡ files_with (is_eq (text_cmp digest other)) file (files_at old other)
put_first old new digest file one is absent put other = ap items_of (put other) ∙ cases (text_cmp digest other) refl
  where
    cases : (o : Ordering) → text_cmp digest other ≡ o → items_of (cond (is_eq o) (Some one) (found other old)) ≡ files_with (is_eq o) file (files_at old other)
    cases Less e = refl
    cases Equal e = is ∙ ap (λ (r : Option (Vec FileParts)). items_of r ++ file ∷ []) (sym absent ∙ alike digest other e old)
    cases Greater e = refl

-- a mail that is there gets one file, and then those from before in front of it
pub put_more : (old mid new : List (List ℕ × Vec FileParts)) (digest : List ℕ) (file : FileParts) (one before : Vec FileParts) → one.items ≡ file ∷ [] →
    found digest old ≡ Some before →
    ((other : List ℕ) → found other mid ≡ cond (is_eq (text_cmp digest other)) (Some one) (found other old)) →
    ((other : List ℕ) → files_at new other ≡ cond (is_eq (text_cmp digest other)) (before.items ++ files_at mid digest) (files_at mid other)) →
    (other : List ℕ) → files_at new other ≡ files_with (is_eq (text_cmp digest other)) file (files_at old other)
put_more old mid new digest file one before is present put behind other = behind other ∙ cases (text_cmp digest other) refl
  where
    self : is_eq (text_cmp digest digest) ≡ true
    self = ap is_eq (tied_itself nat_list_cmp_total digest)

    own : files_at mid digest ≡ file ∷ []
    own = ap items_of (put digest) ∙ ap (λ (b : Bool). items_of (cond b (Some one) (found digest old))) self ∙ is

    others : (o : Ordering) → text_cmp digest other ≡ o → is_eq o ≡ false → files_at mid other ≡ files_at old other
    others o e not =
        ap items_of (put other)
        ∙ ap (λ (c : Ordering). items_of (cond (is_eq c) (Some one) (found other old))) e
        ∙ ap (λ (b : Bool). items_of (cond b (Some one) (found other old))) not

    cases : (o : Ordering) → text_cmp digest other ≡ o
        → cond (is_eq o) (before.items ++ files_at mid digest) (files_at mid other) ≡ files_with (is_eq o) file (files_at old other)
    cases Less e = others Less e refl
    cases Equal e =
        ap (λ (files : List FileParts). before.items ++ files) own
        ∙ ap (λ (r : Option (Vec FileParts)). items_of r ++ file ∷ []) (sym present ∙ alike digest other e old)
    cases Greater e = others Greater e refl
