-- views of a mail as contracts see them
use Rattle.std.specs.Prelude.{ℕ, ◌≤◌, Bool, ◌==◌, ◌&&◌, List, [], length, refl}
use Rattle.std.specs.Coded.{Coded, code_by, coded×, coded_ℕ, coded_list}
use Rattle.std.specs.Cmp.{IsEquivalence, nat_eq_equiv}
use Rattle.std.specs.Cmp.Lexicographic.{pointwise, nat_list_eq_equiv, lists_equiv}
use Rattle.std.specs.List.{AllPass}
use Rattle.std.specs.List.Sorted.{IsStrictlySortedBy}
use Rattle.std.proofs.lemmas.Bool.{and_parts, and_from}
use Rattle.mr_mail.specs.Flag.{has_flag}
use Rattle.mr_mail.specs.Label.{text_cmp, text_eq, is_label}
use Rattle.mr_mail.specs.Mail.{coded_text}
use Rattle.mr_mail.specs.declared.flags.Flag.TheVariants.{Deleted}

-- where a mail stands, by the labels of its folders, and its flag byte
pub record ViewParts : Type 0 where
  pub labels : List (List ℕ)
  pub flags : ℕ

-- a view is stored as the pair of its fields
abbrev pub view_code : Coded ViewParts
view_code =
    code_by (List (List ℕ) × ℕ) (coded× (coded_list coded_text) coded_ℕ)
    (λ v. (v.labels, v.flags)) (λ p. record { labels = p.0; flags = p.1 }) (λ _. refl)

-- what each view keeps: labels in rising order, each once, and a flag byte
pub record IsView (view : ViewParts) : Type 0 where
  pub rising : IsStrictlySortedBy text_cmp view.labels
  pub each : AllPass is_label view.labels
  pub flags_in : view.flags ≤ 31

-- two views are one
abbrev pub view_eq : ViewParts → ViewParts → Bool
view_eq a b = pointwise text_eq a.labels b.labels && (a.flags == b.flags)

-- this is an equality
pub view_eq_equiv : IsEquivalence view_eq
view_eq_equiv = record {
  refl = λ x. and_from _ _ ((lists_equiv nat_list_eq_equiv).refl x.labels) (nat_eq_equiv.refl x.flags);
  symm = λ x y i. (lists_equiv nat_list_eq_equiv).symm x.labels y.labels i && nat_eq_equiv.symm x.flags y.flags i;
  congr = λ x y z same.
      let parts = and_parts (pointwise text_eq x.labels y.labels) (x.flags == y.flags) same in
      λ i. (lists_equiv nat_list_eq_equiv).congr x.labels y.labels z.labels parts.0 i && nat_eq_equiv.congr x.flags y.flags z.flags parts.1 i;
}

-- a mail that stands in no folder
abbrev pub is_nowhere : ViewParts → Bool
is_nowhere view = length view.labels == 0

-- a mail that is gone: it stands in no folder, and counts as deleted
abbrev pub is_gone : ViewParts → Bool
is_gone view = is_nowhere view && has_flag view.flags Deleted

-- no folder and no flag
abbrev pub nowhere : ViewParts
nowhere = record { labels = []; flags = 0 }
