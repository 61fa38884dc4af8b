-- a mail's file in a folder of a Maildir
use Rattle.std.specs.Prelude.{◌≡◌, refl, ℕ, Bool, true, false, not, ◌&&◌, if◌then◌else◌, List, [], ◌∷◌, ◌++◌, codes, length, nat_le}
use Rattle.std.specs.Bool.{Decides}
use Rattle.std.specs.Cmp.{IsEquivalence}
use Rattle.std.specs.Cmp.Lexicographic.{bytes_decides}
use Rattle.std.specs.List.{list_any}
use Rattle.std.specs.Option.{unwrap_or}
use Rattle.std.proofs.Common.{sym, ap}
use Rattle.std.proofs.lemmas.Bool.{and_parts, and_from, false≢true}
use Rattle.std.proofs.lemmas.Bool.Decides.{same_from_decides}
use Rattle.mr_mail.specs.Label.{text_eq}
use Rattle.mr_maildir.specs.Letters.{flags_told}
use Rattle.mr_maildir.specs.Name.{NameParts}
use Rattle.mr_maildir.specs.Told.{behind_key}

-- the label of its folder, whether it stands in `new` and not in `cur`, and its name: what is unique of it, and the rest,
-- which is nothing or `:2,` and the letters
pub record FileParts : Type 0 where
  pub label : List ℕ
  pub is_new : Bool
  pub unique : List ℕ
  pub info : List ℕ

-- `:2,`
abbrev pub info_key : List ℕ
info_key = 58 ∷ 50 ∷ 44 ∷ []

-- the parts of its name
abbrev pub name_of : FileParts → NameParts
name_of file = record { unique = file.unique; letters = behind_key info_key file.info }

-- its letters, and the flags that they tell
abbrev pub letters_on : FileParts → List ℕ
letters_on file = unwrap_or (behind_key info_key file.info) []

abbrev pub flags_on : FileParts → ℕ
flags_on file = flags_told (letters_on file)

abbrev pub same_part : Bool → Bool → Bool
same_part a b = if a then b else not b

-- two files are one
abbrev pub file_eq : FileParts → FileParts → Bool
file_eq a b = text_eq a.label b.label && same_part a.is_new b.is_new && text_eq a.unique b.unique && text_eq a.info b.info

-- whether the file is among these
abbrev pub has_file : List FileParts → FileParts → Bool
has_file files file = list_any (file_eq file) files

-- its path below the Maildir, in a folder of this path, which is empty for the Maildir itself
abbrev pub path_text : List ℕ → FileParts → List ℕ
path_text folder file = (if nat_le 1 (length folder) then folder ++ 47 ∷ [] else []) ++ (if file.is_new then codes "new/" else codes "cur/") ++ (file.unique ++ file.info)

-- this is an equality
same_part_decides : (a b : Bool) → Decides (same_part a b) (a ≡ b)
same_part_decides true true = (λ _. refl, λ _. refl)
same_part_decides true false = (λ h. absurd (false≢true h), λ e. sym e)
same_part_decides false true = (λ h. absurd (false≢true h), λ e. e)
same_part_decides false false = (λ _. refl, λ _. refl)

pub file_eq_decides : (a b : FileParts) → Decides (file_eq a b) (a ≡ b)
file_eq_decides a b = (
  λ same.
      let three = and_parts (text_eq a.label b.label && same_part a.is_new b.is_new && text_eq a.unique b.unique) (text_eq a.info b.info) same in
      let two = and_parts (text_eq a.label b.label && same_part a.is_new b.is_new) (text_eq a.unique b.unique) three.0 in
      let one = and_parts (text_eq a.label b.label) (same_part a.is_new b.is_new) two.0 in
      let labels = (bytes_decides a.label b.label).0 one.0 in
      let parts = (same_part_decides a.is_new b.is_new).0 one.1 in
      let uniques = (bytes_decides a.unique b.unique).0 two.1 in
      let infos = (bytes_decides a.info b.info).0 three.1 in
      λ i. record { label = labels i; is_new = parts i; unique = uniques i; info = infos i },
  λ e.
      and_from _ _ (and_from _ _ (and_from _ _ ((bytes_decides a.label b.label).1 (ap (λ f. f.label) e)) ((same_part_decides a.is_new b.is_new).1 (ap (λ f. f.is_new) e)))
      ((bytes_decides a.unique b.unique).1 (ap (λ f. f.unique) e))) ((bytes_decides a.info b.info).1 (ap (λ f. f.info) e)),
)

pub file_eq_equiv : IsEquivalence file_eq
file_eq_equiv = record {
  refl = λ x. (file_eq_decides x x).1 refl;
  symm = λ x y.
      same_from_decides (file_eq x y) (file_eq y x) (file_eq_decides x y)
      (λ h. sym ((file_eq_decides y x).0 h), λ e. (file_eq_decides y x).1 (sym e));
  congr = λ x y z same. ap (λ f. file_eq f z) ((file_eq_decides x y).0 same);
}
