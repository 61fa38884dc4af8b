-- Forms of knowledge whose values are told apart by what they know alone.
use Rattle.std.specs.Prelude.{◌≡◌}
use Rattle.mr_version.specs.Name.{Name}
use Rattle.mr_forms.specs.Sets.{Versions}
use Rattle.mr_forms.specs.Known.{AreSame, Part, Form}

module _ {K : Type 0} (form : Form K) where
  -- Two values that know the same have the same parts, and learn a version for all items in the same cases.
  pub record IsByMeaning : Type 0 where
    pub parts : (a b : K) → AreSame (form.known a) (form.known b) → (p : Part) → form.is_part a p → form.is_part b p
    pub learns : (a b : K) → AreSame (form.known a) (form.known b) → (item version : Name) (set : Versions) → form.learns_for_all a item version set ≡ form.learns_for_all b item version set
    pub firsts : (a b : K) → AreSame (form.known a) (form.known b) → (item version : Name) (set : Versions) → form.firsts_for_all a item version set ≡ form.firsts_for_all b item version set

  -- two values that know the same are one
  abbrev pub AreOneValue : K → K → Type 0
  AreOneValue a b = AreSame (form.known a) (form.known b) → a ≡ b
