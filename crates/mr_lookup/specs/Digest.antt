-- the digest of what is known
use Rattle.std.specs.Prelude.{◌≡◌, ℕ, List}
use Rattle.sha2.specs.Sha256.{sha256}
use Rattle.mr_forms.specs.Known.{AreSame, Form}
use Rattle.mr_concise.specs.Fragments.{ConciseFragment, knowledge_text}
use Rattle.mr_replica.specs.Fragments.{AreFragmentsOf}

module _ {K : Type 0} (form : Form K) where
  -- it is of the text of all fragments that a knowledge has: this one, and any other that knows the same
  pub record IsDigestOf (knowledge : K) (digest : List ℕ) : Type 0 where
    pub fragments : List ConciseFragment
    pub are_all : AreFragmentsOf (form.is_part knowledge) fragments
    pub digest_is : digest ≡ sha256 (knowledge_text fragments)
    pub same : (other : K) → AreSame (form.known knowledge) (form.known other) → (others : List ConciseFragment) → AreFragmentsOf (form.is_part other) others → digest ≡ sha256 (knowledge_text others)
