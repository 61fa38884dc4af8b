-- what revisions are of which mails
use Rattle.std.specs.Prelude.{◌≡◌, ◌≢◌, ℕ, List, [], ◌∷◌, map, All, Option, Some, None}
use Rattle.std.specs.List.{flat_map}
use Rattle.std.specs.Str.{IsUtf8}
use Rattle.mr_version.specs.Name.{Name}
use Rattle.mr_madewith.specs.Revision.{Rev}
use Rattle.mr_maildir.specs.View.{ViewParts}
use Rattle.mr_maildir.specs.Policy.{view_of}
use Rattle.mr_maildir.specs.Reference.{ReferenceParts, IsReference, reference_text}
use Rattle.mr_compare.specs.declared.held.Head.{Head}

-- the body is a reference to a file of this digest, as it is written
pub record RefersTo (digest body : List ℕ) : Type 0 where
  pub parts : ReferenceParts
  pub digest_is : parts.digest ≡ digest
  pub is_reference : IsReference parts
  pub is_text : IsUtf8 body
  pub written : reference_text parts ≡ body

-- the body refers to no file
abbrev pub RefersToNone : List ℕ → Type 0
RefersToNone body = (parts : ReferenceParts) → IsReference parts → IsUtf8 body → reference_text parts ≢ body

-- what a body tells: the digest of a file, or none
abbrev pub Tells : List ℕ → Option (List ℕ) → Type 0
Tells body None = RefersToNone body
Tells body (Some digest) = RefersTo digest body

-- a revision as a head of the mail of this digest
abbrev pub head_of : List ℕ → Rev → (List ℕ × Name) × Head
head_of digest r = ((digest, r.item), record { version = r.version; view = view_of r.message })

abbrev pub heads_told : Rev → Option (List ℕ) → List ((List ℕ × Name) × Head)
heads_told r None = []
heads_told r (Some digest) = head_of digest r ∷ []

-- These are the heads of all revisions that refer to a file, in their order: of each revision is known what its body tells.
pub record AreRead (revisions : List Rev) (heads : List ((List ℕ × Name) × Head)) : Type 0 where
  pub told : List (Rev × Option (List ℕ))
  pub of_all : map (λ p. p.0) told ≡ revisions
  pub by_bodies : All (λ p. Tells p.0.message.body p.1) told
  pub heads_are : heads ≡ flat_map (λ p. heads_told p.0 p.1) told

-- how a mail stands by a head
abbrev pub view_at : Head → ViewParts
view_at head = head.view
