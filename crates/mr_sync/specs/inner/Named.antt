-- files that messages refer to
use Rattle.std.specs.Prelude.{◌≡◌, ℕ, List}
use Rattle.mr_maildir.specs.Reference.{ReferenceParts, reference_text}

-- the body refers to the file of this digest
pub record IsFileOf (body digest : List ℕ) : Type 0 where
  pub parts : ReferenceParts
  pub written : reference_text parts ≡ body
  pub digest_is : parts.digest ≡ digest
