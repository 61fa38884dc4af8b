-- how many bytes the files of mails have, as revisions tell
use Rattle.std.specs.Prelude.{◌≡◌, ℕ, List, map, fold, All, if◌then◌else◌, Option, Some, None}
use Rattle.std.specs.Ordering.{is_eq}
use Rattle.mr_madewith.specs.Revision.{Rev}
use Rattle.mr_mail.specs.Label.{text_cmp}
use Rattle.mr_maildir.specs.Reference.{ReferenceParts, reference_text}
use Rattle.mr_compare.specs.Held.{RefersToNone}
use Rattle.mr_compare.specs.Sides.{at_digest}

-- what a body refers to: a file, or none
abbrev pub Refers : List ℕ → Option ReferenceParts → Type 0
Refers body None = RefersToNone body
Refers body (Some parts) = reference_text parts ≡ body

-- the size that a reference tells of the digest's file, and else the one that was told before
abbrev pub newer_size : List ℕ → Option ℕ → Option ReferenceParts → Option ℕ
newer_size digest before None = before
newer_size digest before (Some parts) = if is_eq (text_cmp parts.digest digest) then Some parts.size else before

-- the size that the last of some references to the digest's file tells
abbrev pub last_size : List ℕ → List (Rev × Option ReferenceParts) → Option ℕ
last_size digest told = fold (λ before p. newer_size digest before p.1) None told

-- A table has the sizes of the files that these revisions refer to, and of no others: of each the one that the last of them tells.
pub record AreSizes (revisions : List Rev) (sizes : List (List ℕ × ℕ)) : Type 0 where
  pub told : List (Rev × Option ReferenceParts)
  pub of_all : map (λ p. p.0) told ≡ revisions
  pub by_bodies : All (λ p. Refers p.0.message.body p.1) told
  pub sizes_are : (digest : List ℕ) → at_digest sizes digest ≡ last_size digest told

-- what one body more tells was put in
pub record PutsSize (body : List ℕ) (old new : List (List ℕ × ℕ)) : Type 0 where
  pub told : Option ReferenceParts
  pub by_body : Refers body told
  pub sizes_are : (digest : List ℕ) → at_digest new digest ≡ newer_size digest (at_digest old digest) told
