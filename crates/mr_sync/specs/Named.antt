-- which files mail needs
use Rattle.std.specs.Prelude.{◌≡◌, ◌⊎◌, ℕ, Bool, true, not, IsTrue, List, is_some}
use Rattle.std.specs.Cmp.Lexicographic.{slice_cmp}
use Rattle.std.specs.List.{list_any}
use Rattle.std.specs.Ordering.{is_eq, nat_cmp}
use Rattle.std.specs.Str.{IsUtf8}
use Rattle.mr_folder.specs.Inside.{stored_path}
use Rattle.mr_folder.specs.Tree.{Tree}
use Rattle.mr_mail.specs.Mail.{Mail}
use Rattle.mr_maildir.specs.Policy.{view_of}
use Rattle.mr_maildir.specs.Reference.{IsReference, ReferenceParts, reference_text}
use Rattle.mr_maildir.specs.View.{is_gone}
use Rattle.mr_wire.specs.declared.frame.Body.{Body}
use Rattle.mr_wire.specs.declared.frame.Body.TheVariants.{Item}
use Rattle.mr_wire.specs.declared.frame.Frame.{Frame}
use Rattle.mr_wire.specs.declared.frame.Frame.TheVariants as frame

-- a mail needs its file unless it is gone
abbrev pub needs_file : Mail → Bool
needs_file message = not (is_gone (view_of message))

-- the mail needs its file, and its body refers to the one of this digest
pub record NeedsFile (message : Mail) (digest : List ℕ) : Type 0 where
  pub needs : needs_file message ≡ true
  pub parts : ReferenceParts
  pub is : IsReference parts
  pub text : IsUtf8 message.body
  pub written : reference_text parts ≡ message.body
  pub digest_is : parts.digest ≡ digest

-- the body of a record, or the record in a frame, tells of a mail that needs the file of this digest
abbrev pub BodyNeeds : Body → List ℕ → Type 0
BodyNeeds (Item revision) digest = NeedsFile revision.message digest
BodyNeeds body digest = ⊥

abbrev pub FrameNeeds : Frame → List ℕ → Type 0
FrameNeeds (frame.Record sent) digest = BodyNeeds sent.body digest
FrameNeeds (frame.Ask q) digest = ⊥
FrameNeeds (frame.Receipt r) digest = ⊥

-- a list of digests has this one
abbrev pub is_listed : List (List ℕ) → List ℕ → Bool
is_listed digests digest = list_any (λ own. is_eq (slice_cmp nat_cmp digest own)) digests

-- the store has a file by this digest, or the digest is on the list of those whose files are lacking
abbrev pub HasOrLists : Tree → List (List ℕ) → List ℕ → Type 0
HasOrLists tree lacking digest = IsTrue (is_some (tree (stored_path digest))) ⊎ IsTrue (is_listed lacking digest)

-- so is each file that this frame needs
abbrev pub HasOrListsOf : Tree → List (List ℕ) → Frame → Type 0
HasOrListsOf tree lacking f = (digest : List ℕ) → FrameNeeds f digest → HasOrLists tree lacking digest
