-- a message's body that stands for a mail, with what was toggled of it
use Rattle.std.specs.Prelude.{◌≡◌, ◌<◌, ◌^◌, ℕ, List, ◌∷◌, ◌++◌, codes}
use Rattle.std.specs.List.{flat_map}
use Rattle.mr_version.specs.Name.{Name}
use Rattle.mr_maildir.specs.Counts.{ended}
use Rattle.mr_maildir.specs.Lines.{AreLines, LinesParts, lines_of, told_lines}
use Rattle.mr_maildir.specs.Reference.{IsDigest, digest_line, size_line}
use Rattle.mr_maildir.specs.declared.mail_text.MailText.{MailText}

-- the digest of the file's bytes, how many these are, and what the lines behind tell
pub record TextParts : Type 0 where
  pub digest : List ℕ
  pub size : ℕ
  pub told : LinesParts

abbrev pub text_of : MailText → TextParts
text_of t = record { digest = t.digest; size = t.size; told = lines_of t.told }

-- how it is written in a record of the own item
abbrev pub mail_text : Name → TextParts → List ℕ
mail_text own t = codes "mail 2" ++ 10 ∷ digest_line t.digest (size_line t.size (flat_map ended (told_lines own t.told)))

-- a digest, a size below 2^64, and lines that may be told
pub record IsText (t : TextParts) : Type 0 where
  pub digest_in : IsDigest t.digest
  pub size_in : t.size < 2 ^ 64
  pub told_in : AreLines t.told
