-- what stands behind the unique part of a file's name
use Rattle.std.specs.Prelude.{ℕ, List, string_bytes}
use Rattle.mr_maildir.specs.declared.info.InfoText.{InfoText}
use Rattle.mr_maildir.specs.declared.info.InfoText.TheVariants.{Short, Long}

-- its bytes, wherever they lie
abbrev pub held_bytes : InfoText → List ℕ
held_bytes (Short text) = text.bytes
held_bytes (Long text) = string_bytes text
