-- the digest that a name of the store writes
use Rattle.std.specs.Prelude.{ℕ, List, Option, Some, None, Result, Ok, Err, if◌then◌else◌}
use Rattle.std.specs.Str.{bytes_eq}
use Rattle.hex.specs.Hex.{encode_lower, decode_sized}
use Rattle.hex.specs.declared.error.FromHexError.{FromHexError}

-- the digest that was decoded, if the name writes it in lower case
abbrev pub if_lower : List ℕ → Result (List ℕ) FromHexError → Option (List ℕ)
if_lower name (Ok digest) = if bytes_eq (encode_lower digest) name then Some digest else None
if_lower name (Err e) = None

-- the digest whose digits a name is
abbrev pub digest_of : List ℕ → Option (List ℕ)
digest_of name = if_lower name (decode_sized name 32)
