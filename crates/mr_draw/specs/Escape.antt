-- texts that were given, as they stand in an SVG
use Rattle.std.specs.Prelude.{ℕ, ◌==◌, nat_lt, if◌then◌else◌, List, codes, encode_utf8}
use Rattle.std.specs.List.{flat_map}
use Rattle.std.specs.Str.{chars}

-- a character, or its entity; for a control character, which no SVG may have, a space
abbrev pub entity : ℕ → List ℕ
entity c =
    if c == 60 then codes "&lt;"
    else (if c == 62 then codes "&gt;"
    else (if c == 38 then codes "&amp;"
    else (if c == 34 then codes "&quot;"
    else (if c == 39 then codes "&#39;"
    else (if nat_lt c 32 then codes " " else encode_utf8 c)))))

-- a text of which each character stands so
abbrev pub escaped : List ℕ → List ℕ
escaped text = flat_map entity (chars text)
