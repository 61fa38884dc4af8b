-- words of elements that this program doesn't know
use Rattle.std.specs.Prelude.{ℕ, Bool, not, nat_le, ◌&&◌, ◌||◌, List, length, codes}
use Rattle.std.specs.List.{list_all}
use Rattle.mr_mail.specs.Label.{is_label, text_eq}
use Rattle.mr_joins.specs.declared.word.TheConstants.{MAX_WORD_BYTES}

-- `!` to `~`
abbrev pub is_graphic : ℕ → Bool
is_graphic b = nat_le 33 b && nat_le b 126

-- the letter of a flag
abbrev pub is_flag_letter : List ℕ → Bool
is_flag_letter text = text_eq text (codes "D") || text_eq text (codes "F") || text_eq text (codes "R") || text_eq text (codes "S") || text_eq text (codes "T")

-- 1 to 200 bytes of `!` to `~` that are neither a flag's letter nor a label
abbrev pub is_word : List ℕ → Bool
is_word text = nat_le 1 (length text) && nat_le (length text) MAX_WORD_BYTES && list_all is_graphic text && not (is_flag_letter text) && not (is_label text)
