-- flags, their bits and their names
use Rattle.std.specs.Prelude.{ℕ, Bool, not, ◌==◌, ◌&&◌, ◌||◌, List, [], ◌∷◌, codes}
use Rattle.std.specs.List.{list_all}
use Rattle.std.specs.Int.RustNames.{bit_and}
use Rattle.mr_mail.specs.declared.flags.Flag.{Flag}
use Rattle.mr_mail.specs.declared.flags.Flag.TheVariants.{Seen, Answered, Flagged, Draft, Deleted}

-- the bit of a flag in a flag byte
abbrev pub bit_of : Flag → ℕ
bit_of Seen = 1
bit_of Answered = 2
bit_of Flagged = 4
bit_of Draft = 8
bit_of Deleted = 16

-- how a flag is written
abbrev pub flag_name : Flag → List ℕ
flag_name Seen = codes "seen"
flag_name Answered = codes "answered"
flag_name Flagged = codes "flagged"
flag_name Draft = codes "draft"
flag_name Deleted = codes "deleted"

-- every flag, in the order in which flags are printed
abbrev pub all_flags : List Flag
all_flags = Seen ∷ Answered ∷ Flagged ∷ Draft ∷ Deleted ∷ []

-- whether a flag byte has the flag
abbrev pub has_flag : ℕ → Flag → Bool
has_flag bits flag = bit_and bits (bit_of flag) == bit_of flag

-- whether each flag of the second byte is one of the first's
abbrev pub has_flags : ℕ → ℕ → Bool
has_flags bits wanted = list_all (λ flag. not (has_flag wanted flag) || has_flag bits flag) all_flags

-- whether no flag of the second byte is one of the first's
abbrev pub lacks_flags : ℕ → ℕ → Bool
lacks_flags bits barred = list_all (λ flag. not (has_flag barred flag && has_flag bits flag)) all_flags

-- whether two flags are one
abbrev pub flag_eq : Flag → Flag → Bool
flag_eq a b = bit_of a == bit_of b
