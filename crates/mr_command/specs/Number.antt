-- numbers as a script writes them
use Rattle.std.specs.Prelude.{◌≡◌, ◌<◌, ◌^◌, ◌&&◌, ℕ, nat_le, List}
use Rattle.std.specs.Fmt.{decimal}
use Rattle.mr_command.specs.declared.fault.LineFault.{LineFault}
use Rattle.mr_command.specs.declared.fault.LineFault.TheVariants.{BadNumber}
use Rattle.mr_command.specs.Reading.{Reading, names, gives_if, ◌andthen◌}
use Rattle.mr_version.specs.declared.author.TheConstants.{AUTHORS}

-- the word is this number's decimal text
pub record SpellsNumber (word : List ℕ) (n : ℕ) : Type 0 where
  pub spelled : word ≡ decimal n
  pub in_range : n < 2 ^ 64

-- the word is the decimal text of this replica's id
pub record SpellsId (word : List ℕ) (id : ℕ) : Type 0 where
  pub spelled : word ≡ decimal id
  pub in_range : id < AUTHORS

-- a number of 1 to most
abbrev pub reads_up_to : ℕ → LineFault → List ℕ → Reading ℕ
reads_up_to most outside word = names SpellsNumber BadNumber word andthen λ n. gives_if (nat_le 1 n && nat_le n most) outside n
