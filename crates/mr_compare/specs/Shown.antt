-- how far a Maildir shows a feed
use Rattle.std.specs.Prelude.{ℕ, List}
use Rattle.mr_version.specs.Name.{Name}

-- how many entries are shown, and the items of these that lack their file
pub record ShownParts : Type 0 where
  pub entries : ℕ
  pub lacking : List Name
