-- what was left of a mail, item by item
use Rattle.std.specs.Prelude.{Bool, ◌||◌, List, Option, Some, None}
use Rattle.mr_maildir.specs.View.{ViewParts}
use Rattle.mr_compare.specs.declared.sides.LeftMail.{LeftMail}
use Rattle.mr_compare.specs.Joining.{together}

-- what was left of a mail, with one item more of it
abbrev pub next_mail : Option LeftMail → List ViewParts → Bool → LeftMail
next_mail None views came = record { view = together views; came = came }
next_mail (Some mail) views came = record { view = mail.view; came = mail.came || came }
