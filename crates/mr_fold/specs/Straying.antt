-- the layouts of a Maildir, as they are told
use Rattle.std.specs.Prelude.{ℕ, List, codes}
use Rattle.mr_maildir.specs.declared.layout.Layout.{Layout}
use Rattle.mr_maildir.specs.declared.layout.Layout.TheVariants.{Dots, Plain}

-- the name of a layout
abbrev pub layout_name : Layout → List ℕ
layout_name Dots = codes "dots"
layout_name Plain = codes "plain"
