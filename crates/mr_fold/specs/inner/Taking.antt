-- acts that take something away
use Rattle.std.specs.Prelude.{Bool, true, false, not, Option, Some, None}
use Rattle.mr_maildir.specs.View.{ViewParts}
use Rattle.mr_maildir.specs.declared.act.Act.{Act}
use Rattle.mr_maildir.specs.declared.act.Act.TheVariants.{Agree, Create, Edit, Delete, Follow, Remove}
use Rattle.mr_compare.specs.Compare.{keeps_folders}

-- an edit leaves a folder that the mail is held in; one of a mail of which that isn't known may
abbrev pub leaves_a_folder : ViewParts → Option ViewParts → Bool
leaves_a_folder view None = true
leaves_a_folder view (Some held) = not (keeps_folders (Some held) view)

-- an act tells that a mail goes, or that it leaves a folder
abbrev pub takes_away : Act → Option ViewParts → Bool
takes_away Agree held = false
takes_away Create held = false
takes_away (Edit view) held = leaves_a_folder view held
takes_away Delete held = true
takes_away Follow held = false
takes_away Remove held = false
