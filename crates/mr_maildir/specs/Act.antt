-- what is done for one mail, of three views of it
use Rattle.std.specs.Prelude.{Bool, false, if◌then◌else◌, is_some, Option, Some, None, [], ◌∷◌}
use Rattle.mr_maildir.specs.View.{ViewParts, view_eq, is_nowhere}
use Rattle.mr_maildir.specs.Merging.{merged_view, over}
use Rattle.mr_maildir.specs.declared.act.Act.{Act}
use Rattle.mr_maildir.specs.declared.act.Act.TheVariants.{Agree, Create, Edit, Delete, Follow, Remove}

-- a mail that stands in no folder has no file
abbrev pub standing : Option ViewParts → Option ViewParts
standing None = None
standing (Some view) = if is_nowhere view then None else Some view

-- whether it was left, and so
abbrev pub is_left : Option ViewParts → ViewParts → Bool
is_left None view = false
is_left (Some left) view = view_eq left view

-- the files are made as the view says: none for a mail that stands nowhere
abbrev pub following : ViewParts → Act
following held = if is_nowhere held then Remove else Follow

-- what both sides say together is told, unless it is what is held
abbrev pub settled : ViewParts → ViewParts → Act
settled merged held = if view_eq merged held then following held else Edit merged

-- a file is seen, and the replica has the mail: who alone changed it is followed, and where both did, both are
abbrev pub act_on_both : Option ViewParts → ViewParts → ViewParts → Act
act_on_both left seen held =
    if view_eq seen held then Agree
    else (if is_left left seen then following held
    else (if is_left left held then Edit seen
    else settled (merged_view (over left) (seen ∷ held ∷ [])) held))

-- a file is seen that the replica doesn't have: it is new, unless it was left there
abbrev pub act_on_unheld : Option ViewParts → Act
act_on_unheld left = if is_some (standing left) then Remove else Create

abbrev pub act_on_seen : Option ViewParts → ViewParts → Option ViewParts → Act
act_on_seen left seen None = act_on_unheld left
act_on_seen left seen (Some held) = act_on_both left seen held

-- no file is seen: where one is held it was removed here, unless it was changed elsewhere
abbrev pub act_on_unseen : Option ViewParts → Option ViewParts → Act
act_on_unseen left None = Agree
act_on_unseen left (Some held) = if is_left left held then Delete else Follow

abbrev pub act_of_standing : Option ViewParts → Option ViewParts → Option ViewParts → Act
act_of_standing left None held = act_on_unseen left (standing held)
act_of_standing left (Some seen) held = act_on_seen left seen held

-- what is done for a mail that was left so, is seen so, and is held so
abbrev pub act_of : Option ViewParts → Option ViewParts → Option ViewParts → Act
act_of left seen held = act_of_standing left (standing seen) held
