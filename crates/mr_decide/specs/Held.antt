-- what is held of a mail
use Rattle.std.specs.Prelude.{Bool, not, List, map}
use Rattle.std.specs.List.{list_any, flat_map}
use Rattle.mr_joins.specs.declared.mark.Mark.{Mark}
use Rattle.mr_joins.specs.Value.{joined}
use Rattle.mr_joins.specs.View.{ViewParts, view_eq}
use Rattle.mr_joins.specs.Shown.{shown_view}
use Rattle.mr_decide.specs.declared.held.Head.{Head}
use Rattle.mr_decide.specs.declared.held.HeldItem.{HeldItem}

-- the values of an item's heads
abbrev pub values_in : HeldItem → List (List Mark)
values_in item = map (λ (head : Head). head.value) item.heads.items

-- the values of all heads of a mail
abbrev pub values_of : List HeldItem → List (List Mark)
values_of held = flat_map values_in held

-- what they say together
abbrev pub together : List HeldItem → List Mark
together held = joined (values_of held)

-- how the mail is shown
abbrev pub shown : List HeldItem → ViewParts
shown held = shown_view (together held)

-- a head shows something else than this
abbrev pub differs : ViewParts → Head → Bool
differs view head = not (view_eq (shown_view head.value) view)

-- an item is due where one of its heads does
abbrev pub is_due : HeldItem → ViewParts → Bool
is_due item view = list_any (differs view) item.heads.items

-- an item of the mail is due
abbrev pub is_one_due : List HeldItem → ViewParts → Bool
is_one_due held view = list_any (λ (item : HeldItem). is_due item view) held
