-- what a change shows
use Rattle.std.specs.Prelude.{◌≡◌, List, Option, Some}
use Rattle.mr_joins.specs.declared.mark.Mark.{Mark}
use Rattle.mr_joins.specs.View.{ViewParts}
use Rattle.mr_joins.specs.Shown.{shown_view}
use Rattle.mr_decide.specs.Changing.{wanted}
use Rattle.mr_decide.specs.Held.{shown}
use Rattle.mr_decide.specs.Deciding.{standing}
use Rattle.mr_decide.specs.declared.held.HeldItem.{HeldItem}
use Rattle.mr_decide.specs.declared.mail_act.Seen.{Seen}

-- a value shows what the user wants of a mail that is shown so, if a file is seen
abbrev pub ShowsWanted : ViewParts → Option ViewParts → Seen → List Mark → Type 0
ShowsWanted shown_so left seen value = (view : ViewParts) → standing seen.view ≡ Some view → shown_view value ≡ wanted shown_so left view

abbrev pub Shows : List HeldItem → Option ViewParts → Seen → List Mark → Type 0
Shows items left seen value = ShowsWanted (shown items) left seen value
