-- what comes of taking a record, by parts of the step
use Rattle.std.specs.Prelude.{Option, Some, None, List, [], ◌++◌, map, filter, All}
use Rattle.mr_version.specs.Name.{Name}
use Rattle.mr_feed.specs.declared.entry.Entry.{Entry}
use Rattle.mr_concise.specs.Vector.{vector_has}
use Rattle.mr_store.specs.Revisions.{supersedes}
use Rattle.mr_forms.specs.Known.{Form}
use Rattle.mr_forms.specs.declared.fault.FormFault.{FormFault}
use Rattle.mr_forms.specs.declared.fault.FormFault.TheVariants as fault
use Rattle.mr_concise.specs.declared.vector.AuthorColumn.{AuthorColumn}
use Rattle.mr_madewith.specs.Revision.{Rev}
use Rattle.mr_wire.specs.Values.{DescentParts}
use Rattle.mr_wire.specs.declared.frame.Body.{Body}
use Rattle.mr_wire.specs.declared.frame.Body.TheVariants.{Item, MoveOut}
use Rattle.mr_replica.specs.State.{State}
use Rattle.mr_replica.specs.Forged.{line_of}
use Rattle.mr_replica.specs.Issue.{Wanted, Fits, FirstFault, dropped, added}
use Rattle.mr_replica.specs.Wanting.{FirstFits, FitBeforeMemory}
use Rattle.mr_session.specs.Session.{Session}
use Rattle.mr_replica.specs.Refusal.{refusal_of}
use Rattle.mr_replica.specs.Receive.{arrival_alone, wanted_by_line, wanted_by_end, has_full}
use Rattle.mr_replica.specs.declared.refusal.Refusal.{Refusal}
use Rattle.mr_replica.specs.declared.refusal.Refusal.TheVariants.{OutOfMemory}

-- the version that a record tells of, with what it supersedes
abbrev pub told_line : Body → Option DescentParts
told_line (Item r) = Some (line_of r)
told_line (MoveOut line) = Some line
told_line body = None

-- what the version that a record tells of supersedes: nothing where it tells of none
abbrev pub below_told : Body → List AuthorColumn
below_told (Item r) = r.below
below_told (MoveOut line) = line.below
below_told body = []

-- this version, as the record tells of it
abbrev pub told_by : (item version : Name) → Body → DescentParts
told_by item version body = record { item = item; version = version; below = below_told body }

-- the entries of a version that is told: the heads that it supersedes leave, and the revision enters where there is one
abbrev pub news_told : DescentParts → (comer : Option Rev) → (heads : List Rev) → List Entry
news_told line comer heads = map dropped (filter (supersedes line.item (vector_has line.below)) heads) ++ map added (arrival_alone comer)

-- why a version that is told is not taken
abbrev pub RefusesLine : {K : Type 0} → Form K → State K → DescentParts → Refusal → Type 0
RefusesLine form s line OutOfMemory = All (Fits form) (wanted_by_line form s line)
RefusesLine form s line e = FirstFault form e (wanted_by_line form s line)

-- the first of these that has no value, or no memory, though the very first has one
abbrev pub RefusesMerged : {K : Type 0} → Form K → List Wanted → FormFault → Type 0
RefusesMerged form wanted fault.OutOfMemory = FirstFits form wanted
RefusesMerged form wanted f = FirstFault form (refusal_of f) wanted

-- why the whole event is refused: the first thing that it wants and that has no value, or no memory, though the very first has one
abbrev pub RefusesEnding : {K : Type 0} → Form K → List Wanted → Refusal → Type 0
RefusesEnding form wanted OutOfMemory = FirstFits form wanted
RefusesEnding form wanted e = FirstFault form e wanted

-- why the end of this session is not taken: where fragments are merged, memory may come before the fault of one behind the first
abbrev pub RefusesEnd : {K : Type 0} → Form K → State K → Option Session → Refusal → Type 0
RefusesEnd form s session OutOfMemory = FitBeforeMemory form (has_full session) (wanted_by_end form s session)
RefusesEnd form s session e = FirstFault form e (wanted_by_end form s session)
