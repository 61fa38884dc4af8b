-- the versions that were one of several heads of their item
use Rattle.std.specs.Prelude.{ℕ, if◌then◌else◌, List, [], ◌++◌, filter, map}
use Rattle.std.specs.List.{flat_map}
use Rattle.std.specs.Option.{option_map_or}
use Rattle.mr_version.specs.Name.{Name}
use Rattle.mr_version.specs.declared.author.TheConstants.{AUTHORS}
use Rattle.mr_mail.specs.Mail.{Mail}
use Rattle.mr_madewith.specs.Revision.{Rev}
use Rattle.mr_model.specs.declared.event.Act.{Act}
use Rattle.mr_model.specs.declared.event.Act.TheVariants as act
use Rattle.mr_store.specs.Revisions.{has_conflict}
use Rattle.mr_world.specs.Kept.{WorldView, replica_at}
use Rattle.mr_world.specs.declared.answered.Answered.{Answered}
use Rattle.mr_draw.specs.Happening.{issued_in}
use Rattle.mr_draw.specs.Lanes.{below}
use Rattle.mr_draw.specs.Look.{are_several}

-- the versions that an edit merges
abbrev pub merged_of : Act Mail → List Name
merged_of (act.Edit bases m) = if are_several bases then bases else []
merged_of other = []

-- those that an event merged, which issued a version
abbrev pub merged_by : Answered → List Name
merged_by x = option_map_or (λ v. merged_of x.event.act) (issued_in x.answer) []

-- the heads whose items have several
abbrev pub rivals : List Rev → List Name
rivals heads = map (λ r. r.version) (filter (λ r. has_conflict heads r.item) heads)

module _ {K : Type 0} where
  -- those of the replica of this id
  abbrev pub rivals_at : WorldView K → ℕ → List Name
  rivals_at w id = option_map_or (λ s. rivals s.heads) (replica_at w.members id) []

  -- those that a merge names, and those that some replica has now
  abbrev pub contested_in : WorldView K → List Name
  contested_in w = flat_map merged_by w.answers ++ flat_map (rivals_at w) (below AUTHORS)
