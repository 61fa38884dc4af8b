use Rattle.std.proofs.Common.{◌≡◌, ◌||◌, ◌∙◌}
use Rattle.mr_forms.specs.Sets.{is_listed}
use Rattle.mr_forms.proofs.SetLemmas.{or_comm}
use Rattle.mr_forms.proofs.VersionLemmas.{versions_alone-both}
use Rattle.mr_forms.proofs.plain_versions.PlainVersions.insert_all.Goals as goal

pub returns-clause-ok : goal.returns-clause-ok
returns-clause-ok c v =
    let has : is_listed c.add_all.new.set.keys v ≡ (is_listed c.args.versions.now v || is_listed c.args.self.now v) = rw c.self.view_is at (c.in_ok-add_all.ensures.ok v) in
    has ∙ or_comm (is_listed c.args.versions.now v) (is_listed c.args.self.now v)

pub invariant_of-self-2 : goal.invariant_of-self-2
invariant_of-self-2 c = versions_alone-both (is_listed c.args.versions.now) (is_listed c.self.inside.versions.keys) (is_listed c.add_all.new.set.keys) c.in_ok-add_all.ensures.ok c.requires c.self.invariant
