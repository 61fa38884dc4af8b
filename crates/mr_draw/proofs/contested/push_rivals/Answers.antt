use Rattle.std.proofs.Common.{◌∙◌, ap, ◌++◌, map}
use Rattle.mr_version.specs.Sets.{is_listed}
use Rattle.mr_madewith.specs.Revision.{Rev}
use Rattle.mr_store.specs.Revisions.{has_conflict}
use Rattle.mr_draw.proofs.ListLemmas.{filter-same}
use Rattle.mr_draw.proofs.contested.push_rivals.Goals as goal

pub returns : goal.returns
returns g c =
    let heads = c.args.replica.now.heads in
    let items = c.in_ok-items.items.items in
    let same = filter-same (λ (r : Rev). is_listed items r.item) (λ r. has_conflict heads r.item) (λ r. c.in_ok-items.ensures.exact r.item) heads in
    let pushed = rw (c.heads.ensures.all, c.as_slice.ensures.value) at c.in_ok-push_heads_of.ensures in
    pushed ∙ ap (λ rs. c.args.contested.now.items ++ map (λ (r : Rev). r.version) rs) same
