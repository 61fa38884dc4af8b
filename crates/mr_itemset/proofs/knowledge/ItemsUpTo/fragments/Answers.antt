use Rattle.std.proofs.Common.{◌≡◌, map}
use Rattle.mr_itemset.specs.Shown.{shown, fragments_in}
use Rattle.mr_itemset.proofs.ShownLemmas.{shown_normal, shown_parts, shown_known, shown_has_items}
use Rattle.mr_itemset.proofs.knowledge.ItemsUpTo.fragments.Goals as goal

pub returns : goal.returns
returns g c =
    let k = c.args.self.now in
    let fs = c.in_ok-into_fragments.field-0.items in
    let normal = c.folded.ensures.normal in
    let are : map shown fs ≡ fragments_in k = rw c.in_ok-folded.ensures.is at c.in_ok-into_fragments.ensures.are in
    record {
      are = are;
      normal = (shown_normal k fs normal are).normal;
      ok = shown_known k fs normal are;
      items = shown_has_items k fs normal are;
      parts = shown_parts k fs normal are;
      memory = tt;
    }
