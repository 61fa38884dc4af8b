use Rattle.std.proofs.Common.{ap, Some}
use Rattle.std.specs.List.{each_same}
use Rattle.mr_store.proofs.CopyLemmas.{reads_clone}
use Rattle.mr_store.proofs.IndexLemmas.{items_of_list}
use Rattle.mr_store.proofs.index.cloned.Goals as goal

pub returns : goal.returns
returns c = reads_clone _ _ (λ a b h. h) items_of_list (λ v w h. ap Some (each_same v.items w.items h.0)) c.args.index.now c.clone.result _ c.clone.ensures.cases
