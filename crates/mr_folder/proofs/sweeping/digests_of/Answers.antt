use Rattle.std.proofs.Common.{◌<◌, length, get_or, map, string_bytes, sym, ap, ◌∙◌, arith}
use Rattle.mr_folder.proofs.Names.{digest_of, get_or-map, length-map}
use Rattle.mr_folder.proofs.HeldLemmas.{one_more}
use Rattle.mr_folder.proofs.sweeping.digests_of.Goals as goal

pub loop-name-preserved : goal.loop-name-preserved
loop-name-preserved c =
    let names = c.args.names.now.items in
    let long = length-map names (λ s. string_bytes s) in
    let lt = c.loop-name-test.true in
    let within : c.loop-name.name-index < length (map (λ s. string_bytes s) names) = omega arith in
    one_more digest_of (map (λ s. string_bytes s) names) c.loop-name.name-index (string_bytes c.name-item.result) c.loop-name.digests.items c.push_some.new.digests.items c.digest_of.result within c.loop-name.invariant
    (ap digest_of (get_or-map (λ s. string_bytes s) names c.loop-name.name-index c.name-item.result ∙ (ap (λ l. string_bytes (get_or l c.loop-name.name-index c.name-item.result)) (sym c.deref-name-items.ensures.value) ∙ (ap (λ s. string_bytes s) (sym c.name-item.is) ∙ sym c.as_str.ensures.value))) ∙ sym c.digest_of.ensures)
    c.in_ok-push_some.ensures
