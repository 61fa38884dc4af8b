use Rattle.std.proofs.Common.{◌≡◌, ◌<◌, ◌+◌, ◌-◌, false, length, get_or, sym, ap, ◌∙◌, arith}
use Rattle.mr_store.proofs.Names.{Listing, get_or_default, is_for}
use Rattle.mr_concise.proofs.NameLemmas.{name_eq_parts}
use Rattle.mr_store.proofs.FragmentIndexLemmas.{those_from}
use Rattle.mr_store.proofs.fragment_index.listings_for.Goals as goal
use Rattle.mr_store.proofs.fragment_index.listings_for.Goals.{then-loop-to-test+else-eq, else-loop-to-test}

pub returns : goal.returns
returns c =
    let i = c.loop-to.invariant in
    let from = c.place_of-from.result in
    let to = c.loop-to.to in
    let begins = i.begins in
    let reach : from + (to - from) ≡ to = omega arith in
    let ends : (d : Listing) → to < length c.args.listings.now → is_for c.args.item (get_or c.args.listings.now to d) ≡ false =
    elim c.loop-to-test.branch [
      | then-loop-to-test+else-eq w ↦ λ d lt. ap (is_for c.args.item) (get_or_default c.args.listings.now to d w.index-listings-to.result lt) ∙ (name_eq_parts (get_or c.args.listings.now to w.index-listings-to.result).item c.args.item ∙ (sym w.eq.ensures ∙ w.if-eq.false))
      | else-loop-to-test w ↦ λ d lt. let past = w.loop-to-test.false in absurd (omega (arith, lt, past))
    ] in
    those_from c.args.item c.args.listings.now from to c.requires c.place_of-from.ensures.place i.begins i.within i.all_are ends (to - from) reach
