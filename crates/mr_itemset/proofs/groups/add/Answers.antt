use Rattle.std.proofs.Common.{rules, refl, ap, sym, ◌∙◌, ◌≡◌, length, [], ◌∷◌, ◌++◌}
use Rattle.mr_itemset.proofs.Names.{Alike, MAX_ITEMS, TakesAt, alone}
use Rattle.mr_itemset.proofs.GroupLemmas.{fill_grouped, grouped_last, grouped_there, noted_joined, noted_alone}
use Rattle.mr_itemset.proofs.groups.add.Goals as goal

pub index_mut-requires : goal.index_mut-requires
index_mut-requires c = let there : TakesAt c.args.groups.now.items c.args.x.vector c.in-Some.at = rw c.deref.ensures.value at c.in-Some.ensures.some in let within = there.0 in search rules

pub returns-in_ok-push-in-Some-clause-added : goal.returns-in_ok-push-in-Some-clause-added
returns-in_ok-push-in-Some-clause-added c =
    let there : TakesAt c.args.groups.now.items c.args.x.vector c.in-Some.at = rw c.deref.ensures.value at c.in-Some.ensures.some in
    rw c.in_ok-push-in-Some.ensures (grouped_there c.args.groups.now.items c.args.x c.in-Some.at c.index_mut.result.now c.requires.in_turn there c.index_mut.ensures.value)

pub returns-in_ok-push-in-Some-clause-in_turn : goal.returns-in_ok-push-in-Some-clause-in_turn
returns-in_ok-push-in-Some-clause-in_turn c = rw (returns-in_ok-push-in-Some-clause-added c) (fill_grouped MAX_ITEMS c.args.groups.now.items c.args.x c.requires.in_turn)

pub returns-in_ok-push-in-Some-clause-noted : goal.returns-in_ok-push-in-Some-clause-noted
returns-in_ok-push-in-Some-clause-noted c =
    let there : TakesAt c.args.groups.now.items c.args.x.vector c.in-Some.at = rw c.deref.ensures.value at c.in-Some.ensures.some in
    rw c.in_ok-push-in-Some.ensures (noted_joined c.args.groups.now.items c.args.x c.in-Some.at c.index_mut.result.now c.args.slots.now c.args.others.now there c.index_mut.ensures.value c.requires.noted)

pub returns-in_ok-push-in-None-clause-added : goal.returns-in_ok-push-in-None-clause-added
returns-in_ok-push-in-None-clause-added c =
    c.in_ok-push-in-None.ensures.items ∙ ap (λ (g : Alike). c.args.groups.now.items ++ g ∷ []) c.in_ok-of-in-None.ensures
    ∙ sym (grouped_last c.args.groups.now.items c.args.x (rw c.deref.ensures.value at (c.in-None.ensures.none refl)))

pub returns-in_ok-push-in-None-clause-in_turn : goal.returns-in_ok-push-in-None-clause-in_turn
returns-in_ok-push-in-None-clause-in_turn c = rw (returns-in_ok-push-in-None-clause-added c) (fill_grouped MAX_ITEMS c.args.groups.now.items c.args.x c.requires.in_turn)

pub returns-in_ok-push-in-None-clause-noted : goal.returns-in_ok-push-in-None-clause-noted
returns-in_ok-push-in-None-clause-noted c =
    let items : c.push-in-None.new.self.items ≡ c.args.groups.now.items ++ alone c.args.x ∷ [] = c.in_ok-push-in-None.ensures.items ∙ ap (λ (g : Alike). c.args.groups.now.items ++ g ∷ []) c.in_ok-of-in-None.ensures in
    let many : c.len.result ≡ length c.args.groups.now.items = let n = c.len.ensures in search rules in
    rw items (noted_alone c.args.groups.now.items c.args.x c.args.slots.now c.note.new.slots c.args.others.now c.note.new.others (rw c.deref.ensures.value at (c.in-None.ensures.none refl)) c.requires.noted (rw many at c.in_ok-note-in-None.ensures.here) c.in_ok-note-in-None.ensures.kept)
