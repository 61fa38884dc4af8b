use Rattle.std.proofs.Common.{◌≡◌, ◌<◌, ◌⊎◌, inl, inr, ◌+◌, List, [], ◌∷◌, ◌++◌, length, subst, sym, rules, arith}
use Rattle.mr_sync.proofs.Names.{AllByRecursion, AreSpelled, Hellos, IsHellos, MatchOption, flat_map, hellos_bytes, length-append}
use Rattle.mr_sync.proofs.IdleLaws.{all_more, grow, no_pair, read_all, read_same}
use Rattle.mr_sync.proofs.idle.read_hellos.Goals.{else-loop-test, then-loop-test+in_default}
use Rattle.mr_sync.proofs.idle.read_hellos.Goals as goal

pub returns-in_default-hellos_of : goal.returns-in_default-hellos_of
returns-in_default-hellos_of c =
    let none : (written : List Hellos) → AreSpelled c.args.bytes.now written → ⊥ =
    no_pair c.args.bytes.now c.loop.rest.now c.in-Some.front.now c.loop.talks.items c.loop.invariant.0 c.loop.invariant.1 (search rules) c.in-Some.ensures.cases.0 c.in_default-hellos_of.ensures in
    record { spelled = none; same = none }

pub loop-preserved : goal.loop-preserved
loop-preserved c =
    let x = c.in-Some-hellos_of.pair in
    let items : c.push.new.self.items ≡ c.loop.talks.items ++ x ∷ [] = c.in_ok-push.ensures.items in
    let spelled = grow c.loop.talks.items x c.args.bytes.now c.loop.rest.now c.in-Some.front.now c.in-Some.behind.now c.loop.invariant.0 c.in-Some.ensures.cases.0 c.in-Some.ensures.cases.1 c.in-Some-hellos_of.ensures.1 in
    let are = all_more c.loop.talks.items x c.loop.invariant.1 c.in-Some-hellos_of.ensures.0 in
    let long : length (c.loop.talks.items ++ x ∷ []) ≡ c.loop.counter + 1 = omega (arith, length-append c.loop.talks.items (x ∷ []), c.loop.invariant.2) in
    subst (λ (talks : List Hellos). (c.args.bytes.now ≡ flat_map hellos_bytes talks ++ c.in-Some.behind.now) × AllByRecursion IsHellos talks × (length talks ≡ c.loop.counter + 1)) (sym items) (spelled, are, long)

pub returns : goal.returns
returns c =
    let ends : (length c.loop.talks.items ≡ 256) ⊎ (length c.loop.rest.now < 88) = elim c.loop-test.branch [ else-loop-test w ↦ inl (omega (arith, c.loop.invariant.2, c.loop.auto.counter-end, w.loop-test.false)) | then-loop-test+in_default w ↦ inr w.in_default.ensures.cases ] in
    let found : MatchOption c.then_some.result ((written : List Hellos) → AreSpelled c.args.bytes.now written → ⊥) (λ talks. AreSpelled c.args.bytes.now talks.items) =
    read_all c.args.bytes.now c.loop.rest.now c.loop.talks c.is_empty.result c.then_some.result c.loop.invariant.0 c.loop.invariant.1 (omega (arith, c.loop.invariant.2, c.loop.auto.counter-end)) ends c.is_empty.ensures c.then_some.ensures in
    record { spelled = found; same = read_same c.args.bytes.now c.then_some.result found }
