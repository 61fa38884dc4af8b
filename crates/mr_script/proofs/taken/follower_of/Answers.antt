use Rattle.std.proofs.Common.{◌≡◌, ◌+◌, ◌∙◌, ap, sym, subst, List, [], ◌∷◌, ◌++◌, take, arith}
use Rattle.mr_script.proofs.Names.{Answered, ShowsFold, ShowsFold-append, option_to_list, take_more, taken_at, taken_of}
use Rattle.mr_script.proofs.TakenLemmas.{taken_of-more}
use Rattle.mr_script.proofs.taken.follower_of.Goals as goal

pub loop-answered-preserved : goal.loop-answered-preserved
loop-answered-preserved g c =
    let all = c.args.answers.now in
    let before = take c.loop-answered.answered-index all in
    let x = c.answered-item.result in
    let one_more : take (c.loop-answered.answered-index + 1) all ≡ before ++ x ∷ [] =
    take_more all c.loop-answered.answered-index x (omega arith) ∙ ap (λ (y : Answered). before ++ y ∷ []) (sym c.answered-item.is) in
    let taken = ap (λ (xs : List Answered). taken_of xs c.args.id c.args.subscriber) one_more ∙ taken_of-more before c.args.id c.args.subscriber x in (
      subst (ShowsFold g.F.Fold.shows c.follow.new.follower.fold) (sym taken)
          (ShowsFold-append g.F.Fold.shows c.loop-answered.follower.fold c.follow.new.follower.fold (taken_of before c.args.id c.args.subscriber)
          (option_to_list (taken_at c.args.id c.args.subscriber x)) c.loop-answered.invariant.0 c.in_ok-follow.ensures.ok),
      c.in_ok-follow.ensures.none_kept,
    )
