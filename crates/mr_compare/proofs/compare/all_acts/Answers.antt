use Rattle.mr_compare.proofs.Names.{map, standing_of_held, standing_of_unheld}
use Rattle.mr_compare.proofs.CompareLemmas.{due-both}
use Rattle.mr_compare.proofs.compare.all_acts.Goals as goal

pub returns : goal.returns
returns c =
    due-both (map (standing_of_held c.args.sides.now) c.args.mails.now) (map (standing_of_unheld c.args.sides.now) c.args.others.now) c.new-acts.result.items c.push_held.new.acts.items c.push_unheld.new.acts.items c.new-acts.ensures.items c.in_ok-push_held.ensures c.in_ok-push_unheld.ensures
