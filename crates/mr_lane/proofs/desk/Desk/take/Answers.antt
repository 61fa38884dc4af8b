use Rattle.std.proofs.Common.{rules, sym, subst, ◌∙◌}
use Rattle.mr_lane.proofs.Names.{AreMarksOf, inbox_sight_of}
use Rattle.mr_lane.proofs.NoteLemmas.{takes_letter, takes_mark}
use Rattle.mr_lane.proofs.desk.Desk.take.Goals as goal

pub invariant_of-self-in-Item : goal.invariant_of-self-in-Item
invariant_of-self-in-Item g c = (search rules, record { takes = c.get.ensures.may; heard_none = c.get.ensures.heard ∙ c.self.invariant.1.heard_none; marked = takes_letter _ _ _ _ _ c.in-Item.is c.in-Some.ensures.got c.self.invariant.1.marked })

pub invariant_of-self-in-End : goal.invariant_of-self-in-End
invariant_of-self-in-End g c = (
  search rules,
  record {
    takes = c.get.ensures.may;
    heard_none = c.get.ensures.heard ∙ c.self.invariant.1.heard_none;
    marked = subst (λ m. AreMarksOf m (inbox_sight_of c.get.new.pass).taken) (sym c.with_mark-self-inside.ensures) (takes_mark _ _ _ _ c.in-End.is c.in-Some.ensures.got c.self.invariant.1.marked);
  },
)
