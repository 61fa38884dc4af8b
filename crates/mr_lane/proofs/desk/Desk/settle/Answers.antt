use Rattle.std.proofs.Common.{rules, ◌≡◌, ◌∙◌, ◌++◌, ◌∷◌, [], true, length, sym, ap}
use Rattle.mr_lane.proofs.Names.{have_all_finished, inbox_sight_of, sender_number}
use Rattle.mr_lane.proofs.InboxLemmas.{inbox_merges, inbox_accounts}
use Rattle.mr_lane.proofs.SettleLemmas.{all_settled}
use Rattle.mr_lane.proofs.desk.Desk.settle.Goals as goal

pub absorb-requires-clause-rule : goal.absorb-requires-clause-rule
absorb-requires-clause-rule g c = inbox_merges _ _ _ _ c.self.invariant.1.takes c.user.invariant.1.sends
    (c.user.invariant.1.number ∙ (ap (λ v. sender_number v.sender) c.user.view_is ∙ (ap sender_number c.requires.posts.user_sender ∙ sym (ap length c.self.invariant.1.heard_none))))

pub absorb-requires-2-clause-rule : goal.absorb-requires-2-clause-rule
absorb-requires-2-clause-rule g c = inbox_merges _ _ _ _ (ap (λ v. v.takes) c.absorb.ensures.rule) c.first_link.invariant.1.sends
    (c.first_link.invariant.1.number ∙ (ap (λ v. sender_number v.sender) c.first_link.view_is ∙ (ap sender_number c.requires.posts.first_sender ∙ sym (ap (λ v. length v.heard_out) c.absorb.ensures.rule ∙ ap (λ l. length (l ++ (inbox_sight_of c.user.inside.pass).sent ∷ [])) c.self.invariant.1.heard_none))))

pub absorb-requires-3-clause-rule : goal.absorb-requires-3-clause-rule
absorb-requires-3-clause-rule g c = inbox_merges _ _ _ _ (ap (λ v. v.takes) c.absorb-2.ensures.rule) c.second_link.invariant.1.sends
    (c.second_link.invariant.1.number ∙ (ap (λ v. sender_number v.sender) c.second_link.view_is ∙ (ap sender_number c.requires.posts.second_sender
    ∙ sym (ap (λ v. length v.heard_out) c.absorb-2.ensures.rule ∙ (ap (λ v. length (v.heard_out ++ (inbox_sight_of c.first_link.inside.pass).sent ∷ [])) c.absorb.ensures.rule ∙ ap (λ l. length ((l ++ (inbox_sight_of c.user.inside.pass).sent ∷ []) ++ (inbox_sight_of c.first_link.inside.pass).sent ∷ [])) c.self.invariant.1.heard_none)))))

pub learn_as-requires-clause-rule : goal.learn_as-requires-clause-rule
learn_as-requires-clause-rule g c = inbox_accounts _ _ (ap (λ v. v.takes) c.absorb-3.ensures.rule)

pub returns-clause-settled : goal.returns-clause-settled
returns-clause-settled g c =
    let e : have_all_finished c.args.self.taken ≡ true = search rules in
    let f : have_all_finished (inbox_sight_of c.self.inside.pass).taken ≡ true = ap (λ v. have_all_finished v.taken) c.self.view_is ∙ e in
    let all = c.learn_as.ensures.rule in
    let r = all_settled (inbox_sight_of c.self.inside.pass) (inbox_sight_of c.absorb.new.pass) (inbox_sight_of c.absorb-2.new.pass) (inbox_sight_of c.absorb-3.new.pass) (inbox_sight_of c.user.inside.pass) (inbox_sight_of c.first_link.inside.pass) (inbox_sight_of c.second_link.inside.pass)
    c.absorb.ensures.rule c.absorb-2.ensures.rule c.absorb-3.ensures.rule c.self.invariant.1.heard_none all.0 all.1 _ _ _ _ _ _ c.user.invariant.1.in_order c.first_link.invariant.1.in_order c.second_link.invariant.1.in_order f in
    record {
      user = record { finished = rw (← c.user.view_is) r.0.0; in_order = rw (← c.self.view_is, c.requires.posts.user_sender, ← c.user.view_is) r.0.1 };
      first_link = record { finished = rw (← c.first_link.view_is) r.1.0; in_order = rw (← c.self.view_is, c.requires.posts.first_sender, ← c.first_link.view_is) r.1.1 };
      second_link = record { finished = rw (← c.second_link.view_is) r.2.0; in_order = rw (← c.self.view_is, c.requires.posts.second_sender, ← c.second_link.view_is) r.2.1 };
    }
