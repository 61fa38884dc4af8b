use Rattle.std.proofs.Common.{arith, rules}
use Rattle.mr_filter.proofs.Names.{length-map, lent_texts}
use Rattle.mr_filter.proofs.DraftLemmas.{with_wanted, with_barred, with_flag_on, with_flag_off, with_day, wanted_too_many, barred_too_many, IfErr-any}
use Rattle.mr_filter.proofs.draft.Draft.add.Goals as goal

pub returns-in_err-put_label-in-HasLabel-clause-many : goal.returns-in_err-put_label-in-HasLabel-clause-many
returns-in_err-put_label-in-HasLabel-clause-many c =
    let long = length-map c.self.inside.barred.items (λ text. text.now) in
    let more = c.in_err-put_label-in-HasLabel.ensures.many in
    IfErr-any c.from_residual.result _ (rw (c.in-HasLabel.is, ← c.self.view_is) (wanted_too_many _ c.self.invariant c.in-HasLabel.label.now (omega (arith, long, more, c.len.ensures.value))))

pub returns-in_err-put_label-in-LacksLabel-clause-many : goal.returns-in_err-put_label-in-LacksLabel-clause-many
returns-in_err-put_label-in-LacksLabel-clause-many c =
    let long = length-map c.self.inside.wanted.items (λ text. text.now) in
    let more = c.in_err-put_label-in-LacksLabel.ensures.many in
    IfErr-any c.from_residual-in_err-put_label-in-LacksLabel.result _ (rw (c.in-LacksLabel.is, ← c.self.view_is) (barred_too_many _ c.self.invariant c.in-LacksLabel.label.now (omega (arith, long, more, c.len-in-LacksLabel.ensures.value))))

pub returns-in_ok-put_label-in-HasLabel-clause-added : goal.returns-in_ok-put_label-in-HasLabel-clause-added
returns-in_ok-put_label-in-HasLabel-clause-added c =
    rw (c.in-HasLabel.is, ← c.self.view_is) (with_wanted _ c.self.invariant c.in-HasLabel.label.now (lent_texts c.put_label.new.labels.items) c.in_ok-put_label-in-HasLabel.ensures.put)

pub returns-in_ok-put_label-in-LacksLabel-clause-added : goal.returns-in_ok-put_label-in-LacksLabel-clause-added
returns-in_ok-put_label-in-LacksLabel-clause-added c =
    rw (c.in-LacksLabel.is, ← c.self.view_is) (with_barred _ c.self.invariant c.in-LacksLabel.label.now (lent_texts c.put_label-in-LacksLabel.new.labels.items) c.in_ok-put_label-in-LacksLabel.ensures.put)

pub returns-in-HasFlag-clause-added : goal.returns-in-HasFlag-clause-added
returns-in-HasFlag-clause-added c =
    rw (c.in-HasFlag.is, ← c.self.view_is, c.with-self-inside.ensures.bits) (with_flag_on _ c.self.invariant c.in-HasFlag.flag)

pub returns-in-LacksFlag-clause-added : goal.returns-in-LacksFlag-clause-added
returns-in-LacksFlag-clause-added c =
    rw (c.in-LacksFlag.is, ← c.self.view_is, c.with-self-inside-in-LacksFlag.ensures.bits) (with_flag_off _ c.self.invariant c.in-LacksFlag.flag)

pub returns-in-Since-clause-added : goal.returns-in-Since-clause-added
returns-in-Since-clause-added c =
    rw (c.in-Since.is, ← c.self.view_is) (with_day _ c.self.invariant c.in-Since.day c.max-self-inside.result (search rules))

pub invariant_of-self : goal.invariant_of-self
invariant_of-self c =
    let long = length-map c.put_label.new.labels.items (λ text. text.now) in
    let others = length-map c.self.inside.barred.items (λ text. text.now) in
    let few = c.in_ok-put_label-in-HasLabel.ensures.few in
    record { wanted = c.in_ok-put_label-in-HasLabel.ensures.kept; barred = c.self.invariant.barred; few = omega (arith, long, others, few, c.len.ensures.value); on_in = c.self.invariant.on_in; off_in = c.self.invariant.off_in; since_in = c.self.invariant.since_in }

pub invariant_of-self-in_err-put_label-in-HasLabel : goal.invariant_of-self-in_err-put_label-in-HasLabel
invariant_of-self-in_err-put_label-in-HasLabel c = rw c.in_err-put_label-in-HasLabel.ensures.err c.self.invariant

pub invariant_of-self-in-HasFlag : goal.invariant_of-self-in-HasFlag
invariant_of-self-in-HasFlag c =
    record { wanted = c.self.invariant.wanted; barred = c.self.invariant.barred; few = c.self.invariant.few; on_in = omega arith; off_in = c.self.invariant.off_in; since_in = c.self.invariant.since_in }

pub invariant_of-self-in-LacksFlag : goal.invariant_of-self-in-LacksFlag
invariant_of-self-in-LacksFlag c =
    record { wanted = c.self.invariant.wanted; barred = c.self.invariant.barred; few = c.self.invariant.few; on_in = c.self.invariant.on_in; off_in = omega arith; since_in = c.self.invariant.since_in }

pub invariant_of-self-in-Since : goal.invariant_of-self-in-Since
invariant_of-self-in-Since c =
    record { wanted = c.self.invariant.wanted; barred = c.self.invariant.barred; few = c.self.invariant.few; on_in = c.self.invariant.on_in; off_in = c.self.invariant.off_in; since_in = omega arith }

pub returns-in_ok-put_label-in-HasLabel-clause-kept : goal.returns-in_ok-put_label-in-HasLabel-clause-kept
returns-in_ok-put_label-in-HasLabel-clause-kept c = invariant_of-self c

pub returns-in_ok-put_label-in-LacksLabel-clause-kept : goal.returns-in_ok-put_label-in-LacksLabel-clause-kept
returns-in_ok-put_label-in-LacksLabel-clause-kept c =
    let long = length-map c.put_label-in-LacksLabel.new.labels.items (λ text. text.now) in
    let others = length-map c.self.inside.wanted.items (λ text. text.now) in
    let few = c.in_ok-put_label-in-LacksLabel.ensures.few in
    record { wanted = c.self.invariant.wanted; barred = c.in_ok-put_label-in-LacksLabel.ensures.kept; few = omega (arith, long, others, few, c.len-in-LacksLabel.ensures.value); on_in = c.self.invariant.on_in; off_in = c.self.invariant.off_in; since_in = c.self.invariant.since_in }

pub returns-in-HasFlag-clause-kept : goal.returns-in-HasFlag-clause-kept
returns-in-HasFlag-clause-kept c = invariant_of-self-in-HasFlag c

pub returns-in-LacksFlag-clause-kept : goal.returns-in-LacksFlag-clause-kept
returns-in-LacksFlag-clause-kept c = invariant_of-self-in-LacksFlag c

pub returns-in-Since-clause-kept : goal.returns-in-Since-clause-kept
returns-in-Since-clause-kept c = invariant_of-self-in-Since c
