use Rattle.std.proofs.Common.{◌≡◌, ◌∙◌, true, false, ◌||◌, ◌&&◌, not, [], All, ap, sym, get_or}
use Rattle.mr_forms.proofs.Names.{All-head, All-tail, EndsBy, beyond_all, deref, eq_by_cmp, had_by_item, has_pair, is_listed, pair, pair_cmp, rest_all}
use Rattle.mr_forms.proofs.Names.{rest_more, sorted_tail}
use Rattle.mr_forms.proofs.SetLemmas.{or_nothing}
use Rattle.mr_forms.proofs.PairLemmas.{left_out, of_same_version, taken_in, with_beyond}
use Rattle.mr_forms.proofs.FragmentLemmas.{all_covered-parts, ends_by-rest}
use Rattle.mr_forms.proofs.PlainPartLemmas.{plain_parts}
use Rattle.mr_forms.proofs.plain_knowledge.PlainKnowledgeKnowledge.fragments.Goals as goal

pub loop-pair-init : goal.loop-pair-init
loop-pair-init c =
    let start = c.in_ok-fragments.ensures.ok in
    let gives = c.into_iter-pair-iterator.ensures.into_iter_gives in
    record {
      for_all = start.for_all;
      by_item = λ i v. ap (λ b. b || (has_pair c.into_iter-pair-iterator.result (pair i v) && not (is_listed c.args.self.now.for_all v))) (start.by_item i v)
          ∙ ap (λ ps. has_pair ps (pair i v) && not (is_listed c.args.self.now.for_all v)) gives.0 ∙ ap (λ k. has_pair k.pairs (pair i v) && not (is_listed c.args.self.now.for_all v)) c.self.view_is;
      one_by_one = start.one_by_one;
      ahead = λ k d within. start.up_to (get_or c.into_iter-pair-iterator.result k d).item;
      sorted = rw gives.0 gives.4;
    }

pub add_pair-requires-clause-up_to : goal.add_pair-requires-clause-up_to
add_pair-requires-clause-up_to c =
    let left = rest_more deref c.loop-pair.pair-iterator c.next.new.self c.next.result c.in-Some.pair c.in-Some.is c.next.ensures.steps in
    All-head (λ p. All (λ f. EndsBy p.item f.items) c.loop-pair.fragments.items) c.in-Some.pair.now c.next.new.self (rw left at c.loop-pair.invariant.ahead)

-- a version that is known for all items is left out
pub loop-pair-preserved : goal.loop-pair-preserved
loop-pair-preserved c =
    let left = rest_more deref c.loop-pair.pair-iterator c.next.new.self c.next.result c.in-Some.pair c.in-Some.is c.next.ensures.steps in
    let sorted = rw left at c.loop-pair.invariant.sorted in
    let for_all : is_listed c.args.self.now.for_all c.in-Some.pair.now.version ≡ true = ap (λ k. is_listed k.for_all c.in-Some.pair.now.version) (sym c.self.view_is) ∙ sym c.contains.ensures ∙ c.if-not-contains.false in
    record {
      for_all = c.loop-pair.invariant.for_all;
      by_item = λ i v. sym (left_out (had_by_item c.loop-pair.fragments.items i v) (eq_by_cmp pair_cmp (pair i v) c.in-Some.pair.now) (has_pair c.next.new.self (pair i v)) (is_listed c.args.self.now.for_all v)
          (of_same_version c.args.self.now.for_all true i v c.in-Some.pair.now for_all))
          ∙ rw left at (c.loop-pair.invariant.by_item i v);
      one_by_one = c.loop-pair.invariant.one_by_one;
      ahead = All-tail (λ p. All (λ f. EndsBy p.item f.items) c.loop-pair.fragments.items) c.in-Some.pair.now c.next.new.self (rw left at c.loop-pair.invariant.ahead);
      sorted = sorted_tail pair_cmp c.in-Some.pair.now c.next.new.self sorted;
    }

pub loop-pair-preserved-in-Continue-branch-2 : goal.loop-pair-preserved-in-Continue-branch-2
loop-pair-preserved-in-Continue-branch-2 c =
    let left = rest_more deref c.loop-pair.pair-iterator c.next.new.self c.next.result c.in-Some.pair c.in-Some.is c.next.ensures.steps in
    let sorted = rw left at c.loop-pair.invariant.sorted in
    let beyond : is_listed c.args.self.now.for_all c.in-Some.pair.now.version ≡ false = ap (λ k. is_listed k.for_all c.in-Some.pair.now.version) (sym c.self.view_is) ∙ sym c.contains.ensures ∙ c.if-not-contains.true in
    let gains = c.in_ok-add_pair.ensures.ok in
    record {
      for_all = λ v. gains.for_all v ∙ c.loop-pair.invariant.for_all v;
      by_item = λ i v. taken_in _ (had_by_item c.loop-pair.fragments.items i v) (eq_by_cmp pair_cmp (pair i v) c.in-Some.pair.now) (has_pair c.next.new.self (pair i v)) (is_listed c.args.self.now.for_all v) _
          (gains.by_item i v) (of_same_version c.args.self.now.for_all false i v c.in-Some.pair.now beyond) (rw left at (c.loop-pair.invariant.by_item i v));
      one_by_one = gains.one_by_one;
      ahead = ends_by-rest c.in-Some.pair.now c.next.new.self c.add_pair.new.fragments.items sorted gains.up_to;
      sorted = sorted_tail pair_cmp c.in-Some.pair.now c.next.new.self sorted;
    }

pub returns-clause-ok : goal.returns-clause-ok
returns-clause-ok c i v =
    let none_left : c.loop-pair.pair-iterator ≡ [] = rest_all deref c.loop-pair.pair-iterator c.next.new.self c.next.result c.in-None.is c.next.ensures.steps in
    let by_item : (had_by_item c.loop-pair.fragments.items i v || false) ≡ beyond_all c.args.self.now i v = rw none_left at (c.loop-pair.invariant.by_item i v) in
    sym (all_covered-parts c.loop-pair.fragments.items i v
    ∙ ap (λ b. b || had_by_item c.loop-pair.fragments.items i v) (c.loop-pair.invariant.for_all v)
    ∙ ap (λ b. is_listed c.args.self.now.for_all v || b) (or_nothing (had_by_item c.loop-pair.fragments.items i v) ∙ by_item)
    ∙ with_beyond (is_listed c.args.self.now.for_all v) (has_pair c.args.self.now.pairs (pair i v)))

pub returns-clause-parts : goal.returns-clause-parts
returns-clause-parts c =
    let none_left : c.loop-pair.pair-iterator ≡ [] = rest_all deref c.loop-pair.pair-iterator c.next.new.self c.next.result c.in-None.is c.next.ensures.steps in
    plain_parts c.args.self.now c.loop-pair.fragments.items (record {
      for_all = c.loop-pair.invariant.for_all;
      by_item = λ i v. or_nothing (had_by_item c.loop-pair.fragments.items i v) ∙ rw none_left at (c.loop-pair.invariant.by_item i v);
      one_by_one = c.loop-pair.invariant.one_by_one;
    })
