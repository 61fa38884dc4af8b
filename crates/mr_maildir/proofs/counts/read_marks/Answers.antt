use Rattle.std.proofs.Common.{◌≡◌, ◌≤◌, ◌++◌, ◌+◌, List, [], ◌∷◌, drop, length, subst, arith, eq-eqb, sym, ap, ◌∙◌}
use Rattle.mr_joins.specs.declared.mark.Mark.{Mark}
use Rattle.std.proofs.lemmas.List.{length-drop}
use Rattle.mr_maildir.proofs.CountsLemmas.{LeftOf, all_pushed, left_last, next_at}
use Rattle.mr_maildir.proofs.counts.read_marks.Goals as goal

pub returns-in_default-clause-whole : goal.returns-in_default-clause-whole
returns-in_default-clause-whole c = λ run runs words.
    let next = next_at c.args.item c.args.words.now c.loop-i.i c.args.marks.now.items run c.loop-i.marks.items c.loop-i-test.true (c.loop-i.invariant.whole run runs words) in
    let found = c.in_ok-mark.ensures.whole next.mark next.is next.of_item next.named next.counted in
    let none = c.in_default.is in
    absurd (cc)

pub loop-i-preserved : goal.loop-i-preserved
loop-i-preserved c = record {
  in_range = omega arith;
  kept = λ old. rw c.in_ok-push.ensures.items (all_pushed c.loop-i.marks.items c.in-Some.mark (c.loop-i.invariant.kept old) (rw c.in-Some.is at (c.in_ok-mark.ensures.is c.requires.item)));
  whole = λ run runs words.
      let next = next_at c.args.item c.args.words.now c.loop-i.i c.args.marks.now.items run c.loop-i.marks.items c.loop-i-test.true (c.loop-i.invariant.whole run runs words) in
      let found = c.in_ok-mark.ensures.whole next.mark next.is next.of_item next.named next.counted in
      let some = c.in-Some.is in
      let same : next.mark ≡ c.in-Some.mark = cc in
      let P : List Mark → Type 0 = λ read. LeftOf c.args.item (drop (c.loop-i.i + 2) c.args.words.now) c.args.marks.now.items run read in
      subst P (ap (λ m. c.loop-i.marks.items ++ m ∷ []) same ∙ sym c.in_ok-push.ensures.items) next.left;
}

pub returns-clause-whole : goal.returns-clause-whole
returns-clause-whole c = λ run runs words.
    let few : length (drop c.loop-i.i c.args.words.now) ≤ 1 = simp length-drop (omega arith) in
    let last = left_last c.args.item (drop c.loop-i.i c.args.words.now) c.args.marks.now.items run c.loop-i.marks.items few (c.loop-i.invariant.whole run runs words) in
    let none : length (drop c.loop-i.i c.args.words.now) ≡ 0 = last.0 in
    let all = length-drop c.loop-i.i c.args.words.now in
    let range = c.loop-i.invariant.in_range in
    (eq-eqb c.loop-i.i (length c.args.words.now) (omega arith), last.1)
