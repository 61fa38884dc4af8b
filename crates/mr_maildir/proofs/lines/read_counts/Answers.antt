use Rattle.std.proofs.Common.{◌≡◌, ◌≤◌, ◌+◌, List, drop, subst, sym, ap, ◌∙◌, arith}
use Rattle.mr_joins.specs.declared.mark.Mark.{Mark}
use Rattle.mr_maildir.proofs.LinesLemmas.{CountsLeft, counts_end_at, counts_more_at, counts_out}
use Rattle.mr_maildir.proofs.Names.{false≢true}
use Rattle.mr_maildir.proofs.lines.read_counts.Goals as goal

pub returns-then-not-branch-clause-whole : goal.returns-then-not-branch-clause-whole
returns-then-not-branch-clause-whole c = λ told rest each ends lines.
    let next = counts_more_at c.args.own c.args.lines.now c.loop-i.i rest c.args.marks.now.items told c.loop-i.marks.items c.loop-i-test.true (sym c.is_counts_line.ensures ∙ c.if-is_counts_line.true) ends (c.loop-i.invariant.whole told rest each ends lines) in
    let all = c.in_ok-read_counts_line.ensures.whole next.item next.run next.is next.runs next.some next.written in
    absurd (false≢true (sym c.if-not-branch.true ∙ all.0))

pub loop-i-preserved : goal.loop-i-preserved
loop-i-preserved c = record {
  in_range = omega arith;
  kept = λ old. c.in_ok-read_counts_line.ensures.is (c.loop-i.invariant.kept old);
  whole = λ told rest each ends lines.
      let next = counts_more_at c.args.own c.args.lines.now c.loop-i.i rest c.args.marks.now.items told c.loop-i.marks.items c.loop-i-test.true (sym c.is_counts_line.ensures ∙ c.if-is_counts_line.true) ends (c.loop-i.invariant.whole told rest each ends lines) in
      let all = c.in_ok-read_counts_line.ensures.whole next.item next.run next.is next.runs next.some next.written in
      let P : List Mark → Type 0 = λ read. CountsLeft c.args.own (drop (c.loop-i.i + 1) c.args.lines.now) rest c.args.marks.now.items told read in
      subst P (sym all.1) next.left;
}

pub returns-else-is_counts_line-clause-whole : goal.returns-else-is_counts_line-clause-whole
returns-else-is_counts_line-clause-whole c = λ told rest each ends lines.
    counts_end_at c.args.own c.args.lines.now c.loop-i.i rest c.args.marks.now.items told c.loop-i.marks.items c.loop-i-test.true (sym c.is_counts_line.ensures ∙ c.if-is_counts_line.false) (c.loop-i.invariant.whole told rest each ends lines)

pub returns-after-loop-i-clause-whole : goal.returns-after-loop-i-clause-whole
returns-after-loop-i-clause-whole c = λ told rest each ends lines.
    counts_out c.args.own c.args.lines.now c.loop-i.i rest c.args.marks.now.items told c.loop-i.marks.items c.loop-i-test.false (c.loop-i.invariant.whole told rest each ends lines)
