use Rattle.std.proofs.Common.{◌≡◌, ◌+◌, ◌-◌, ◌&&◌, drop, map, sym, ap, ◌∙◌, arith}
use Rattle.mr_maildir.specs.Lines.{are_rising, folder_of}
use Rattle.mr_maildir.proofs.LinesLemmas.{rising_at, rising_end}
use Rattle.mr_maildir.proofs.lines.are_rising.Goals as goal

pub returns-then-not-stands_before : goal.returns-then-not-stands_before
returns-then-not-stands_before c =
    let step = rising_at c.args.folders.now c.loop-i.i c.index-folders-i.result c.index-folders-i-in-loop-i.result c.loop-i.invariant.from c.loop-i-test.true c.index-folders-i.is c.index-folders-i-in-loop-i.is in
    sym (sym c.loop-i.invariant.same ∙ (step ∙ ap (λ t. t && are_rising (map folder_of (drop c.loop-i.i c.args.folders.now))) (sym c.stands_before.ensures ∙ c.if-not-stands_before.true)))

pub loop-i-preserved : goal.loop-i-preserved
loop-i-preserved c =
    let step = rising_at c.args.folders.now c.loop-i.i c.index-folders-i.result c.index-folders-i-in-loop-i.result c.loop-i.invariant.from c.loop-i-test.true c.index-folders-i.is c.index-folders-i-in-loop-i.is in
    let back : (c.loop-i.i + 1) - 1 ≡ c.loop-i.i = omega arith in
    record {
      from = omega arith;
      same = ap (λ k. are_rising (map folder_of (drop k c.args.folders.now))) back
          ∙ (sym (step ∙ ap (λ t. t && are_rising (map folder_of (drop c.loop-i.i c.args.folders.now))) (sym c.stands_before.ensures ∙ c.if-not-stands_before.false)) ∙ c.loop-i.invariant.same);
    }

pub returns : goal.returns
returns c = sym (sym c.loop-i.invariant.same ∙ rising_end c.args.folders.now c.loop-i.i c.loop-i.invariant.from c.loop-i-test.false)
