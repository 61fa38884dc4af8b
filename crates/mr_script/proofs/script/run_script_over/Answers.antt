use Rattle.std.proofs.Common.{◌≡◌, ◌⊎◌, inl, inr, Result, Err, sym, ◌∙◌}
use Rattle.mr_script.proofs.Names.{IfErr, IfSome_then, NumbersItsLine, ScriptFault, TooLong, Write}
use Rattle.mr_script.proofs.SoFar.{begins, prints_settled, written_behind}
use Rattle.mr_script.proofs.script.run_script_over.Goals as goal

-- a script that ends as too long was run so
too_long_ran : (ran result : Result (Unit {0}) ScriptFault) → (result ≡ Err Write) ⊎ (result ≡ ran) → result ≡ Err TooLong → ran ≡ Err TooLong
too_long_ran ran result (inl failed) is = absurd (cc)
too_long_ran ran result (inr same) is = sym same ∙ is

-- a fault of the writer tells no line
numbers_its_line : (ran result : Result (Unit {0}) ScriptFault) → (result ≡ Err Write) ⊎ (result ≡ ran) → IfErr ran NumbersItsLine → IfErr result NumbersItsLine
numbers_its_line ran result (inl failed) line = rw failed tt
numbers_its_line ran result (inr same) line = rw same line

pub returns-clause-prints : goal.returns-clause-prints
returns-clause-prints g c = record {
  too_long = λ is. c.run_lines-ran.ensures.too_long (too_long_ran _ _ c.finish.ensures.or_ran is);
  line = numbers_its_line _ _ c.finish.ensures.or_ran c.run_lines-ran.ensures.line;
  prints = λ whole.
      let same = c.finish.ensures.ran whole in
      let wrote = rw same at whole in
      rw (same, ← c.finish.ensures.empty whole) (IfSome_then _ c.run_lines-ran.ensures.ran (λ script ran. prints_settled g.K.Knowledge.form _ _ _ _ _ _ _ (ran.prints wrote) c.finish.ensures.settles));
  begins = IfSome_then _ c.run_lines-ran.ensures.ran (λ script ran. begins g.K.Knowledge.form _ _ _ _ _ _ ran.so_far c.finish.ensures.settles);
}

pub returns-clause-leaves : goal.returns-clause-leaves
returns-clause-leaves g c = IfSome_then _ c.run_lines-ran.ensures.ran (λ script ran. written_behind g.K.Knowledge.form _ script _ _ _ c.finish.ensures.or_ran ran.leaves)
