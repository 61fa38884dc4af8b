use Rattle.std.proofs.Common.{◌<◌, ℕ, List, [], ◌++◌, string_bytes, refl, arith}
use Rattle.mr_script.proofs.Names.{IfSome_then, err_from_is_err_and, source_remaining}
use Rattle.mr_script.proofs.SoFar.{CameTo, came_further, came_none, came_to_end, leaves_unread}
use Rattle.mr_script.proofs.script.run_script_in.Goals as goal

pub returns-in_err-source : goal.returns-in_err-source
returns-in_err-source g c =
    let p = err_from_is_err_and c.from_residual.result c.from_residual.ensures.1 in
    rw (p.1, p.2) (leaves_unread g.K.Knowledge.form _ _ _ c.in_err-source.ensures.fault)

pub loop-number-init : goal.loop-number-init
loop-number-init g c = (
  record { within = omega (arith, c.in_ok-source.ensures.none_taken); lines = omega arith },
  IfSome_then _ {Q = λ script. (text : List ℕ) × CameTo g.K.Knowledge.form _ script _ _ _ _ text}
      (came_none g.K.Knowledge.form c.args.interpreter.now _ _ _ c.in_ok-source.ensures.left c.in_ok-source.ensures.none_taken) (λ script came. ([], came)),
)

pub returns-in_err-answer : goal.returns-in_err-answer
returns-in_err-answer g c =
    let p = err_from_is_err_and c.from_residual-in_err-answer.result c.from_residual-in_err-answer.ensures.1 in
    rw (p.1, p.2) (IfSome_then _ c.loop-number.invariant.1 (λ script came. (came_to_end g.K.Knowledge.form _ script _ _ _ _ came.0 came.1 _ _ c.in_err-answer.ensures.goes).leaves))

pub returns-in_default : goal.returns-in_default
returns-in_default g c =
    let goes = rw c.in_default.is at c.in_ok-answer.ensures.goes in
    IfSome_then _ c.loop-number.invariant.1 (λ script came. (came_to_end g.K.Knowledge.form _ script _ _ _ _ came.0 came.1 _ _ goes).leaves)

pub loop-number-preserved : goal.loop-number-preserved
loop-number-preserved g c =
    let more : c.loop-number.source.taken < c.next_answer.new.source.taken = c.in_ok-answer.ensures.more (rw c.in-Some.is refl) in
    let next = rw c.in-Some.is at c.in_ok-answer.ensures.goes in (
      record { within = c.in_ok-answer.ensures.few; lines = omega (arith, more) },
      IfSome_then _ {Q = λ script. (text : List ℕ) × CameTo g.K.Knowledge.form _ script _ _ _ _ text} c.loop-number.invariant.1 (λ script came. (
        came.0 ++ string_bytes c.in-Some._dropped,
        came_further g.K.Knowledge.form _ script _ _ _ _ came.0 came.1 c.next_answer.new.interpreter c.in-Some._dropped c.next_answer.new.source.taken (source_remaining g.R.Read.remaining c.next_answer.new.source) next,
      )),
    )
