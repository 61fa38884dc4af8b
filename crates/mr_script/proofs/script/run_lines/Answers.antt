use Rattle.std.proofs.Common.{◌<◌, [], refl, arith}
use Rattle.mr_script.proofs.Names.{IfSome_then, err_from_is_err_and, source_remaining}
use Rattle.mr_script.proofs.SoFar.{SoFar, came_none, cut, ended, no_memory, none_ran, so_far-more, so_far-settled}
use Rattle.mr_script.proofs.Written.{Appends-nothing}
use Rattle.mr_script.proofs.script.run_lines.Goals as goal

pub returns-in_err-source-clause-ran : goal.returns-in_err-source-clause-ran
returns-in_err-source-clause-ran g c =
    let p = err_from_is_err_and c.from_residual.result c.from_residual.ensures.1 in
    rw (p.1, p.2) (none_ran g.K.Knowledge.form _ _ _ _ _ c.in_err-source.ensures.fault c.requires.empty)

pub loop-number-init : goal.loop-number-init
loop-number-init g c = (
  record { within = omega (arith, c.in_ok-source.ensures.none_taken); counted = c.in_ok-source.ensures.counted; lines = omega arith },
  IfSome_then _ {Q = λ script. SoFar g.K.Knowledge.form _ script _ _ _ _ _ _ _}
      (came_none g.K.Knowledge.form c.args.interpreter.now _ _ _ c.in_ok-source.ensures.left c.in_ok-source.ensures.none_taken) (λ script came.
      record { written = []; are = Appends-nothing _; came = rw c.requires.empty came }),
)

pub returns-in_err-settle-clause-ran : goal.returns-in_err-settle-clause-ran
returns-in_err-settle-clause-ran g c =
    let p = err_from_is_err_and c.from_residual-in_err-settle.result c.from_residual-in_err-settle.ensures.1 in
    rw (p.1, p.2, c.in_err-settle.ensures.fault) (IfSome_then _ c.loop-number.invariant.1 (λ script so.
    cut g.K.Knowledge.form _ _ _ _ _ _ _ _ _ (so_far-settled g.K.Knowledge.form _ _ _ _ _ _ _ _ _ so _ _ c.in_err-settle.ensures.settles) c.requires.begins))

pub returns-in_err-answer-clause-ran : goal.returns-in_err-answer-clause-ran
returns-in_err-answer-clause-ran g c =
    let p = err_from_is_err_and c.from_residual-in_err-answer.result c.from_residual-in_err-answer.ensures.1 in
    rw (p.1, p.2) (IfSome_then _ c.loop-number.invariant.1 (λ script so.
    ended g.K.Knowledge.form _ _ _ _ _ _ _ _ _ (so_far-settled g.K.Knowledge.form _ _ _ _ _ _ _ _ _ so _ _ c.in_ok-settle.ensures.settles) _ _ c.requires.begins c.in_err-answer.ensures.goes))

pub returns-in_default-clause-ran : goal.returns-in_default-clause-ran
returns-in_default-clause-ran g c =
    let goes = rw c.in_default.is at c.in_ok-answer.ensures.goes in
    IfSome_then _ c.loop-number.invariant.1 (λ script so.
    ended g.K.Knowledge.form _ _ _ _ _ _ _ _ _ (so_far-settled g.K.Knowledge.form _ _ _ _ _ _ _ _ _ so _ _ c.in_ok-settle.ensures.settles) _ _ c.requires.begins goes)

pub returns-in_err-push_answer-clause-ran : goal.returns-in_err-push_answer-clause-ran
returns-in_err-push_answer-clause-ran g c =
    let p = err_from_is_err_and c.from_residual-in_err-push_answer.result c.from_residual-in_err-push_answer.ensures.1 in
    let next = rw c.in-Some.is at c.in_ok-answer.ensures.goes in
    rw (p.1, p.2, c.in_err-push_answer.ensures.fault, c.in_err-push_answer.ensures.unchanged) (IfSome_then _ c.loop-number.invariant.1 (λ script so.
    no_memory g.K.Knowledge.form _ _ _ _ _ _ _ _ _ (so_far-settled g.K.Knowledge.form _ _ _ _ _ _ _ _ _ so _ _ c.in_ok-settle.ensures.settles) c.requires.begins
    c.next_answer.new.interpreter c.in-Some.answer c.next_answer.new.source.taken (source_remaining g.R.Read.remaining c.next_answer.new.source) next))

pub loop-number-preserved : goal.loop-number-preserved
loop-number-preserved g c =
    let more : c.loop-number.source.taken < c.next_answer.new.source.taken = c.in_ok-answer.ensures.more (rw c.in-Some.is refl) in
    let next = rw c.in-Some.is at c.in_ok-answer.ensures.goes in
    let pushed = rw c.as_str.ensures.value at c.in_ok-push_answer.ensures.ok in (
      record {
        within = c.in_ok-answer.ensures.few;
        counted = c.in_ok-answer.ensures.counted _ c.loop-number.invariant.0.counted;
        lines = omega (arith, more);
      },
      IfSome_then _ c.loop-number.invariant.1 (λ script so.
          so_far-more g.K.Knowledge.form _ _ _ _ _ _ _ _ _ (so_far-settled g.K.Knowledge.form _ _ _ _ _ _ _ _ _ so _ _ c.in_ok-settle.ensures.settles)
          c.next_answer.new.interpreter c.in-Some.answer c.next_answer.new.source.taken (source_remaining g.R.Read.remaining c.next_answer.new.source) c.push_answer.new.output next pushed),
    )
