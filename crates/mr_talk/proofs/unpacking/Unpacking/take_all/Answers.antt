use Rattle.std.proofs.Common.{◌<◌, ℕ, List, arith, ap, subst, sym}
use Rattle.mr_talk.proofs.Names.{MAX_FRAMES_BYTES, Tells, meaning, size_of, take_rest}
use Rattle.mr_talk.proofs.LineLaws.{if_err}
use Rattle.mr_talk.proofs.PackedLaws.{all_told, bad_end, bad_take, left_more, too_much, no_memory, none_left, not_long, spelled_size, take_fault, taken_more, used_within}
use Rattle.mr_talk.proofs.unpacking.Unpacking.take_all.Goals as goal

pub returns-in_default-clause-whole : goal.returns-in_default-clause-whole
returns-in_default-clause-whole c = λ to h few.
    absurd (none_left c.args.bytes.now _ c.loop-at.at c.loop-at.self to (take_rest c.args.bytes.now c.loop-at.at) (omega (arith, c.loop-at-test.true)) (c.loop-at.invariant.left to h) c.in_default.ensures.none)

pub returns-in_err-take-clause-whole : goal.returns-in_err-take-clause-whole
returns-in_err-take-clause-whole c = λ to h few.
    no_memory _ c.from_residual.result c.in_err-take.field-0.0 c.from_residual.ensures.1
    (take_fault (meaning c.in-Some.token) c.loop-at.self c.take.new.self to _ c.in-Some.used c.in_err-take.field-0.0 c.in-Some.ensures.found
    (subst (λ (s : List ℕ). Tells s c.loop-at.self to) (sym (take_rest c.args.bytes.now c.loop-at.at)) (c.loop-at.invariant.left to h)) c.in_err-take.ensures)

pub returns-then-len-clause-whole : goal.returns-then-len-clause-whole
returns-then-len-clause-whole c = λ to h few.
    absurd (omega (
      arith,
      c.if-len.true,
      c.len.ensures,
      c.len-in-loop-at.ensures,
      ap spelled_size c.self.view_is,
      not_long c.args.bytes.now _ c.loop-at.at c.in-Some.used MAX_FRAMES_BYTES (meaning c.in-Some.token) c.loop-at.self c.take.new.self to (take_rest c.args.bytes.now c.loop-at.at) c.in-Some.ensures.found c.in_ok-take.ensures (c.loop-at.invariant.left to h) few,
    ))

pub returns-in_default-clause-fault : goal.returns-in_default-clause-fault
returns-in_default-clause-fault c =
    bad_end c.args.bytes.now _ c.loop-at.at c.args.self.now c.loop-at.self (take_rest c.args.bytes.now c.loop-at.at) (omega (arith, c.loop-at-test.true)) c.loop-at.invariant.taken c.loop-at.invariant.few c.in_default.ensures.none

pub returns-in_err-take-clause-fault : goal.returns-in_err-take-clause-fault
returns-in_err-take-clause-fault c =
    if_err _ c.from_residual.result c.in_err-take.field-0.0 c.from_residual.ensures.1
    (bad_take c.args.bytes.now _ c.loop-at.at c.in-Some.used (meaning c.in-Some.token) c.args.self.now c.loop-at.self c.take.new.self c.in_err-take.field-0.0 (take_rest c.args.bytes.now c.loop-at.at) c.in-Some.ensures.found c.loop-at.invariant.taken c.loop-at.invariant.few c.in_err-take.ensures)

pub returns-then-len-clause-fault : goal.returns-then-len-clause-fault
returns-then-len-clause-fault c =
    let long : MAX_FRAMES_BYTES < size_of c.take.new.self = omega (arith, c.if-len.true, c.len.ensures, c.len-in-loop-at.ensures, ap spelled_size c.self.view_is) in
    too_much c.args.bytes.now _ c.loop-at.at c.in-Some.used (meaning c.in-Some.token) c.args.self.now c.loop-at.self c.take.new.self (take_rest c.args.bytes.now c.loop-at.at) c.in-Some.ensures.found c.in_ok-take.ensures c.loop-at.invariant.taken long

pub loop-at-preserved : goal.loop-at-preserved
loop-at-preserved c =
    let bytes = c.args.bytes.now in
    let at = c.loop-at.at in
    let slice = take_rest bytes at in
    record {
      within = used_within bytes _ at c.in-Some.used (meaning c.in-Some.token) slice c.loop-at.invariant.within c.in-Some.ensures.found;
      taken = taken_more bytes _ at c.in-Some.used (meaning c.in-Some.token) c.args.self.now c.loop-at.self c.take.new.self slice c.in-Some.ensures.found c.in_ok-take.ensures c.loop-at.invariant.taken;
      left = λ to h. left_more bytes _ at c.in-Some.used (meaning c.in-Some.token) c.loop-at.self c.take.new.self to slice c.in-Some.ensures.found c.in_ok-take.ensures (c.loop-at.invariant.left to h);
      few = omega (arith, c.if-len.false, c.len.ensures, c.len-in-loop-at.ensures, ap spelled_size c.self.view_is);
    }

pub returns-clause-whole : goal.returns-clause-whole
returns-clause-whole c = λ to h few. all_told c.args.bytes.now c.loop-at.at c.loop-at.self to (omega (arith, c.loop-at-test.false)) (c.loop-at.invariant.left to h)
