use Rattle.std.proofs.Common.{◌+◌, ℕ, List, Ok, Err, length, refl, sym, ◌∙◌, ap, subst, arith}
use Rattle.mr_journal.proofs.Names.{AreBatches, IsFound, IsSplit, contents, err_from_is_err_and, head}
use Rattle.mr_journal.proofs.Moments.{untouched_none, untouched_on}
use Rattle.mr_journal.proofs.ReadLemmas.{ReadTo, damaged_body, found_there, none_yet, read_one, reason_found}
use Rattle.mr_journal.proofs.read.read_batches.Goals as goal

pub batches-init : goal.batches-init
batches-init g c = record {
  so_far = λ told len rest is. record {
    front = head 1;
    left = rest;
    batches = subst (λ (es : List (List ℕ)). AreBatches es (head 1)) (sym (ap contents c.new-entries.ensures.items)) none_yet;
    file_is = is;
    place_is = refl;
  };
  untouched = λ told. untouched_none c.args.device.now (g.met.D.Device.only_now c.args.device.now);
}

pub returns-in_err-bytes-clause-read : goal.returns-in_err-bytes-clause-read
returns-in_err-bytes-clause-read g c = λ told len rest is.
    let so_far = c.batches.invariant.so_far told len rest is in
    let same = (c.batches.invariant.untouched told).same in
    let p = err_from_is_err_and c.from_residual.result c.from_residual.ensures.1 in
    rw (p.1, p.2) (reason_found so_far c.in_err-bytes.field-0.0 (found_there so_far (Err c.in_err-bytes.field-0.0) _ same (c.in_err-bytes.ensures.found told (len ∙ sym (ap length same)))))

pub returns-then-not-branch-clause-read : goal.returns-then-not-branch-clause-read
returns-then-not-branch-clause-read g c = λ told len rest is.
    let so_far = c.batches.invariant.so_far told len rest is in
    let same = (c.batches.invariant.untouched told).same in
    let found = subst (λ o. IsFound (Ok o) c.batches.at so_far.left) c.in-Some.is (found_there so_far (Ok _) _ same (c.in_ok-bytes.ensures.found told (len ∙ sym (ap length same)))) in
    let split : (more : List (List ℕ)) → _ = subst (λ t. IsSplit t c.deref.result.now (contents c.batches.entries.items) (contents c.split_body.new.entries.items)) c.if-not-branch.true c.in_ok-split_body.ensures in
    damaged_body so_far c.in-Some.bytes.items found.0 found.1 (omega arith) (λ more are e. split more are (c.deref.ensures.value ∙ e))

pub batches-preserved : goal.batches-preserved
batches-preserved g c = record {
  so_far = λ told len rest is.
      let so_far = c.batches.invariant.so_far told len rest is in
      let same = (c.batches.invariant.untouched told).same in
      let found = subst (λ o. IsFound (Ok o) c.batches.at so_far.left) c.in-Some.is (found_there so_far (Ok _) _ same (c.in_ok-bytes.ensures.found told (len ∙ sym (ap length same)))) in
      let split = subst (λ t. IsSplit t c.deref.result.now (contents c.batches.entries.items) (contents c.split_body.new.entries.items)) c.if-not-branch.false c.in_ok-split_body.ensures in
      subst (λ (es : List (List ℕ)). ReadTo es (c.batches.at + (41 + c.len.result)) (g.D.Device.seen c.args.device.now)) (sym split.3)
      (read_one so_far split.0 c.in-Some.bytes.items found.0 (c.batches.at + (41 + c.len.result)) found.1 (sym c.deref.ensures.value ∙ split.2) split.1 (omega arith) (omega arith));
  untouched = λ told. untouched_on (c.batches.invariant.untouched told) (c.batch_at.ensures.untouched told);
}
