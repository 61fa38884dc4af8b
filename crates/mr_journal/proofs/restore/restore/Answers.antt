use Rattle.std.proofs.Common.{◌≡◌, inl, inr, [], List, ℕ, Ok, ◌+◌, refl, sym, ap, subst, arith}
use Rattle.mr_journal.proofs.Names.{AreBatches, IsExamined, Rests, Stands, contents, head}
use Rattle.mr_journal.proofs.ReadLemmas.{none_yet}
use Rattle.mr_journal.proofs.RestoreLemmas.{cut_done, cut_leaves, rests_still}
use Rattle.mr_journal.proofs.restore.restore.Goals as goal

pub returns-in_default-clause-restored : goal.returns-in_default-clause-restored
returns-in_default-clause-restored g c = λ told.
    let file = g.D.Device.seen c.args.device.now in
    let is_new = subst (λ o. IsExamined (Ok o) file) c.in_default.is (c.in_ok-found.ensures.found told) in
    let none : [] ≡ contents c.new.result.items = sym (ap contents c.new.ensures.items) in
    record {
      stood = subst (λ (es : List (List ℕ)). Stands es file) none (inr (refl, is_new));
      front = head 1;
      batches = subst (λ (es : List (List ℕ)). AreBatches es (head 1)) none none_yet;
      place_is = refl;
      rests = c.in_ok-create.ensures.done told file (rests_still (c.examine.ensures.untouched told) (c.in_ok-found.ensures.durable told)) is_new;
    }

pub returns-in_err-cut_behind-clause-any_moment : goal.returns-in_err-cut_behind-clause-any_moment
returns-in_err-cut_behind-clause-any_moment g c = λ told.
    let found = subst (λ o. IsExamined (Ok o) (g.D.Device.seen c.args.device.now)) c.in-Some.is (c.in_ok-found.ensures.found told) in
    let looked = c.examine.ensures.untouched told in
    cut_leaves looked found.0 (c.cut_behind.ensures.any_moment told _ (rests_still looked (c.in_ok-found.ensures.durable told)) found.1)

pub returns-clause-any_moment : goal.returns-clause-any_moment
returns-clause-any_moment g c = λ told.
    let found = subst (λ o. IsExamined (Ok o) (g.D.Device.seen c.args.device.now)) c.in-Some.is (c.in_ok-found.ensures.found told) in
    let looked = c.examine.ensures.untouched told in
    cut_leaves looked found.0 (c.cut_behind.ensures.any_moment told _ (rests_still looked (c.in_ok-found.ensures.durable told)) found.1)

pub returns-clause-restored : goal.returns-clause-restored
returns-clause-restored g c = λ told.
    let file = g.D.Device.seen c.args.device.now in
    let found = subst (λ o. IsExamined (Ok o) file) c.in-Some.is (c.in_ok-found.ensures.found told) in
    let read = found.0 in
    let rests = rests_still (c.examine.ensures.untouched told) (c.in_ok-found.ensures.durable told) in
    record {
      stood = inl (record { front = read.front; left = read.left; batches = read.batches; file_is = read.file_is });
      front = read.front;
      batches = read.batches;
      place_is = sym read.place_is;
      rests = subst (λ (f : List ℕ). Rests g.D.Device.seen g.D.Device.may_leave f c.cut_behind.new.device) (cut_done read.front read.left file (c.in-Some.found.gate + 1) read.file_is (omega (arith, read.place_is)))
          (c.in_ok-cut_behind.ensures.done told file rests found.1);
    }
