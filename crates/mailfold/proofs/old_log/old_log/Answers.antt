use Rattle.std.proofs.Common.{◌≡◌, List, ℕ, ap, arith, rules, subst, sym}
use Rattle.std.specs.Prelude.{◌≢◌, Vec}
use Rattle.std.specs.declared.alloc.Global.{Global}
use Rattle.std.proofs.lemmas.Result.{IfOk-weaker}
use Rattle.mr_journal.specs.Fault.{fault_number}
use Rattle.mr_journal.specs.Format.{Stands, contents}
use Rattle.mr_journal.specs.Reading.{IsReason}
use Rattle.mr_journal.specs.declared.fault.JournalFault.TheVariants.{Failed, OutOfMemory}
use Rattle.mailfold.specs.OldLog.{AreOfHead, IsOfHead, Tells}
use Rattle.mailfold.specs.inner.OldLog.{TellsFirst}
use Rattle.mailfold.specs.declared.old_log.OldLog.{OldLog}
use Rattle.mailfold.specs.declared.old_log.OldLog.TheVariants.{Unread}
use Rattle.mailfold.proofs.OldLogLemmas.{never_refused, same_first, tells_stands}
use Rattle.mailfold.proofs.old_log.old_log.Goals as goal

pub returns-in_err-to_vec-clause-told : goal.returns-in_err-to_vec-clause-told
returns-in_err-to_vec-clause-told c = search rules

pub returns-in_err-to_vec-clause-whole : goal.returns-in_err-to_vec-clause-whole
returns-in_err-to_vec-clause-whole c = λ head entries stands of. search rules

pub returns-in-Ok-clause-told : goal.returns-in-Ok-clause-told
returns-in-Ok-clause-told c =
    let entries = contents c.in-Ok.entries.items in
    let same : c.in_ok-to_vec.field-0.items ≡ c.args.bytes.now = search rules in
    let stands = subst (λ (l : List ℕ). Stands entries l) same c.in-Ok.ensures.stands in
    IfOk-weaker c.told_by.result (λ log. TellsFirst log (contents c.as_slice.result.now)) (λ log. Tells log c.args.bytes.now)
    (λ log told. tells_stands log entries c.args.bytes.now stands (subst (λ (v : List (Vec ℕ Global)). TellsFirst log (contents v)) c.as_slice.ensures.value told))
    c.told_by.ensures.told

pub returns-in-Ok-clause-whole : goal.returns-in-Ok-clause-whole
returns-in-Ok-clause-whole c = λ head entries stands of.
    let found = contents c.in-Ok.entries.items in
    let same : c.in_ok-to_vec.field-0.items ≡ c.args.bytes.now = search rules in
    let here = subst (λ (l : List ℕ). Stands found l) same c.in-Ok.ensures.stands in
    c.told_by.ensures.whole head (subst (λ (v : List (Vec ℕ Global)). AreOfHead head (contents v)) (sym c.as_slice.ensures.value) (same_first head entries found c.args.bytes.now stands here of))

pub returns-in-Err-Damaged-clause-told : goal.returns-in-Err-Damaged-clause-told
returns-in-Err-Damaged-clause-told c = c.told_before.ensures

pub returns-in-Err-Damaged-clause-whole : goal.returns-in-Err-Damaged-clause-whole
returns-in-Err-Damaged-clause-whole c = λ head entries stands of.
    let fault = c.in-Err-Damaged.field-0 in
    let same : c.in_ok-to_vec.field-0.items ≡ c.args.bytes.now = search rules in
    let reason = subst (λ (l : List ℕ). IsReason fault l) same c.in-Err-Damaged.ensures.reason in
    never_refused entries c.args.bytes.now fault stands reason (λ is. omega (arith, ap fault_number is, ap fault_number c.in-Err-Damaged.field-0-is)) (λ is. omega (arith, ap fault_number is, ap fault_number c.in-Err-Damaged.field-0-is))

pub returns-in-Err : goal.returns-in-Err
returns-in-Err c =
    let file = c.args.bytes.now in
    let fault = c.in-Err.fault in
    let same : c.in_ok-to_vec.field-0.items ≡ file = search rules in
    let reason = subst (λ (l : List ℕ). IsReason fault l) same c.in-Err.ensures.reason in
    record {
      told = IfOk-weaker c.unread_for.result (λ log. log ≡ Unread) (λ log. Tells log file) (λ log is. subst (λ (l : OldLog). Tells l file) (sym is) tt) c.unread_for.ensures.unread;
      whole = λ head entries stands of.
          IfOk-weaker c.unread_for.result (λ log. (fault ≢ OutOfMemory) × (fault ≢ Failed)) (IsOfHead head) (λ log some. never_refused entries file fault stands reason some.0 some.1) c.unread_for.ensures.refused;
    }
