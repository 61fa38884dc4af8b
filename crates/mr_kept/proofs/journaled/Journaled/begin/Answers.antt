use Rattle.std.proofs.Common.{◌≡◌, ◌∙◌, ◌++◌, inl, ℕ, List, [], length, ap, subst, sym, Result, Err}
use Rattle.mr_kept.proofs.Names.{HasParts, HeadParts, IsTrue, JournalFault, Keeps, Stands, contents, started}
use Rattle.mr_kept.proofs.BeginLemmas.{device_failed, no_journal_fault, of_commit, of_open, of_setup, some_batch, some_texts}
use Rattle.mr_kept.proofs.OpenLemmas.{empty_texts, kept_begun, moments_begun, moments_head, none_waits}
use Rattle.mr_kept.proofs.journaled.Journaled.begin.Goals as goal

pub returns-in-Err-clause-any_moment : goal.returns-in-Err-clause-any_moment
returns-in-Err-clause-any_moment g c = λ told. started {old = c.args.device} (λ file left. inl (g.met.D.Device.only_now c.args.device file left))

pub returns-in-Err-open-clause-any_moment : goal.returns-in-Err-open-clause-any_moment
returns-in-Err-open-clause-any_moment g c = λ told. moments_begun g.D.Device.may_leave (g.D.Device.seen c.args.device) c.args.device _ (c.in-Err-open.ensures.any_moment told)

pub returns-then-not-is_empty-clause-any_moment : goal.returns-then-not-is_empty-clause-any_moment
returns-then-not-is_empty-clause-any_moment g c = λ told. rw c.into_device.ensures (moments_begun g.D.Device.may_leave (g.D.Device.seen c.args.device) c.args.device _ (c.in-Ok-open.ensures.any_moment told))

pub returns-in-Err-commit-clause-any_moment : goal.returns-in-Err-commit-clause-any_moment
returns-in-Err-commit-clause-any_moment g c = λ told.
    let opened = c.in-Ok-open.ensures.opened told in
    let none : contents c.in-Ok-open.opened.1.items ≡ [] = ap contents (sym c.deref-found.ensures.value) ∙ empty_texts c.deref-found.result.now c.is_empty.result c.is_empty.ensures c.if-not-is_empty.false in
    rw c.into_device-in-Err-commit.ensures
    (moments_head g.D.Device.may_leave (g.D.Device.seen c.args.device) c.args.device _ _ _ (contents c.deref.result.now) c.in-Ok.first.0 none (ap contents c.deref.ensures.value ∙ c.in-Ok.ensures.batch.1) opened.1
    (c.in-Ok-open.ensures.any_moment told) (c.commit.ensures.any_moment told _ opened.0))

pub returns-clause-empty : goal.returns-clause-empty
returns-clause-empty g c = λ told.
    let none : contents c.in-Ok-open.opened.1.items ≡ [] = ap contents (sym c.deref-found.ensures.value) ∙ empty_texts c.deref-found.result.now c.is_empty.result c.is_empty.ensures c.if-not-is_empty.false in
    subst (λ (l : List (List ℕ)). Stands l (g.D.Device.seen c.args.device)) none (c.in-Ok-open.ensures.opened told).1

pub returns-clause-kept : goal.returns-clause-kept
returns-clause-kept g c = λ told.
    let texts = contents c.in-Ok-open.opened.1.items in
    let none : texts ≡ [] = ap contents (sym c.deref-found.ensures.value) ∙ empty_texts c.deref-found.result.now c.is_empty.result c.is_empty.ensures c.if-not-is_empty.false in
    let keeps = c.in_default.ensures.kept told texts (c.in-Ok-open.ensures.opened told).0 in
    kept_begun c.in-Ok.first.0 c.fresh.result texts (contents c.deref.result.now) none c.in-Ok.ensures.batch.0 (ap contents c.deref.ensures.value ∙ c.in-Ok.ensures.batch.1)
    (subst (λ j. Keeps g.D.Device.seen g.D.Device.may_leave (texts ++ contents c.deref.result.now) j) (sym c.fresh.ensures.journal) keeps)
    (ap (λ s. s.log) c.fresh.ensures.replica) c.fresh.ensures.counts.0 c.fresh.ensures.counts.1 c.fresh.ensures.head

pub returns-clause-any_moment : goal.returns-clause-any_moment
returns-clause-any_moment g c = λ told.
    let opened = c.in-Ok-open.ensures.opened told in
    let none : contents c.in-Ok-open.opened.1.items ≡ [] = ap contents (sym c.deref-found.ensures.value) ∙ empty_texts c.deref-found.result.now c.is_empty.result c.is_empty.ensures c.if-not-is_empty.false in
    rw c.fresh.ensures.journal
    (moments_head g.D.Device.may_leave (g.D.Device.seen c.args.device) c.args.device _ _ _ (contents c.deref.result.now) c.in-Ok.first.0 none (ap contents c.deref.ensures.value ∙ c.in-Ok.ensures.batch.1) opened.1
    (c.in-Ok-open.ensures.any_moment told) (c.commit.ensures.any_moment told _ opened.0))

pub returns-clause-head : goal.returns-clause-head
returns-clause-head g c =
    subst (λ (h : HeadParts). HasParts c.args.setup.id c.args.setup.filter c.args.setup.event_limit c.args.setup.birth c.args.setup.mark h) (sym c.fresh.ensures.head) c.in-Ok.ensures.head

pub returns-clause-none_waits : goal.returns-clause-none_waits
returns-clause-none_waits g c = (none_waits c.fresh.result (ap (λ s. length s.log) c.fresh.ensures.replica ∙ sym c.fresh.ensures.counts.0) c.fresh.ensures.leaving.1, c.fresh.ensures.leaving.0)

-- ---- why none is begun

pub returns-in-Err-clause-fault : goal.returns-in-Err-clause-fault
returns-in-Err-clause-fault g c = λ told. of_setup (g.D.Device.seen c.args.device) c.args.setup.id c.args.setup.filter c.args.setup.event_limit c.args.setup.birth c.args.setup.mark c.in-Err.fault c.in-Err.ensures.fault

pub returns-in-Err-clause-cause : goal.returns-in-Err-clause-cause
returns-in-Err-clause-cause g c = λ told is. absurd (no_journal_fault c.args.setup.filter c.args.setup.event_limit c.in-Err.fault _ c.in-Err.ensures.fault is)

pub returns-in-Err-open-clause-fault : goal.returns-in-Err-open-clause-fault
returns-in-Err-open-clause-fault g c = λ told.
    (c.in-Ok.ensures.limit, (c.in-Ok.first.0, c.in-Ok.ensures.head, of_open (g.D.Device.seen c.args.device) c.in-Ok.first.0 c.in-Err-open.fault (c.in-Err-open.ensures.reason told)))

pub returns-in-Err-open-clause-cause : goal.returns-in-Err-open-clause-cause
returns-in-Err-open-clause-cause g c = λ told is. c.in-Err-open.ensures.cause told (cc)

pub returns-then-not-is_empty-clause-fault : goal.returns-then-not-is_empty-clause-fault
returns-then-not-is_empty-clause-fault g c = λ told.
    let texts = contents c.in-Ok-open.opened.1.items in
    (c.in-Ok.ensures.limit, (texts, λ (none : texts ≡ []). some_texts c.deref-found.result.now c.is_empty.result c.is_empty.ensures c.if-not-is_empty.true (ap contents c.deref-found.ensures.value ∙ none), (c.in-Ok-open.ensures.opened told).1))

pub returns-in-Err-commit-clause-fault : goal.returns-in-Err-commit-clause-fault
returns-in-Err-commit-clause-fault g c = λ told.
    let texts = contents c.in-Ok-open.opened.1.items in
    let opened = c.in-Ok-open.ensures.opened told in
    let none : texts ≡ [] = ap contents (sym c.deref-found.ensures.value) ∙ empty_texts c.deref-found.result.now c.is_empty.result c.is_empty.ensures c.if-not-is_empty.false in
    let batch = ap contents c.deref.ensures.value ∙ c.in-Ok.ensures.batch.1 in
    let as_err : JournalFault → Result (Unit {0}) JournalFault = λ e. Err e in (
      c.in-Ok.ensures.limit,
      (
        c.in-Ok.first.0,
        c.in-Ok.ensures.head,
        of_commit (g.D.Device.seen c.args.device) c.in-Ok.first.0 texts (contents c.deref.result.now) c.in-Ok-open.opened.0 c.in-Err-commit.fault none opened.1 opened.0 c.in-Err-commit.ensures.only batch
            (λ is. (c.in-Err-commit.ensures.too_large opened.0.sound (some_batch c.deref.result.now _ batch)).0 (ap as_err is)),
      ),
    )

pub returns-in-Err-commit-clause-cause : goal.returns-in-Err-commit-clause-cause
returns-in-Err-commit-clause-cause g c = λ told is.
    let opened = c.in-Ok-open.ensures.opened told in
    subst (λ d. IsTrue (g.D.Device.has_failed d)) (sym c.into_device-in-Err-commit.ensures) (device_failed _ opened.0.sound (c.in-Err-commit.ensures.cause told (cc)))
