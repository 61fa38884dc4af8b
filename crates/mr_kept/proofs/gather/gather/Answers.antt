use Rattle.std.proofs.Common.{inl, inr, ℕ, ◌+◌, List, ap, arith, subst}
use Rattle.mr_kept.proofs.Names.{IsUnread, Spells, err_from_is_err_and}
use Rattle.mr_kept.proofs.EntryLemmas.{gathered_next}
use Rattle.mr_kept.proofs.RefusingLemmas.{stops_at}
use Rattle.mr_kept.proofs.gather.gather.Goals as goal

pub take_entry-requires : goal.take_entry-requires
take_entry-requires c = record { few = c.loop-bytes.invariant.told.few }

pub loop-bytes-preserved : goal.loop-bytes-preserved
loop-bytes-preserved c = record {
  place_is = omega arith;
  told = gathered_next c.args.entries.now c.loop-bytes.bytes-index c.bytes-item.result c.loop-bytes.gathered.events.items c.take_entry.new.gathered.events.items c.loop-bytes.gathered.issued c.take_entry.new.gathered.issued c.loop-bytes.gathered.notes.items c.take_entry.new.gathered.notes.items c.in_ok-entry.entry
      c.loop-bytes.invariant.told c.loop-bytes-test.true c.bytes-item.is (subst (λ (t : List ℕ). Spells c.in_ok-entry.entry t) c.deref.ensures.value c.in_ok-entry.ensures.spelled)
      c.in_ok-take_entry.ensures.events c.in_ok-take_entry.ensures.issued c.in_ok-take_entry.ensures.notes c.in_ok-take_entry.ensures.belongs c.in_ok-take_entry.ensures.few;
}

pub returns-in_err-entry-clause-fault : goal.returns-in_err-entry-clause-fault
returns-in_err-entry-clause-fault c =
    let p = err_from_is_err_and c.from_residual.result c.from_residual.ensures.1 in
    let why = c.in_err-entry.field-0.0 in
    let place : ℕ = c.loop-bytes.place + 1 in
    rw (p.1, p.2)
    (stops_at c.args.entries.now c.loop-bytes.bytes-index place c.bytes-item.result c.loop-bytes.gathered.events.items c.loop-bytes.gathered.issued c.loop-bytes.gathered.notes.items why c.loop-bytes.invariant.told c.loop-bytes-test.true c.bytes-item.is
    (ap (λ (n : ℕ). n + 1) c.loop-bytes.invariant.place_is) (inl (subst (λ (t : List ℕ). IsUnread place t why) c.deref.ensures.value c.in_err-entry.ensures.fault)))

pub returns-in_err-take_entry-clause-fault : goal.returns-in_err-take_entry-clause-fault
returns-in_err-take_entry-clause-fault c =
    let p = err_from_is_err_and c.from_residual-in_err-take_entry.result c.from_residual-in_err-take_entry.ensures.1 in
    let place : ℕ = c.loop-bytes.place + 1 in
    rw (p.1, p.2)
    (stops_at c.args.entries.now c.loop-bytes.bytes-index place c.bytes-item.result c.loop-bytes.gathered.events.items c.loop-bytes.gathered.issued c.loop-bytes.gathered.notes.items c.in_err-take_entry.field-0.0 c.loop-bytes.invariant.told c.loop-bytes-test.true c.bytes-item.is
    (ap (λ (n : ℕ). n + 1) c.loop-bytes.invariant.place_is)
    (inr (c.in_ok-entry.entry, subst (λ (t : List ℕ). Spells c.in_ok-entry.entry t) c.deref.ensures.value c.in_ok-entry.ensures.spelled, c.in_err-take_entry.ensures.fault)))
