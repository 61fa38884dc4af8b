use Rattle.std.proofs.Common.{refl, subst, sym, ◌<◌, arith, length, List}
use Rattle.std.proofs.lemmas.Option.{slice_get_read}
use Rattle.mr_replica.specs.declared.event.Event.{Event}
use Rattle.mr_settle.proofs.ArriveLemmas.{left_found, left_none}
use Rattle.mr_settle.proofs.join.left_at.Goals as goal

pub returns-then-progress-log : goal.returns-then-progress-log
returns-then-progress-log g c =
    let end = c.in-Some-Some.ensures.lookup in
    let progress = c.in-Some-Some.ensures'.lookup in
    let left = subst (λ (log : List Event). c.in-Some-Some.progress.now.done < length log) c.log.ensures.all c.if-progress-log.true in (
      c.in-Some-Some.end.now,
      c.in-Some-Some.progress.now.done,
      left_found c.args.ends.now c.args.progress.now c.args.place c.in-Some-Some.end.now c.in-Some-Some.progress.now
          (slice_get_read c.args.ends.now (length c.args.ends.now) c.args.place c.in-Some-Some.end.now refl end.3.0 end.1)
          (slice_get_read c.args.progress.now (length c.args.progress.now) c.args.place c.in-Some-Some.progress.now refl progress.3.0 progress.1)
          left,
      sym c.id.ensures,
      refl,
    )

pub returns-else-progress-log : goal.returns-else-progress-log
returns-else-progress-log g c =
    let end = c.in-Some-Some.ensures.lookup in
    let progress = c.in-Some-Some.ensures'.lookup in
    let none = subst (λ (log : List Event). (c.in-Some-Some.progress.now.done < length log) → ⊥) c.log.ensures.all (λ low. absurd (omega (arith, low, c.if-progress-log.false))) in
    left_none c.args.ends.now c.args.progress.now c.args.place c.in-Some-Some.end.now c.in-Some-Some.progress.now
    (slice_get_read c.args.ends.now (length c.args.ends.now) c.args.place c.in-Some-Some.end.now refl end.3.0 end.1)
    (slice_get_read c.args.progress.now (length c.args.progress.now) c.args.place c.in-Some-Some.progress.now refl progress.3.0 progress.1)
    (omega (arith, none))
