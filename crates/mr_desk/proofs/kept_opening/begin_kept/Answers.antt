use Rattle.std.proofs.Common.{◌≡◌, [], ℕ, List, ◌∙◌, arith, rules, subst}
use Rattle.mr_desk.proofs.Names.{AreGiven, inside, new_state}
use Rattle.mr_kept.specs.Beginning.{IsBeginFault}
use Rattle.mr_desk.proofs.kept_opening.begin_kept.Goals as goal

pub returns-in-Ok : goal.returns-in-Ok
returns-in-Ok c =
    let begun = c.in-Ok.ensures in
    let head = begun.head in
    record {
      parts = record { id_in = search rules; filter = c.in_ok-filter.filter; means = c.in_ok-filter.ensures; long = (c.in_ok-birth.ensures.1, c.in_ok-mark.ensures.1) };
      limit_in = (first_of (omega (arith, c.if-event_limit-eq0.false), search rules), c.if-event_limit-gt-MAX_EVENTS.false);
      head = record { id_is = head.id_is ∙ c.in_ok-id.ensures.ok; text = head.text; limit_is = head.limit_is; birth_is = head.birth_is ∙ c.in_ok-birth.ensures.0; mark_is = head.mark_is ∙ c.in_ok-mark.ensures.0 };
      fresh = subst (λ (id : ℕ). inside c.in-Ok.kept ≡ new_state id c.in_ok-filter.filter c.args.event_limit (inside c.in-Ok.kept).knowledge) c.in_ok-id.ensures.ok begun.fresh;
      kept = begun.kept;
      none_waits = begun.none_waits;
      new = begun.new;
      left = begun.left;
    }

-- The setup is what was handed over.
pub returns-in-Err : goal.returns-in-Err
returns-in-Err c =
    let limit = c.args.event_limit in
    let filter = c.in_ok-filter.filter in
    let fault = c.in-Err.fault in
    let parts : AreGiven c.args.id c.args.filter.now c.args.birth.now c.args.mark.now = record { id_in = search rules; filter = filter; means = c.in_ok-filter.ensures; long = (c.in_ok-birth.ensures.1, c.in_ok-mark.ensures.1) } in
    let of_id = subst (λ (id : ℕ). IsBeginFault [] id filter limit c.in_ok-birth.birth c.in_ok-mark.mark fault) c.in_ok-id.ensures.ok c.in-Err.ensures.fault in
    let of_birth = subst (λ (birth : List ℕ). IsBeginFault [] c.args.id filter limit birth c.in_ok-mark.mark fault) c.in_ok-birth.ensures.0 of_id in
    let of_mark = subst (λ (mark : List ℕ). IsBeginFault [] c.args.id filter limit c.args.birth.now mark fault) c.in_ok-mark.ensures.0 of_birth in
    ((first_of (omega (arith, c.if-event_limit-eq0.false), search rules), c.if-event_limit-gt-MAX_EVENTS.false), (parts, of_mark))
