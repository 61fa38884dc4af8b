use Rattle.std.proofs.Common.{◌≡◌, ℕ, List, Option, rules, subst}
use Rattle.mr_desk.specs.KeptOpening.{Reopened, Unopened}
use Rattle.mr_desk.proofs.kept_opening.open_kept.Goals as goal

-- What was read is the file, and what was asked for is what the bytes say.
pub returns-in-Ok : goal.returns-in-Ok
returns-in-Ok c =
    let copied : c.in_ok-read.read.items ≡ c.args.file.now = search rules in
    let h = c.in-Ok.kept in
    let notes = c.in-Ok.opened.notes.items in
    let opened = c.in-Ok.ensures in
    let made : Reopened c.in_ok-read.read.items c.in_ok-mark.mark c.in_ok-birth.birth h notes = record {
      are_closed = c.in-Ok.opened.are_closed;
      reopens = opened.reopens;
      place = opened.place;
      whole = opened.whole;
      any_moment = opened.any_moment;
      left = opened.left;
      none_waits = opened.none_waits;
      new = opened.new;
    } in
    let of_file = subst (λ (f : List ℕ). Reopened f c.in_ok-mark.mark c.in_ok-birth.birth h notes) copied made in
    let of_mark = subst (λ (m : List ℕ). Reopened c.args.file.now m c.in_ok-birth.birth h notes) c.in_ok-mark.ensures.0 of_file in
    ((c.in_ok-mark.ensures.1, c.in_ok-birth.ensures.1), subst (λ (b : Option (List ℕ)). Reopened c.args.file.now c.args.mark.now b h notes) c.in_ok-birth.ensures.0 of_mark)

pub returns-in-Err : goal.returns-in-Err
returns-in-Err c =
    let copied : c.in_ok-read.read.items ≡ c.args.file.now = search rules in
    let e = c.in-Err.fault in
    let made : Unopened c.in_ok-read.read.items c.in_ok-mark.mark c.in_ok-birth.birth e = record { why = c.in-Err.ensures.fault; machine = c.in-Err.ensures.whole } in
    let of_file = subst (λ (f : List ℕ). Unopened f c.in_ok-mark.mark c.in_ok-birth.birth e) copied made in
    let of_mark = subst (λ (m : List ℕ). Unopened c.args.file.now m c.in_ok-birth.birth e) c.in_ok-mark.ensures.0 of_file in
    ((c.in_ok-mark.ensures.1, c.in_ok-birth.ensures.1), subst (λ (b : Option (List ℕ)). Unopened c.args.file.now c.args.mark.now b e) c.in_ok-birth.ensures.0 of_mark)
