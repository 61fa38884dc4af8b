use Rattle.std.proofs.Common.{◌≡◌, ◌++◌, ◌∷◌, [], List, filter, Bool, sym, ap, ◌∙◌, append_assoc}
use Rattle.mr_store.proofs.Names.{Rev, is_unheld}
use Rattle.mr_store.proofs.PassLemmas.{rest_rises, keeps_first, passes_first}
use Rattle.mr_store.proofs.unheld.unheld_of.Goals.{then-is_unheld+in_ok-copy+in_ok-push, else-is_unheld}
use Rattle.mr_store.proofs.unheld.unheld_of.Goals as goal

pub pass-rest-requires-in-Some : goal.pass-rest-requires-in-Some
pass-rest-requires-in-Some c = rest_rises c.loop-first.rest.now c.loop-first.invariant.0

pub loop-first-preserved : goal.loop-first-preserved
loop-first-preserved c =
    let p : Rev → Bool = λ (r : Rev). is_unheld c.args.learned.now c.args.held.now r.item r.version in
    let first = c.in-Some.first.now in
    let rest = c.loop-first.rest.now in
    let left = c.loop-first.left.items in
    let later = filter p c.pass-rest-in-Some.result.now in
    let tested : c.is_unheld.result ≡ p first = rw (c.item.ensures, c.version.ensures) at c.is_unheld.ensures in (
      c.pass-rest-in-Some.ensures.in_order,
      elim c.if-is_unheld.branch [
        | then-is_unheld+in_ok-copy+in_ok-push w ↦
            rw (w.left-is, w.in_ok-push.ensures.items, w.in_ok-copy.ensures)
            (append_assoc left (first ∷ []) later
            ∙ (ap (λ (l : List Rev). left ++ first ∷ l) c.pass-rest-in-Some.ensures.unheld
            ∙ (ap (λ (l : List Rev). left ++ l) (sym (keeps_first p rest first (sym c.in-Some.ensures.value) (sym tested ∙ w.if-is_unheld.true)))
            ∙ c.loop-first.invariant.1)))
        | else-is_unheld w ↦
            rw w.left-is
            (ap (λ (l : List Rev). left ++ l) (c.pass-rest-in-Some.ensures.unheld ∙ sym (passes_first p rest first (sym c.in-Some.ensures.value) (sym tested ∙ w.if-is_unheld.false)))
            ∙ c.loop-first.invariant.1)
      ],
    )
