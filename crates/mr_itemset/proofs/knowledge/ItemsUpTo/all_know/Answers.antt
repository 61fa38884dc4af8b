use Rattle.std.proofs.Common.{◌≡◌, true, false, Bool, ◌||◌, List, sym, ap, ◌∙◌}
use Rattle.std.proofs.lemmas.Bool.{or_left}
use Rattle.mr_itemset.proofs.Names.{AuthorColumn, vector_has}
use Rattle.mr_itemset.proofs.SparingLemmas.{all_know_by}
use Rattle.mr_itemset.proofs.knowledge.ItemsUpTo.all_know.Goals as goal

pub returns-then-waits : goal.returns-then-waits
returns-then-waits g c =
    let pending = c.parts-parts.result.pending.now in
    let settled = c.parts-parts.result.settled.now in
    let waits : vector_has pending c.args.version ≡ true = sym c.contains-waits.ensures ∙ c.if-waits.true in
    c.if-waits.true ∙ sym (or_left (vector_has pending c.args.version) (vector_has settled.all c.args.version) waits) ∙ all_know_by c.args.self.now settled pending c.args.version c.parts-parts.ensures

pub returns-else-waits : goal.returns-else-waits
returns-else-waits g c =
    let pending = c.parts-parts.result.pending.now in
    let settled = c.parts-parts.result.settled.now in
    let waits : vector_has pending c.args.version ≡ false = sym c.contains-waits.ensures ∙ c.if-waits.false in
    c.contains-settled.ensures
    ∙ ap (λ (x : List AuthorColumn). vector_has x c.args.version) c.for_all.ensures.is
    ∙ sym (ap (λ (b : Bool). b || vector_has settled.all c.args.version) waits)
    ∙ all_know_by c.args.self.now settled pending c.args.version c.parts-parts.ensures
