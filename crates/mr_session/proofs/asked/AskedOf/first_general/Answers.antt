use Rattle.std.proofs.Common.{◌≡◌, true, length, Some, refl, sym, ap, ◌∙◌}
use Rattle.mr_session.proofs.Names.{Piece, slice_get, vector_has}
use Rattle.std.proofs.lemmas.Option.{slice_get_read}
use Rattle.mr_store.proofs.FragmentIndexLemmas.{general_tells}
use Rattle.mr_session.proofs.asked.AskedOf.first_general.Goals as goal

pub returns : goal.returns
returns c item v has =
    let fragments = c.self.inside.ask.fragments in
    let first : slice_get c.self.inside.index.general 0 ≡ Some c.in_ok-place.place = sym c.in_ok-place.ensures in
    let there : slice_get fragments c.in_ok-place.place ≡ Some c.in_ok-fragment.fragment.now = rw (← c.fragments.ensures) (let look = c.in_ok-fragment.ensures.lookup in slice_get_read c.fragments.result.now (length c.fragments.result.now) c.in_ok-place.place c.in_ok-fragment.fragment.now refl look.3.0 look.1) in
    let told : vector_has c.in_ok-fragment.fragment.now.vector v ≡ true = ap (λ (p : Piece). vector_has p.vector v) (sym c.as_fragment.ensures.is) ∙ has in
    rw (← c.self.view_is) (general_tells (λ (p : Piece). p.items) (λ (p : Piece). p.vector) fragments item v c.self.inside.index c.in_ok-place.place c.in_ok-fragment.fragment.now c.self.invariant first there told)
