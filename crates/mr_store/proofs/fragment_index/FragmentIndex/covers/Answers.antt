use Rattle.std.proofs.Common.{◌≡◌, ◌||◌, Bool, ℕ, map, filter, sym, ap, subst, ◌∙◌}
use Rattle.mr_store.proofs.Names.{Finds, Listing, Places, has_at, is_for, list_any}
use Rattle.mr_store.proofs.FragmentIndexLemmas.{told_is}
use Rattle.mr_store.proofs.fragment_index.FragmentIndex.covers.Goals as goal

pub returns-then-some_has : goal.returns-then-some_has
returns-then-some_has g c =
    let fragments = c.args.fragments.now in
    let listed = g.F.AsFragment.listed in
    let told = g.F.AsFragment.told in
    let has : ℕ → Bool = has_at told fragments c.args.version in
    let places : Places = record { general = c.self.inside.general.items; listings = c.self.inside.listings.items } in
    let finds : Finds (map listed fragments) places = subst (Finds (map listed fragments)) (sym c.self.view_is) c.requires in
    let others : Bool = list_any (λ (l : Listing). has l.place) (filter (is_for c.args.item) places.listings) in
    let general : c.some_has.result ≡ list_any has places.general = c.some_has.ensures ∙ ap (list_any has) c.deref.ensures.value in
    c.if-some_has.true ∙ (ap (λ (b : Bool). b || others) (sym c.if-some_has.true ∙ general) ∙ told_is listed told fragments c.args.item c.args.version places finds)

pub returns-else-some_has : goal.returns-else-some_has
returns-else-some_has g c =
    let fragments = c.args.fragments.now in
    let listed = g.F.AsFragment.listed in
    let told = g.F.AsFragment.told in
    let has : ℕ → Bool = has_at told fragments c.args.version in
    let places : Places = record { general = c.self.inside.general.items; listings = c.self.inside.listings.items } in
    let finds : Finds (map listed fragments) places = subst (Finds (map listed fragments)) (sym c.self.view_is) c.requires in
    let others : Bool = list_any (λ (l : Listing). has l.place) (filter (is_for c.args.item) places.listings) in
    let general : c.some_has.result ≡ list_any has places.general = c.some_has.ensures ∙ ap (list_any has) c.deref.ensures.value in
    let found : c.any_has.result ≡ others = c.any_has.ensures ∙ ap (list_any (λ (l : Listing). has l.place)) (c.listings_for.ensures ∙ ap (filter (is_for c.args.item)) c.deref-else-some_has.ensures.value) in
    found ∙ (ap (λ (b : Bool). b || others) (sym c.if-some_has.false ∙ general) ∙ told_is listed told fragments c.args.item c.args.version places finds)
