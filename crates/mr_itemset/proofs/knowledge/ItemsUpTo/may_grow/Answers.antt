use Rattle.std.proofs.Common.{refl, sym, ◌∙◌, inl, inr}
use Rattle.mr_itemset.proofs.Names.{HasHoleyItem, HasValue, false≢true, items_form, normal_known}
use Rattle.mr_itemset.specs.ItemForm.{with_all}
use Rattle.mr_itemset.proofs.LimitLemmas.{lists_few}
use Rattle.mr_itemset.proofs.RefusalLemmas.{succeeds, refuses_otherwise, no_holes_in_turn, no_items_in_turn}
use Rattle.mr_itemset.proofs.knowledge.ItemsUpTo.may_grow.Goals as goal

-- nothing is listed
pub returns-in_default : goal.returns-in_default
returns-in_default g c =
    let value : HasValue (items_form g.row.LIMIT) (with_all (normal_known c.args.self.now) (g.A.Source.has c.args.learned.now)) =
    (λ holey. false≢true (sym c.if-would_be_holey.false ∙ c.would_be_holey.ensures.holey.1 holey), lists_few c.args.self.now (g.A.Source.has c.args.learned.now) c.would_be_holey.ensures.normal) in
    rw c.in_default.is (record { ok = value; holes = succeeds _ _ (no_holes_in_turn _ _ value value); items = succeeds _ _ (no_items_in_turn _ _ value value); memory = λ e. cc })

pub returns-then-would_be_holey_more : goal.returns-then-would_be_holey_more
returns-then-would_be_holey_more g c =
    let first : ¬ HasHoleyItem (with_all (normal_known c.args.self.now) (g.A.Source.has c.args.learned.now)) = λ holey. false≢true (sym c.if-would_be_holey.false ∙ c.would_be_holey.ensures.holey.1 holey) in
    let few = lists_few c.args.self.now (g.A.Source.has c.args.learned.now) c.would_be_holey.ensures.normal in
    let holey = c.would_be_holey_more.ensures.yes c.if-would_be_holey_more.true in
    rw c.in-Some.is (record {
      ok = tt;
      holes = (λ _. inr ((first, few), holey), λ _. refl);
      items = refuses_otherwise _ _ (λ same. cc) (λ over. elim over [ inl only ↦ few only.0 | inr both ↦ both.1.1 holey ]);
      memory = λ e. cc;
    })

pub returns-then-not-has_room_more : goal.returns-then-not-has_room_more
returns-then-not-has_room_more g c =
    let first : ¬ HasHoleyItem (with_all (normal_known c.args.self.now) (g.A.Source.has c.args.learned.now)) = λ holey. false≢true (sym c.if-would_be_holey.false ∙ c.would_be_holey.ensures.holey.1 holey) in
    let few = lists_few c.args.self.now (g.A.Source.has c.args.learned.now) c.would_be_holey.ensures.normal in
    let second = c.would_be_holey_more.ensures.no c.if-would_be_holey_more.false in
    rw c.in-Some.is (record {
      ok = tt;
      holes = refuses_otherwise _ _ (λ same. cc) (λ over. elim over [ inl holey ↦ first holey | inr both ↦ first (second both.1) ]);
      items = (λ _. inr ((first, few), (c.has_room_more.ensures.no c.if-not-has_room_more.true, λ holey. first (second holey))), λ _. refl);
      memory = λ e. cc;
    })

pub returns : goal.returns
returns g c =
    let first : ¬ HasHoleyItem (with_all (normal_known c.args.self.now) (g.A.Source.has c.args.learned.now)) = λ holey. false≢true (sym c.if-would_be_holey.false ∙ c.would_be_holey.ensures.holey.1 holey) in
    let few = lists_few c.args.self.now (g.A.Source.has c.args.learned.now) c.would_be_holey.ensures.normal in
    let second = c.would_be_holey_more.ensures.no c.if-would_be_holey_more.false in
    let room = c.has_room_more.ensures.yes c.if-not-has_room_more.false in
    rw c.in-Some.is (record {
      ok = (λ holey. first (second holey), room);
      holes = succeeds _ _ (λ over. elim over [ inl holey ↦ first holey | inr both ↦ first (second both.1) ]);
      items = succeeds _ _ (λ over. elim over [ inl only ↦ few only.0 | inr both ↦ room both.1.0 ]);
      memory = λ e. cc;
    })
