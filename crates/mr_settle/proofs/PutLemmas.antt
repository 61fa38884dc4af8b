-- What a map keyed by bytes has once some bytes were put in.
use Rattle.std.proofs.Common.{◌≡◌, ◌≢◌, sym, ◌∙◌, ℕ, Bool, true, false, List, Some, arith}
use Rattle.std.specs.Global.{Vec}
use Rattle.std.specs.BTreeMap.{BTreeMap, UpdatesBy, get_by}
use Rattle.std.specs.Map.{lookup, IsKeyTest, AreApart, KeepsOthers}
use Rattle.std.specs.Ordering.{is_eq, nat_cmp}
use Rattle.std.specs.Cmp.{eq_by_cmp_equiv}
use Rattle.std.specs.Cmp.Lexicographic.{slice_cmp, nat_list_cmp_total, nat_list_eq_equiv}
use Rattle.mr_settle.proofs.Names.{Puts, bytes_eq, bytes_eq-Decides}
use Rattle.std.proofs.lemmas.Map.Text.{is_eq-slice_cmp}

other_entries : {K X : Type 0} (eq : K → K → Bool) (test : K → Bool) (old new : List (K × X)) → KeepsOthers eq test old new → (other : K → Bool) → IsKeyTest eq other → AreApart test other → lookup other new ≡ lookup other old
unfolding KeepsOthers
other_entries eq test old new h = h

unequal : (a b : List ℕ) → a ≢ b → bytes_eq a b ≡ false
unequal a b ne = grind (arith, bytes_eq-Decides)

apart : (bs cs ks : List ℕ) → bytes_eq bs cs ≡ false → is_eq (slice_cmp nat_cmp bs ks) ≡ true → is_eq (slice_cmp nat_cmp cs ks) ≡ false
apart bs cs ks n y = is_eq-slice_cmp cs ks ∙ (nat_list_eq_equiv.symm cs ks ∙ sym (nat_list_eq_equiv.congr bs ks cs (sym (is_eq-slice_cmp bs ks) ∙ y)) ∙ n)

pub puts : (m n : BTreeMap (Vec ℕ) ℕ) (bytes : List ℕ) (w : ℕ) → UpdatesBy (λ x y. slice_cmp nat_cmp x.items y.items) (λ k. slice_cmp nat_cmp bytes k.items) m n (Some w)
    → Puts (λ bs. get_by (λ k. slice_cmp nat_cmp bs k.items) m) bytes w (λ bs. get_by (λ k. slice_cmp nat_cmp bs k.items) n)
puts m n bytes w h = record {
  is = h.1;
  others = λ other ne.
      other_entries _ _ _ _ h.3 _ (λ x y. (eq_by_cmp_equiv nat_list_cmp_total).congr other x.items y.items) (λ k. apart bytes other k.items (unequal bytes other (λ is. ne (sym is))));
}
