-- `into_loose` takes the box's pointer back, where there is one.
use Rattle.std.proofs.Common.{◌≡◌, ℕ, zero, suc, List, [], ◌∷◌, ◌++◌, refl, ◌∙◌, lit<, ◌<◌, ◌^◌, subst}
use lib.Dec.{T, eqb-suc-zero}
use mir.Raw.{raw as bare}
use mir.Val.{Val, vptr, vcons, vnil}
use base.Logic.{SProp, emp, never, fst∗}
use prog.Wp.{WpFn}
use types.Logic.{sem}
use contract.Monad.{fact, fact_i}
use contract.Running.{tables}
use types.Kit.{‵, raw, ◌⊛◌, at_ret, prop, ◌$◌, ◌∵◌, !, qed, by, move, keep, drop, use0, use1, split, regoal, rewrite, fsplit, fjoin, fpick, feq_l}
use types.Part.{agg, sub, whole}
use types.Match.{live}
use types.Run.{stop, fld, lit, of_opd, bin, no_more, and_then, first, branches, skips, exec, returns, returns_within, enter}
use types.ByLocal.{alloc_all, pass_all, free_all, look_at, get, get_in, sets, env}
use denote.Param.{layout}
use denote.RattleType.{RattleType, owns}
use denote.RawPtr.{block_ptr, null_ptr, in_a_block}
use denote.Memory.{lone}
use denote.Signature.{types_at, type_at, plain}
use denote.Steps.{nothing}
use denote.Triple.Entry.{alive}
use denote.Triple.Walked.{Stays, stay_dropped, walk_of, Goes-dropped}
use Rattle.std.specs.Prelude.{None, Some}
use Rattle.std.specs.Box.Ownership.{box_owns}
use Rattle.std.specs.contracts.alloc.Global as heap_at
use Rattle.std.proofs.alloc.Global.TheLaws as heap_laws
use Rattle.std.specs.contracts.impls.GlobalAllocator.TheImpl.{ghosts}
use Rattle.std.proofs.alloc.Calls.{Goes-blank, handle_tells}
use Rattle.std.proofs.cell.Inside.{Good}
use Rattle.std.proofs.option.Made.{Some-of, none_of}
use Rattle.std.proofs.ResultValues.{and_tt}
use Rattle.std.proofs.raw_atomic.Walks.{proved_at, leaves}
use Rattle.mr_c.specs.Held.{held, heap}
use Rattle.mr_c.proofs.LooseValues.{both, Loose, al, loose_good, loose_in}
use Rattle.mr_c.proofs.Values.{word, word_typed, fields_told, ptr_typed}
use Rattle.mr_desk.specs.contracts.device.Device as device
use Rattle.mr_c.specs.contracts.handle.Handle as handle
use Rattle.mr_c.specs.contracts.handle.Handle.into_loose.{ended, clauses}
use Rattle.mr_c.specs.contracts.handle.Handle.into_loose.Key.{name as #self}
use Rattle.mr_c.proofs.handle.Handle.into_loose.Statement.{statement}
use Rattle.mr_c.proofs.handle.Handle.into_loose.Code as code

by_size : {X : Type 1} (n : ℕ) → (n ≡ 0 → X) → ((m : ℕ) → n ≡ suc m → X) → X
by_size zero none more = none refl
by_size (suc m) none more = more m refl

pub into_loose_spec : {M : Type 1} → statement M
into_loose_spec 𝓤 𝓛 𝓜 𝓡 wired =
    let H = 𝓛.H in let 𝓣 = tables 𝓤 H 𝓜 𝓡 𝓡.env in let c = clauses 𝓛 𝓜.mem 𝓡.returns in
    let R : RattleType = device.the_row in let Z : RattleType = heap_at.the_row in let LZ = heap_laws.the_row_laws in let Lo : RattleType = Loose R Z LZ ghosts in let Ha : RattleType = handle.the_row in
    let hs : Stays ended.signature.params ended.kept = (stay_dropped (plain (λ _. Ha)) ended.kept.0, (stay_dropped (plain (λ _. Z)) ended.kept.1.0, tt)) in
    proved_at 𝓛 ended hs c 𝓜 𝓡 (Goes-blank 𝓛 0 (plain (λ _. Ha)) ended.kept.0 (λ κs x f. tt), (Goes-dropped 𝓛 0 (plain (λ _. Z)) ended.kept.1.0 (λ κs x f. refl), tt)) #self code.function (code.unfolded 𝓤 H 𝓜 𝓡 wired) (λ z are.
    let Post : Val → SProp 𝓤 = (walk_of 𝓛 ended hs c).post z in let v = z.0.3.0 in let a = z.0.3.1.0 in let Out : RattleType = type_at ended.signature.result z.0.0 in let told = fields_told v.at v.live z.0.4.0 are.0.0 in
    qed 𝓛 ((raw (alive 𝓛 ended.signature z.0.0 z.0.1) ⊛ ‵ (owns (types_at ended.signature.params z.0.0) z.0.3 z.0.4)) ∷ raw ((c z.0.0 z.0.3).requires z.1) ∷ []) ∵ move ! (1 ∷ []) $ drop ! $ split ! $ move ! (1 ∷ []) $ fsplit ! $ fsplit ! $ drop ! $
    move ! (1 ∷ []) $ fsplit ! $ handle_tells (al R Z LZ ghosts) ! a z.0.4.1.0 (λ h eh fits. move ! (2 ∷ []) $
    by_size v.live
    (λ none. rewrite ! 0 (λ (k : ℕ). ‵ (held R v.at k v.device)) none refl $ feq_l ! (λ shut.
    -- [the heap; true; the tokens]
    regoal ! (λ (us : List Val). prop (WpFn 𝓤 H 𝓣.C 𝓣.Λ code.function us Post)) (λ i. (told.0 ∙ (λ j. word v.at (none j) ∷ [])) i ++ (eh i ++ [])) refl $
    enter ! 𝓣.C 𝓣.Λ code.function (word v.at 0 ∷ h ∷ []) Post $ alloc_all ! (λ l. pass_all ! refl (word_typed v.at 0 (lit< tt), (fits, tt)) $
    sets ! (of_opd ! (get_in ! (fld ! refl (stop !)) (sub ! 0 refl (whole !)))) refl (ptr_typed v.at) $ sets ! (of_opd ! (get_in ! (fld ! refl (stop !)) (sub ! 1 refl (whole !)))) refl (tt, record { fits = lit< tt }) $
    sets ! (bin ! (get ! refl) (lit ! tt) tt) refl (tt, tt) $ first ! $ branches ! (get ! refl)
    (λ _. sets ! (agg ! (and_then ! (lit ! tt) (no_more !))) refl (tt, (record { fits = lit< tt }, tt)) $
    returns_within ! Post refl (look_at ! 0 refl) $ free_all ! refl $
    use0 𝓛 (‵ (Out.own_val None (live 0 vnil ∷ []))) (none_of 𝓛 Lo) $ use0 𝓛 (raw (fact 𝓤 (v.device ≡ None))) (fact_i 𝓤 (v.device ≡ None) (emp 𝓤) shut) $ nothing ! $ nothing ! $ fjoin ! $ nothing ! $ fjoin ! $
    keep ! (5 ∷ 0 ∷ 2 ∷ 1 ∷ []) $ by ! (leaves 𝓛 ended hs c z (live 0 vnil) None (tt, (tt, tt)) (tt, (tt, tt)))) (λ wrong. absurd wrong))))
    (λ m more. rewrite ! 0 (λ (k : ℕ). ‵ (held R v.at k v.device)) more refl $ fpick ! (λ x. fsplit ! $ feq_l ! (λ is.
    in_a_block ! v.at (λ p. box_owns (ghosts.dealloc_token heap) R p x) (fst∗ 𝓤 (never 𝓤) (sem 𝓛 (ghosts.dealloc_token heap (bare (lone R.mir)) null_ptr))) (λ b o e.
    let big : suc m < 2 ^ 64 = subst (λ (k : ℕ). k < 2 ^ 64) more told.1 in let w : Val = both (vptr b o) h in let typed = loose_good R Z LZ ghosts b o h fits in let d : Lo.Denot = record { at = block_ptr b o; alloc = a; value = x } in
    let out : Val = live 1 (vcons w vnil) in let good : Good (layout Out) out = (and_tt _ typed.0, (record { fits = lit< tt }, (typed.1, tt))) in
    -- [the box; the heap; true; the tokens]
    regoal ! (λ (us : List Val). prop (WpFn 𝓤 H 𝓣.C 𝓣.Λ code.function us Post)) (λ i. (told.0 ∙ (λ j. word (e j) (more j) ∷ [])) i ++ (eh i ++ [])) refl $
    enter ! 𝓣.C 𝓣.Λ code.function (word (block_ptr b o) (suc m) ∷ h ∷ []) Post $ alloc_all ! (λ l. pass_all ! refl (word_typed (block_ptr b o) (suc m) big, (fits, tt)) $ let Ev = env code.function.locals l in
    sets ! (of_opd ! (get_in ! (fld ! refl (stop !)) (sub ! 0 refl (whole !)))) refl (tt, tt) $ sets ! (of_opd ! (get_in ! (fld ! refl (stop !)) (sub ! 1 refl (whole !)))) refl (tt, record { fits = big }) $
    sets ! (bin ! (get ! refl) (lit ! tt) tt) refl (tt, tt) $ first ! $ branches ! (get ! refl) (λ wrong. absurd (subst T (eqb-suc-zero m) wrong))
    (λ _. skips ! $ exec ! 𝓣.C 𝓣.Λ Ev code.Mir.t-5 (at_ret Ev Post) $ sets ! (of_opd ! (get ! refl)) refl (tt, tt) $
    sets ! (agg ! (and_then ! (get ! refl) (and_then ! (get ! refl) (no_more !)))) refl typed $ sets ! (agg ! (and_then ! (lit ! tt) (and_then ! (get ! refl) (no_more !)))) refl good $
    loose_in R Z LZ ghosts ! b o h a x $ use1 𝓛 (‵ (Out.own_val (Some d) (out ∷ []))) (Some-of 𝓛 Lo d w) $
    use0 𝓛 (raw (fact 𝓤 (v.device ≡ Some d.value))) (fact_i 𝓤 (v.device ≡ Some d.value) (emp 𝓤) is) $ nothing ! $ nothing ! $ fjoin ! $ nothing ! $ fjoin ! $
    returns ! (look_at ! 0 refl) $ free_all ! refl $ keep ! (4 ∷ 0 ∷ 2 ∷ 1 ∷ []) $ by ! (leaves 𝓛 ended hs c z out (Some d) (tt, (tt, tt)) (tt, (tt, tt)))))))))))
