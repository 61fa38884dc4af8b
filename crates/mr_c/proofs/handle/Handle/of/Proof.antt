-- `of` puts a box's pointer behind a handle.
use Rattle.std.proofs.Common.{◌≡◌, List, [], ◌∷◌, ◌++◌, refl, lit<}
use mir.Val.{Val, vptr}
use base.Logic.{SProp, emp}
use prog.Wp.{WpFn}
use contract.Monad.{fact, fact_i}
use contract.Running.{tables}
use types.Kit.{‵, raw, ◌⊛◌, prop, ◌$◌, ◌∵◌, !, qed, by, move, keep, drop, use0, split, regoal, fsplit, fjoin, fpack, feq_i}
use types.Part.{agg, sub, whole}
use types.Run.{stop, fld, lit, of_opd, no_more, and_then, returns, enter}
use types.ByLocal.{alloc_all, pass_all, free_all, look_at, get, get_in, sets}
use denote.RattleType.{RattleType, owns}
use denote.RawPtr.{block_ptr}
use denote.Signature.{types_at, plain}
use denote.Steps.{nothing}
use denote.Triple.Entry.{alive}
use denote.Triple.Walked.{Stays, stay_dropped, walk_of}
use Rattle.std.specs.Prelude.{Some}
use Rattle.std.specs.contracts.alloc.Global as heap
use Rattle.std.proofs.alloc.Global.TheLaws as heap_laws
use Rattle.std.specs.contracts.impls.GlobalAllocator.TheImpl.{ghosts}
use Rattle.std.proofs.alloc.Calls.{Goes-blank}
use Rattle.std.proofs.raw_atomic.Walks.{proved_at, leaves}
use Rattle.mr_c.specs.Held.{boxed}
use Rattle.mr_c.proofs.LooseValues.{both, Loose, loose_good, loose_out}
use Rattle.mr_c.proofs.Values.{word, word_typed, fields_own, fields_made}
use Rattle.mr_desk.specs.contracts.device.Device as device
use Rattle.mr_c.specs.contracts.handle.Handle as handle
use Rattle.mr_c.specs.contracts.handle.Handle.of.{ended, clauses}
use Rattle.mr_c.specs.contracts.handle.Handle.of.Key.{name as #self}
use Rattle.mr_c.proofs.handle.Handle.of.Statement.{statement}
use Rattle.mr_c.proofs.handle.Handle.of.Code as code

pub of_spec : {M : Type 1} → statement M
of_spec 𝓤 𝓛 𝓜 𝓡 wired =
    let H = 𝓛.H in let 𝓣 = tables 𝓤 H 𝓜 𝓡 𝓡.env in let c = clauses 𝓛 𝓜.mem 𝓡.returns in
    let R : RattleType = device.the_row in let Z : RattleType = heap.the_row in let LZ = heap_laws.the_row_laws in let Lo : RattleType = Loose R Z LZ ghosts in
    let hs : Stays ended.signature.params ended.kept = (stay_dropped (plain (λ _. Lo)) ended.kept.0, tt) in
    proved_at 𝓛 ended hs c 𝓜 𝓡 (Goes-blank 𝓛 0 (plain (λ _. Lo)) ended.kept.0 (λ κs x f. tt), tt) #self code.function (code.unfolded 𝓤 H 𝓜 𝓡 wired) (λ z are.
    let Post : Val → SProp 𝓤 = (walk_of 𝓛 ended hs c).post z in let v = z.0.3.0 in
    qed 𝓛 ((raw (alive 𝓛 ended.signature z.0.0 z.0.1) ⊛ ‵ (owns (types_at ended.signature.params z.0.0) z.0.3 z.0.4)) ∷ raw ((c z.0.0 z.0.3).requires z.1) ∷ []) ∵ move ! (1 ∷ []) $ drop ! $ split ! $ move ! (1 ∷ []) $ fsplit ! $
    loose_out R Z LZ ghosts ! v z.0.4.0 (λ b o h e ws fits. let made : (handle.the_row).Denot = record { at = block_ptr b o; live = 1; device = Some v.value } in
    move ! (1 ∷ []) $ drop ! $ regoal ! (λ (us : List Val). prop (WpFn 𝓤 H 𝓣.C 𝓣.Λ code.function us Post)) (λ i. ws i ++ []) refl $
    enter ! 𝓣.C 𝓣.Λ code.function (both (vptr b o) h ∷ []) Post $ alloc_all ! (λ l. pass_all ! refl (loose_good R Z LZ ghosts b o h fits, tt) $
    sets ! (of_opd ! (get_in ! (fld ! refl (stop !)) (sub ! 0 refl (whole !)))) refl (tt, tt) $ sets ! (of_opd ! (get ! refl)) refl (tt, tt) $
    sets ! (agg ! (and_then ! (get ! refl) (and_then ! (lit ! tt) (no_more !)))) refl (word_typed (block_ptr b o) 1 (lit< tt)) $
    returns ! (look_at ! 0 refl) $ free_all ! refl $
    feq_i ! _ made.device (Some v.value) refl $ fjoin ! $ fpack ! R.Denot (boxed R (block_ptr b o) made.device) v.value $
    use0 𝓛 (‵ (fields_own (block_ptr b o) 1 (word (block_ptr b o) 1 ∷ []))) (fields_made 𝓛 (block_ptr b o) 1 (lit< tt)) $ fjoin ! $
    use0 𝓛 (raw (fact 𝓤 (made.device ≡ Some v.value))) (fact_i 𝓤 (made.device ≡ Some v.value) (emp 𝓤) refl) $ nothing ! $ nothing ! $ fjoin ! $
    keep ! (4 ∷ 0 ∷ 2 ∷ 1 ∷ []) $ by ! (leaves 𝓛 ended hs c z (word (block_ptr b o) 1) made (tt, tt) (tt, tt)))))
