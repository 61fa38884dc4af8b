-- the request that a pull makes
use Rattle.std.proofs.Common.{◌≡◌, ◌+◌, ◌-◌, ◌<◌, ℕ, List, [], ◌∷◌, ◌++◌, length, Option, Some, Result, Ok, Err, refl, sym, ap, subst, ◌∙◌, arith, length-append}
use Rattle.mr_sync.proofs.Names.{Asked, Form, IfOk, IfSome, IsPullOf, Normal, Pull, Question, Reply, State, SyncFault, Vec, get_or-append_seam}
use Rattle.mr_sync.proofs.Names.{option_and_then, slice_get, sparing_form, step_changes}
use Rattle.std.proofs.lemmas.Option.{slice_get-get_or}
use Rattle.mr_replica.specs.Step.{Changes, Steps}
use Rattle.mr_wire.specs.FrameSpelling.{frame_bytes}
use Rattle.mr_wire.specs.declared.frame.Frame.TheVariants as frame
use Rattle.mr_sync.specs.inner.Asking.{asked, last_asked}

-- the request behind other replies is the last one
pub last_is : (replies : List Reply) (question : Question) → last_asked (replies ++ Asked question ∷ []) ≡ Some question
last_is replies question =
    let all : List Reply = replies ++ Asked question ∷ [] in
    let long : length all ≡ length replies + 1 = length-append replies (Asked question ∷ []) in
    let place : length all - 1 ≡ length replies = omega arith in
    let within : length replies < length all = omega arith in
    let here : slice_get all (length replies) ≡ Some (Asked question) =
    slice_get-get_or all (length replies) (Asked question) within ∙ ap (λ (r : Reply). Some r) (get_or-append_seam replies (Asked question) [] (Asked question)) in
    ap (λ n. option_and_then asked (slice_get all n)) place ∙ ap (option_and_then asked) here

changed : {K : Type 0} (form : Form K) (s : State K) (reply : Reply) (new : State K) → Changes form s Pull reply new → (question : Question) × (reply ≡ Asked question)
changed form s (Asked question) new h = (question, refl)
changed form s reply new h = absurd h

-- a pull is answered by a request
pub pulled : {K : Type 0} (form : Form K) (s : State K) (reply : Reply) (new : State K) → Steps form s Pull (Ok reply) new → (question : Question) × (reply ≡ Asked question)
pulled form s reply new h = changed form s reply new (step_changes form s Pull reply new h)

-- so it is the last one of what is handed out
pub last_pulled : {K : Type 0} (form : Form K) (s : State K) (reply : Reply) (new : State K) (before all : List Reply) → (h : Steps form s Pull (Ok reply) new) → all ≡ before ++ reply ∷ [] → last_asked all ≡ Some (pulled form s reply new h).0
last_pulled form s reply new before all h is =
    let p = pulled form s reply new h in
    ap last_asked (is ∙ ap (λ (r : Reply). before ++ r ∷ []) p.1) ∙ last_is before p.0

-- so its frame is what is answered
pub pull_told : (old mid new : State Normal) (reply : Reply) → Steps sparing_form old Pull (Ok reply) mid → (l before : List Reply) → l ≡ before ++ reply ∷ [] → new ≡ mid → (r : Result (Vec ℕ) SyncFault) → IfOk r (λ bytes. IfSome (last_asked l) (λ q. bytes.items ≡ frame_bytes 2 (frame.Ask q))) → IfOk r (λ bytes. IsPullOf old bytes.items new)
pull_told old mid new reply steps l before all same (Ok bytes) told =
    let p = pulled sparing_form old reply mid steps in
    let last : last_asked l ≡ Some p.0 = last_pulled sparing_form old reply mid before l steps all in
    let written : bytes.items ≡ frame_bytes 2 (frame.Ask p.0) = subst (λ (o : Option Question). IfSome o (λ q. bytes.items ≡ frame_bytes 2 (frame.Ask q))) last told in
    let opened : Steps sparing_form old Pull (Ok (Asked p.0)) mid = subst (λ (r : Reply). Steps sparing_form old Pull (Ok r) mid) p.1 steps in
    record { question = p.0; opened = subst (λ (s : State Normal). Steps sparing_form old Pull (Ok (Asked p.0)) s) (sym same) opened; frame_is = written }
pull_told old mid new reply steps l before all same (Err e) told = tt
