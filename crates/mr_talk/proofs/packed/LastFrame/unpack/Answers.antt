use Rattle.std.proofs.Common.{◌≡◌, ℕ, List, [], ap, arith, subst, sym, ◌∙◌}
use Rattle.mr_talk.specs.Packed.{IsBlamed, Spelled, Tells, begun}
use Rattle.mr_talk.proofs.LineLaws.{if_err}
use Rattle.mr_talk.proofs.PackedLaws.{ends_within}
use Rattle.mr_talk.proofs.packed.LastFrame.unpack.Goals as goal

pub returns-in_err-frames-clause-whole : goal.returns-in_err-frames-clause-whole
returns-in_err-frames-clause-whole c = λ frames after h few.
    let same : c.in_ok-unpacking.unpacking ≡ begun c.args.self.now [] = c.in_ok-unpacking.ensures ∙ ap (λ (l : List ℕ). begun l []) (c.deref.ensures.value ∙ c.self.view_is) in
    let within = c.in_err-frames.ensures.within in
    absurd (within after frames (c.in_ok-take_all.ensures.whole (begun after frames) (subst (λ (s : Spelled). Tells c.args.bytes.now s (begun after frames)) (sym same) h) (omega (arith, few))))

pub returns-clause-whole : goal.returns-clause-whole
returns-clause-whole c = λ frames after h few.
    let same : c.in_ok-unpacking.unpacking ≡ begun c.args.self.now [] = c.in_ok-unpacking.ensures ∙ ap (λ (l : List ℕ). begun l []) (c.deref.ensures.value ∙ c.self.view_is) in
    let all : begun c.in_ok-frames.last.items c.in_ok-frames.frames.items ≡ begun after frames =
    sym c.in_ok-frames.ensures.whole ∙ c.in_ok-take_all.ensures.whole (begun after frames) (subst (λ (s : Spelled). Tells c.args.bytes.now s (begun after frames)) (sym same) h) (omega (arith, few)) in
    (ap (λ (s : Spelled). s.told) all, ap (λ (s : Spelled). s.before) all)

pub returns-in_err-take_all-clause-fault : goal.returns-in_err-take_all-clause-fault
returns-in_err-take_all-clause-fault c =
    let same : c.in_ok-unpacking.unpacking ≡ begun c.args.self.now [] = c.in_ok-unpacking.ensures ∙ ap (λ (l : List ℕ). begun l []) (c.deref.ensures.value ∙ c.self.view_is) in
    if_err _ c.from_residual-in_err-take_all.result c.in_err-take_all.field-0.0 c.from_residual-in_err-take_all.ensures.1
    (subst (λ (s : Spelled). IsBlamed c.in_err-take_all.field-0.0 c.args.bytes.now s) same c.in_err-take_all.ensures.fault)

pub returns-in_err-frames-clause-fault : goal.returns-in_err-frames-clause-fault
returns-in_err-frames-clause-fault c =
    let same : c.in_ok-unpacking.unpacking ≡ begun c.args.self.now [] = c.in_ok-unpacking.ensures ∙ ap (λ (l : List ℕ). begun l []) (c.deref.ensures.value ∙ c.self.view_is) in
    if_err _ c.from_residual-in_err-frames.result c.in_err-frames.field-0.0 c.from_residual-in_err-frames.ensures.1
    (subst (λ (s : Spelled). IsBlamed c.in_err-frames.field-0.0 c.args.bytes.now s) same
    (ends_within c.args.bytes.now c.in_ok-unpacking.unpacking _ c.in_err-frames.field-0.0 c.in_err-frames.ensures.fault c.in_ok-take_all.ensures.taken c.in_ok-take_all.ensures.few c.in_err-frames.ensures.within))
