use Rattle.std.proofs.Common.{◌≡◌, ◌<◌, ◌≤◌, ℕ, List, length, ◌+◌, ◌-◌, ◌++◌, take, drop, ap, subst, sym, ◌∙◌, arith}
use Rattle.mr_talk.specs.Said.{Said}
use Rattle.mr_talk.specs.declared.kind.Kind.{Kind}
use Rattle.mr_talk.specs.declared.kind.Kind.TheVariants as kind
use Rattle.mr_sync.specs.inner.Sending.{GoesOn, TellsNext}
use Rattle.mr_sync.proofs.sending.file_message.Goals as goal

goes_piece : (bytes : List ℕ) (told new : ℕ) (m : Said) → m.kind ≡ kind.Piece → told < new → new ≤ length bytes → m.bytes ≡ take (new - told) (drop told bytes) → GoesOn bytes told new m
goes_piece bytes told new m e more within is = subst (λ (k : Kind). TellsNext k bytes told m.bytes new) (sym e) (more, within, is)

pub returns-clause-goes_on : goal.returns-clause-goes_on
returns-clause-goes_on c =
    let told = c.args.sending.now.told in
    let size = c.min-size.result in
    goes_piece c.args.sending.now.bytes.items told (told + size) c.message_of-2.result c.message_of-2.ensures.kind (omega arith) (omega arith)
    (c.message_of-2.ensures.bytes
    ∙ c.in_ok-extend_from_slice.ensures.items
    ∙ ap (λ (l : List ℕ). l ++ take (told + size - told) (drop told c.deref.result.now)) c.new-bytes.ensures.items
    ∙ ap (λ (l : List ℕ). take (told + size - told) (drop told l)) c.deref.ensures.value)
