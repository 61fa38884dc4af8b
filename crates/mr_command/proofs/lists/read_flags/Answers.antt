use Rattle.std.proofs.Common.{◌∙◌, [], ◌∷◌, ◌++◌, refl, sym, ap}
use Rattle.std.specs.Int.RustNames.{bit_or}
use Rattle.mr_command.proofs.Names.{bit_of, flag_name, fold-append, pieces_of}
use Rattle.mr_command.proofs.PieceLemmas.{named-more, named-none, all_any}
use Rattle.mr_command.proofs.lists.read_flags.Goals as goal

pub returns-in_default-from_name : goal.returns-in_default-from_name
returns-in_default-from_name c =
    let none = c.in_default-from_name.ensures.complete in (
      refl,
      λ bits named.
          named-none flag_name (λ _. Unit {0}) (pieces_of 43 c.args.word.now) c.loop-piece.pieces c.next_piece.new.self c.loop-piece.invariant.0 c.in-Some.piece.now c.loop-piece.invariant.1 c.in-Some.ensures
          (λ flag _ is. none flag (sym is)) named.flags (all_any named.flags) named.named,
    )

pub loop-piece-preserved : goal.loop-piece-preserved
loop-piece-preserved c =
    let cut = c.in-Some.ensures ∙ ap (λ piece. piece ∷ c.next_piece.new.self) (sym c.in-Some-from_name.ensures.named) in (
      c.loop-piece.invariant.0 ++ c.in-Some-from_name.flag ∷ [],
      named-more flag_name (λ _. Unit {0}) (pieces_of 43 c.args.word.now) c.loop-piece.pieces c.next_piece.new.self c.loop-piece.invariant.0 c.in-Some-from_name.flag c.loop-piece.invariant.1 cut tt,
      c.with-set.ensures.bits ∙ ap (λ bits. bit_or bits (bit_of c.in-Some-from_name.flag)) c.loop-piece.invariant.2 ∙ sym (fold-append (λ bits flag. bit_or bits (bit_of flag)) 0 c.loop-piece.invariant.0 (c.in-Some-from_name.flag ∷ [])),
    )
