use Rattle.std.proofs.Common.{◌∙◌, [], ◌∷◌, ◌++◌, ap}
use Rattle.mr_command.proofs.Names.{IsVersionName, name_text, pieces_of}
use Rattle.mr_command.proofs.PieceLemmas.{named-more, named-none, read_some, read_none}
use Rattle.mr_command.proofs.lists.are_versions.Goals as goal

pub returns-then-is_err-clause-none : goal.returns-then-is_err-clause-none
returns-then-is_err-clause-none c _ versions joins =
    named-none name_text IsVersionName (pieces_of 44 c.args.word.now) c.loop-piece.pieces c.next_piece.new.self c.loop-piece.invariant.0 c.in-Some.piece.now c.loop-piece.invariant.1 c.in-Some.ensures
    (λ v is spelled. read_none c.read.result c.is_err.result v c.is_err.ensures.value c.if-is_err.true (c.read.ensures.whole v is spelled)) versions joins.each joins.joined

pub loop-piece-preserved : goal.loop-piece-preserved
loop-piece-preserved c =
    let read = read_some c.read.result c.is_err.result c.is_err.ensures.value c.if-is_err.false c.in-Some.piece.now c.read.ensures.spelled c.read.ensures.range in
    let cut = c.in-Some.ensures ∙ ap (λ piece. piece ∷ c.next_piece.new.self) read.spelled in
    (c.loop-piece.invariant.0 ++ read.version ∷ [], named-more name_text IsVersionName (pieces_of 44 c.args.word.now) c.loop-piece.pieces c.next_piece.new.self c.loop-piece.invariant.0 read.version c.loop-piece.invariant.1 cut read.such)
