use Rattle.std.proofs.Common.{◌≡◌, ◌∙◌, true, false, [], ◌∷◌, length, map, refl, sym, ap, arith}
use Rattle.mr_command.proofs.Names.{false≢true, has_label, length-append, length-map, map-append, pieces_of}
use Rattle.mr_command.proofs.LabelLemmas.{seen-begin, seen-again, seen-more, seen-many, seen-all, has_lent}
use Rattle.mr_command.proofs.lists.are_too_many_labels.Goals as goal

pub loop-piece-init : goal.loop-piece-init
loop-piece-init c = (
  seen-begin (pieces_of 44 c.args.word.now) c.of-pieces.result (map (λ text. text.now) c.new-seen.result.items) c.of-pieces.ensures (ap (map (λ text. text.now)) c.new-seen.ensures),
  let none = ap length c.new-seen.ensures in omega (arith, none),
)

pub returns-then-len-eq-MAX_LABELS : goal.returns-then-len-eq-MAX_LABELS
returns-then-len-eq-MAX_LABELS c =
    let lacks : has_label (map (λ text. text.now) c.loop-piece.seen.items) c.in-Some.piece.now ≡ false =
    sym (has_lent c.in-Some.piece.now c.loop-piece.seen.items) ∙ grind arith in
    let many = seen-many (pieces_of 44 c.args.word.now) c.loop-piece.pieces c.next_piece.new.self (map (λ text. text.now) c.loop-piece.seen.items) c.in-Some.piece.now c.loop-piece.invariant.0 c.in-Some.ensures lacks in
    let long = length-map c.loop-piece.seen.items (λ text. text.now) in
    let full = c.if-len-eq-MAX_LABELS.true in
    let len = c.len.ensures.value in
    (λ _. omega (arith, many, long, full, len), λ _. refl)

pub loop-piece-preserved-then-not-contains : goal.loop-piece-preserved-then-not-contains
loop-piece-preserved-then-not-contains c =
    let lacks : has_label (map (λ text. text.now) c.loop-piece.seen.items) c.in-Some.piece.now ≡ false =
    sym (has_lent c.in-Some.piece.now c.loop-piece.seen.items) ∙ grind arith in
    let more = seen-more (pieces_of 44 c.args.word.now) c.loop-piece.pieces c.next_piece.new.self (map (λ text. text.now) c.loop-piece.seen.items) c.in-Some.piece.now c.loop-piece.invariant.0 c.in-Some.ensures lacks in
    rw c.push.ensures.items (rw (map-append (λ text. text.now) c.loop-piece.seen.items (c.in-Some.piece ∷ [])) more, let long = length-append c.loop-piece.seen.items (c.in-Some.piece ∷ []) in omega arith)

pub loop-piece-preserved : goal.loop-piece-preserved
loop-piece-preserved c =
    let has : has_label (map (λ text. text.now) c.loop-piece.seen.items) c.in-Some.piece.now ≡ true =
    sym (has_lent c.in-Some.piece.now c.loop-piece.seen.items) ∙ grind arith in
    (seen-again (pieces_of 44 c.args.word.now) c.loop-piece.pieces c.next_piece.new.self (map (λ text. text.now) c.loop-piece.seen.items) c.in-Some.piece.now c.loop-piece.invariant.0 c.in-Some.ensures has, c.loop-piece.invariant.1)

pub returns : goal.returns
returns c =
    let none : c.loop-piece.pieces ≡ [] = c.in_default.ensures.0 in
    let all = seen-all (pieces_of 44 c.args.word.now) c.loop-piece.pieces (map (λ text. text.now) c.loop-piece.seen.items) c.loop-piece.invariant.0 none in
    let long = length-map c.loop-piece.seen.items (λ text. text.now) in
    let few = c.loop-piece.invariant.1 in
    (λ h. absurd (false≢true h), λ many. absurd (omega (arith, all, long, few, many)))
