use Rattle.std.proofs.Common.{◌≡◌, ◌<◌, ◌-◌, ◌∷◌, arith, subst, ap, ◌∙◌, map, length, List, All}
use Rattle.mr_replica.proofs.Names.{All-tail, AreItems, ConciseFragment, MAX_ASKED_BYTES, Piece, fragment_bytes, into_iter_items, piece_of}
use Rattle.mr_replica.proofs.PullLemmas.{FitsSoFar, fits_more, fits_until}
use Rattle.mr_replica.proofs.replica.pull.first_fitting.Goals as goal

-- the next one does not fit
pub returns-then-room-len : goal.returns-then-room-len
returns-then-room-len c =
    let all = map piece_of c.args.fragments.items in
    let asked = c.loop-fragment.asked.items in
    let next = into_iter_items c.next.new.self in
    let far : FitsSoFar MAX_ASKED_BYTES all asked (piece_of c.in-Some.fragment ∷ map piece_of next) c.loop-fragment.room =
    subst (λ (fs : List ConciseFragment). FitsSoFar MAX_ASKED_BYTES all asked (map piece_of fs) c.loop-fragment.room) c.in-Some.ensures.steps.0 c.loop-fragment.invariant.far in
    let len : c.encoded_len-len.result ≡ length (fragment_bytes (piece_of c.in-Some.fragment)) = c.encoded_len-len.ensures.exact ∙ ap (λ (p : Piece). length (fragment_bytes p)) c.new-fragment.ensures in
    let less : c.loop-fragment.room < length (fragment_bytes (piece_of c.in-Some.fragment)) = omega (arith, c.if-room-len.true, len) in
    fits_until MAX_ASKED_BYTES all asked (map piece_of next) (piece_of c.in-Some.fragment) c.loop-fragment.room far less

-- the next one fits
pub loop-fragment-preserved : goal.loop-fragment-preserved
loop-fragment-preserved c =
    let all = map piece_of c.args.fragments.items in
    let asked = c.loop-fragment.asked.items in
    let next = into_iter_items c.next.new.self in
    let far : FitsSoFar MAX_ASKED_BYTES all asked (piece_of c.in-Some.fragment ∷ map piece_of next) c.loop-fragment.room =
    subst (λ (fs : List ConciseFragment). FitsSoFar MAX_ASKED_BYTES all asked (map piece_of fs) c.loop-fragment.room) c.in-Some.ensures.steps.0 c.loop-fragment.invariant.far in
    let len : c.encoded_len-len.result ≡ length (fragment_bytes (piece_of c.in-Some.fragment)) = c.encoded_len-len.ensures.exact ∙ ap (λ (p : Piece). length (fragment_bytes p)) c.new-fragment.ensures in
    let more = fits_more MAX_ASKED_BYTES all asked (map piece_of next) (piece_of c.in-Some.fragment) c.loop-fragment.room c.encoded_len-len.result (c.loop-fragment.room - c.encoded_len-len.result) far len (omega (arith, c.if-room-len.false)) in
    record {
      far = rw (c.in_ok-push.ensures.items, c.new-fragment.ensures) more;
      carried = All-tail (λ (f : ConciseFragment). AreItems (piece_of f).items) c.in-Some.fragment next (subst (λ (fs : List ConciseFragment). All (λ f. AreItems (piece_of f).items) fs) c.in-Some.ensures.steps.0 c.loop-fragment.invariant.carried);
    }
