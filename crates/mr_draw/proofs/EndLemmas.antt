-- where a sync's band ends
use Rattle.std.proofs.Common.{◌≡◌, ◌<◌, ℕ, ◌+◌, ◌∙◌, ap, sym, true, false, cond, if◌then◌else◌, List, [], ◌∷◌, ◌++◌, Some, None, unwrap_or, length, take, refl, arith}
use Rattle.mr_draw.proofs.Names.{Happened, is_of_stream, last_of_stream, length-take-le, option_or}

-- one happening more is the last, if it is of the stream
last_of_stream-more : (source stream n : ℕ) (hs : List Happened) (x : Happened) → last_of_stream source stream n (hs ++ x ∷ []) ≡ (if is_of_stream source stream x.kind then Some (n + length hs) else last_of_stream source stream n hs)
last_of_stream-more source stream n [] x =
    let n_is : n ≡ n + 0 = omega arith in
    ap (λ k. cond (is_of_stream source stream x.kind) (Some k) None) n_is
last_of_stream-more source stream n (h ∷ hs) x =
    let own = if is_of_stream source stream h.kind then Some n else None in
    let last = last_of_stream source stream (n + 1) hs in
    let later : (n + 1) + length hs ≡ n + length (h ∷ hs) = omega arith in
    ap (λ o. option_or o own) (last_of_stream-more source stream (n + 1) hs x)
    ∙ (elim (is_of_stream source stream x.kind) as (λ b. option_or (cond b (Some ((n + 1) + length hs)) last) own ≡ cond b (Some (n + length (h ∷ hs))) (option_or last own)) [
      | true ↦ ap (λ k. Some k) later
      | false ↦ refl
    ])

-- a loop that keeps the row of the last that is of the stream
pub last_of_stream-pushed : (source stream row : ℕ) (all : List Happened) (i : ℕ) (x : Happened) (before after : ℕ) → i < length all → take (i + 1) all ≡ take i all ++ x ∷ [] →
    before ≡ unwrap_or (last_of_stream source stream 0 (take i all)) row → after ≡ (if is_of_stream source stream x.kind then i else before) →
    after ≡ unwrap_or (last_of_stream source stream 0 (take (i + 1) all)) row
last_of_stream-pushed source stream row all i x before after inside more invariant pushed =
    let last = last_of_stream source stream 0 (take i all) in
    let long : length (take i all) ≡ i = length-take-le i all (omega (arith, inside)) in
    let place : i ≡ 0 + length (take i all) = omega (arith, long) in
    pushed
    ∙ (elim (is_of_stream source stream x.kind) as (λ b. cond b i before ≡ unwrap_or (cond b (Some (0 + length (take i all))) last) row) [
      | true ↦ place
      | false ↦ invariant
    ])
    ∙ ap (λ o. unwrap_or o row) (sym (last_of_stream-more source stream 0 (take i all) x) ∙ ap (last_of_stream source stream 0) (sym more))
