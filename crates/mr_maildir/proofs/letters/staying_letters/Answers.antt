use Rattle.std.proofs.Common.{◌≡◌, ◌+◌, ◌-◌, ◌≤◌, ◌++◌, ◌∷◌, [], ℕ, Bool, cond, sym, ap, ◌∙◌, string_bytes, arith}
use Rattle.mr_maildir.proofs.Names.{filter, range_with_len, stays_on}
use Rattle.mr_maildir.proofs.LettersLemmas.{one_more_letter, all_tried}
use Rattle.mr_maildir.proofs.letters.staying_letters.Goals as goal

pub loop-byte-preserved : goal.loop-byte-preserved
loop-byte-preserved c =
    let p : ℕ → Bool = stays_on c.args.letters.now c.args.flags in
    let from : 33 ≤ c.loop-byte.byte = c.loop-byte.auto.byte in
    let here : 33 + (c.loop-byte.byte - 33) ≡ c.loop-byte.byte = omega arith in
    let next : (c.loop-byte.byte - 33) + 1 ≡ (c.loop-byte.byte + 1) - 33 = omega arith in
    let grown : string_bytes c.push_letter_if.new.text ≡ string_bytes c.loop-byte.text ++ cond (p c.loop-byte.byte) (c.loop-byte.byte ∷ []) [] =
    rw c.stays_on.ensures at c.in_ok-push_letter_if.ensures in
    grown
    ∙ (ap (λ l. l ++ cond (p c.loop-byte.byte) (c.loop-byte.byte ∷ []) []) c.loop-byte.invariant
    ∙ (sym (one_more_letter p 33 (c.loop-byte.byte - 33) c.loop-byte.byte here)
    ∙ ap (λ k. filter p (range_with_len 33 k)) next))

pub returns : goal.returns
returns c =
    let done : c.loop-byte.byte - 33 ≡ 94 = omega arith in
    all_tried c.args.letters.now c.args.flags _ (c.loop-byte.byte - 33) done c.loop-byte.invariant
