use Rattle.std.proofs.Common.{◌≡◌, ℕ, List, ◌++◌, take, drop, sym, ap, ◌∙◌, rules}
use Rattle.std.proofs.lemmas.List.{take-append-drop}
use Rattle.sha2.specs.Sha256.{sha256}
use Rattle.mr_fold.proofs.rest_bytes.unsealed.Goals as goal

pub returns : goal.returns
returns c =
    let sealed = c.args.sealed.now in
    let digest = c.in_ok-digest.digest.now in
    let bytes = c.in_ok-digest.bytes.now in
    let same : sha256 bytes ≡ digest = search rules in
    let front : take 32 sealed ≡ sha256 bytes = sym c.in_ok-digest.ensures.cases.0 ∙ sym same in
    let behind : drop 32 sealed ≡ bytes = sym c.in_ok-digest.ensures.cases.1 in
    sym (take-append-drop 32 sealed) ∙ ap (λ (l : List ℕ). l ++ drop 32 sealed) front ∙ ap (λ (l : List ℕ). sha256 bytes ++ l) behind
