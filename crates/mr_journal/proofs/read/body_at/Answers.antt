use Rattle.std.proofs.Common.{◌≡◌, ◌≢◌, ℕ, List, take, drop, refl, sym, ◌∙◌, ap, arith, length-drop}
use Rattle.mr_journal.proofs.Names.{drop-drop, sha256}
use Rattle.mr_journal.proofs.ReadLemmas.{found_framed, nothing_other, nothing_short, tested_other, tested_same}
use Rattle.mr_journal.proofs.read.body_at.Goals as goal

pub returns-then-size-len-clause-found : goal.returns-then-size-len-clause-found
returns-then-size-len-clause-found g c = λ told len first.
    let rest = drop c.args.at (g.D.Device.seen c.args.device.now) in
    (refl, nothing_short c.args.size c.args.digest rest (omega arith) first (omega (arith, len, length-drop c.args.at (g.D.Device.seen c.args.device.now))))

pub returns-then-ne-clause-found : goal.returns-then-ne-clause-found
returns-then-ne-clause-found g c = λ told len first.
    let file = g.D.Device.seen c.args.device.now in
    let rest = drop c.args.at file in
    let bytes_are : c.in_ok-bytes.bytes.items ≡ take c.args.size (drop 41 rest) = c.in_ok-bytes.ensures.read told ∙ ap (λ (l : List ℕ). take c.args.size l) (sym (drop-drop 41 c.args.at file)) in
    let digest_is : c.digest.result ≡ sha256 c.in_ok-bytes.bytes.items = c.digest.ensures ∙ ap sha256 c.as_slice.ensures.value in
    let other : sha256 c.in_ok-bytes.bytes.items ≢ c.args.digest = λ e. tested_other c.digest.result c.args.digest c.ne.result c.ne.ensures c.if-ne.true (digest_is ∙ e) in
    (refl, nothing_other c.args.size c.args.digest c.in_ok-bytes.bytes.items rest (omega arith) first bytes_are other)

pub returns-clause-found : goal.returns-clause-found
returns-clause-found g c = λ told len first.
    let file = g.D.Device.seen c.args.device.now in
    let rest = drop c.args.at file in
    let bytes_are : c.in_ok-bytes.bytes.items ≡ take c.args.size (drop 41 rest) = c.in_ok-bytes.ensures.read told ∙ ap (λ (l : List ℕ). take c.args.size l) (sym (drop-drop 41 c.args.at file)) in
    let digest_is : c.digest.result ≡ sha256 c.in_ok-bytes.bytes.items = c.digest.ensures ∙ ap sha256 c.as_slice.ensures.value in
    let same : sha256 c.in_ok-bytes.bytes.items ≡ c.args.digest = sym digest_is ∙ tested_same c.digest.result c.args.digest c.ne.result c.ne.ensures c.if-ne.false in
    (drop c.args.size (drop 41 rest), found_framed c.args.size c.args.digest c.in_ok-bytes.bytes.items rest first bytes_are c.in_ok-bytes.ensures.count same)
