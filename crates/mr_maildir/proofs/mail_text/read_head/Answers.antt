use Rattle.std.proofs.Common.{◌++◌, ◌∷◌, [], codes}
use Rattle.mr_maildir.specs.Reference.{digest_line, size_line}
use Rattle.mr_maildir.proofs.ReferenceLemmas.{value_behind, same_parts}
use Rattle.mr_maildir.proofs.mail_text.read_head.Goals as goal

pub returns-in_err-opened-clause-whole : goal.returns-in_err-opened-clause-whole
returns-in_err-opened-clause-whole c = λ parts is e. absurd (rw c.in_err-opened.was at (value_behind (codes "mail 2" ++ 10 ∷ []) c.args.text.now (digest_line parts.digest (size_line parts.size parts.lines)) c.behind.result c.behind.ensures.value e))

pub returns-in_err-digest-clause-whole : goal.returns-in_err-digest-clause-whole
returns-in_err-digest-clause-whole c = λ parts is e.
    let opened = rw c.in_ok-opened.was at (value_behind (codes "mail 2" ++ 10 ∷ []) c.args.text.now (digest_line parts.digest (size_line parts.size parts.lines)) c.behind.result c.behind.ensures.value e) in
    absurd (rw c.in_err-digest.was at (c.read_digest_line.ensures.whole parts.digest (size_line parts.size parts.lines) is.digest_in opened))

pub returns-in_err-size-clause-whole : goal.returns-in_err-size-clause-whole
returns-in_err-size-clause-whole c = λ parts is e.
    let opened = rw c.in_ok-opened.was at (value_behind (codes "mail 2" ++ 10 ∷ []) c.args.text.now (digest_line parts.digest (size_line parts.size parts.lines)) c.behind.result c.behind.ensures.value e) in
    let digest = rw c.in_ok-digest.was at (c.read_digest_line.ensures.whole parts.digest (size_line parts.size parts.lines) is.digest_in opened) in
    absurd (rw c.in_err-size.was at (c.read_size_line.ensures.whole parts.size parts.lines is.size_in digest.1))

pub returns-clause-whole : goal.returns-clause-whole
returns-clause-whole c = λ parts is e.
    let opened = rw c.in_ok-opened.was at (value_behind (codes "mail 2" ++ 10 ∷ []) c.args.text.now (digest_line parts.digest (size_line parts.size parts.lines)) c.behind.result c.behind.ensures.value e) in
    let digest = rw c.in_ok-digest.was at (c.read_digest_line.ensures.whole parts.digest (size_line parts.size parts.lines) is.digest_in opened) in
    let size = rw c.in_ok-size.was at (c.read_size_line.ensures.whole parts.size parts.lines is.size_in digest.1) in
    same_parts _ _ _ parts digest.0 size.0 size.1
