use Rattle.std.proofs.Common.{codes, string_bytes}
use Rattle.mr_draw.proofs.Names.{mail_title, on_ok_weaker}
use Rattle.mr_draw.proofs.ListLemmas.{joined2}
use Rattle.mr_draw.proofs.title.push_origin.Goals as goal

pub returns-in_ok-push_str-in-Create : goal.returns-in_ok-push_str-in-Create
returns-in_ok-push_str-in-Create c =
    rw c.in-Create.is (on_ok_weaker c.push_message.result
    (λ pushed. joined2 (string_bytes c.args.title.now) _ _ (codes ": a new message") (mail_title c.in-Create.message) c.in_ok-push_str-in-Create.ensures.bytes pushed)
    c.push_message.ensures)
