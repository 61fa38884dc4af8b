use Rattle.std.proofs.Common.{string_bytes}
use Rattle.mr_script.proofs.Names.{decimal, pieces_text}
use Rattle.mr_script.proofs.FrameLemmas.{IfOk-ask_line, ask_written}
use Rattle.mr_script.proofs.frame_line.ask_line.Goals as goal

pub returns : goal.returns
returns c =
    IfOk-ask_line c.format.result c.args.ask.now (string_bytes c.in_ok-filter.filter) _ c.format.ensures.ok
    (rw c.filter.ensures at c.in_ok-filter.ensures.written)
    (rw (c.target-target.ensures, c.session-session.ensures.is, c.as_str-knows.ensures.value, c.in_ok-knows.ensures, c.fragments.ensures, c.as_str-filter.ensures.value)
    (ask_written (decimal c.args.ask.now.target) (decimal c.args.ask.now.session) (pieces_text c.args.ask.now.fragments) (string_bytes c.in_ok-filter.filter)))
