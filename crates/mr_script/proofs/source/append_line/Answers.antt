use Rattle.std.proofs.Common.{◌≡◌, ◌+◌, ◌++◌, take, sym, subst, Some}
use Rattle.mr_script.proofs.Names.{Consumes, IsFirstByte, drop-appended, is_byte}
use Rattle.std.specs.Io.Buffered.{reader_remaining, reader_buffer}
use Rattle.mr_script.proofs.Shown.{line_shown, shown_first, appended_line}
use Rattle.mr_script.proofs.source.append_line.Goals as goal

pub returns-in_ok-extend_from_slice-in-Some-clause-bytes : goal.returns-in_ok-extend_from_slice-in-Some-clause-bytes
returns-in_ok-extend_from_slice-in-Some-clause-bytes g c =
    let known = reader_remaining g.R.Read.remaining c.args.reader.now in
    let part = take (c.in-Some.at + 1) (reader_buffer c.args.reader.now) in
    let found = subst (λ shown. IsFirstByte (is_byte 10) shown (Some c.in-Some.at)) c.buffer.ensures c.in-Some.ensures in
    let line = line_shown _ _ known _ found (shown_first _ _ _) c.consume.ensures.bytes in
    let items : c.extend_from_slice.new.self.items ≡ c.args.line.now.items ++ part =
    subst (λ shown. c.extend_from_slice.new.self.items ≡ c.args.line.now.items ++ take (c.in-Some.at + 1) shown) c.buffer-in-Some.ensures c.in_ok-extend_from_slice-in-Some.ensures.items in
    appended_line known c.args.line.now.items part _ items line.1

pub returns-in_ok-extend_from_slice-in-Some-clause-rest : goal.returns-in_ok-extend_from_slice-in-Some-clause-rest
returns-in_ok-extend_from_slice-in-Some-clause-rest g c =
    let known = reader_remaining g.R.Read.remaining c.args.reader.now in
    let found = subst (λ shown. IsFirstByte (is_byte 10) shown (Some c.in-Some.at)) c.buffer.ensures c.in-Some.ensures in
    (line_shown _ _ known _ found (shown_first _ _ _) c.consume.ensures.bytes).2

pub returns-in_ok-extend_from_slice-in-Some-clause-none_lost : goal.returns-in_ok-extend_from_slice-in-Some-clause-none_lost
returns-in_ok-extend_from_slice-in-Some-clause-none_lost g c =
    let known = reader_remaining g.R.Read.remaining c.args.reader.now in
    let part = take (c.in-Some.at + 1) (reader_buffer c.args.reader.now) in
    let found = subst (λ shown. IsFirstByte (is_byte 10) shown (Some c.in-Some.at)) c.buffer.ensures c.in-Some.ensures in
    let items : c.extend_from_slice.new.self.items ≡ c.args.line.now.items ++ part =
    subst (λ shown. c.extend_from_slice.new.self.items ≡ c.args.line.now.items ++ take (c.in-Some.at + 1) shown) c.buffer-in-Some.ensures c.in_ok-extend_from_slice-in-Some.ensures.items in
    subst (Consumes known _) (sym (drop-appended _ _ _ items)) (line_shown _ _ known _ found (shown_first _ _ _) c.consume.ensures.bytes).0
