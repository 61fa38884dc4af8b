use Rattle.std.proofs.Common.{◌≡◌, ◌++◌, List, true, drop, map, string_bytes, sym, ap, ◌∙◌}
use Rattle.mr_maildir.proofs.Names.{false≢true, list_all}
use Rattle.mr_maildir.specs.Counts.{counts_lines}
use Rattle.mr_maildir.specs.Lines.{are_rising, folder_of, is_other_line}
use Rattle.mr_maildir.proofs.LinesLemmas.{counts_begin, lines_behind_name, others_begin, same_lines}
use Rattle.mr_maildir.proofs.lines.read_lines.Goals as goal
use Rattle.mr_maildir.proofs.lines.read_lines.Goals.{then-not-branch-via-then-not-branch, then-not-branch-via-else-not-branch+then-not-are_rising}

pub returns-in_default-clause-whole : goal.returns-in_default-clause-whole
returns-in_default-clause-whole c = λ told are is.
    let cut = lines_behind_name c.args.own c.args.lines.now told c.name_first-from.result.1 are is c.name_first-from.ensures.place in
    let folders = c.in_ok-folders_end.ensures.whole told.folders (counts_lines c.args.own told.marks ++ told.others) are.folders_in (counts_begin c.args.own told.marks told.others are.marks_in are.others_in).1 cut.1 in
    let marks = c.in_ok-counts_end.ensures.whole told.marks told.others are.marks_in (others_begin told.others are.others_in).2 folders.0 in
    rw c.in_default.is at marks

pub returns-then-not-branch-clause-whole : goal.returns-then-not-branch-clause-whole
returns-then-not-branch-clause-whole c = λ told are is.
    let cut = lines_behind_name c.args.own c.args.lines.now told c.name_first-from.result.1 are is c.name_first-from.ensures.place in
    let folders = c.in_ok-folders_end.ensures.whole told.folders (counts_lines c.args.own told.marks ++ told.others) are.folders_in (counts_begin c.args.own told.marks told.others are.marks_in are.others_in).1 cut.1 in
    let marks = rw c.in-Some.is at (c.in_ok-counts_end.ensures.whole told.marks told.others are.marks_in (others_begin told.others are.others_in).2 folders.0) in
    let others = c.in_ok-read_others.ensures.whole (ap (list_all is_other_line) marks.0 ∙ are.others_in) in
    let same : map folder_of c.read_folders.new.folders.items ≡ told.folders = folders.1 ∙ ap (λ l. map folder_of l ++ told.folders) c.new-folders.ensures.items in
    elim c.then-not-branch.branch [
      | then-not-branch-via-then-not-branch w ↦ absurd (false≢true (sym w.if-not-branch.true ∙ others.0))
      | then-not-branch-via-else-not-branch+then-not-are_rising w ↦
          absurd (false≢true (sym w.if-not-are_rising.true ∙ (w.are_rising.ensures ∙ (ap (λ l. are_rising (map folder_of l)) w.deref.ensures.value ∙ (ap are_rising same ∙ are.folders_rise)))))
    ]

pub returns-clause-whole : goal.returns-clause-whole
returns-clause-whole c = λ told are is.
    let cut = lines_behind_name c.args.own c.args.lines.now told c.name_first-from.result.1 are is c.name_first-from.ensures.place in
    let folders = c.in_ok-folders_end.ensures.whole told.folders (counts_lines c.args.own told.marks ++ told.others) are.folders_in (counts_begin c.args.own told.marks told.others are.marks_in are.others_in).1 cut.1 in
    let marks = rw c.in-Some.is at (c.in_ok-counts_end.ensures.whole told.marks told.others are.marks_in (others_begin told.others are.others_in).2 folders.0) in
    let others = c.in_ok-read_others.ensures.whole (ap (list_all is_other_line) marks.0 ∙ are.others_in) in
    same_lines _ _ _ _ told (c.in_ok-name.ensures ∙ (c.name_first-from.ensures.value ∙ cut.0))
    (folders.1 ∙ ap (λ l. map folder_of l ++ told.folders) c.new-folders.ensures.items)
    (marks.1 ∙ ap (λ l. l ++ told.marks) c.new-marks.ensures.items)
    (others.1 ∙ (ap (λ l. map string_bytes l ++ map (λ line. line.now) (drop c.in-Some.counts_end c.args.lines.now)) c.new-others.ensures.items ∙ marks.0))
