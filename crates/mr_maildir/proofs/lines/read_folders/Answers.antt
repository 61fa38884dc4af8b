use Rattle.std.proofs.Common.{◌≡◌, ◌≤◌, ◌+◌, List, drop, get_or, map, subst, sym, ap, ◌∙◌, arith}
use Rattle.mr_maildir.proofs.Names.{option_map}
use Rattle.mr_maildir.specs.Lines.{FolderParts, folder_of, is_folder}
use Rattle.mr_maildir.proofs.CountsLemmas.{no_word}
use Rattle.mr_maildir.proofs.LinesLemmas.{FoldersLeft, all_folders, folder_in_is, folders_end_at, folders_more_at, folders_out, folders_pushed}
use Rattle.mr_maildir.proofs.lines.read_folders.Goals as goal

pub returns-in_default-clause-whole : goal.returns-in_default-clause-whole
returns-in_default-clause-whole c = λ told rest each ends lines.
    folders_end_at c.args.lines.now c.loop-i.i rest (map folder_of c.args.folders.now.items) told (map folder_of c.loop-i.folders.items) c.loop-i-test.true
    (sym c.in_ok-folder.ensures ∙ ap (option_map folder_of) c.in_default.is) (c.loop-i.invariant.whole told rest each ends lines)

pub loop-i-preserved : goal.loop-i-preserved
loop-i-preserved c =
    let told_here = sym c.in_ok-folder.ensures ∙ ap (option_map folder_of) c.in-Some.is in
    let pushed = folders_pushed c.loop-i.folders.items c.push.new.self.items c.in-Some.folder c.in_ok-push.ensures.items in
    record {
      in_range = omega arith;
      kept = λ old. rw pushed (all_folders (map folder_of c.loop-i.folders.items) (folder_of c.in-Some.folder) (c.loop-i.invariant.kept old) (folder_in_is (get_or c.args.lines.now c.loop-i.i no_word).now (folder_of c.in-Some.folder) told_here));
      whole = λ told rest each ends lines.
          let P : List FolderParts → Type 0 = λ read. FoldersLeft (drop (c.loop-i.i + 1) c.args.lines.now) rest (map folder_of c.args.folders.now.items) told read in
          subst P (sym pushed) (folders_more_at c.args.lines.now c.loop-i.i rest (map folder_of c.args.folders.now.items) told (map folder_of c.loop-i.folders.items) (folder_of c.in-Some.folder) c.loop-i-test.true told_here ends (c.loop-i.invariant.whole told rest each ends lines));
    }

pub returns-clause-whole : goal.returns-clause-whole
returns-clause-whole c = λ told rest each ends lines.
    folders_out c.args.lines.now c.loop-i.i rest (map folder_of c.args.folders.now.items) told (map folder_of c.loop-i.folders.items) c.loop-i-test.false (c.loop-i.invariant.whole told rest each ends lines)
