use Rattle.std.proofs.Common.{◌+◌, drop, map, sym, ap, ◌∙◌, arith, rules}
use Rattle.mr_folder.proofs.Names.{found_in, step_of, tree_of}
use Rattle.mr_folder.proofs.MemoryNames.{look_step}
use Rattle.mr_folder.proofs.memory.look_up.Goals as goal

pub returns-in-Bytes : goal.returns-in-Bytes
returns-in-Bytes c = sym (c.loop-at.invariant.found ∙ (look_step c.args.changes.now.items c.loop-at.at c.index.result.now c.loop-at.place.now (let lt = c.loop-at-test.true in omega arith) c.index.ensures ∙ (c.found_by.ensures (tree_of (drop (c.loop-at.at + 1) (map step_of c.args.changes.now.items))) ∙ ap (found_in (tree_of (drop (c.loop-at.at + 1) (map step_of c.args.changes.now.items)))) c.in-Bytes.is)))

pub returns-in-Nothing : goal.returns-in-Nothing
returns-in-Nothing c = sym (c.loop-at.invariant.found ∙ (look_step c.args.changes.now.items c.loop-at.at c.index.result.now c.loop-at.place.now (let lt = c.loop-at-test.true in omega arith) c.index.ensures ∙ (c.found_by.ensures (tree_of (drop (c.loop-at.at + 1) (map step_of c.args.changes.now.items))) ∙ ap (found_in (tree_of (drop (c.loop-at.at + 1) (map step_of c.args.changes.now.items)))) c.in-Nothing.is)))

pub loop-at-preserved : goal.loop-at-preserved
loop-at-preserved c = record {
  found = c.loop-at.invariant.found ∙ (look_step c.args.changes.now.items c.loop-at.at c.index.result.now c.loop-at.place.now (let lt = c.loop-at-test.true in omega arith) c.index.ensures ∙ (c.found_by.ensures (tree_of (drop (c.loop-at.at + 1) (map step_of c.args.changes.now.items))) ∙ ap (found_in (tree_of (drop (c.loop-at.at + 1) (map step_of c.args.changes.now.items)))) c.in-At.is));
  text = search rules;
}
