use Rattle.std.proofs.Common.{◌++◌}
use Rattle.mr_wire.specs.Spelling.{name_bytes, vector_bytes}
use Rattle.mr_wire.proofs.PutLemmas.{two_parts, on_ok}
use Rattle.mr_wire.proofs.put.put_descent.Goals as goal

pub returns-clause-written : goal.returns-clause-written
returns-clause-written c =
    two_parts c.put_vector.result c.args.out.now.items (name_bytes c.args.item) (name_bytes c.args.version ++ vector_bytes c.args.below.now) c.put_version.new.out.items c.put_vector.new.out.items
    (rw c.creator.ensures at c.in_ok-put_version.ensures.written)
    (two_parts c.put_vector.result c.put_version.new.out.items (name_bytes c.args.version) (vector_bytes c.args.below.now) c.put_version-2.new.out.items c.put_vector.new.out.items c.in_ok-put_version-2.ensures.written c.put_vector.ensures.written)

pub returns-clause-in_grammar : goal.returns-clause-in_grammar
returns-clause-in_grammar c =
    on_ok c.put_vector.result (λ vector. record {
      item_in = rw c.creator.ensures at c.in_ok-put_version.ensures.in_grammar;
      version_in = c.in_ok-put_version-2.ensures.in_grammar;
      vector_in = vector;
      revision_in = c.requires;
    }) c.put_vector.ensures.in_grammar
