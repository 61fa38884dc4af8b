use Rattle.std.proofs.Common.{ℕ, List, Option, subst, sym, ◌∙◌}
use Rattle.mr_sync.specs.Files.{HasPart, IsStored}
use Rattle.mr_sync.specs.declared.coming.Coming.{Coming}
use Rattle.mr_sync.proofs.files.take_end.Goals as goal

pub returns-clause-stores : goal.returns-clause-stores
returns-clause-stores g c = λ told.
    subst (λ (o : Option Coming). (come : List ℕ) → HasPart come o (g.F.FileTree.seen c.args.files.now) → IsStored come o (g.F.FileTree.seen c.args.files.now) (g.F.FileTree.seen c.end_file.new.files)) (sym c.in-Some.is ∙ c.take.ensures.value)
    (λ come has. (c.in_ok-digest.ensures.of_digest come _ has, c.in_ok-digest.ensures.stored told come has))
