use Rattle.std.proofs.Common.{rules, [], ◌∷◌, ◌≡◌, ◌++◌, ◌+◌, map, drop, ◌∙◌, sym, ap}
use Rattle.mr_session.proofs.Names.{Name, version_of}
use Rattle.mr_session.proofs.HeldLemmas.{Extends, has_none, has_more, has_one, is_full_at, extends_front, extends_done, extends_whole, extends_all, versions_from, none_from, pushed}
use Rattle.mr_session.proofs.held.cut_vectors.Goals as goal
use Rattle.mr_session.proofs.held.cut_vectors.Goals.{in-Ok, in-Err-TooManyHoles+in_ok-next-in-Err-TooManyHoles+in_ok-push_back-in-Err-TooManyHoles}

pub loop-revision-init : goal.loop-revision-init
loop-revision-init c =
    let is = c.new-vector.ensures.is in
    ([], has_none c.new-vector.result c.new-vector.ensures.none (rw is tt), extends_all (map version_of c.args.revisions.now) c.new-vectors.result.items c.new-vectors.ensures.items)

pub loop-revision-preserved : goal.loop-revision-preserved
loop-revision-preserved c =
    let whole = map version_of c.args.revisions.now in
    let rest = map version_of (drop (c.loop-revision.revision-index + 1) c.args.revisions.now) in
    let front = c.loop-revision.invariant.0 in
    let has = c.loop-revision.invariant.1 in
    let v = c.version-version.result in
    let here = versions_from c.args.revisions.now c.loop-revision.revision-index c.revision-item.result c.loop-revision-test.true c.revision-item.is in
    let at_v : map version_of (drop c.loop-revision.revision-index c.args.revisions.now) ≡ v ∷ rest = here ∙ ap (λ (w : Name). w ∷ rest) (sym c.version-version.ensures) in
    let extends : Extends whole front (v ∷ rest) c.loop-revision.vectors.items = rw at_v at c.loop-revision.invariant.2 in
    elim c.match-insert.branch [
      | in-Ok w ↦ rw (w.vector-is, w.vectors-is) (front ++ v ∷ [], has_more front v c.loop-revision.vector c.insert.new.self has w.in-Ok.ensures.ok (rw w.vector-is at c.author_columns-columns.ensures.vector), extends_front whole front rest v c.loop-revision.vectors.items c.loop-revision.vector extends)
      | in-Err-TooManyHoles+in_ok-next-in-Err-TooManyHoles+in_ok-push_back-in-Err-TooManyHoles w ↦
          let full = is_full_at front v c.loop-revision.vector has (c.insert.ensures.holes.0 (rw (w.in-Err-TooManyHoles.is, w.in-Err-TooManyHoles.field-0-is) (search rules))) in
          let came = pushed c.loop-revision.vectors.items w.push_back.new.self.items w.replace.result c.loop-revision.vector w.in_ok-push_back-in-Err-TooManyHoles.ensures.items (w.replace.ensures.value ∙ w.in-Err-TooManyHoles.ensures.err) in
          rw (w.vector-is, w.vectors-is, w.replace.ensures.after, came) (v ∷ [], has_one v w.in_ok-next-in-Err-TooManyHoles.next (has.one_by_one 0) w.in_ok-next-in-Err-TooManyHoles.ensures, extends_done whole front rest v c.loop-revision.vectors.items c.loop-revision.vector extends has full)
    ]

pub returns : goal.returns
returns c =
    let whole = map version_of c.args.revisions.now in
    let none = none_from c.args.revisions.now c.loop-revision.revision-index c.loop-revision-test.false in
    let extends : Extends whole c.loop-revision.invariant.0 [] c.loop-revision.vectors.items = rw none at c.loop-revision.invariant.2 in
    rw c.in_ok-push_back.ensures.items (extends_whole whole c.loop-revision.invariant.0 c.loop-revision.vectors.items c.loop-revision.vector extends c.loop-revision.invariant.1)
