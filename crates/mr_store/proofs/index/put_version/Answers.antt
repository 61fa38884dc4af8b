use Rattle.mr_madewith.proofs.Inserted.{insert-take_while}
use Rattle.mr_store.proofs.index.put_version.Goals as goal

pub returns : goal.returns
returns c =
    rw (c.insert.ensures.items, c.unwrap.ensures, c.place_of-place.ensures.place, c.deref.ensures.value)
    (insert-take_while (λ v. v) c.args.version c.args.versions.now.items)
