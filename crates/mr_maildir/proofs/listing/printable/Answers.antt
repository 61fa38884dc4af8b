use Rattle.std.specs.Str.{chars}
use Rattle.mr_maildir.proofs.ListingLemmas.{printed-plain, look_alike}
use Rattle.mr_maildir.proofs.listing.printable.Goals as goal

pub returns-clause-plain : goal.returns-clause-plain
returns-clause-plain c = printed-plain (chars c.args.text.now)

pub returns-clause-one : goal.returns-clause-one
returns-clause-one c = λ others same. look_alike others (chars c.args.text.now) same
