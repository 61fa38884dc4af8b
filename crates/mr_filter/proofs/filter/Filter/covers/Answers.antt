use Rattle.std.proofs.Common.{◌≡◌, rules}
use Rattle.mr_filter.specs.Meaning.{covers}
use Rattle.mr_filter.proofs.MeaningLemmas.{covers-sound}
use Rattle.mr_filter.proofs.filter.Filter.covers.Goals as goal

pub returns-clause-sound : goal.returns-clause-sound
returns-clause-sound c =
    let same : c.are_covered.result ≡ covers c.args.self.now c.args.other.now = search rules in
    rw same (covers-sound _ _)
