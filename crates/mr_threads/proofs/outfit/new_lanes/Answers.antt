use Rattle.std.proofs.Common.{rules}
use Rattle.mr_threads.proofs.outfit.new_lanes.Goals as goal

pub returns-clause-ok : goal.returns-clause-ok
returns-clause-ok g c = record { posts = search rules; replies = search rules; feeds = search rules }
