-- what a world answers to what a port gives
use Rattle.mr_feed.specs.declared.port.Taken.{Taken}
use Rattle.mr_feed.specs.declared.port.Taken.TheVariants as taken
use Rattle.mr_world.specs.declared.answer.Answer.{Answer}
use Rattle.mr_world.specs.declared.answer.Answer.TheVariants.{TookEntry, Empty, Closed}

abbrev pub answer_taken : Taken → Answer
answer_taken (taken.Entry entry) = TookEntry entry
answer_taken taken.Empty = Empty
answer_taken taken.Closed = Closed
