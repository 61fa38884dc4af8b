-- a replica as a machine of letters and answers
use Rattle.std.specs.Prelude.{◌≡◌, ◌++◌, List, Result}
use Rattle.std.specs.List.{flat_map}
use Rattle.mr_forms.specs.Known.{Form}
use Rattle.mr_feed.specs.declared.entry.Entry.{Entry}
use Rattle.mr_replica.specs.State.{State}
use Rattle.mr_replica.specs.Step.{Steps}
use Rattle.mr_replica.specs.Growing.{admitted}
use Rattle.mr_replica.specs.declared.event.Event.{Event}
use Rattle.mr_replica.specs.declared.event.Reply.{Reply}
use Rattle.mr_replica.specs.declared.refusal.Refusal.{Refusal}
use Rattle.mr_replica.proofs.Replaying.{step_feed}
use Rattle.mr_threads.specs.Exchange.{Exchange}

abbrev pub feed_of : {K : Type 0} → State K → List Entry
feed_of s = s.feed

-- the letters that were not refused, in order
abbrev pub admitted_of : List (Exchange Event (Result Reply Refusal)) → List Event
admitted_of xs = flat_map (λ x. admitted x.letter x.answer) xs

-- a step only adds to the feed
pub feed_grows : {K : Type 0} (form : Form K) (s : State K) (letter : Event) (answer : Result Reply Refusal) (t : State K) → Steps form s letter answer t → (more : List Entry) × (feed_of t ≡ feed_of s ++ more)
feed_grows form s letter answer t h = step_feed form s t letter answer h
