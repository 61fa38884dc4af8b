-- what a link tells, and what its calls do
use Rattle.std.specs.Prelude.{◌≡◌, ◌+◌, ◌++◌, ℕ, Bool, true, List, Option, Result, Ok, Err, option_map}
use Rattle.std.specs.Global.{Vec}
use Rattle.mr_link.specs.declared.link.LinkFault.{LinkFault}
use Rattle.mr_link.specs.declared.link.LinkFault.TheVariants.{OutOfMemory, LinkDown}

-- a link: the bytes that it received and those that it sent, each where it tells them, how often a call found it down, and whether it was hung up at this end
pub record LinkView : Type 0 where
  pub received : Option (List ℕ)
  pub sent : Option (List ℕ)
  pub downs : ℕ
  pub hung_up : Bool

-- these bytes more, where they are told
abbrev pub and_then : Option (List ℕ) → List ℕ → Option (List ℕ)
and_then told bytes = option_map (λ before. before ++ bytes) told

abbrev pub with_sent : LinkView → List ℕ → LinkView
with_sent l bytes = record l { sent = and_then l.sent bytes }

abbrev pub with_received : LinkView → List ℕ → LinkView
with_received l bytes = record l { received = and_then l.received bytes }

-- it was down once more
abbrev pub with_down : LinkView → LinkView
with_down l = record l { downs = l.downs + 1 }

-- it was hung up
abbrev pub with_hang_up : LinkView → LinkView
with_hang_up l = record l { hung_up = true }

-- A send sends all its bytes. Or the link is down, and counts that; or there is no memory, and nothing has changed.
abbrev pub Sends : LinkView → List ℕ → Result (Unit {0}) LinkFault → LinkView → Type 0
Sends old bytes (Ok _) new = new ≡ with_sent old bytes
Sends old bytes (Err LinkDown) new = new ≡ with_down old
Sends old bytes (Err OutOfMemory) new = new ≡ old

-- A receive gives the bytes behind those that were received before. Or the link is down, and counts that; or there is no memory, and nothing has changed.
abbrev pub Receives : LinkView → Result (Vec ℕ) LinkFault → LinkView → Type 0
Receives old (Ok piece) new = new ≡ with_received old piece.items
Receives old (Err LinkDown) new = new ≡ with_down old
Receives old (Err OutOfMemory) new = new ≡ old
