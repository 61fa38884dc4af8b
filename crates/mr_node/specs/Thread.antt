-- what a link's thread comes to
use Rattle.std.specs.Prelude.{◌≡◌, ◌≤◌, ◌++◌, ℕ, Bool, true, false, List, length, Option, Result}
use Rattle.mr_link.specs.Link.{LinkView, with_hang_up}
use Rattle.mr_link.specs.Wire.{new_wire}
use Rattle.mr_replica.specs.declared.event.Reply.{Reply}
use Rattle.mr_replica.specs.declared.refusal.Refusal.{Refusal}
use Rattle.mr_threads.specs.Exchange.{letters_said, answers_heard}
use Rattle.mr_replica.specs.declared.event.Event.{Event}
use Rattle.mr_node.specs.Saying.{Saying}
use Rattle.mr_node.specs.Stop.{LinkRan, AreLetPass}
use Rattle.mr_node.specs.declared.turn.Turn.{Turn}
use Rattle.mr_node.specs.declared.link_thread.LinkParts.{LinkParts}
use Rattle.mr_node.specs.declared.link_thread.LinkEnd.{LinkEnd}

-- a link's thread took its turns: what was said is what its post sent, its gate has let each record pass, each answer was kept, with what came behind the answers until they were closed, and the link is what it was behind all that passed, but that it was hung up
pub record SaidTurns {L R : Type 0} (tells : L → LinkView) (closes : ℕ → Bool) (has_let : ℕ → Type 0) (turns : List Turn) (old : LinkParts L R) (end : LinkEnd L R) : Type 0 where
  pub conversation : List Saying
  pub unread : Option (List ℕ)
  pub last : LinkView
  pub ran : LinkRan closes turns (new_wire (tells old.link)) conversation (record { link = last; unread = unread })
  pub hangs_up : tells end.link ≡ with_hang_up last
  pub let_pass : AreLetPass has_let conversation
  pub sent : end.post.sent ≡ letters_said conversation
  pub rest : List (Result Reply Refusal)
  pub passed : end.tap.passed ≡ answers_heard conversation ++ rest
  pub replies : end.replies.items ≡ end.tap.passed
  pub closed : end.tap.closed ≡ true

-- a link that had not been hung up was hung up when it told all that it tells in the end, and so behind all that passed
abbrev pub IsHungUpLast : {L : Type 0} → (tells : L → LinkView) → (hung_up_at : L → LinkView → Type 0) → (old new : L) → Type 0
IsHungUpLast tells hung_up_at old new = (tells old).hung_up ≡ false → hung_up_at new (record (tells new) { hung_up = false })

-- whether or not it took all its turns, each letter but the last was answered before the next was posted
pub record SaidInTurn {L R : Type 0} (end : LinkEnd L R) : Type 0 where
  pub answered : List Saying
  pub unanswered : List Event
  pub one_at_most : length unanswered ≤ 1
  pub sent : end.post.sent ≡ letters_said answered ++ unanswered
  pub rest : List (Result Reply Refusal)
  pub passed : end.tap.passed ≡ answers_heard answered ++ rest
