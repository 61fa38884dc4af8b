-- a link as one of the senders of a node
use Rattle.std.specs.Prelude.{◌≡◌, ◌<◌, ◌+◌, ◌^◌, ◌⊎◌, ℕ, Bool, true, List, [], Some, None}
use Rattle.std.specs.Global.{Vec}
use Rattle.mr_lane.specs.declared.note.Sender.{Sender}
use Rattle.mr_link.specs.Link.{LinkView, with_hang_up}
use Rattle.mr_link.specs.Wire.{wire_of, unread_in}
use Rattle.mr_node.specs.Saying.{Saying}
use Rattle.mr_node.specs.Stop.{LinkRan, AreLetPass}
use Rattle.mr_node.specs.declared.turn.Turn.{Turn}
use Rattle.mr_node.specs.declared.link_voice.LinkVoice.{LinkVoice}

-- the link before its first turn, as this sender
pub record IsVoiceOf {L G : Type 0} (before_it : G) (as_sender : Sender) (over : L) (to_take : Vec Turn) (v : LinkVoice L G) : Type 0 where
  pub link : v.wire.link ≡ over
  pub reader : v.wire.reader ≡ Some []
  pub held : v.wire.held ≡ None
  pub turns : v.turns ≡ to_take
  pub gate : v.guard.gate.now ≡ before_it
  pub sender : v.guard.link ≡ as_sender
  pub posted : v.guard.posted ≡ 0

-- the link was hung up when it told this, and is as it was then
pub record IsHungUpBehind {L : Type 0} (tells : L → LinkView) (hung_up_at : L → LinkView → Type 0) (last : LinkView) (l : L) : Type 0 where
  pub same : tells l ≡ with_hang_up last
  pub behind : hung_up_at l last

module _ {L G : Type 0} (tells : L → LinkView) where
  -- nothing was read or posted yet, and a call may find the link down
  pub record IsReady (v : LinkVoice L G) : Type 0 where
    pub count : (tells v.wire.link).downs + 1 < 2 ^ 64
    pub reader : v.wire.reader ≡ Some []
    pub held : v.wire.held ≡ None
    pub posted : v.guard.posted ≡ 0

  -- this was said in its turns, and the gate has let each record pass; the link was hung up behind all that passed, or not yet
  pub record Runs (hung_up_at : L → LinkView → Type 0) (closes : G → Sender → ℕ → Bool) (has_let : G → Sender → ℕ → Type 0) (old : LinkVoice L G) (conversation : List Saying) (new : LinkVoice L G) : Type 0 where
    pub last : LinkView
    pub ran : LinkRan (closes old.guard.gate.now old.guard.link) old.turns.items (wire_of tells old.wire) conversation (record { link = last; unread = unread_in new.wire.reader new.wire.held })
    pub let_pass : AreLetPass (has_let old.guard.gate.now old.guard.link) conversation
    pub ends : (tells new.wire.link ≡ last) ⊎ IsHungUpBehind tells hung_up_at last new.wire.link

  -- its link was hung up
  abbrev pub HasHungUp : LinkVoice L G → Type 0
  HasHungUp v = (tells v.wire.link).hung_up ≡ true
