-- a post as contracts see it, and what its calls do
use Rattle.std.specs.Prelude.{◌≡◌, ℕ, Bool, true, false, List, [], ◌∷◌, ◌++◌}
use Rattle.atomic_table.specs.Seated.{TableId}
use Rattle.crossbeam_queue.specs.Passes.{Pass, view}
use Rattle.mr_lane.specs.declared.note.Sender.{Sender}
use Rattle.mr_lane.specs.declared.note.Note.{Note}
use Rattle.mr_lane.specs.declared.inbox_rule.InboxSight.{InboxSight}
use Rattle.mr_lane.specs.declared.fault.SendFault.{SendFault}
use Rattle.mr_lane.specs.declared.fault.SendFault.TheVariants as send
use Rattle.mr_lane.specs.Piece.{pieces, items_of}
use Rattle.mr_lane.specs.Note.{sender_number}

-- a post: which inbox it is of, how many places that has, whose post it is, the letters that were sent in order, and whether the end mark was
pub record PostView (T : Type 0) : Type 0 where
  pub id : TableId
  pub capacity : ℕ
  pub sender : Sender
  pub sent : List T
  pub finished : Bool

module _ {T : Type 0} where
  -- a post that has sent nothing
  abbrev pub new_post : TableId → ℕ → Sender → PostView T
  new_post id capacity sender = record { id = id; capacity = capacity; sender = sender; sent = []; finished = false }

  -- one letter more was sent
  abbrev pub with_letter : PostView T → T → PostView T
  with_letter p letter = record p { sent = p.sent ++ letter ∷ [] }

  -- the end mark was sent
  abbrev pub with_end_mark : PostView T → PostView T
  with_end_mark p = record p { finished = true }

  -- A letter comes back as Ended where the post was finished, and else as Full. That the inbox was full then no view can say: a post sees nothing of what the others sent, nor of what the desk took.
  abbrev pub ReturnsLetter : PostView T → T → SendFault T → Type 0
  ReturnsLetter p letter (send.Ended y) = (y ≡ letter) × (p.finished ≡ true)
  ReturnsLetter p letter (send.Full y) = (y ≡ letter) × (p.finished ≡ false)

  -- ---- below the posts

  -- the sight of this sender's pass, of letters in order, and of the end mark last where it has finished
  pub record IsSightOf (s : InboxSight T) (sender : Sender) (finished : Bool) : Type 0 where
    pub sends : s.sends ≡ true
    pub number : s.number ≡ sender_number sender
    pub in_order : s.sent ≡ pieces (items_of s.sent) finished

  -- what a pass knows
  abbrev pub inbox_sight_of : Pass (Note T) (InboxSight T) → InboxSight T
  inbox_sight_of p = view p
