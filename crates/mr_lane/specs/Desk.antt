-- a desk as contracts see it, and what its calls do
use Rattle.std.specs.Prelude.{◌≡◌, ℕ, Bool, true, ◌&&◌, List, [], ◌∷◌, ◌++◌}
use Rattle.atomic_table.specs.Seated.{TableId}
use Rattle.mr_lane.specs.declared.piece.Piece.TheVariants.{Item, End}
use Rattle.mr_lane.specs.declared.note.Sender.{Sender}
use Rattle.mr_lane.specs.declared.note.Sender.TheVariants.{User, FirstLink, SecondLink}
use Rattle.mr_lane.specs.declared.note.Note.{Note}
use Rattle.mr_lane.specs.declared.inbox_rule.InboxSight.{InboxSight}
use Rattle.mr_lane.specs.declared.arrival.Arrival.{Arrival}
use Rattle.mr_lane.specs.declared.arrival.Arrival.TheVariants as arrival
use Rattle.mr_lane.specs.declared.arrival.Marks.{Marks}
use Rattle.mr_lane.specs.Piece.{has_end}
use Rattle.mr_lane.specs.Note.{pieces_by, sender_number}

-- a desk: which inbox it is of, how many places that has, and the letters and end marks that were taken, in order, each with its sender
pub record DeskView (T : Type 0) : Type 0 where
  pub id : TableId
  pub capacity : ℕ
  pub taken : List (Note T)

module _ {T : Type 0} where
  -- a desk that has taken nothing
  abbrev pub new_desk : TableId → ℕ → DeskView T
  new_desk id capacity = record { id = id; capacity = capacity; taken = [] }

  -- one note more was taken
  abbrev pub with_note : DeskView T → Note T → DeskView T
  with_note d note = record d { taken = d.taken ++ note ∷ [] }

  -- a take gives one note more, or finds nothing
  abbrev pub Arrives : DeskView T → Arrival T → DeskView T → Type 0
  Arrives d (arrival.Letter sender letter) e = e ≡ with_note d (record { sender = sender; piece = Item letter })
  Arrives d (arrival.End sender) e = e ≡ with_note d (record { sender = sender; piece = End })
  Arrives d arrival.Empty e = e ≡ d

  -- whether the sender's end mark was taken
  abbrev pub has_finished : List (Note T) → Sender → Bool
  has_finished taken sender = has_end (pieces_by (sender_number sender) taken)

  -- whether the end marks of all three were taken
  abbrev pub have_all_finished : List (Note T) → Bool
  have_all_finished taken = has_finished taken User && has_finished taken FirstLink && has_finished taken SecondLink

  -- ---- below the desk

  -- these are the senders whose end marks were taken
  pub record AreMarksOf (marks : Marks) (taken : List (Note T)) : Type 0 where
    pub user : marks.user ≡ has_finished taken User
    pub first_link : marks.first_link ≡ has_finished taken FirstLink
    pub second_link : marks.second_link ≡ has_finished taken SecondLink

  -- the sight of a desk's pass, which has heard nobody out, with the marks that it took
  pub record IsSightWith (s : InboxSight T) (marks : Marks) : Type 0 where
    pub takes : s.takes ≡ true
    pub heard_none : s.heard_out ≡ []
    pub marked : AreMarksOf marks s.taken
