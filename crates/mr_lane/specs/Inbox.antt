-- an inbox as a whole: how it is made, and what its desk learns at the end
use Rattle.std.specs.Prelude.{◌≡◌, ℕ, true, List}
use Rattle.mr_lane.specs.declared.note.Sender.TheVariants.{User, FirstLink, SecondLink}
use Rattle.mr_lane.specs.declared.note.Note.{Note}
use Rattle.mr_lane.specs.declared.post.Posts.{Posts}
use Rattle.mr_lane.specs.Piece.{pieces}
use Rattle.mr_lane.specs.Note.{pieces_by, sender_number}
use Rattle.mr_lane.specs.Post.{PostView, new_post}
use Rattle.mr_lane.specs.Desk.{DeskView, new_desk}

module _ {T : Type 0} where
  -- three posts that have sent nothing and a desk that has taken nothing, all of one inbox
  pub record IsNewInbox (capacity : ℕ) (posts : Posts T) (desk : DeskView T) : Type 0 where
    pub user : posts.user ≡ new_post desk.id capacity User
    pub first_link : posts.first_link ≡ new_post desk.id capacity FirstLink
    pub second_link : posts.second_link ≡ new_post desk.id capacity SecondLink
    pub desk_is_new : desk ≡ new_desk desk.id capacity

  -- the posts are those of the desk's inbox, each in its place
  pub record ArePostsOf (desk : DeskView T) (posts : Posts T) : Type 0 where
    pub user_id : posts.user.id ≡ desk.id
    pub user_sender : posts.user.sender ≡ User
    pub first_id : posts.first_link.id ≡ desk.id
    pub first_sender : posts.first_link.sender ≡ FirstLink
    pub second_id : posts.second_link.id ≡ desk.id
    pub second_sender : posts.second_link.sender ≡ SecondLink

  -- what was taken of this post is what it sent: in its order, whole and once, and nothing after its end mark
  pub record IsAllOf (taken : List (Note T)) (post : PostView T) : Type 0 where
    pub finished : post.finished ≡ true
    pub in_order : pieces_by (sender_number post.sender) taken ≡ pieces post.sent true

  -- what the desk took of each post is what that post sent
  pub record IsSettled (desk : DeskView T) (posts : Posts T) : Type 0 where
    pub user : IsAllOf desk.taken posts.user
    pub first_link : IsAllOf desk.taken posts.first_link
    pub second_link : IsAllOf desk.taken posts.second_link
