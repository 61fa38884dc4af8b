-- a post before it sends
use Rattle.std.specs.Prelude.{◌≡◌, false, []}
use Rattle.mr_lane.specs.Post.{PostView}

-- a post that has sent nothing
pub record IsNewPost {E : Type 0} (post : PostView E) : Type 0 where
  pub sent : post.sent ≡ []
  pub unfinished : post.finished ≡ false
