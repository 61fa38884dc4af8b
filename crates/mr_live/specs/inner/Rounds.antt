-- a node's links before a round
use Rattle.std.specs.Prelude.{◌≡◌, [], ◌∷◌}
use Rattle.mr_link.specs.LaneLink.{LaneEnd, new_link}
use Rattle.mr_node.specs.declared.turn.Turn.TheVariants.{Pull, Serve}
use Rattle.mr_live.specs.Rounds.{Links, HaveTurns}

-- nothing passed over them yet
pub record AreNew (links : Links) : Type 0 where
  pub first : links.0.link.tells ≡ new_link
  pub second : links.1.link.tells ≡ new_link

-- a node's links: it pulls over the one and serves over the other
pub record PullAndServe (pulls serves : LaneEnd) (links : Links) : Type 0 where
  pub first : links.0.link ≡ pulls
  pub second : links.1.link ≡ serves
  pub turns : HaveTurns (Pull ∷ []) (Serve ∷ []) links
