-- What passes the lanes of a link.
use Rattle.std.proofs.Common.{◌≡◌, ◌<◌, ◌==◌, ℕ, Bool, false, length, arith, List, [], ◌∷◌, ◌++◌, Option, Some, None, ap, refl, sym, ◌∙◌, append-nil}
use Rattle.mr_link.proofs.Names.{Chunk, IsBeginning, LaneEnd, LinkView, SameEnd, TapEnd, and_then, bytes_in, false≢true, with_item, with_received, with_sent}
use Rattle.std.proofs.lemmas.Grind.{flat_map-append}

-- an end over these lanes
abbrev pub end_over : TapEnd Chunk → TapEnd Chunk → ℕ → Bool → LaneEnd
end_over spout tap downs hung_up = record {
  sends_to = spout.id;
  receives_from = tap.id;
  capacity = spout.capacity;
  tells = record { received = Some (bytes_in tap.passed); sent = Some (bytes_in spout.passed); downs = downs; hung_up = hung_up };
}

-- one piece more
bytes_more : (pieces : List Chunk) (piece : Chunk) → bytes_in (pieces ++ piece ∷ []) ≡ bytes_in pieces ++ piece.bytes.items
bytes_more pieces piece = flat_map-append (λ (p : Chunk). p.bytes.items) pieces (piece ∷ []) ∙ ap (λ (z : List ℕ). bytes_in pieces ++ z) (append-nil piece.bytes.items)

-- a piece was taken
pub piece_taken : (spout tap more : TapEnd Chunk) (downs : ℕ) (hung_up : Bool) (end : LaneEnd) (piece : Chunk) → end_over spout tap downs hung_up ≡ end → more ≡ with_item tap piece → (end_over spout more downs hung_up).tells ≡ with_received end.tells piece.bytes.items
piece_taken spout tap more downs hung_up end piece is taken =
    ap (λ (z : TapEnd Chunk). (end_over spout z downs hung_up).tells) taken
    ∙ (ap (λ (z : List ℕ). let t : LinkView = record { received = Some z; sent = Some (bytes_in spout.passed); downs = downs; hung_up = hung_up } in t) (bytes_more tap.passed piece)
    ∙ ap (λ (z : LaneEnd). with_received z.tells piece.bytes.items) is)

-- a piece was offered
pub piece_offered : (spout tap more : TapEnd Chunk) (downs : ℕ) (hung_up : Bool) (end : LaneEnd) (piece : Chunk) (bytes : List ℕ) → end_over spout tap downs hung_up ≡ end → more ≡ with_item spout piece → piece.bytes.items ≡ bytes → (end_over more tap downs hung_up).tells ≡ with_sent end.tells bytes
piece_offered spout tap more downs hung_up end piece bytes is offered same =
    ap (λ (z : TapEnd Chunk). (end_over z tap downs hung_up).tells) offered
    ∙ (ap (λ (z : List ℕ). let t : LinkView = record { received = Some (bytes_in tap.passed); sent = Some z; downs = downs; hung_up = hung_up } in t) (bytes_more spout.passed piece ∙ ap (λ (z : List ℕ). bytes_in spout.passed ++ z) same)
    ∙ ap (λ (z : LaneEnd). with_sent z.tells bytes) is)

-- nothing was
pub none_taken : (spout tap more : TapEnd Chunk) (downs : ℕ) (hung_up : Bool) (end : LaneEnd) → end_over spout tap downs hung_up ≡ end → more ≡ tap → end_over spout more downs hung_up ≡ end
none_taken spout tap more downs hung_up end is same = ap (λ (z : TapEnd Chunk). end_over spout z downs hung_up) same ∙ is

pub none_offered : (spout tap more : TapEnd Chunk) (downs : ℕ) (hung_up : Bool) (end : LaneEnd) → end_over spout tap downs hung_up ≡ end → more ≡ spout → end_over more tap downs hung_up ≡ end
none_offered spout tap more downs hung_up end is same = ap (λ (z : TapEnd Chunk). end_over z tap downs hung_up) same ∙ is

-- an end whose lanes are those of before
pub same_end : (spout tap more other : TapEnd Chunk) (downs : ℕ) (hung_up : Bool) (end : LaneEnd) → end_over spout tap downs hung_up ≡ end → more.id ≡ spout.id → other.id ≡ tap.id → SameEnd end (end_over more other downs hung_up)
same_end spout tap more other downs hung_up end is sends receives = record {
  sends_to = sends ∙ ap (λ (z : LaneEnd). z.sends_to) is;
  receives_from = receives ∙ ap (λ (z : LaneEnd). z.receives_from) is;
}

-- there is one at least
pub some_bytes : (l bytes : List ℕ) (b : Bool) → l ≡ bytes → b ≡ (length bytes == 0) → b ≡ false → 0 < length l
some_bytes l [] b same is so = absurd (false≢true (sym so ∙ is))
some_bytes l (x ∷ xs) b same is so = let len = ap length same in omega (arith, len)
