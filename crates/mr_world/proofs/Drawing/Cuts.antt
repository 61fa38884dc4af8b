-- The vectors that versions are cut into have just these versions.
use Rattle.std.proofs.Common.{◌≡◌, refl, sym, ap, ◌∙◌, Bool, ◌||◌, List, [], ◌∷◌, map, inl, inr, arith}
use Rattle.mr_world.proofs.Names.Sessions.{AreCut}
use Rattle.mr_world.proofs.Names.Mails.{AuthorColumn, Name, Rev, holds, in_any, is_listed, name_eq, name_eq-swap, sides_of, vector_has, version_of}
use Rattle.mr_world.proofs.Groundwork.Tools.{any_append, or_none}

pub cut_has : (versions : List Name) (vs : List (List AuthorColumn)) → AreCut versions vs → (w : Name) → in_any vector_has vs w ≡ is_listed versions w
cut_has versions [] cut w = absurd cut
cut_has versions (v ∷ []) cut w = or_none (vector_has v w) ∙ cut.vector_of.has w
cut_has versions (v ∷ x ∷ vs) cut w =
    let front = cut.0 in
    let behind : List Name = cut.1 ∷ cut.2 in
    ap (λ (b : Bool). vector_has v w || b) (cut_has behind (x ∷ vs) cut.6 w)
    ∙ (ap (λ (b : Bool). b || is_listed behind w) (cut.4.vector_of.has w)
    ∙ (sym (any_append (name_eq w) cut.0 behind) ∙ ap (λ (l : List Name). is_listed l w) (sym cut.3)))

pub listed_heads : (rs : List Rev) (w : Name) → is_listed (map version_of rs) w ≡ holds rs w
listed_heads [] w = refl
listed_heads (r ∷ rs) w = grind (arith, listed_heads rs w, sides_of, name_eq, name_eq-swap)

-- heads cut into vectors
pub cut_heads : (rs : List Rev) (vs : List (List AuthorColumn)) → AreCut (map version_of rs) vs → (w : Name) → in_any vector_has vs w ≡ holds rs w
cut_heads rs vs cut w = cut_has (map version_of rs) vs cut w ∙ listed_heads rs w
