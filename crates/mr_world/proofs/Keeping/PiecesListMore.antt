-- Fragments of a knowledge list an item only where more is known for it than for all items.
use Rattle.std.proofs.Common.{◌≡◌, refl, sym, ap, subst, ◌∙◌, ◌&&◌, List, [], ◌∷◌, inl, inr, arith, Option, Some, None, IfSome}
use Rattle.mr_world.proofs.Names.Lists.{All, AllZip, Contains, and_from}
use Rattle.std.proofs.lemmas.List.Elements.{All-head, All-tail}
use Rattle.mr_world.proofs.Names.Wire.{Full, Piece}
use Rattle.mr_world.proofs.Names.Replica.{Keeps}
use Rattle.mr_world.proofs.Names.Sessions.{lists}
use Rattle.mr_world.proofs.Names.Model.{In}
use Rattle.mr_world.proofs.Names.Laws.{any_intro}
use Rattle.mr_world.proofs.Names.Mails.{Form, HasMoreFor, ListsMore, Name, Part, SaysKnownForAll, vector_has}
use Rattle.mr_forms.proofs.PartLemmas.{Contains-cases}
use Rattle.mr_replica.specs.Pieces.{IsPieceOf}

-- each piece is of a part, and each part has a piece
pub piece_part : (P : Part → Type 0) (parts : List Part) (pieces : List Piece) → AllZip IsPieceOf parts pieces → All P parts → (piece : Piece) → In piece pieces → (p : Part) × P p × IsPieceOf p piece
piece_part P [] [] are all piece i = elim i [ ]
piece_part P [] (y ∷ ys) are all piece i = absurd are
piece_part P (p ∷ ps) [] are all piece i = elim i [ ]
piece_part P (p ∷ ps) (y ∷ ys) are all piece i = elim i [
  | inl e ↦ (p, All-head P p ps all, subst (IsPieceOf p) e are.0)
  | inr j ↦ piece_part P ps ys are.1 (All-tail P p ps all) piece j
]

part_piece : (parts : List Part) (pieces : List Piece) → AllZip IsPieceOf parts pieces → (p : Part) → Contains parts p → (piece : Piece) × In piece pieces × IsPieceOf p piece
part_piece [] [] are p has = let lt = has.1 in absurd (omega arith)
part_piece [] (y ∷ ys) are p has = absurd are
part_piece (q ∷ ps) [] are p has = absurd are
part_piece (q ∷ ps) (y ∷ ys) are p has = grind (arith, part_piece ps ys are.1 p, Contains-cases)

all_in : {X : Type 0} (P : X → Type 0) (xs : List X) → All P xs → (x : X) → In x xs → P x
all_in P [] all x i = elim i [ ]
all_in P (y ∷ ys) all x i = elim i [ inl e ↦ subst P e (All-head P y ys all) | inr j ↦ all_in P ys (All-tail P y ys all) x j ]

-- what the form's law says of its parts holds of the fragments that a full stream keeps
pub pieces_list_more : {K : Type 0} (form : Form K) → ListsMore form → (k : K) (know : List Piece) → Keeps form Full k know → (piece : Piece) → In piece know → (items : List Name) → piece.items ≡ Some items → (i : Name) → In i items → HasMoreFor (form.known k) i
pieces_list_more form law k know keeps piece at_place items listed = all_in (HasMoreFor (form.known k)) items
    (subst (λ (o : Option (List Name)). IfSome o (λ xs. All (HasMoreFor (form.known k)) xs)) (sym made.2.items ∙ listed) (law k said made.0 made.1))
  where
    made : (p : Part) × form.is_part k p × IsPieceOf p piece
    made = piece_part (form.is_part k) keeps.0.parts know keeps.0.by_part keeps.0.are_parts.are piece at_place

    -- the fragment of a part of all items says it for each item
    said : SaysKnownForAll form k
    said versions is j v h =
        let general : Part = record { items = None; versions = versions } in
        let f = part_piece keeps.0.parts know keeps.0.by_part general (keeps.0.are_parts.has_all general is) in
        keeps.1 j v ∙ any_intro (λ (z : Piece). lists z.items j && vector_has z.vector v) know f.0 f.1
        (and_from (lists f.0.items j) (vector_has f.0.vector v) (ap (λ (o : Option (List Name)). lists o j) f.2.items) (f.2.versions.has v ∙ h))
