-- what is written of a frame's parts
use Rattle.std.proofs.Common.{◌≡◌, ℕ, zero, suc, ◌+◌, ◌<◌, List, [], ◌∷◌, ◌++◌, length, get_or, take, Result, ap, sym, ◌∙◌, append_assoc, arith}
use Rattle.mr_wire.proofs.Names.{AuthorColumn, Frame, IsColumn, IsVectorFrom, Kind, OnOk, append-nil, flat_map, flat_map-append, frame_bytes, kind_byte}
use Rattle.mr_wire.proofs.Names.{kind_of, part_bytes, take_more, u32}

-- a column of a vector is one
pub column_of_vector : (xs : List AuthorColumn) (low i : ℕ) (d : AuthorColumn) → i < length xs → IsVectorFrom low xs → IsColumn ((get_or xs i d).column)
column_of_vector [] low i d lt h = absurd (omega arith)
column_of_vector (x ∷ xs) low zero d lt h = h.2
column_of_vector (x ∷ xs) low (suc i) d lt h = column_of_vector xs (x.author + 1) i d (omega arith) h.3

-- what follows, where a call succeeds
pub on_ok : {E A B : Type 0} (r : Result (Unit {0}) E) → (A → B) → OnOk r A → OnOk r B
on_ok r f a = grind arith

-- two parts that are written one after the other
pub two_parts : {E : Type 0} (r : Result (Unit {0}) E) (o a b o1 o2 : List ℕ) → o1 ≡ o ++ a → OnOk r (o2 ≡ o1 ++ b) → OnOk r (o2 ≡ o ++ (a ++ b))
two_parts r o a b o1 o2 e1 e2 = grind (arith, append_assoc)

-- so are five
pub five_parts : {E : Type 0} (r : Result (Unit {0}) E) (o a b c d e o1 o2 o3 o4 o5 : List ℕ) → o1 ≡ o ++ a → o2 ≡ o1 ++ b → o3 ≡ o2 ++ c → o4 ≡ o3 ++ d → OnOk r (o5 ≡ o4 ++ e) → OnOk r (o5 ≡ o ++ (a ++ (b ++ (c ++ (d ++ e)))))
five_parts r o a b c d e o1 o2 o3 o4 o5 e1 e2 e3 e4 e5 = grind (arith, two_parts)

-- a frame is its start, and the bytes of its parts
pub frame_from_parts : (f : Frame) (kind : Kind) (parts : ℕ) (start out : List ℕ) → kind_of f ≡ kind → parts ≡ length (part_bytes f) → start ≡ u32 (parts + 2) ++ (2 ∷ kind_byte kind ∷ []) → out ≡ start ++ part_bytes f → out ≡ frame_bytes 2 f
frame_from_parts f kind parts start out k n s e = grind (arith, append_assoc)

-- of a run one part more is written
pub run_more : {X : Type 0} (bytes : X → List ℕ) (xs : List X) (i : ℕ) (x : X) (start before now : List ℕ) → before ≡ start ++ flat_map bytes (take i xs) → i < length xs → x ≡ get_or xs i x → now ≡ before ++ bytes x → now ≡ start ++ flat_map bytes (take (i + 1) xs)
run_more bytes xs i x start before now so_far within is written =
    let front = take i xs in
    let last : flat_map bytes (x ∷ []) ≡ bytes x = append-nil (bytes x) in
    let run : take (i + 1) xs ≡ front ++ x ∷ [] = take_more xs i x within ∙ ap (λ y. front ++ y ∷ []) (sym is) in
    let more : flat_map bytes (take (i + 1) xs) ≡ flat_map bytes front ++ bytes x = ap (flat_map bytes) run ∙ flat_map-append bytes front (x ∷ []) ∙ ap (λ l. flat_map bytes front ++ l) last in
    written ∙ ap (λ l. l ++ bytes x) so_far ∙ append_assoc start (flat_map bytes front) (bytes x) ∙ ap (λ l. start ++ l) (sym more)
