-- reading parts from the front of a list of bytes
use Rattle.std.specs.Prelude.{◌≡◌, ℕ, zero, suc, Bool, List, [], ◌∷◌, ◌++◌, length, take, drop, Option, Some, None, IfSome, nat_lt, if◌then◌else◌}
use Rattle.std.specs.List.{list_all}
use Rattle.std.specs.Global.{Vec}
use Rattle.std.specs.Int.{Width, byte_len, from_be_bytes}

-- the part at the front of the bytes and what follows it, if one stands there
abbrev pub Reader : Type 0 → Type 0
Reader X = List ℕ → Option (X × List ℕ)

infixl 10 ◌>>=◌
abbrev pub ◌>>=◌ : {A B : Type 0} → Option A → (A → Option B) → Option B
None >>= f = None
(Some x) >>= f = f x

abbrev pub is_byte : ℕ → Bool
is_byte b = nat_lt b 256

-- a number of this width, its highest byte first
abbrev pub number_at : Width → Reader ℕ
number_at w bytes =
    if nat_lt (length bytes) (byte_len w) then None
    else (if list_all is_byte (take (byte_len w) bytes) then Some (from_be_bytes w (take (byte_len w) bytes), drop (byte_len w) bytes) else None)

-- so many bytes
abbrev pub bytes_at : ℕ → Reader (List ℕ)
bytes_at n bytes = if nat_lt (length bytes) n then None else Some (take n bytes, drop n bytes)

-- one part that meets a test
abbrev pub only_at : {X : Type 0} → (X → Bool) → Reader X → Reader X
only_at test at bytes = at bytes >>= λ x. if test x.0 then Some x else None

-- one part, seen as another value
abbrev pub as_at : {X Y : Type 0} → (X → Y) → Reader X → Reader Y
as_at f at bytes = at bytes >>= λ x. Some (f x.0, x.1)

-- a part, and one behind it that may depend on it
abbrev pub then_at : {X Y : Type 0} → Reader X → (X → Reader Y) → Reader (X × Y)
then_at first second bytes = first bytes >>= λ x. second x.0 x.1 >>= λ y. Some ((x.0, y.0), y.1)

-- a count, and then what is of that count
abbrev pub counted_at : {X : Type 0} → Reader ℕ → (ℕ → Reader X) → Reader X
counted_at count at bytes = count bytes >>= λ n. at n.0 n.1

module _ {S X : Type 0} (at : S → Reader X) (next : S → X → S) where
  -- so many parts, each read in the light of those before it
  unfoldable pub run_at : S → ℕ → Reader (List X)
  run_at s zero bytes = Some ([], bytes)
  run_at s (suc n) bytes = at s bytes >>= λ x. run_at (next s x.0) n x.1 >>= λ xs. Some (x.0 ∷ xs.0, xs.1)

-- What a reader answers is the part that stands at the front of the old bytes, and it leaves what follows.
abbrev pub Gives : {X : Type 0} → Reader X → List ℕ → Option X → List ℕ → Type 0
Gives at old None new = at old ≡ None
Gives at old (Some x) new = at old ≡ Some (x, new)

-- What a reader answers of a part that takes memory is the part at the front of the old bytes: it is kept, or it is not. Of the part something is told besides.
pub record Stands {X Y : Type 0} (view : Y → X) (at : Reader X) (old : List ℕ) (kept : Option Y) (new : List ℕ) (Told : X → Type 0) : Type 0 where
  pub part : X
  pub stands : at old ≡ Some (part, new)
  pub is_part : IfSome kept (λ y. view y ≡ part)
  pub told : Told part

abbrev pub Finds : {X Y : Type 0} → (Y → X) → Reader X → List ℕ → Option (Option Y) → List ℕ → Type 0
Finds view at old None new = at old ≡ None
Finds view at old (Some kept) new = Stands view at old kept new (λ _. Unit {0})

-- The list is the old one with the item at its end, if it is kept.
pub record KeepsMore {X : Type 0} (old : Option (Vec X)) (item : Option X) (new : Option (Vec X)) : Type 0 where
  pub more : IfSome new (λ list. (xs : List X) (x : X) → IfSome old (λ v. v.items ≡ xs) → IfSome item (λ y. y ≡ x) → list.items ≡ xs ++ x ∷ [])
