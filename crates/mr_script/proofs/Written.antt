-- writes that come one after another
use Rattle.std.proofs.Common.{ℕ, List, [], ◌++◌, Option, Some, None, sym, append_assoc, append-nil}
use Rattle.std.specs.Io.KnownBytes.{Appends}

-- nothing was written
pub Appends-nothing : (known : Option (List ℕ)) → Appends known known []
Appends-nothing None = tt
Appends-nothing (Some xs) = sym (append-nil xs)

-- one text after another was written
pub Appends-both : (first second third : Option (List ℕ)) (xs ys : List ℕ) → Appends first second xs → Appends second third ys → Appends first third (xs ++ ys)
Appends-both None second third xs ys a b = tt
Appends-both (Some f) None third xs ys a b = absurd a
Appends-both (Some f) (Some s) None xs ys a b = absurd b
Appends-both (Some f) (Some s) (Some t) xs ys a b = rw (b, a) (append_assoc f xs ys)
