use Rattle.std.specs.Prelude.{List, [], ◌∷◌}
use Rattle.std.specs.declared.cmp.Ordering.{Ordering}
use Rattle.std.specs.BTreeMap.{is_at}
use Rattle.std.specs.Set.{remove_key}

-- the keys without those that were added, the last of them taken back first
abbrev pub taken_back : {K : Type 0} → (K → K → Ordering) → List K → List K → List K
taken_back cmp [] keys = keys
taken_back cmp (x ∷ added) keys = remove_key (is_at (cmp x)) (taken_back cmp added keys)
