-- what a version that is held has, behind its reference
use Rattle.std.proofs.Common.{◌≡◌, ◌++◌, Option, Bor, arith}
use Rattle.mr_store.proofs.Names.{Holdings, Name, Rev, by_base, by_held, option_copied, revision_of}
use Rattle.mr_concise.specs.Source.{in_some}

in_some-now : (o : Option (Bor Rev)) (v : Name) → in_some (λ r. by_base r.now) o v ≡ in_some by_base (option_copied o) v
in_some-now o v = grind arith

-- the source behind a look-up
pub looked_up : (h : Holdings) (version : Name) (o : Option (Bor Rev)) → option_copied o ≡ revision_of (h.heads ++ h.push_outs) version → in_some (λ r. by_base r.now) o ≡ by_held h version
looked_up h version o is = grind (arith, in_some-now)
