use Rattle.std.proofs.Common.{◌≡◌, ◌&&◌, ◌||◌, take}
use Rattle.mr_forms.proofs.Names.{Name, has_pair, is_listed, name_eq, pair}
use Rattle.mr_forms.proofs.plain_knowledge.push_all_missing.Given as goal

-- with what is known, the pairs up to here are all listed
abbrev pub invariant-loop-version : goal.invariant-loop-version
invariant-loop-version l = (i v : Name) → (has_pair l.missing.items (pair i v) || has_pair l.known.keys (pair i v)) ≡ ((name_eq l.item i && is_listed (take l.version-index l.versions) v) || (has_pair l.fn.missing.items (pair i v) || has_pair l.known.keys (pair i v)))
