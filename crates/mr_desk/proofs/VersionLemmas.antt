-- versions by their numbers, one after the other
use Rattle.std.proofs.Common.{◌≡◌, ◌<◌, ◌+◌, ◌++◌, ◌∷◌, [], ℕ, List, length, get_or, take, map, Option, Some, None, sym, ap, ◌∙◌}
use Rattle.mr_desk.proofs.Names.{Name, VersionFault, VersionNumbers, first_unnamed, first_version_fault, get_or_default, is_some, map-append, named_by}
use Rattle.mr_desk.proofs.Names.{take_more, version_fault}
use Rattle.mr_replica.proofs.Choice.{find_here, find_none_more}

-- the fault of what was found
abbrev fault_by : Option VersionNumbers → Option VersionFault
fault_by found = elim found [
  | Some n ↦ version_fault n
  | None ↦ None
]

-- the first that names no version has its fault
pub first-fault : (ns : List VersionNumbers) (k : ℕ) (d : VersionNumbers) (f : VersionFault) → k < length ns → first_unnamed (take k ns) ≡ None → version_fault (get_or ns k d) ≡ Some f → first_version_fault ns ≡ Some f
first-fault ns k d f within none is =
    let n = get_or ns k d in
    ap fault_by (find_here (λ m. is_some (version_fault m)) ns k n within (get_or_default ns k d n within) none (ap is_some is)) ∙ is

-- one more names a version
pub named-more : (ns : List VersionNumbers) (k : ℕ) (d : VersionNumbers) → k < length ns → first_unnamed (take k ns) ≡ None → version_fault (get_or ns k d) ≡ None → first_unnamed (take (k + 1) ns) ≡ None
named-more ns k d within none is =
    let n = get_or ns k d in
    find_none_more (λ m. is_some (version_fault m)) ns k n within (get_or_default ns k d n within) none (ap is_some is)

pub versions-more : (ns : List VersionNumbers) (k : ℕ) (d : VersionNumbers) (old new : List Name) (v : Name) → k < length ns → old ≡ map named_by (take k ns) → v ≡ named_by (get_or ns k d) → new ≡ old ++ v ∷ [] → new ≡ map named_by (take (k + 1) ns)
versions-more ns k d old new v within so_far is pushed =
    let n = get_or ns k d in
    pushed ∙ ap (λ vs. vs ++ v ∷ []) so_far ∙ ap (λ w. map named_by (take k ns) ++ w ∷ []) is ∙ sym (ap (map named_by) (take_more ns k d within) ∙ map-append named_by (take k ns) (n ∷ []))
