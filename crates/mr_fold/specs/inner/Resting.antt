-- the note that a folder rests: how it stood when nothing had to be done
use Rattle.std.specs.Prelude.{ℕ, List, [], ◌∷◌, ◌++◌, length}
use Rattle.std.specs.List.{flat_map}
use Rattle.mr_maildir.specs.declared.layout.Layout.{Layout}
use Rattle.mr_maildir.specs.declared.layout.Layout.TheVariants.{Dots, Plain}
use Rattle.mr_replica.specs.State.{State}
use Rattle.sha2.specs.Sha256.{sha256}
use Rattle.mr_wire.specs.Spelling.{u64, name_bytes}
use Rattle.mr_compare.specs.Shown.{ShownParts}

abbrev pub layout_number : Layout → ℕ
layout_number Dots = 0
layout_number Plain = 1

-- the counts of a replica, of what its Maildir shows, and how its folders lie
abbrev pub counts : {K : Type 0} → Layout → State K → ShownParts → List ℕ
counts layout replica shown = layout_number layout ∷ replica.id ∷ length replica.log ∷ length replica.feed ∷ shown.entries ∷ length shown.lacking ∷ []

-- the replica's birth, its counts, and the items that lack their files
abbrev pub replica_bytes : {K : Type 0} → List ℕ → Layout → State K → ShownParts → List ℕ
replica_bytes birth layout replica shown = (birth ++ flat_map u64 (counts layout replica shown)) ++ flat_map name_bytes shown.lacking

-- of a folder whose log isn't read: the mark of the log's file, how the folders lie, and how the files stand
abbrev pub closed_bytes : List ℕ → Layout → List ℕ → List ℕ
closed_bytes mark layout files = (mark ++ u64 (layout_number layout)) ++ files

-- when the parts of a folder changed last, and its path behind its length
abbrev pub folder_bytes : List ℕ → ℕ → ℕ → List ℕ
folder_bytes path cur new = flat_map u64 (cur ∷ new ∷ length path ∷ []) ++ path

-- a file of the store: its inode and its size
abbrev pub size_bytes : ℕ × ℕ → List ℕ
size_bytes file = flat_map u64 (file.0 ∷ file.1 ∷ [])

-- what was seen of a folder: a digest of the names in it, and one of the sizes of its store's files
abbrev pub seen_bytes : List ℕ → List (ℕ × ℕ) → List ℕ
seen_bytes names sizes = names ++ sha256 (flat_map size_bytes sizes)

-- a note: how long the stand is, the stand, and what was seen
abbrev pub note_bytes : List ℕ → List ℕ → List ℕ
note_bytes stand seen = u64 (length stand) ++ (stand ++ seen)
