-- a version that is held, with all that it supersedes
use Rattle.std.specs.Prelude.{◌++◌}
use Rattle.mr_version.specs.Name.{Name}
use Rattle.mr_forms.specs.Sets.{Versions}
use Rattle.mr_concise.specs.Source.{in_some}
use Rattle.mr_madewith.specs.Revision.{by_base}
use Rattle.mr_store.specs.Revisions.{revision_of}
use Rattle.mr_store.specs.Holdings.{Holdings}

-- the version, if it is held, and what it supersedes
abbrev pub by_held : Holdings → Name → Versions
by_held h version v = in_some by_base (revision_of (h.heads ++ h.push_outs) version) v
