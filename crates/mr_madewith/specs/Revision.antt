-- revisions as contracts see them
use Rattle.std.specs.Prelude.{◌≡◌, ◌≢◌, true, false, List, [], refl}
use Rattle.std.specs.Coded.{Coded, code_by, coded×, coded_list}
use Rattle.mr_version.specs.Name.{Name, name_code}
use Rattle.mr_forms.specs.Sets.{Versions, with_version}
use Rattle.mr_mail.specs.Mail.{Mail, mail_code}
use Rattle.mr_concise.specs.declared.vector.AuthorColumn.{AuthorColumn}
use Rattle.mr_concise.specs.Vector.{vector_has, author_column_code}

-- a version of an item, with the versions that it supersedes and its message
pub record Rev : Type 0 where
  pub item : Name
  pub version : Name
  pub below : List AuthorColumn
  pub message : Mail

-- a revision is stored as the tuple of its fields
abbrev pub rev_code : Coded Rev
rev_code =
    code_by ((Name × Name) × (List AuthorColumn × Mail)) (coded× (coded× name_code name_code) (coded× (coded_list author_column_code) mail_code))
    (λ r. ((r.item, r.version), (r.below, r.message)))
    (λ p. record { item = p.0.0; version = p.0.1; below = p.1.0; message = p.1.1 }) (λ _. refl)

-- the set of versions that the revision supersedes
abbrev pub has_below : Rev → Versions
has_below r = vector_has r.below

-- the revision's version, with all that it supersedes
abbrev pub by_base : Rev → Versions
by_base r = with_version (has_below r) r.version

-- No version supersedes itself. The first version of an item supersedes nothing, each later one the first.
pub record IsRevision (item version : Name) (below : List AuthorColumn) : Type 0 where
  pub lacks_itself : vector_has below version ≡ false
  pub first : version ≡ item → below ≡ []
  pub later : version ≢ item → vector_has below item ≡ true
