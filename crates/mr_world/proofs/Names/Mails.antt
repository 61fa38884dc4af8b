-- Names for proofs: versions, mail, filters, knowledge, revisions and feeds.
pub use Rattle.mr_concise.specs.AnyOf.{in_any}
pub use Rattle.mr_concise.specs.Vector.{column_of, vector_has}
pub use Rattle.mr_concise.specs.declared.vector.AuthorColumn.{AuthorColumn}
pub use Rattle.mr_feed.specs.Entry.{entry_version, told, told_entry}
pub use Rattle.mr_feed.specs.declared.entry.Entry.{Entry}
pub use Rattle.mr_filter.specs.Filter.{ClauseParts}
pub use Rattle.mr_filter.specs.Meaning.{covers, selects}
pub use Rattle.mr_forms.specs.Known.{AreSame, Form, Pairs, Part, learned, learned_of, with_below, with_first, with_learned, with_pairs}
pub use Rattle.mr_forms.specs.Listing.{HasMoreFor, ListsMore, SaysKnownForAll}
pub use Rattle.mr_forms.specs.Sets.{IsSame, Versions}
pub use Rattle.mr_madewith.proofs.Rising.{greater_is_after, head_before, name_eq-swap, named-without, rises-filter, rises-inserted, rises_from}
pub use Rattle.mr_madewith.proofs.Rising.{rises_none, sides_of, tail_rises}
pub use Rattle.mr_madewith.specs.Revision.{Rev, by_base, has_below}
pub use Rattle.mr_madewith.specs.Trail.{item_of_last, last_of, noted}
pub use Rattle.mr_mail.specs.Mail.{Mail, MailCard, card_of}
pub use Rattle.mr_store.specs.Revisions.{AreInVersionOrder, entered, holds, left_by, revision_of, supersedes, version_of}
pub use Rattle.mr_version.specs.Name.{Name, name_cmp, name_eq}
pub use Rattle.mr_version.specs.Sets.{is_before, is_listed}
