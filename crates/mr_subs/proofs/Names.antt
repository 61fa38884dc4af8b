-- Names for proofs: of other crates, and of this crate's definitions.
pub use Rattle.mr_feed.specs.Fold.{is_listed}
pub use Rattle.mr_feed.specs.declared.entry.Entry.{Entry}
pub use Rattle.mr_mail.specs.Label.{has_label, text_cmp, text_eq}
pub use Rattle.mr_mail.specs.Mail.{MailCard}
pub use Rattle.mr_subs.specs.Index.{AreShelved, card_at, card_has_label, labelled, on_shelf, set_has, shelf}
pub use Rattle.mr_subs.specs.Subscriber.{Applies}
pub use Rattle.mr_subs.specs.inner.Index.{is_place}
pub use Rattle.mr_version.specs.Name.{Name, name_cmp, name_eq}
pub use Rattle.mr_version.specs.Order.{exact_names, names_total}
pub use Rattle.std.specs.BTreeSet.{BTreeSet}
pub use Rattle.std.specs.List.Sorted.{IsStrictlySortedBy}
pub use Rattle.std.specs.Ordering.{is_eq}
pub use Rattle.std.specs.declared.cmp.Ordering.{Ordering}
pub use Rattle.std.specs.declared.cmp.Ordering.TheVariants.{Equal, Greater, Less}
