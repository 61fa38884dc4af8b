-- Names for proofs: of other crates, and of this crate's definitions.
pub use Rattle.mr_compare.specs.Compare.{IsDeletion, act_for, believed, believed_acts, believed_edit, deletions, due, due_acts, if_any, keeps_folders}
pub use Rattle.mr_compare.specs.Compare.{merge_or, merged_act, told_for}
pub use Rattle.mr_compare.specs.Gather.{items_of, values_at, values_of}
pub use Rattle.mr_compare.specs.Held.{AreRead, RefersToNone, Tells, heads_told, view_at}
pub use Rattle.mr_compare.specs.Joining.{at_item, held_entry, lowest, standing_parts, standings_at, together, versions_in}
pub use Rattle.mr_compare.specs.Left.{card_left, is_told, item_cards, last_added, last_told, newer, of_item, pair_cmp, told_last}
pub use Rattle.mr_compare.specs.MailsLeft.{card_view, cards_told, is_absent, left_mail, news_told, stayed_views, with_digest}
pub use Rattle.mr_compare.specs.Sides.{are_same, at_digest, standing_of_held, standing_of_unheld, standings_by}
pub use Rattle.mr_compare.specs.Undecided.{IsHeeded, Waits, first_undecided, has_news, is_doubted, is_undecided}
pub use Rattle.mr_compare.specs.declared.compare.Standing.{Standing}
pub use Rattle.mr_madewith.specs.Revision.{Rev}
pub use Rattle.mr_mail.specs.Label.{text_cmp}
pub use Rattle.mr_mail.specs.Mail.{MailCard}
pub use Rattle.mr_maildir.proofs.ViewLemmas.{view_eq-Decides}
pub use Rattle.mr_maildir.specs.Act.{act_of, act_of_standing, act_on_unseen, is_left, standing}
pub use Rattle.mr_maildir.specs.Merging.{differ, merged_view, over}
pub use Rattle.mr_maildir.specs.View.{ViewParts, view_eq}
pub use Rattle.mr_maildir.specs.declared.act.Act.{Act}
pub use Rattle.mr_maildir.specs.declared.act.Act.TheVariants.{Agree, Create, Delete, Edit, Follow, Remove}
pub use Rattle.mr_version.specs.Name.{Name, name_cmp, name_eq}
pub use Rattle.mr_wire.proofs.Laws.{Reads, RunFits, reads_as, reads_bytes, reads_counted, reads_like, reads_run, reads_then, reads_u32, reads_u64}
pub use Rattle.mr_wire.specs.Grammar.{IsItem}
pub use Rattle.mr_wire.specs.Spelling.{name_bytes, u32}
pub use Rattle.std.proofs.Math.Seq.{drop-cons}
pub use Rattle.std.proofs.lemmas.Bool.{and_from, and_parts, eqb-true}
pub use Rattle.std.proofs.lemmas.List.{append-nil, append_assoc, drop_all, get_or_default, length-append, length-map, map-append, map-id}
pub use Rattle.std.proofs.lemmas.List.Concat.{flat_map-append, flat_map-cons}
pub use Rattle.std.proofs.lemmas.List.Elements.{All-from_recursion, All-more, All-nil, All-push, filter-append, recursion_from_All}
pub use Rattle.std.proofs.lemmas.List.Sums.{fold-append, sum_by-append, sum_by-cons}
pub use Rattle.std.proofs.lemmas.Result.{IfOk-weaker}
pub use Rattle.std.specs.BTreeMap.{keys}
pub use Rattle.std.specs.Global.{Vec}
pub use Rattle.std.specs.List.{AllByRecursion, flat_map, list_all, list_any}
pub use Rattle.std.specs.Map.{lookup}
pub use Rattle.std.specs.Option.{is_some, option_copied}
pub use Rattle.std.specs.Ordering.{eq_by_cmp, is_eq, ord_min, ordering_then}
pub use Rattle.std.specs.Prelude.{All, IfOk, IfSome, IsTrue, if◌then◌else◌, map, not, option_map, ◌&&◌, ◌||◌}
pub use Rattle.std.specs.declared.cmp.Ordering.{Ordering}
pub use Rattle.std.specs.declared.cmp.Ordering.TheVariants.{Equal, Greater, Less}
