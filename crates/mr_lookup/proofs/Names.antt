-- Names for proofs: of other crates, and of this crate's definitions.
pub use Rattle.mr_concise.specs.Fragments.{ConciseFragment, fragment_text, knowledge_text}
pub use Rattle.mr_concise.specs.Vector.{vector_has}
pub use Rattle.mr_forms.proofs.PairLemmas.{name_eq-itself}
pub use Rattle.mr_forms.specs.Covered.{HasItems, all_covered, covered, has_item}
pub use Rattle.mr_forms.specs.Known.{AreSame, Form, Pairs, Part}
pub use Rattle.mr_forms.specs.inner.Fresh.{same_name}
pub use Rattle.mr_lookup.specs.Ancestors.{is_common, is_topmost}
pub use Rattle.mr_lookup.specs.Highest.{HasNone, IsHighest, IsHighestFound}
pub use Rattle.mr_lookup.specs.History.{IsHistory, TellsEarlier, TellsFirst, TellsOf, TellsOf.created, TellsOf.edited, TellsOf.received, TellsVersion}
pub use Rattle.mr_lookup.specs.History.{is_told, issues}
pub use Rattle.mr_lookup.specs.Told.{HasFirstTold, first_told, is_among, issued_with, message_at, own_name, told_after, told_by}
pub use Rattle.mr_lookup.specs.Versions.{IsNewest, IsNewestFound, TellsNone, issued_next, next_name, version_in, version_told_by, versions_after}
pub use Rattle.mr_lookup.specs.Versions.{versions_told}
pub use Rattle.mr_lookup.specs.inner.History.{is_in, is_of_item, told_more}
pub use Rattle.mr_lookup.specs.inner.Told.{Notes, NotesOfItems, told_with}
pub use Rattle.mr_mail.specs.Mail.{Mail}
pub use Rattle.mr_replica.specs.declared.event.Event.{Event}
pub use Rattle.mr_replica.specs.declared.event.Event.TheVariants.{Create, Edit, Receive}
pub use Rattle.mr_version.specs.Name.{IsVersion, Name, name_cmp, name_eq}
pub use Rattle.mr_wire.specs.declared.frame.Body.TheVariants.{Item}
pub use Rattle.mr_wire.specs.declared.frame.Frame.TheVariants.{Record}
pub use Rattle.sha2.specs.Sha256.{sha256}
pub use Rattle.std.proofs.lemmas.Bool.{and_from, and_parts, and_right, eqb-false, or_cases, or_from, or_left, or_right}
pub use Rattle.std.proofs.lemmas.List.{append-nil, at_drop_all, drop-take, drop_at, length-drop, length-take, take_all, take_more}
pub use Rattle.std.proofs.lemmas.List.Elements.{All-contains, All-nil, All-push, All-weaker}
pub use Rattle.std.proofs.lemmas.List.Folds.{Any-from_list_any, fold_along, list_any-append}
pub use Rattle.std.specs.List.{flat_map, fold, list_any}
pub use Rattle.std.specs.Option.{option_map, option_or}
pub use Rattle.std.specs.Prelude.{MatchOption, count_by, filter, is_some, nat_lt, not, ◌&&◌, ◌==◌, ◌||◌, ◌≢◌}
