-- Names for proofs: of other crates, and of this crate's definitions.
pub use Rattle.mr_concise.proofs.NameLemmas.{name_eq_parts}
pub use Rattle.mr_concise.proofs.UnionLemmas.{bound-on, column_has-empty}
pub use Rattle.mr_concise.proofs.VersionLemmas.{few-vector}
pub use Rattle.mr_concise.specs.Column.{Extent, IsColumn, column_has, edges, gap, hole_edges, hole_has, with_counter}
pub use Rattle.mr_concise.specs.Vector.{HasTooManyHoles, IsVectorFrom, IsVectorOf, column_of, vector_has}
pub use Rattle.mr_concise.specs.declared.column.Hole.{Hole}
pub use Rattle.mr_concise.specs.declared.vector.AuthorColumn.{AuthorColumn}
pub use Rattle.mr_forms.specs.Sets.{IsSame, Versions, is_listed, with_version}
pub use Rattle.mr_forms.specs.declared.run.Run.{Run}
pub use Rattle.mr_madewith.proofs.Rising.{all_after, head_before, name_eq_self, rises-filter, same_names, sides_of, sorted_by_name, tail_rises}
pub use Rattle.mr_madewith.specs.Keyed.{is_before}
pub use Rattle.mr_madewith.specs.Revision.{Rev}
pub use Rattle.mr_session.specs.Held.{AreCut, FitOneByOne, HasJust, IsAsLongAsCanBe}
pub use Rattle.mr_session.specs.Onward.{advanced, after_given, gone_on, is_last}
pub use Rattle.mr_session.specs.Session.{Session, after_record, first_fault, new_session}
pub use Rattle.mr_session.specs.Slots.{AreOnce, AreSlots, AreUpTo, HasNumber, by_number, put}
pub use Rattle.mr_session.specs.Stream.{Asked, Draws, DrawsAfterWalk, DrawsAt, DrawsFirstHeld, DrawsKnow, DrawsRest, DrawsWalk, Gives, GivesIn, IsOnlyDraw}
pub use Rattle.mr_session.specs.Stream.{Stream, claimed, due, is_ahead, is_due, is_end, is_wanted, lower, new_stream}
pub use Rattle.mr_session.specs.Table.{AreNumberedTo, IsTable, Numbered, RisesFrom, Table, at, changed, empty_table, open_at, with_changed, with_closed}
pub use Rattle.mr_session.specs.Table.{with_opened}
pub use Rattle.mr_session.specs.declared.outgoing.onward.Prepared.{Prepared}
pub use Rattle.mr_session.specs.declared.slots.Entry.{Entry}
pub use Rattle.mr_session.specs.inner.Held.{AreBelow, IsAbove, IsBelowFirst, IsClosed, IsExtended, IsGrowth, IsRow, IsTurned, counter_on, extent, with_last}
pub use Rattle.mr_session.specs.inner.Slots.{value_at, value_in, with_at}
pub use Rattle.mr_store.proofs.OrderLemmas.{parted_below, parted_up_to}
pub use Rattle.mr_store.specs.Holdings.{Holdings}
pub use Rattle.mr_store.specs.Revisions.{AreInVersionOrder, version_of}
pub use Rattle.mr_version.specs.Name.{IsVersion, Name, name_cmp, name_eq}
pub use Rattle.mr_wire.specs.Frames.{Sent}
pub use Rattle.mr_wire.specs.Values.{Piece}
pub use Rattle.mr_wire.specs.declared.frame.Body.{Body}
pub use Rattle.mr_wire.specs.declared.frame.Body.TheVariants.{End, Held, Know, MoveOut, Start}
pub use Rattle.mr_wire.specs.declared.frame.Mode.{Mode}
pub use Rattle.slab.specs.Slab.{IsSlotClone, Slab, Updates, entries, entries_from, get, slab_len}
pub use Rattle.std.proofs.lemmas.Bool.{cases_eq, cases_lt, cases_order, eq-eqb, le-leb, le-ltb, lt-leb, lt-ltb, ltb-false, ltb-true, ne_eqb, or_right}
pub use Rattle.std.proofs.lemmas.Bool.Decides.{eqb_tells, nat_tests}
pub use Rattle.std.proofs.lemmas.List.{get_or_default, length-drop, map-append, take-append-drop, take-append-le, take_all, take_more}
pub use Rattle.std.proofs.lemmas.List.Folds.{list_any-append}
pub use Rattle.std.proofs.lemmas.List.Sorted.{IsPartitionPoint-from_clause, ranks_by, sorted_far, sum_by-IsPermutation}
pub use Rattle.std.proofs.lemmas.List.Sums.{sum_by-cons}
pub use Rattle.std.specs.List.{AllByRecursion, AllZip, list_any, slice_get, sum_by}
pub use Rattle.std.specs.List.Sorted.{IsNonDecreasing, IsPartitionPoint, IsPermutation, IsStrictlySortedBy}
pub use Rattle.std.specs.Option.{option_copied, option_map}
pub use Rattle.std.specs.Ordering.{is_le, is_lt, ordering_reverse}
pub use Rattle.std.specs.declared.cmp.Ordering.TheVariants.{Less}
