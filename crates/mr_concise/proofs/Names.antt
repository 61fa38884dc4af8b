-- Names for proofs: of other crates, and of this crate's definitions.
pub use Rattle.mr_concise.specs.AnyOf.{in_any, lower_of}
pub use Rattle.mr_concise.specs.Column.{Extent, IsColumn, column_has, edges, empty_column, filled, gap, hole_edges, hole_has, with_counter}
pub use Rattle.mr_concise.specs.Edges.{IsRising}
pub use Rattle.mr_concise.specs.Fragments.{ConciseFragment, IsConciseOf, IsTooHoley, fragment_text}
pub use Rattle.mr_concise.specs.Next.{HasNoneFrom, IsNextIn, IsNextOut}
pub use Rattle.mr_concise.specs.Source.{ColumnsHaveAtMost, HasAtLeastHoles, HasAtMostHoles, HasFewerHoles, HasHoles, IsColumnOf}
pub use Rattle.mr_concise.specs.Text.{column_text, hole_text}
pub use Rattle.mr_concise.specs.Vector.{HasTooManyHoles, IsVectorFrom, IsVectorOf, column_of, vector_has, with_column}
pub use Rattle.mr_concise.specs.declared.column.Hole.{Hole}
pub use Rattle.mr_concise.specs.declared.column.TheConstants.{COUNTERS_END, MAX_HOLES}
pub use Rattle.mr_concise.specs.declared.vector.AuthorColumn.{AuthorColumn}
pub use Rattle.mr_concise.specs.inner.AnyOf.{IsPassed}
pub use Rattle.mr_concise.specs.inner.Column.{AreApart, ColumnCovers}
pub use Rattle.mr_concise.specs.inner.Edges.{is_on}
pub use Rattle.mr_concise.specs.inner.Next.{HasNoHoleFrom, IsGapFrom, IsHoleFrom}
pub use Rattle.mr_concise.specs.inner.Source.{HasFewHoles, HasManyHoles}
pub use Rattle.mr_concise.specs.inner.Vector.{AreColumns, in_column, with_columns, with_one}
pub use Rattle.mr_forms.specs.Runs.{HasNoAuthorFrom, HasNoneOf, HasVersionsAlone, IsNextAuthor, StandsBefore, in_run, in_runs, of_author, with_run}
pub use Rattle.mr_forms.specs.Sets.{Covers, IsSame, Versions, both, is_listed, with_version}
pub use Rattle.mr_forms.specs.declared.fault.FormFault.{FormFault}
pub use Rattle.mr_forms.specs.declared.fault.FormFault.TheVariants.{TooManyHoles}
pub use Rattle.mr_forms.specs.declared.run.Run.{Run}
pub use Rattle.mr_version.specs.Name.{IsVersion, Name, name_eq, name_text}
pub use Rattle.mr_version.specs.declared.version.TheConstants.{MAX_COUNTER}
pub use Rattle.std.proofs.Math.Seq.{get_or-append_seam}
pub use Rattle.std.proofs.lemmas.Bool.{and_parts, and_right, cases_Bool, cases_eq, cases_lt, cases_order, eq-eqb, eqb-true, false≢true, le-leb, le-ltb}
pub use Rattle.std.proofs.lemmas.Bool.{leb-true, lt-leb, lt-ltb, ltb-false, ltb-true, ne_eqb, or_right, true≢false}
pub use Rattle.std.proofs.lemmas.Bool.Decides.{nat_tests}
pub use Rattle.std.proofs.lemmas.Grind.{common_steps, put_two}
pub use Rattle.std.proofs.lemmas.List.{append-nil, drop_more, flat_map_more, get_or_append_left, get_or_default, length-take-le, take_more}
pub use Rattle.std.proofs.lemmas.List.Folds.{list_any-append, list_any_at, list_any_more, list_any_none}
pub use Rattle.std.proofs.lemmas.Result.{IfOk-weaker, on_ok_weaker}
pub use Rattle.std.specs.Fmt.{HasWritten, IsPlainFormatter}
pub use Rattle.std.specs.List.{AllZip, Any, flat_map, list_any}
pub use Rattle.std.specs.List.Sorted.{IsNonDecreasingBy, IsPartitionPoint}
pub use Rattle.std.specs.Prelude.{AllPairs, IfNone, IfOk, IfSome, IsErrOf, IsTrue, OnErr, OnOk, Result, if◌then◌else◌}
pub use Rattle.std.specs.Vec.{vec_capacity, vec_len}
pub use Rattle.std.specs.Vec.Iter.{into_iter_items}
