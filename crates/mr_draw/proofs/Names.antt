-- Names for proofs: of other crates, and of this crate's definitions.
pub use Rattle.mr_draw.specs.Contested.{merged_by, rivals_at}
pub use Rattle.mr_draw.specs.Ends.{is_of_stream, last_of_stream}
pub use Rattle.mr_draw.specs.Escape.{entity}
pub use Rattle.mr_draw.specs.Happened.{Happened}
pub use Rattle.mr_draw.specs.Happening.{Dot, dot_as, dot_at, dots, happening_at, happenings_from, happenings_of, issued_in, issued_versions, kind_of_answer}
pub use Rattle.mr_draw.specs.Happening.{kind_of_done, kind_of_opened, kind_of_taken, lane_of}
pub use Rattle.mr_draw.specs.Lanes.{below, lane_at}
pub use Rattle.mr_draw.specs.Mark.{column_of, x_of}
pub use Rattle.mr_draw.specs.NoteLists.{NoteLists}
pub use Rattle.mr_draw.specs.Picture.{HasFilter, IsWritten, named_at, named_by, named_from}
pub use Rattle.mr_draw.specs.Sheet.{name_y, named_text, title_text}
pub use Rattle.mr_draw.specs.Sign.{AreMarksOf, IsMarkOf}
pub use Rattle.mr_draw.specs.Words.{mail_title}
pub use Rattle.mr_draw.specs.declared.marks.TheConstants.{MAX_ROWS}
pub use Rattle.mr_version.specs.Name.{Name, name_text}
pub use Rattle.mr_version.specs.declared.author.TheConstants.{AUTHORS}
pub use Rattle.mr_world.specs.declared.answered.Answered.{Answered}
pub use Rattle.std.proofs.lemmas.Iterator.{YieldsList-from_chars, YieldsList-from_slice, items_from_collect}
pub use Rattle.std.proofs.lemmas.Iterator.Consumers.{YieldsList-from_filter_map}
pub use Rattle.std.proofs.lemmas.List.{length-take-le, map-append, take_more}
pub use Rattle.std.proofs.lemmas.List.Elements.{All-push, filter_map-append}
pub use Rattle.std.proofs.lemmas.Result.{IfOk-weaker, on_ok_weaker}
pub use Rattle.std.specs.Fmt.{decimal}
pub use Rattle.std.specs.List.{cons_option, enumerate_from, filter_map}
pub use Rattle.std.specs.Option.{option_map, option_or, option_to_list}
