-- Names for proofs: of other crates, and of this crate's definitions.
pub use Rattle.mr_command.specs.Command.{happens, reads_command, reads_event, reads_named, reads_question, reads_sync, reads_words}
pub use Rattle.mr_command.specs.List.{IsVersionName, parts_of, pieces_of, united}
pub use Rattle.mr_command.specs.Reading.{Both, Reading, choose, fails, gives, gives_if, ◌andthen◌}
pub use Rattle.mr_command.specs.Reading.Both.{ends, goes_on}
pub use Rattle.mr_command.specs.Scene.{Scene}
pub use Rattle.mr_command.specs.Shape.{reads_alone, reads_two}
pub use Rattle.mr_command.specs.Words.{unwords, words}
pub use Rattle.mr_command.specs.declared.fault.LineFault.{LineFault}
pub use Rattle.mr_command.specs.declared.pool.Pool.{Pool}
pub use Rattle.mr_command.specs.declared.pool.Pool.TheVariants.{Asks, Receipts, Records}
pub use Rattle.mr_mail.specs.Flag.{bit_of, flag_name}
pub use Rattle.mr_mail.specs.Label.{different_labels, has_label, is_label, text_eq, texts_of}
pub use Rattle.mr_version.specs.Name.{IsVersion, Name, name_text}
pub use Rattle.std.proofs.lemmas.Bool.{false≢true}
pub use Rattle.std.proofs.lemmas.Bool.Decides.{Decides-eqb, nat_tests}
pub use Rattle.std.proofs.lemmas.List.{length-append, length-map, map-append}
pub use Rattle.std.proofs.lemmas.List.Splits.{join_with_byte-slice_split, length-slice_split, slice_split_first, slice_split_none}
pub use Rattle.std.proofs.lemmas.List.Sums.{fails_before_first, fold-append}
pub use Rattle.std.proofs.lemmas.Str.Pattern.{IsSplitOnceResult, split_once_first, strip_prefix_char}
pub use Rattle.std.specs.List.{IsDistinct, list_all, list_any, position_or_len, starts_with}
pub use Rattle.std.specs.Option.{MatchOption, option_copied}
pub use Rattle.std.specs.Result.{IsErrAnd, IsOkAnd, is_err}
