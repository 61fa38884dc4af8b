-- Names for proofs: of other crates, and of this crate's definitions.
pub use Rattle.hex.proofs.HexLemmas.{decode_sized-encode_lower, length-encode_with}
pub use Rattle.hex.specs.Hex.{decode_sized, encode_lower, encode_with, lower_digits}
pub use Rattle.mr_mail.proofs.FlagLemmas.{flags_alike, passes-below, passes_below}
pub use Rattle.mr_mail.specs.Flag.{flag_eq, has_flag}
pub use Rattle.mr_mail.specs.Label.{has_label, is_label, is_label_byte, text_cmp, text_eq}
pub use Rattle.mr_mail.specs.declared.flags.Flag.{Flag}
pub use Rattle.mr_mail.specs.declared.flags.Flag.TheVariants.{Answered, Deleted, Draft, Flagged, Seen}
pub use Rattle.mr_maildir.specs.File.{FileParts, file_eq, file_eq_decides, has_file, letters_on}
pub use Rattle.mr_maildir.specs.FileActs.{Mail, acts_for, after, done, first_in, first_seen, is_blocked, is_blocked_from, is_blocked_where, is_fit}
pub use Rattle.mr_maildir.specs.FileActs.{is_fit_byte, is_free, is_from_new, is_kept, is_one, is_taken, kept_in, letters_from, link_in, link_where, mail_of}
pub use Rattle.mr_maildir.specs.FileActs.{makes, move_in, move_where, name_in, or_else, overwrites_nothing, own_name, placed, put_in, remove_of}
pub use Rattle.mr_maildir.specs.FileActs.{standing_files, standing_from, standing_in, takes, telling_in, tells, touches, without}
pub use Rattle.mr_maildir.specs.Folder.{digest_label, folder_name, is_kept_name, is_name_for, is_part_name, is_plain, is_safe_folder, label_of}
pub use Rattle.mr_maildir.specs.Header.{begins, first_group, from_first, is_end, is_folded, value_in, without_return}
pub use Rattle.mr_maildir.specs.Layout.{IsFolderPath, admits, cut_at, dotted_name, folder_path, is_level, is_path_level, is_read_level, name_at, name_for}
pub use Rattle.mr_maildir.specs.Layout.{path_of}
pub use Rattle.mr_maildir.specs.Letters.{flag_told, flags_told, flags_where, has_letter, is_info_byte, is_there, letters_with, stays_on, tells_flag}
pub use Rattle.mr_maildir.specs.Letters.{with_flag_if}
pub use Rattle.mr_maildir.specs.Listing.{printed, printed_char, printed_chars, spaced}
pub use Rattle.mr_maildir.specs.Merging.{asked, differ, merged_view, over, stays, stays_flagged, stays_in, with_say}
pub use Rattle.mr_maildir.specs.Name.{AreParts, HasLetters, IsMadeName, IsName, LacksLetters, NameParts, info_text, is_safe_byte, is_safe_name, lacks_colon}
pub use Rattle.mr_maildir.specs.Name.{name_text}
pub use Rattle.mr_maildir.specs.Path.{IsPathPart, is_path_byte}
pub use Rattle.mr_maildir.specs.Reference.{IsDigest, ReferenceParts}
pub use Rattle.mr_maildir.specs.Told.{behind_key, first_told, folder_key, lines_behind, name_key, told_by, with_folder, with_line, with_name}
pub use Rattle.mr_maildir.specs.View.{IsView, ViewParts, in_order, is_gone, is_nowhere, nowhere, view_eq, with_label}
pub use Rattle.mr_maildir.specs.declared.plan.FileAct.{FileAct}
pub use Rattle.mr_maildir.specs.declared.plan.FileAct.TheVariants.{Link, Move, Remove}
pub use Rattle.mr_maildir.specs.inner.FileActs.{mail_in}
pub use Rattle.mr_maildir.specs.inner.Told.{is_one_line}
pub use Rattle.std.proofs.lemmas.Bool.{and_from, and_parts, cases_Bool, cases_lt, cond-true, eq-eqb, eqb-false, eqb-true, false≢true, le-leb, leb-true}
pub use Rattle.std.proofs.lemmas.Bool.{ltb-false, ne_eqb, not-true, not_from_false, or_cases, or_left, or_parts, or_right}
pub use Rattle.std.proofs.lemmas.Iterator.{YieldsList-from_chars, YieldsList-from_slice}
pub use Rattle.std.proofs.lemmas.Iterator.Consumers.{YieldsList-at, YieldsList-end, map_from_collect}
pub use Rattle.std.proofs.lemmas.Iterator.Search.{YieldsList-from_take_while, all_from_yields_List, position_from_yields_List}
pub use Rattle.std.proofs.lemmas.Iterator.Splits.{YieldsList-from_slice_split, YieldsList-from_str_split}
pub use Rattle.std.proofs.lemmas.List.{drop-map, drop_at, get_or-take, get_or_past, get_or_read, length-take-le, take-map, take_at, take_more}
pub use Rattle.std.proofs.lemmas.List.Elements.{All-from_get_or, All-from_recursion, All-nil, filter-append, filter_more, recursion_from_All}
pub use Rattle.std.proofs.lemmas.List.Folds.{list_any-append}
pub use Rattle.std.proofs.lemmas.List.Sorted.{list_any-IsPermutation}
pub use Rattle.std.proofs.lemmas.List.Sums.{AllPass-from_list_all, list_all-from_AllPass}
pub use Rattle.std.proofs.lemmas.Map.Views.{any-filter_same}
pub use Rattle.std.proofs.lemmas.Result.{IfOk-weaker, on_ok_weaker}
pub use Rattle.std.proofs.lemmas.Str.Pattern.{IsSplitOnceResult, split_parts, starts_text}
pub use Rattle.std.specs.Borrow.{Bor}
pub use Rattle.std.specs.Cmp.Lexicographic.{bytes_decides, nat_list_cmp_total, pointwise, pointwise_decides, texts_ties}
pub use Rattle.std.specs.Fmt.{decimal}
pub use Rattle.std.specs.List.{AllByRecursion, AllPass, dedup, flat_map, join_by, join_with_byte, list_all, list_any, onto_first, position_or_len, prefix_len}
pub use Rattle.std.specs.List.{range_with_len, slice_split, starts_with}
pub use Rattle.std.specs.List.Sorted.{IsPermutation, IsSorted, IsStrictlySortedBy}
pub use Rattle.std.specs.Option.{MatchOption, option_copied}
pub use Rattle.std.specs.Prelude.{[], codes, filter, find, if◌then◌else◌, is_some, length, nat_eq, nat_le, option_map, replicate, slice_index, take, ◌==◌}
pub use Rattle.std.specs.Prelude.{◌∷◌}
pub use Rattle.std.specs.Str.{IsUtf8, chars, encode_utf8_all}
