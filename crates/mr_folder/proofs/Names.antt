-- Names for proofs: of other crates, and of this crate's definitions.
pub use Rattle.hex.proofs.HexLemmas.{decode_of-encode_lower, decode_of-ok, decode_of-same, decode_sized-encode_lower, length-encode_with}
pub use Rattle.hex.specs.Hex.{IsBytes, decode_of, decode_sized, encode_lower, is_hex_digit, lower_digits}
pub use Rattle.mr_folder.specs.Inside.{IsFolder, IsInside, IsPart, draft_path, first_part, is_part_byte, mail_path, own_folder, part_name, stored_path}
pub use Rattle.mr_folder.specs.Memory.{Goes, Left, LeftSince, Links, MayLeave, Moves, Puts, Step, Syncs, SyncsPath, only_now, step_of, steps_of, tree_of}
pub use Rattle.mr_folder.specs.Names.{IsDigest, TellsDigests}
pub use Rattle.mr_folder.specs.Quiet.{Between, IsSnapshot, IsStill, KeepTimes, Past, TellsChanges, texts}
pub use Rattle.mr_folder.specs.Show.{HasRoom}
pub use Rattle.mr_folder.specs.Store.{GetsMail, HasMail, IsKept, IsSound, IsStore, KeepsMail, KeepsMails, OnlyStored, SameOr, StaysSound}
pub use Rattle.mr_folder.specs.Sweep.{IsUnheld, MaySweep, SweepsOnly, SweptFrom}
pub use Rattle.mr_folder.specs.Tree.{Follows, HasSame, IsUntouched, KeepsAt, LeavesAfter, LeavesOnly, MayGo, MayLink, MayMove, NoneOr, OnlyAt, Passes, Stepped, Tree}
pub use Rattle.mr_folder.specs.inner.MemoryFound.{behind_store, found_in, stored_name, target}
pub use Rattle.mr_folder.specs.inner.Names.{digest_of, if_lower}
pub use Rattle.mr_folder.specs.inner.Parts.{is_folder_text, is_part_text, parts_of}
pub use Rattle.mr_folder.specs.inner.Quiet.{AreNames, AreTimes}
pub use Rattle.sha2.specs.Sha256.{sha256}
pub use Rattle.std.proofs.Math.ListN.{get_or-eq_default, get_or-map}
pub use Rattle.std.proofs.lemmas.Bool.{and_from, and_parts, both_ways, cases_lt, eqb-true, false_from_ne_true, false≢true, not-true, not_from_false}
pub use Rattle.std.proofs.lemmas.List.{at_drop_more, ext_get_or, get_or_append_left, get_or_default, get_or_push, length-map, map-append, take-append-drop}
pub use Rattle.std.proofs.lemmas.List.{take_more}
pub use Rattle.std.proofs.lemmas.List.Sums.{AllPass-from_list_all, list_all-from_AllPass}
pub use Rattle.std.proofs.lemmas.Slice.Eq.{bytes_eq-Decides}
pub use Rattle.std.specs.Cmp.Lexicographic.{bytes_decides, nat_list_cmp_total, pointwise, slice_cmp, texts_ties}
pub use Rattle.std.specs.List.{AllByRecursion, AllPass, cons_option, filter_map, join_with_byte, list_all, onto_first, position_or_len, starts_with}
pub use Rattle.std.specs.Option.{MatchOption, option_copied, option_to_list}
pub use Rattle.std.specs.Prelude.{Contains, Err, IfOk, Ok, Result, Vec, codes, is_ok, is_some, map, nat_eq, option_map, slice_index, string_bytes, ◌==◌}
pub use Rattle.std.specs.Str.{bytes_eq}
pub use Rattle.std.specs.declared.alloc.Global.{Global}
pub use Rattle.std.specs.declared.string.String.{String}
