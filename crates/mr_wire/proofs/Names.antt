-- Names for proofs: of other crates, and of this crate's definitions.
pub use Rattle.mr_concise.specs.Column.{IsColumn, column_has, empty_column, hole_edges, hole_has}
pub use Rattle.mr_concise.specs.Vector.{IsVectorFrom, vector_has}
pub use Rattle.mr_concise.specs.declared.column.Hole.{Hole}
pub use Rattle.mr_concise.specs.declared.vector.AuthorColumn.{AuthorColumn}
pub use Rattle.mr_filter.specs.Filter.{ClauseParts, IsClause, IsFilter, clause_with}
pub use Rattle.mr_madewith.specs.Revision.{IsRevision, Rev}
pub use Rattle.mr_mail.specs.Label.{IsLabelSet, is_label, is_label_byte, text_cmp}
pub use Rattle.mr_mail.specs.Mail.{Mail}
pub use Rattle.mr_version.specs.Name.{IsVersion, Name, name_eq}
pub use Rattle.mr_wire.specs.Decoding.{Answers, decoded, kind_and_parts, rest_faults, whole_frame}
pub use Rattle.mr_wire.specs.Encoding.{total_len}
pub use Rattle.mr_wire.specs.FrameParts.{ask_at, asked_at, body_at, frame_at, header_at, index_fits, mode_at, mode_of, next_asked, receipt_at, record_at}
pub use Rattle.mr_wire.specs.FrameParts.{rev_with, revision_at, serial_at}
pub use Rattle.mr_wire.specs.FrameSpelling.{ask_bytes, body_bytes, descent_of, frame_bytes, header_bytes, kind_of, kind_of_body, mode_byte, part_bytes}
pub use Rattle.mr_wire.specs.FrameSpelling.{rest_bytes}
pub use Rattle.mr_wire.specs.Frames.{FragmentsRise, IsIndexOf, IsQuestion, IsSent, Question, Sent, least_follows}
pub use Rattle.mr_wire.specs.Grammar.{AreFramed, IsAsked, IsDescent, IsFrame, IsFramed, IsHeader, IsItem, IsLetter, IsSaid, Spells}
pub use Rattle.mr_wire.specs.Kinds.{kind_byte, kind_of_byte}
pub use Rattle.mr_wire.specs.Parts.{author_at, clause_at, column_at, column_holes_at, columns_at, counter_at, descent_at, filter_at, flags_at, fragment_at}
pub use Rattle.mr_wire.specs.Parts.{hole_at, holes_at, is_descent, item_at, items_at, label_at, label_follows, labels_at, listed_items_at, message_at}
pub use Rattle.mr_wire.specs.Parts.{message_body_at, name_at, text_at, vector_at}
pub use Rattle.mr_wire.specs.Reading.{KeepsMore, Reader, Stands, as_at, bytes_at, counted_at, is_byte, number_at, only_at, run_at, then_at, ◌>>=◌}
pub use Rattle.mr_wire.specs.Spelling.{card_bytes, clause_bytes, column_bytes, descent_bytes, filter_bytes, fragment_bytes, hole_bytes, items_bytes}
pub use Rattle.mr_wire.specs.Spelling.{label_bytes, labels_bytes, message_bytes, name_bytes, u16, u32, u64, u8, vector_bytes}
pub use Rattle.mr_wire.specs.Values.{AreItems, DescentParts, ItemsRise, Piece, item_follows, least_item, listed_items}
pub use Rattle.mr_wire.specs.declared.decoding.TheConstants.{MAX_REST_BYTES}
pub use Rattle.mr_wire.specs.declared.fault.WireFault.TheVariants.{BadBody, BadFormat, BadKind, TooLong, Truncated}
pub use Rattle.mr_wire.specs.declared.frame.Body.{Body}
pub use Rattle.mr_wire.specs.declared.frame.Frame.{Frame}
pub use Rattle.mr_wire.specs.declared.frame.Header.{Header}
pub use Rattle.mr_wire.specs.declared.frame.Receipt.{Receipt}
pub use Rattle.mr_wire.specs.declared.kind.Kind.{Kind}
pub use Rattle.mr_wire.specs.declared.vector.Counters.{Counters}
pub use Rattle.mr_wire.specs.declared.vector.Head.{Head}
pub use Rattle.mr_wire.specs.declared.vector.Seen.{Seen}
pub use Rattle.mr_wire.specs.declared.vector.Watch.{Watch}
pub use Rattle.mr_wire.specs.inner.Items.{first_item, first_or, next_item}
pub use Rattle.mr_wire.specs.inner.Labels.{message_with, next_label}
pub use Rattle.mr_wire.specs.inner.Watch.{AreHad, AreIn, AreSeen, IsHead, either_seen, is_in_column, name_of_place, seen_with}
pub use Rattle.std.proofs.lemmas.Bool.{eq-eqb, eqb-true, le-leb, le-ltb, leb-true, lt-leb, lt-ltb, ltb-false, ltb-true, ne_eqb}
pub use Rattle.std.proofs.lemmas.List.{append-nil, drop_at, length-append, length-take, nil_from_length, take-append-drop, take_at, take_more}
pub use Rattle.std.proofs.lemmas.List.Concat.{flat_map-append, flat_map-cons, length-flat_map}
pub use Rattle.std.proofs.lemmas.List.Elements.{All-from_recursion, All-more, recursion_from_All}
pub use Rattle.std.specs.Global.{Vec}
pub use Rattle.std.specs.Int.{Width, byte_len, from_be_bytes, to_be_bytes, w16, w32, w64, w8}
pub use Rattle.std.specs.List.{AllByRecursion, flat_map, list_all, list_any}
pub use Rattle.std.specs.Prelude.{All, IfOk, IfSome, IsSomeAnd, MatchOption, OnOk, if◌then◌else◌, nat_le, nat_lt, not, ◌==◌}
