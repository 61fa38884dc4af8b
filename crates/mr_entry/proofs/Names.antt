-- Names for proofs: of other crates, and of this crate's definitions.
pub use Rattle.mr_entry.specs.Decoding.{Answers, AnswersEvent, counted_event, decoded, entry_read, event_decoded, event_read, head_read, kind_and_parts}
pub use Rattle.mr_entry.specs.Decoding.{nexts_read, note_read, parts_read, rest_faults, whole_event}
pub use Rattle.mr_entry.specs.Grammar.{IsEntry, IsEvent, Spells, SpellsEvent}
pub use Rattle.mr_entry.specs.Parts.{edit_at, event_at, filter_text_at, frame_kind_at, framed_at, head_at, nexts_at, note_at, versions_at}
pub use Rattle.mr_entry.specs.Spelling.{entry_bytes, event_bytes, event_kind, event_parts, framed_bytes, kind_byte, note_bytes, part_bytes, rest_bytes}
pub use Rattle.mr_entry.specs.Spelling.{setting_bytes}
pub use Rattle.mr_mail.specs.Mail.{Mail}
pub use Rattle.mr_replica.specs.declared.event.Event.{Event}
pub use Rattle.mr_version.specs.Name.{Name}
pub use Rattle.mr_wire.proofs.FrameLaws.{as_again, as_takes, frame_again, frame_takes, reads_ask, reads_receipt}
pub use Rattle.mr_wire.proofs.Laws.{Reads, RunFits, bind_some, reads_as, reads_bytes, reads_counted, reads_like, reads_only, reads_run, reads_then, reads_u16}
pub use Rattle.mr_wire.proofs.Laws.{reads_u32, reads_u64, reads_u8, some_is}
pub use Rattle.mr_wire.proofs.PartLaws.{reads_author, reads_name}
pub use Rattle.mr_wire.proofs.PrefixLaws.{or_ok, same_front, test_ok, then_ok, value_again, value_takes, whole_found}
pub use Rattle.mr_wire.proofs.RunLemmas.{Running}
pub use Rattle.mr_wire.specs.Grammar.{IsFrame, IsItem}
pub use Rattle.mr_wire.specs.Parts.{message_at, name_at}
pub use Rattle.mr_wire.specs.Reading.{Reader, Stands, as_at, bytes_at, number_at, ◌>>=◌}
pub use Rattle.mr_wire.specs.Spelling.{message_bytes, name_bytes, u16, u32, u64, u8}
pub use Rattle.std.proofs.lemmas.Bool.{eqb-true}
pub use Rattle.std.proofs.lemmas.List.{append-nil, drop_at, length-append, length-replicate, take-append-drop, take_at}
pub use Rattle.std.specs.Int.{w16, w32, w8}
pub use Rattle.std.specs.List.{AllByRecursion, flat_map}
pub use Rattle.std.specs.Prelude.{All, IfOk, IfSome, IsSomeAnd, MatchOption}
