-- Names for proofs: of other crates, and of this crate's definitions.
pub use Rattle.memchr.specs.Find.{IsFirstByte, is_byte}
pub use Rattle.mr_command.specs.declared.command.Sync.{Sync}
pub use Rattle.mr_command.specs.declared.fault.LineFault.{LineFault}
pub use Rattle.mr_feed.specs.declared.entry.Entry.{Entry}
pub use Rattle.mr_feed.specs.declared.entry.Entry.TheVariants.{Dropped}
pub use Rattle.mr_forms.specs.Known.{Form}
pub use Rattle.mr_mail.specs.Label.{is_label}
pub use Rattle.mr_mail.specs.Mail.{Mail, MailCard}
pub use Rattle.mr_model.specs.History.{◌does◌}
pub use Rattle.mr_model.specs.declared.event.Event.{Event}
pub use Rattle.mr_model.specs.declared.event.Subscriber.TheVariants.{Indexer, Notifier}
pub use Rattle.mr_script.specs.Answer.{answer_text, bytes_text, entry_text, gave_text, sync_text}
pub use Rattle.mr_script.specs.Doing.{Doing, Follows, Prevents, happens, looking, ◌andthen◌}
pub use Rattle.mr_script.specs.Doing.Follows.{goes_on}
pub use Rattle.mr_script.specs.Fault.{NumbersItsLine, fault_of_source, fault_of_stop}
pub use Rattle.mr_script.specs.Frame.{IsAskLine, Tells, TellsFound, ask_words, bytes_of, fault_name, line_of, piece_text, pieces_text}
pub use Rattle.mr_script.specs.Holding.{spaced_names}
pub use Rattle.mr_script.specs.Question.{tells, text_of}
pub use Rattle.mr_script.specs.Run.{BeginsToPrint, Breaks, LeadsTo, LineDoes, Prints, PrintsSoFar, Runs, bare, end_of}
pub use Rattle.mr_script.specs.Run.Runs.{all_run, at_fault, breaks, too_long}
pub use Rattle.mr_script.specs.Script.{Accounts, IsNextLine, TakesLine, lines_of, looked_at, source_remaining}
pub use Rattle.mr_script.specs.Stage.{Stage, happens_told, sizes_of}
pub use Rattle.mr_script.specs.Stage.InWorld.{done, not_begun}
pub use Rattle.mr_script.specs.Sync.{Rounds, TakesAll, closes, counts_of, cuts_in, cuts_out, is_item, is_move_out, most_of, round}
pub use Rattle.mr_script.specs.Taken.{Lists, cards_of, index_text, taken_at, taken_of, unseen_text}
pub use Rattle.mr_script.specs.declared.fault.ScriptFault.{ScriptFault}
pub use Rattle.mr_script.specs.declared.fault.ScriptFault.TheVariants.{Line, Read, TooLong, Write}
pub use Rattle.mr_script.specs.declared.source.TheConstants.{MAX_SCRIPT_BYTES}
pub use Rattle.mr_script.specs.declared.sync_line.SyncCounts.{SyncCounts}
pub use Rattle.mr_script.specs.declared.sync_line.SyncEnd.{SyncEnd}
pub use Rattle.mr_script.specs.declared.sync_line.SyncEnd.TheVariants.{Cut, Finished, Refused}
pub use Rattle.mr_script.specs.inner.Doing.{newest}
pub use Rattle.mr_script.specs.inner.Frame.{GivesBytes, after_spaces}
pub use Rattle.mr_script.specs.inner.Run.{Goes, Leads, NextGoes, RanTo}
pub use Rattle.mr_script.specs.inner.Sync.{MayDraw, MayOpenSession, MayOpenStream, MayTake, counts_with}
pub use Rattle.mr_subs.specs.Subscriber.{ShowsFold, ShowsFold-append}
pub use Rattle.mr_version.specs.Name.{Name, name_text}
pub use Rattle.mr_wire.specs.Frames.{Question, Sent}
pub use Rattle.mr_world.specs.Kept.{WorldView}
pub use Rattle.mr_world.specs.Run.{Happens, IsStopFault, asked_in}
pub use Rattle.mr_world.specs.declared.answer.Answer.{Answer}
pub use Rattle.mr_world.specs.declared.answer.Answer.TheVariants.{Empty, Offered, Stepped, TookEntry}
pub use Rattle.mr_world.specs.declared.answered.Answered.{Answered}
pub use Rattle.std.proofs.Math.Seq.{get_or-append_seam, take-add}
pub use Rattle.std.proofs.Transfers.{StopsAt-take, drop-appended, starts_with_of_append}
pub use Rattle.std.proofs.lemmas.Bool.{cases_Bool, false_from_ne_true}
pub use Rattle.std.proofs.lemmas.List.{append-nil, take-take, take_more}
pub use Rattle.std.proofs.lemmas.List.Elements.{All-from_get_or, All-nil, filter_map-append}
pub use Rattle.std.proofs.lemmas.Option.{IfSome_then, slice_get_read}
pub use Rattle.std.proofs.lemmas.Result.{err_from_is_err_and}
pub use Rattle.std.specs.Fmt.{decimal, digits}
pub use Rattle.std.specs.Io.BufRead.{DropsConsumable, DropsThrough, drop_through, take_through}
pub use Rattle.std.specs.Io.KnownBytes.{Appends, Consumes, Keeps, prepend_known}
pub use Rattle.std.specs.List.{cons_option, flat_map, onto_first}
pub use Rattle.std.specs.Option.{option_map, option_to_list}
pub use Rattle.std.specs.Prelude.{IfErr, codes, slice_get}
pub use Rattle.std.specs.declared.alloc.Global.{Global}
pub use Rattle.std.specs.declared.string.String.{String}
