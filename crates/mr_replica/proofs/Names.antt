-- Names for proofs: of other crates, and of this crate's definitions.
pub use Rattle.mr_concise.proofs.LastLemmas.{bound-is_last, column_has-above}
pub use Rattle.mr_concise.proofs.VersionLemmas.{few-vector}
pub use Rattle.mr_concise.specs.AnyOf.{in_any}
pub use Rattle.mr_concise.specs.Fragments.{ConciseFragment, IsConciseOf, IsTooHoley, fragment_text, knowledge_text}
pub use Rattle.mr_concise.specs.Vector.{HasTooManyHoles, IsVectorFrom, IsVectorOf, column_of, vector_has}
pub use Rattle.mr_concise.specs.declared.vector.AuthorColumn.{AuthorColumn}
pub use Rattle.mr_feed.specs.declared.entry.Entry.{Entry}
pub use Rattle.mr_feed.specs.declared.entry.Entry.TheVariants.{Added, Dropped}
pub use Rattle.mr_filter.specs.Filter.{ClauseParts}
pub use Rattle.mr_forms.proofs.LearnedLemmas.{learned_itself, learned_keeps, learned_with_itself, learned_with_keeps}
pub use Rattle.mr_forms.proofs.PartLemmas.{AllPairs-head, AllPairs-tail, Contains-map, parts_that-unique}
pub use Rattle.mr_forms.specs.ByMeaning.{AreOneValue, IsByMeaning}
pub use Rattle.mr_forms.specs.Covered.{HasItems, all_covered, covered, has_item, listed_items}
pub use Rattle.mr_forms.specs.Known.{AreSame, Form, HasValue, IsOverHolesInTurn, IsOverItemsInTurn, Pairs, Part, learned, learned_of, with_pairs}
pub use Rattle.mr_forms.specs.Parts.{AreListable, ArePartsThat, ComesFirst, part_of}
pub use Rattle.mr_forms.specs.Sets.{IsSame, Versions, is_listed}
pub use Rattle.mr_forms.specs.declared.fault.FormFault.{FormFault}
pub use Rattle.mr_forms.specs.declared.fragment.Fragment.{Fragment}
pub use Rattle.mr_forms.specs.declared.fragment.ItemSet.{ItemSet}
pub use Rattle.mr_madewith.proofs.MadeWithLemmas.{columns_unique}
pub use Rattle.mr_madewith.proofs.Rising.{head_before, name_eq-swap, name_eq_self, named-filter, rises-filter, rises-inserted, same_names, sides_of}
pub use Rattle.mr_madewith.proofs.Rising.{tail_rises, unnamed}
pub use Rattle.mr_madewith.specs.Keyed.{inserted, is_before, without}
pub use Rattle.mr_madewith.specs.MadeWith.{AreColumnsOf, by_bases, filled_below, own_before}
pub use Rattle.mr_madewith.specs.Revision.{IsRevision, Rev, by_base, has_below}
pub use Rattle.mr_madewith.specs.Trail.{Track, item_of_last, last_of}
pub use Rattle.mr_mail.specs.Mail.{Mail, card_of}
pub use Rattle.mr_replica.specs.Admission.{log_full}
pub use Rattle.mr_replica.specs.Alike.{AreAlike, seen}
pub use Rattle.mr_replica.specs.Answer.{Keeps, KeepsHoley, answer_refusal, answering, asked_of, mode_for}
pub use Rattle.mr_replica.specs.Create.{created}
pub use Rattle.mr_replica.specs.CutIn.{cut_in_refusal, cutting_in}
pub use Rattle.mr_replica.specs.CutOut.{cut_out_refusal, cutting_out}
pub use Rattle.mr_replica.specs.Edit.{are_all_of, edit_refusal, edited, edited_item, item_refusal, not_held, own_left}
pub use Rattle.mr_replica.specs.Forged.{has_early, is_early, is_early_line, is_forged, is_misfiled, line_of}
pub use Rattle.mr_replica.specs.Fragments.{AreFragmentsOf, HasHoleyPart, HaveKnown}
pub use Rattle.mr_replica.specs.Growing.{FeedGrows, IsOfSameSetting, PushOutFeedGrows}
pub use Rattle.mr_replica.specs.Issue.{FirstFault, Fits, HasFault, Issue, Issues, Wanted, Wanted.Knowledge, Wanted.Vector, added, below_for, below_of_issue}
pub use Rattle.mr_replica.specs.Issue.{dropped, entered_if, if_so, is_selected, issuing, logged, nothing, revision_for, revisions_of, told_more}
pub use Rattle.mr_replica.specs.Issue.{version_learned, wanted_by_issue}
pub use Rattle.mr_replica.specs.Next.{GivesNext, held_now, next_refusal}
pub use Rattle.mr_replica.specs.Pieces.{ArePiecesOf, IsPieceOf}
pub use Rattle.mr_replica.specs.Pull.{AreAsked, IsAskOf, IsLongestWithin, pull_refusal, pulling}
pub use Rattle.mr_replica.specs.Receive.{Ends, EndsSession, TakesBody, TakesFrame, TakesLine, arrival_alone, arrived, ending, entering, finished, is_unheld}
pub use Rattle.mr_replica.specs.Receive.{learning, line_learned, merged_by, merges, moved_on, receive_refusal, record_refusal, session_for, session_refusal}
pub use Rattle.mr_replica.specs.Receive.{wanted_by_body, wanted_by_end, wanted_by_frame, wanted_by_line}
pub use Rattle.mr_replica.specs.Refusal.{refusal_of, refusal_of_session, refused_if, ◌orelse◌}
pub use Rattle.mr_replica.specs.Release.{release_refusal, released, releasing, vouched}
pub use Rattle.mr_replica.specs.Replay.{Admits, AdmitsAll, IsForMemory, IsFresh, IsItsLog, IsReplayFault, Replays, StopsAt}
pub use Rattle.mr_replica.specs.Retire.{has_any, retire_refusal, retiring}
pub use Rattle.mr_replica.specs.State.{State, item_of_held, new_state, next_version}
pub use Rattle.mr_replica.specs.Step.{Answers, Changes, IsDecided, RefusesLate, Steps, first_refusal, wanted_by}
pub use Rattle.mr_replica.specs.StepThen.{answer_of}
pub use Rattle.mr_replica.specs.Vouch.{IsReceiptFor, receipt_for, vouch_refusal}
pub use Rattle.mr_replica.specs.Wanting.{FirstFits, FitBeforeMemory}
pub use Rattle.mr_replica.specs.declared.event.Event.{Event}
pub use Rattle.mr_replica.specs.declared.event.Event.TheVariants.{Answer, Create, CutIn, CutOut, Edit, Next, Pull, Receive, Release, Retire, Vouch}
pub use Rattle.mr_replica.specs.declared.event.Reply.{Reply}
pub use Rattle.mr_replica.specs.declared.event.Reply.TheVariants.{Asked, Done, Finished, Gave, Issued, Known, Streaming, Took, Vouched}
pub use Rattle.mr_replica.specs.declared.refusal.Refusal.{Refusal}
pub use Rattle.mr_replica.specs.declared.refusal.Refusal.TheVariants.{Forged, Gap, LogFull, MixedItems, NoBase, NoSession, NoStream, NotARecord, NotForMe}
pub use Rattle.mr_replica.specs.declared.refusal.Refusal.TheVariants.{NotHeld, NotPushedOut, NotStart, OtherStream, OutOfMemory, OwnAsk, OwnHeadLeft}
pub use Rattle.mr_replica.specs.declared.refusal.Refusal.TheVariants.{PushOutsLeft, Repeated, Retired, TooManyHoles, TooManyItems, TooManySessions}
pub use Rattle.mr_replica.specs.declared.refusal.Refusal.TheVariants.{TooManyStreams}
pub use Rattle.mr_replica.specs.inner.Issued.{IsNext, RefusesMade}
pub use Rattle.mr_replica.specs.inner.Next.{going_on}
pub use Rattle.mr_replica.specs.inner.Parts.{Enters, IsDueIn, IsPut, MayPut, Puts, ended_in, entered_in, parts_seen, released_in, told_in}
pub use Rattle.mr_replica.specs.inner.Prepare.{IsChanged, IsOpeningFor, IsPrepared, IsToEnter, MayApply, Prepares, PreparesEnd, PreparesLate, PreparesLine}
pub use Rattle.mr_replica.specs.inner.Sound.{AreHeld, AreNoLater, AreWithin, IsKept, IsNoLater, IsSound}
pub use Rattle.mr_replica.specs.inner.Taking.{RefusesEnd, RefusesEnding, RefusesMerged, below_told, news_told, told_by, told_line}
pub use Rattle.mr_session.proofs.DrawnLemmas.{gives_unique, same_gives}
pub use Rattle.mr_session.specs.Onward.{advanced, after_given, gone_on, is_last}
pub use Rattle.mr_session.specs.Session.{Session, after_record, first_fault, is_full, is_start, new_session, with_taken}
pub use Rattle.mr_session.specs.Stream.{GivesIn, Stream, claimed, lists, new_stream}
pub use Rattle.mr_session.specs.Table.{Numbered, Table, at, changed, empty_table, open_at, with_changed, with_closed, with_opened}
pub use Rattle.mr_session.specs.declared.outgoing.onward.Onward.{Onward}
pub use Rattle.mr_store.proofs.HoldingLemmas.{revision_of-neither}
pub use Rattle.mr_store.specs.HeldVersions.{by_held}
pub use Rattle.mr_store.specs.Holdings.{Holdings}
pub use Rattle.mr_store.specs.Leaving.{leaves}
pub use Rattle.mr_store.specs.Revisions.{AreInVersionOrder, entered, has_conflict, holds, left_by, revision_of, supersedes, version_of, versions_of}
pub use Rattle.mr_version.specs.Name.{Name, name_cmp, name_eq}
pub use Rattle.mr_wire.specs.Encoding.{total_len}
pub use Rattle.mr_wire.specs.Frames.{FragmentsRise, IsIndexOf, IsQuestion, IsSent, Question, Sent, least_follows}
pub use Rattle.mr_wire.specs.Spelling.{fragment_bytes, items_bytes, vector_bytes}
pub use Rattle.mr_wire.specs.Values.{AreItems, DescentParts, ItemsRise, Piece, least_item, piece_of}
pub use Rattle.mr_wire.specs.declared.frame.Body.{Body}
pub use Rattle.mr_wire.specs.declared.frame.Body.TheVariants.{End, Held, Item, Know, MoveOut, Start}
pub use Rattle.mr_wire.specs.declared.frame.Frame.{Frame}
pub use Rattle.mr_wire.specs.declared.frame.Frame.TheVariants.{Ask, Record}
pub use Rattle.mr_wire.specs.declared.frame.Header.{Header}
pub use Rattle.mr_wire.specs.declared.frame.Mode.{Mode}
pub use Rattle.mr_wire.specs.declared.frame.Mode.TheVariants.{Full, Partial}
pub use Rattle.mr_wire.specs.declared.frame.Receipt.{Receipt}
pub use Rattle.mr_wire.specs.declared.frame.TheConstants.{MAX_ASKED_BYTES}
pub use Rattle.std.proofs.lemmas.Bool.{and_parts, cases_Bool, cases_lt, false≢true, leb-false, ltb-false, ltb-true, not-false, or_cases, or_left, or_parts}
pub use Rattle.std.proofs.lemmas.Bool.{or_right}
pub use Rattle.std.proofs.lemmas.List.{append-nil, append_assoc, length-append, length_push, map-append, take_more}
pub use Rattle.std.proofs.lemmas.List.Elements.{All-append, All-cons, All-contains, All-filter, All-head, All-map, All-nil, All-push, All-tail, All-weaker}
pub use Rattle.std.proofs.lemmas.List.Elements.{filter-append}
pub use Rattle.std.proofs.lemmas.Option.{IfSome_then, cond_some}
pub use Rattle.std.proofs.lemmas.Result.{IfOk-weaker, err_from_is_err_and, on_ok_weaker}
pub use Rattle.std.specs.List.{All, AllByRecursion, AllPairs, AllZip, Any, cons_option, filter_map, find, list_all, list_any}
pub use Rattle.std.specs.Option.{IfSome, MatchOption, is_none, option_copied, option_map, option_map_or, unwrap_or}
pub use Rattle.std.specs.Ordering.{is_eq, is_lt}
pub use Rattle.std.specs.Vec.Iter.{into_iter_items}
pub use Rattle.std.specs.declared.cmp.Ordering.TheVariants.{Less}
