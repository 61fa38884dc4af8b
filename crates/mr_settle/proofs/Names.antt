-- Names for proofs: of other crates, and of this crate's definitions.
pub use Rattle.mr_filter.specs.Filter.{ClauseParts}
pub use Rattle.mr_forms.proofs.PartLemmas.{AllPairs-head, AllPairs-tail}
pub use Rattle.mr_forms.specs.ByMeaning.{IsByMeaning}
pub use Rattle.mr_forms.specs.Known.{Form}
pub use Rattle.mr_mail.specs.Mail.{Mail, MailCard}
pub use Rattle.mr_model.specs.History.{Entry, ◌does◌}
pub use Rattle.mr_model.specs.Moment.{Holding, Holds, numbered, selection, start}
pub use Rattle.mr_model.specs.Rules.{In}
pub use Rattle.mr_model.specs.declared.event.Act.{Act}
pub use Rattle.mr_model.specs.declared.event.Event.{Event}
pub use Rattle.mr_replica.proofs.Alike.{alike_all, alike_fresh, alike_replays, alike_step}
pub use Rattle.mr_replica.specs.Replay.{Admits, AdmitsAll, IsFresh, IsItsLog, Replays}
pub use Rattle.mr_replica.specs.State.{State, new_state}
pub use Rattle.mr_replica.specs.Step.{Answers, Changes, Steps, first_refusal}
pub use Rattle.mr_replica.specs.declared.event.Reply.{Reply}
pub use Rattle.mr_replica.specs.declared.refusal.Refusal.{Refusal}
pub use Rattle.mr_replica.specs.declared.refusal.Refusal.TheVariants.{OutOfMemory}
pub use Rattle.mr_settle.specs.Explains.{AreDistinct, Explains}
pub use Rattle.mr_settle.specs.History.{IsSpecOf, IsStartOf, IsWorldOf, OnlyAdmits, admitted, admitted_at, log_in}
pub use Rattle.mr_settle.specs.Kept.{HadTold, HasHead, IsHeldBySome, IsNewest, KeepTogether, Keeps, KnowsAllOf}
pub use Rattle.mr_settle.specs.declared.progress.Progress.{Progress}
pub use Rattle.mr_settle.specs.declared.ready.Ready.{Ready}
pub use Rattle.mr_settle.specs.inner.Arrived.{AreNoLower, FindsLeft, FindsLeftAt, FindsLeftTo, HasLeft, IsLeftAt, IsOneInWorld, lower_of}
pub use Rattle.mr_settle.specs.inner.Carried.{AreAtStart, HasBytes, IsProgressAt, IsUpToDate, carried, done_of}
pub use Rattle.mr_settle.specs.inner.Explains.{share_id}
pub use Rattle.mr_settle.specs.inner.Named.{AsksFor, GivenNumbers, Names, given_by, nothing_given}
pub use Rattle.mr_settle.specs.inner.Numbers.{Grew, KeepsUp, Numbering, Puts, Tells, found_in, no_numbers}
pub use Rattle.mr_settle.specs.inner.Ready.{FindsAt, FindsReady, IsFirstReady, IsNext, IsReady, Rests}
pub use Rattle.mr_settle.specs.inner.Way.{HappensSo, HasGoodLimit, IsAt, IsUnderWay, NotesNewest, TellAll, left_over}
pub use Rattle.mr_version.specs.Name.{Name}
pub use Rattle.mr_wire.proofs.DecodeLaws.{begins_no_other, spelled_once}
pub use Rattle.mr_wire.specs.Frames.{Question, Sent}
pub use Rattle.mr_wire.specs.declared.frame.Frame.{Frame}
pub use Rattle.mr_wire.specs.declared.frame.Receipt.{Receipt}
pub use Rattle.mr_world.specs.Asked.{answering, asked, delivering, receiving, record_len, releasing}
pub use Rattle.mr_world.specs.Kept.{MemberView, WorldView, given_in, member_at, replica_at}
pub use Rattle.mr_world.specs.Made.{IsMadeOf, has_bad_capacity, has_bad_limit, has_same_id, spec_refusal}
pub use Rattle.mr_world.specs.Promise.{HasHeadline, Promises, filters_of, moment_of, setting_in}
pub use Rattle.mr_world.specs.Run.{Becomes, Happens, Leads, answered, asked_in, ids_of, stop_fault}
pub use Rattle.mr_world.specs.Seen.{MailMoment, MailSetting, setting_of}
pub use Rattle.mr_world.specs.declared.answer.Answer.{Answer}
pub use Rattle.mr_world.specs.declared.answer.Answer.TheVariants.{Stepped}
pub use Rattle.mr_world.specs.declared.answered.Answered.{Answered}
pub use Rattle.mr_world.specs.declared.spec.Spec.{Spec}
pub use Rattle.mr_world.specs.declared.task.Task.{Task}
pub use Rattle.std.proofs.lemmas.Bool.{both_ways, cases_eq, cases_lt, eqb-false, le-ltb, ltb-false, ltb-true, ne_eqb, true≢false}
pub use Rattle.std.proofs.lemmas.List.{length-set, length-take-le, map-set, take-append-drop, take_all}
pub use Rattle.std.proofs.lemmas.List.Elements.{All-append, All-cons, All-head, All-more, All-nil, All-push, All-same, All-tail, All-weaker}
pub use Rattle.std.proofs.lemmas.List.Elements.{filter_map-append}
pub use Rattle.std.proofs.lemmas.Option.{none-some, same_Some, slice_get-map, slice_get_read, slice_get_within}
pub use Rattle.std.proofs.lemmas.Slice.Eq.{bytes_eq-Decides}
pub use Rattle.std.specs.List.{AllZip, cons_option, filter_map, list_any, slice_get}
pub use Rattle.std.specs.Option.{IsSomeAnd, MatchOption, option_and_then, option_copied, option_map}
pub use Rattle.std.specs.Prelude.{All, IsSome, IsTrue, find, get_or, is_none, is_some, nat_lt, slice_set}
pub use Rattle.std.specs.Str.{bytes_eq}
