-- Names for proofs: histories, moments and the rules.
pub use Rattle.mr_model.specs.Changes.{Change, Reception, added_entry, after, after_giving, after_issue, after_opening, after_taking, change_by_reply}
pub use Rattle.mr_model.specs.Changes.{change_if_found, change_of, dropped_entry, entries_of, feed_after, happens, holding_after_end}
pub use Rattle.mr_model.specs.Changes.{holding_after_record, holding_after_release, holding_after_version, is_closed, now, with_holding, with_issue}
pub use Rattle.mr_model.specs.Changes.{with_mark}
pub use Rattle.mr_model.specs.Headline.{EachPair, Headline}
pub use Rattle.mr_model.specs.History.{Ask, Body, Entry, History, Record, claims, subscriber_number, ◌does◌}
pub use Rattle.mr_model.specs.Moment.{Holding, Holds, Mark, at, at_two, completes, in_session, is_held, is_start, is_whole, known, numbered, only}
pub use Rattle.mr_model.specs.Moment.{only_if, pushed_out, same_stream, selection, start, starts_full, stored, ◌without◌, ◌with◌}
pub use Rattle.mr_model.specs.Rules.{HasFullStart, HasHeld, HasStart, In, IsAllowed, IsAsk, IsDraw, IsDue, IsIssue, IsNext, IsOf, IsOffer, IsOpened}
pub use Rattle.mr_model.specs.Rules.{IsReceived, IsReleased, IsRun, IsTake, IsVouched, IsWalked, NoneDue, reception_of, version_in}
pub use Rattle.mr_model.specs.Versions.{Issue, Versions, in_version_order, is, is_before, is_issued, issue_count, item_of, last_own, made_with}
pub use Rattle.mr_model.specs.Versions.{nothing, replacements}
pub use Rattle.mr_model.specs.declared.event.Act.{Act}
pub use Rattle.mr_model.specs.declared.event.Event.{Event}
pub use Rattle.mr_model.specs.declared.event.Subscriber.{Subscriber}
pub use Rattle.mr_model.specs.declared.event.Subscriber.TheVariants.{Indexer, Notifier}
