-- Names for proofs: of other crates, and of this crate's definitions.
pub use Rattle.mr_model.specs.Changes.{Change, Change.Asks, Change.Closes, Change.Gives, Change.Issues, Change.Misfits, Change.Offers, Change.Opens}
pub use Rattle.mr_model.specs.Changes.{Change.Releases, Change.Retires, Change.Stays, Change.Takes, Change.TakesEntry, Change.Vouches, Reception}
pub use Rattle.mr_model.specs.Changes.{Reception.AsFinished, Reception.AsKnown, Reception.AsTaken, added_entry, after, after_giving, after_opening, change}
pub use Rattle.mr_model.specs.Changes.{change_if_found, change_of, dropped_entry, entries_of, feed_after, happens, holding_after_end, holding_after_issue}
pub use Rattle.mr_model.specs.Changes.{holding_after_record, holding_after_release, holding_after_version, is_closed, is_first_held, now, with_holding}
pub use Rattle.mr_model.specs.Changes.{with_issue, with_mark}
pub use Rattle.mr_model.specs.Check.{AreSoundTests, is_run}
pub use Rattle.mr_model.specs.Headline.{Cards, Each, EachPair, EndsAtClose, Headline, InIssueOrder, IsCurrent, IsPrefix, IsSoundHolding, KnowsItem}
pub use Rattle.mr_model.specs.Headline.{LosesNothing, RetiresBetween, added, fold, fold_from}
pub use Rattle.mr_model.specs.History.{Ask, Body, Body.End, Body.Held, Body.Item, Body.Know, Body.MoveOut, Body.Start, Entry, Entry.Added, Entry.Dropped}
pub use Rattle.mr_model.specs.History.{History, Receipt, Record, Reply, Reply.Asked, Reply.Done, Reply.Finished, Reply.Gave, Reply.Issued, Reply.Known}
pub use Rattle.mr_model.specs.History.{Reply.Offered, Reply.Streaming, Reply.Took, Reply.TookEntry, Reply.Vouched, Setting, Step, claims, ◌does◌}
pub use Rattle.mr_model.specs.Laws.{HoldsOfReplaced, IsOrdered, IsTransitive, ReadsAnswer, ReadsHeld, Tells, TellsChange, WasOpened, WasShown}
pub use Rattle.mr_model.specs.Moment.{Holding, Holds, Mark, Mark.CloseMark, Mark.Moved, Moment, Selects, at, at_two, card_of, completes, in_session, is_held}
pub use Rattle.mr_model.specs.Moment.{is_start, is_whole, known, numbered, only, only_if, pushed_out, same_stream, selection, start, starts_full, ◌without◌}
pub use Rattle.mr_model.specs.Moment.{◌with◌}
pub use Rattle.mr_model.specs.PortRows.{adds}
pub use Rattle.mr_model.specs.RefusedRows.{IsRefused, closed_port, inbox_asked, pushed_out_only, retired_early, two_entries, two_to_tell}
pub use Rattle.mr_model.specs.Rows.{Row, Runs, archive, inbox, row_setting, row_tests, work, ◌•◌}
pub use Rattle.mr_model.specs.Rules.{Covers, HasHeld, In, IsAhead, IsAllowed, IsDraw, IsDue, IsIssue, IsNext, IsOf, IsOffer, IsOpened, IsReceived, IsRun}
pub use Rattle.mr_model.specs.Rules.{IsTake, version_in}
pub use Rattle.mr_model.specs.SyncRows.{conflict, first_sync, passed_on}
pub use Rattle.mr_model.specs.Versions.{Conflicts, Issue, Versions, in_version_order, insert_in_order, is, is_before, is_issued, is_superseded, issue_count}
pub use Rattle.mr_model.specs.Versions.{item_of, last_own, made_with, replacements, replaces}
pub use Rattle.mr_model.specs.declared.event.Act.{Act}
pub use Rattle.mr_model.specs.declared.event.Act.TheVariants.{Answer, Close, Create, CutIn, CutOut, DeliverPart, Edit, Next, Offer, Pull, Receive, Release}
pub use Rattle.mr_model.specs.declared.event.Act.TheVariants.{Retire, Take, Vouch}
pub use Rattle.mr_version.specs.Name.{Name, name_cmp}
pub use Rattle.mr_version.specs.Order.{exact_names, names_total}
pub use Rattle.std.proofs.lemmas.Bool.{and_from, and_parts, both_ways, cases_order, eqb-false, le-ltb}
pub use Rattle.std.specs.List.{list_any}
pub use Rattle.std.specs.Prelude.{⊤}
