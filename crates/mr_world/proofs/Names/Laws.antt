-- Names for proofs: what is proved of them.
pub use Rattle.mr_model.proofs.Basics.{any_elim, any_intro, append_left, append_right, cases, false_from, in_append, is_from, is_path, is_refl}
pub use Rattle.mr_model.proofs.Basics.{not_both, not_true, one_test, or_left, or_parts, or_right}
pub use Rattle.mr_model.proofs.Core.{Inv}
pub use Rattle.mr_model.proofs.Draws.{held_more, held_split, of_more, of_split}
pub use Rattle.mr_model.proofs.Feeds.{feed_stays}
pub use Rattle.mr_model.proofs.Issues.{IsIssuable, IsIssueList, Reaches, chain, count_back, count_here, counter_issued, counter_within, fresh}
pub use Rattle.mr_model.proofs.Issues.{issue_in, item_back, item_here, item_is_issued, last_own-back, last_own-here, last_own_issued, last_own_item}
pub use Rattle.mr_model.proofs.Issues.{later_from_count, made_by, made_from, made_irrefl, made_issued, made_item, made_kept, not_new}
pub use Rattle.mr_model.proofs.Lists.{each_at, filter_in, in_filter, in_issued, in_map, in_ordered, ordered_in, pairs_filter}
pub use Rattle.mr_model.proofs.Readings.{knows_downward, version_again}
pub use Rattle.mr_model.proofs.Runs.{change_keeps, start_holds}
pub use Rattle.mr_model.proofs.Sets.{Within, at_elim, at_elim₂, at_same, choice, numbered_in, two_elim, two_elim₂, two_same}
pub use Rattle.mr_model.proofs.Telling.{before_from, before_trans, ordered_rising}
pub use Rattle.mr_model.proofs.Theorem.{after-append, headline_holds, is_sound, loses_nothing, run_inv, run_more}
