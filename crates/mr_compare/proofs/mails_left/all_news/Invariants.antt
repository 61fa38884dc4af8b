use Rattle.std.proofs.Common.{◌≡◌, ◌++◌, Option}
use Rattle.mr_compare.proofs.Names.{MailCard, Name, at_item, flat_map, news_told, with_digest}
use Rattle.std.specs.Prelude.{is_some}
use Rattle.mr_compare.proofs.mails_left.all_news.Given as goal

-- the news so far and those of the entries that are left are all
abbrev pub invariant-loop-item : goal.invariant-loop-item
invariant-loop-item l = l.news.items ++ flat_map (λ (e : Name × Option MailCard). with_digest (at_item l.digests.entries e.0) (is_some e.1)) l.item-iterator ≡ news_told l.left.changed.entries l.digests.entries
