use Rattle.std.proofs.Common.{sym, ◌∙◌}
use Rattle.mr_lookup.specs.Told.{is_among}
use Rattle.mr_lookup.proofs.ToldLemmas.{noted_first, unnoted}
use Rattle.mr_lookup.proofs.told.note_first.Goals as goal

pub returns-in_ok-insert : goal.returns-in_ok-insert
returns-in_ok-insert c =
    noted_first (is_among c.args.items.now.keys) c.args.item c.args.message.now c.in_ok-copy.field-0 c.args.told.now.entries c.insert.new.self.entries (sym c.is_wanted.ensures ∙ c.if-is_wanted.true) c.in_ok-copy.ensures c.in_ok-insert.ensures.updates.0

pub returns-else-is_wanted : goal.returns-else-is_wanted
returns-else-is_wanted c = unnoted (is_among c.args.items.now.keys) c.args.item c.args.message.now c.args.told.now.entries (sym c.is_wanted.ensures ∙ c.if-is_wanted.false)
