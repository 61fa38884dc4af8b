use Rattle.std.proofs.lemmas.Iterator.{YieldsList-from_chars, YieldsList-from_take, text_from_collect}
use Rattle.mr_draw.specs.declared.picture.TheConstants.{MOST_WRITTEN}
use Rattle.mr_draw.proofs.picture.beginning_of.Goals as goal

pub returns : goal.returns
returns c = text_from_collect _ c.collect.ensures.ran (YieldsList-from_take MOST_WRITTEN (YieldsList-from_chars c.args.text.now c.utf8.text (cc)) (cc))
