use Rattle.std.proofs.Common.{◌≡◌, ◌++◌, length}
use Rattle.mr_mail.specs.Label.{texts_of}
use Rattle.mr_desk.specs.Draft.{labels_of}
use Rattle.mr_desk.proofs.labels.labels_of.Given as goal

abbrev pub invariant-loop-part : goal.invariant-loop-part
invariant-loop-part l = labels_of l.fn.text ≡ texts_of l.labels.items ++ l.parts

abbrev pub decreases-loop-part : goal.decreases-loop-part
decreases-loop-part l = length l.parts
