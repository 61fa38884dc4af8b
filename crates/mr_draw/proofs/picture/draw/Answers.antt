use Rattle.mr_draw.proofs.PictureLemmas.{marks-few}
use Rattle.mr_draw.proofs.picture.draw.Goals as goal

pub text_of-requires-clause-marks : goal.text_of-requires-clause-marks
text_of-requires-clause-marks g c = marks-few _ _ _ _ _ c.in_ok-sheet.sheet.marks c.in_ok-sheet.ensures.shown
