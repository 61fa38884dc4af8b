-- acts that take nothing away
use Rattle.std.proofs.Common.{◌≡◌, false, Option, refl}
use Rattle.mr_maildir.specs.View.{ViewParts}
use Rattle.mr_maildir.specs.declared.act.Act.{Act}
use Rattle.mr_maildir.specs.declared.act.Act.TheVariants.{Agree, Create, Edit, Delete, Follow, Remove}
use Rattle.mr_compare.specs.Tally.{deletes}
use Rattle.mr_fold.specs.inner.Taking.{takes_away}

-- one that takes nothing away is no deletion
pub deletes_not : (act : Act) (held : Option ViewParts) → takes_away act held ≡ false → deletes act ≡ false
deletes_not Agree held h = refl
deletes_not Create held h = refl
deletes_not (Edit view) held h = refl
deletes_not Delete held h = h
deletes_not Follow held h = refl
deletes_not Remove held h = refl
