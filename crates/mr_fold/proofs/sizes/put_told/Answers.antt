use Rattle.std.proofs.Common.{Some, None, refl, ap, subst, ◌∙◌}
use Rattle.mr_maildir.specs.Reference.{parts_of}
use Rattle.mr_compare.specs.Held.{RefersToNone}
use Rattle.mr_fold.proofs.sizes.put_told.Goals as goal

pub returns-in-None : goal.returns-in-None
returns-in-None c = record {
  told = None;
  by_body = subst RefersToNone (c.body.ensures.value ∙ ap (λ m. m.body) c.message.ensures) (λ parts is text e. c.in-None.ensures.whole parts is text e);
  sizes_are = λ digest. refl;
}

pub returns-in_ok-put_size-in-Some : goal.returns-in_ok-put_size-in-Some
returns-in_ok-put_size-in-Some c = record {
  told = Some (parts_of c.in-Some.reference);
  by_body = c.in-Some.ensures.written ∙ (c.body.ensures.value ∙ ap (λ m. m.body) c.message.ensures);
  sizes_are = c.in_ok-put_size-in-Some.ensures;
}
