use Rattle.std.proofs.Common.{Some, None, refl, sym, ap, subst, ◌∙◌}
use Rattle.std.specs.Str.{IsUtf8}
use Rattle.mr_compare.proofs.Names.{RefersToNone, append-nil}
use Rattle.mr_maildir.specs.Reference.{parts_of}
use Rattle.mr_compare.proofs.held.read_one.Goals as goal

pub returns-in-None : goal.returns-in-None
returns-in-None c = record {
  told = None;
  by_body = subst RefersToNone (c.body.ensures.value ∙ ap (λ m. m.body) c.message.ensures) (λ parts is text e. c.in-None.ensures.whole parts is text e);
  heads_are = sym (append-nil c.args.read.now.items);
}

pub returns-in_ok-push_head-in-Some : goal.returns-in_ok-push_head-in-Some
returns-in_ok-push_head-in-Some c = record {
  told = Some c.in-Some.reference.digest;
  by_body = record {
    parts = parts_of c.in-Some.reference;
    digest_is = refl;
    is_reference = c.in-Some.ensures.is.0;
    is_text = subst IsUtf8 (c.body.ensures.value ∙ ap (λ m. m.body) c.message.ensures) c.in-Some.ensures.is.1;
    written = c.in-Some.ensures.written ∙ (c.body.ensures.value ∙ ap (λ m. m.body) c.message.ensures);
  };
  heads_are = c.in_ok-push_head-in-Some.ensures;
}
