use Rattle.std.proofs.Common.{◌++◌, ◌∙◌, ap, refl, arith}
use Rattle.mr_mail.specs.Flag.{flag_name}
use Rattle.mr_filter.proofs.TextLemmas.{texts_of-push}
use Rattle.mr_filter.proofs.text.push_flags.Goals as goal

pub loop-flag-preserved : goal.loop-flag-preserved
loop-flag-preserved c =
    texts_of-push (λ flag. c.args.prefix.now ++ flag_name flag) _ _ _ _ c.deref-flag-items.result.now _ _ _ (omega arith) refl
    (c.in_ok-format.ensures.ok ∙ ap (λ name. c.args.prefix.now ++ name) c.name.ensures) c.loop-flag.invariant c.in_ok-push.ensures.items
