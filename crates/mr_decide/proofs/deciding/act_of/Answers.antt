use Rattle.std.proofs.Common.{◌≡◌, sym, subst, false, [], Some}
use Rattle.std.specs.Option.{option_copied}
use Rattle.mr_decide.specs.declared.mail_act.MailAct.{MailAct}
use Rattle.mr_decide.specs.Deciding.{act_of, is_left, standing}
use Rattle.mr_decide.specs.inner.Deciding.{Shows}
use Rattle.mr_decide.specs.Told.{IfJoin, IfChange, IfWait, IfCreate, IsHeeded, IsJoin, IsChange, has_news}
use Rattle.mr_decide.proofs.ActLemmas.{joins, waits, creates, heeded, removal_heeded, changes}
use Rattle.mr_decide.proofs.deciding.act_of.Goals as goal

pub returns : goal.returns
returns c =
    let items = c.args.held.now in
    let left = option_copied c.args.left in
    let seen = c.args.seen.now in
    let is : c.in_ok-act.act ≡ act_of c.args.held.now (option_copied c.args.left) c.args.seen.now = c.in_ok-act.ensures.value in
    record {
      value = is;
      joins = subst (λ (a : MailAct). IfJoin a (IsJoin items seen)) (sym is) (joins items left seen);
      changes = subst (λ (a : MailAct). IfChange a (IsChange items left seen)) (sym is) (changes items left seen (subst (λ (a : MailAct). IfChange a (Shows items left seen)) is c.in_ok-act.ensures.shows));
      heeded = λ first more view some was. subst IsHeeded (sym is) (heeded items left seen first more view some was);
      removal_heeded = λ first more some was. subst IsHeeded (sym is) (removal_heeded items left seen first more some was);
      waits = subst (λ (a : MailAct). IfWait a (λ news. (seen.is_certain ≡ false) × (news ≡ has_news items left))) (sym is) (waits items left seen);
      creates = subst (λ (a : MailAct). IfCreate a (λ view. (items ≡ []) × (standing seen.view ≡ Some view) × (is_left left view ≡ false) × (seen.is_own ≡ false))) (sym is) (creates items left seen);
    }
