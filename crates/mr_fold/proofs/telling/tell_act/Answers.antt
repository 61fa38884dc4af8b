use Rattle.std.proofs.Common.{refl, sym, subst}
use Rattle.std.specs.Prelude.{OnOk}
use Rattle.mr_kept.specs.Kept.{replica_of}
use Rattle.mr_maildir.specs.declared.act.Act.TheVariants as act
use Rattle.mr_fold.specs.Telling.{TellsAct, TellsEdits, Grows}
use Rattle.mr_fold.proofs.SettlingLemmas.{stay_still}
use Rattle.mr_fold.proofs.TellingLemmas.{grows_not}
use Rattle.mr_fold.proofs.telling.tell_act.Goals as goal

pub returns-in-Create-clause-told : goal.returns-in-Create-clause-told
returns-in-Create-clause-told g c =
    subst (λ a. OnOk c.tell_new.result (Grows (TellsAct c.args.items.now a) (replica_of c.args.kept.now) (replica_of c.tell_new.new.kept))) (sym c.in-Create.is) c.tell_new.ensures.told

pub returns-in-Edit-clause-told : goal.returns-in-Edit-clause-told
returns-in-Edit-clause-told g c =
    subst (λ a. OnOk c.tell_edits.result (Grows (TellsAct c.args.items.now a) (replica_of c.args.kept.now) (replica_of c.tell_edits.new.kept))) (sym c.in-Edit.is) c.tell_edits.ensures.told

pub returns-in-Delete-clause-told : goal.returns-in-Delete-clause-told
returns-in-Delete-clause-told g c =
    let told = c.tell_edits-in-Delete-2 in
    subst (λ a. OnOk told.result (Grows (TellsAct c.args.items.now a) (replica_of c.args.kept.now) (replica_of told.new.kept))) (sym c.in-Delete.is)
    (subst (λ v. OnOk told.result (Grows (TellsEdits v c.args.items.now) (replica_of c.args.kept.now) (replica_of told.new.kept))) c.gone.ensures told.ensures.told)

pub returns-in-Agree-clause-told : goal.returns-in-Agree-clause-told
returns-in-Agree-clause-told g c = subst (λ a. Grows (TellsAct c.args.items.now a) (replica_of c.args.kept.now) (replica_of c.args.kept.now)) (sym c.in-Agree.is) (grows_not (TellsAct c.args.items.now act.Agree) (replica_of c.args.kept.now) (refl, refl))

pub returns-in-Follow-clause-told : goal.returns-in-Follow-clause-told
returns-in-Follow-clause-told g c = subst (λ a. Grows (TellsAct c.args.items.now a) (replica_of c.args.kept.now) (replica_of c.args.kept.now)) (sym c.in-Follow.is) (grows_not (TellsAct c.args.items.now act.Follow) (replica_of c.args.kept.now) (refl, refl))

pub returns-in-Remove-clause-told : goal.returns-in-Remove-clause-told
returns-in-Remove-clause-told g c = subst (λ a. Grows (TellsAct c.args.items.now a) (replica_of c.args.kept.now) (replica_of c.args.kept.now)) (sym c.in-Remove.is) (grows_not (TellsAct c.args.items.now act.Remove) (replica_of c.args.kept.now) (refl, refl))

pub returns-in-Create-clause-stay : goal.returns-in-Create-clause-stay
returns-in-Create-clause-stay g c = c.tell_new.ensures.stay

pub returns-in-Edit-clause-stay : goal.returns-in-Edit-clause-stay
returns-in-Edit-clause-stay g c = stay_still c.args.files.now

pub returns-in-Delete-clause-stay : goal.returns-in-Delete-clause-stay
returns-in-Delete-clause-stay g c = stay_still c.args.files.now

pub returns-in-Agree-clause-stay : goal.returns-in-Agree-clause-stay
returns-in-Agree-clause-stay g c = stay_still c.args.files.now

pub returns-in-Follow-clause-stay : goal.returns-in-Follow-clause-stay
returns-in-Follow-clause-stay g c = stay_still c.args.files.now

pub returns-in-Remove-clause-stay : goal.returns-in-Remove-clause-stay
returns-in-Remove-clause-stay g c = stay_still c.args.files.now
