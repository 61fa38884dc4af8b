use Rattle.std.proofs.Common.{Some, subst, ◌≡◌}
use Rattle.mr_fold.specs.Telling.{first_message}
use Rattle.mr_fold.proofs.TellingLemmas.{edit_told}
use Rattle.mr_fold.proofs.telling.tell_edit.Goals as goal

pub returns-clause-told : goal.returns-clause-told
returns-clause-told g c =
    let edited = c.in_ok-message.ensures.value in
    edit_told c.args.kept.now c.edit.new.self c.in_ok-bases.bases c.args.versions.now c.in_ok-message.message c.args.view.now c.in_ok-edit.ensures.later c.in_ok-bases.ensures
    (edited.0, subst (λ s. first_message s c.args.versions.now ≡ Some edited.0) c.replica.ensures.is edited.1, edited.2)
