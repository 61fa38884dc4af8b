-- What one event of a world over all ids answers, and what becomes of the world.
use Rattle.std.specs.Prelude.{◌≡◌, Some}
use Rattle.mr_forms.specs.Known.{Form}
use Rattle.mr_mail.specs.Mail.{Mail}
use Rattle.mr_model.specs.declared.event.Event.{Event}
use Rattle.mr_world.specs.Asked.{asked}
use Rattle.mr_world.specs.Does.{Does}
use Rattle.mr_world.specs.Kept.{MemberView}
use Rattle.mr_world.specs.World.{World, member_of, with_member}
use Rattle.mr_world.specs.declared.answer.Answer.{Answer}
use Rattle.mr_world.specs.declared.task.Task.{Task}

-- From w, the world answers the event and goes on to w': the member of its id does what its act asks.
abbrev pub Moves : {K : Type 0} → Form K → World K → Event Mail → Answer → World K → Type 0
Moves {K} form w e answer w' =
    (task : Task) × (new : MemberView K) × (asked w.asks w.records w.receipts e.act ≡ Some task) × Does form task (member_of w e.replica) answer new × (w' ≡ with_member w e.replica new answer)
