-- an event that happens, with the answer that the world has noted
use Rattle.std.specs.Prelude.{◌≡◌, Option, Ok, Err, IsSomeAnd}
use Rattle.std.specs.Option.{option_map}
use Rattle.mr_forms.specs.Known.{Form}
use Rattle.mr_mail.specs.Mail.{Mail}
use Rattle.mr_model.specs.declared.event.Event.{Event}
use Rattle.mr_world.specs.Kept.{WorldView, newest_answered}
use Rattle.mr_world.specs.Run.{Happens}
use Rattle.mr_world.specs.declared.answer.Answer.{Answer}
use Rattle.mr_script.specs.Doing.{Doing, Prevents}

module _ {K : Type 0} where
  -- the newest answer
  abbrev pub newest : WorldView K → Option Answer
  newest w = option_map (λ x. x.answer) (newest_answered w)

module _ {K : Type 0} (form : Form K) where
  -- it happens, and the world has its answer
  abbrev pub happens_noted : {X : Type 0} → Event Mail → Doing K X
  happens_noted e w (Ok _) w' = IsSomeAnd (newest w') (λ answer. Happens form w e answer w')
  happens_noted e w (Err fault) w' = Prevents w e fault × (w' ≡ w)
