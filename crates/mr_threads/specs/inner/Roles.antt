-- what each thread hands back at its end
use Rattle.mr_threads.specs.declared.voice.VoiceEnd.{VoiceEnd}
use Rattle.mr_threads.specs.declared.listener.ListenerEnd.{ListenerEnd}
use Rattle.mr_threads.specs.declared.roles.Spoken.{Spoken}
use Rattle.mr_threads.specs.declared.roles.Heard.{Heard}

-- what a voice that has run said and heard
abbrev pub spoken_of : {S E A R : Type 0} → VoiceEnd S E A R → Spoken S A
spoken_of end = record { speaker = end.voice.speaker; replies = end.voice.talk.replies }

-- what a subscriber that has run heard
abbrev pub heard_of : {F R : Type 0} → ListenerEnd F R → Heard F
heard_of end = record { subscriber = end.listener.subscriber; taken = end.listener.taken }
