-- what a link says to a replica and hears, and the frames that it is made of and gives
use Rattle.std.specs.Prelude.{◌+◌, ◌<◌, ℕ, Bool, true, false, List, [], ◌∷◌, Result, Ok, Err}
use Rattle.std.specs.List.{flat_map, list_any}
use Rattle.mr_wire.specs.declared.frame.Body.{Body}
use Rattle.mr_wire.specs.declared.frame.Body.TheVariants as body
use Rattle.mr_wire.specs.declared.frame.Frame.{Frame}
use Rattle.mr_wire.specs.declared.frame.Frame.TheVariants as frame
use Rattle.mr_replica.specs.declared.event.Event.{Event}
use Rattle.mr_replica.specs.declared.event.Event.TheVariants.{Receive, CutIn, CutOut, Answer, Release}
use Rattle.mr_replica.specs.declared.event.Reply.{Reply}
use Rattle.mr_replica.specs.declared.event.Reply.TheVariants.{Asked, Streaming, Gave, Finished, Vouched}
use Rattle.mr_replica.specs.declared.refusal.Refusal.{Refusal}
use Rattle.mr_threads.specs.Exchange.{Said}
use Rattle.mr_node.specs.declared.progress.Opened.{Opened}
use Rattle.mr_node.specs.declared.progress.Opened.TheVariants.{Nothing, Session, Stream}

-- a letter to a replica, and its answer
abbrev pub Saying : Type 0
Saying = Said Event (Result Reply Refusal)

-- the frame of which a letter was made, if it was made of one
abbrev pub letter_frame : Event → List Frame
letter_frame (Receive f) = f ∷ []
letter_frame (Answer ask) = frame.Ask ask ∷ []
letter_frame (Release receipt) = frame.Receipt receipt ∷ []
letter_frame event = []

-- the frame that a reply gives to be sent, if it gives one
abbrev pub reply_frame : Reply → List Frame
reply_frame (Asked ask) = frame.Ask ask ∷ []
reply_frame (Gave sent) = frame.Record sent ∷ []
reply_frame (Vouched receipt) = frame.Receipt receipt ∷ []
reply_frame reply = []

-- a refusal gives none
abbrev pub answer_frame : Result Reply Refusal → List Frame
answer_frame (Ok reply) = reply_frame reply
answer_frame (Err e) = []

abbrev pub frames_read : List Saying → List Frame
frames_read xs = flat_map (λ x. letter_frame x.letter) xs

abbrev pub frames_given : List Saying → List Frame
frames_given xs = flat_map (λ x. answer_frame x.answer) xs

-- how many of the letters are Receives
abbrev pub one_if_receive : Event → ℕ
one_if_receive (Receive f) = 1
one_if_receive event = 0

abbrev pub receives : List Saying → ℕ
receives [] = 0
receives (x ∷ xs) = one_if_receive x.letter + receives xs

-- the gate has let each of the first so many records pass
abbrev pub HasLet : (has_let : ℕ → Type 0) → (count : ℕ) → Type 0
HasLet has_let count = (n : ℕ) → n < count → has_let (n + 1)

-- whether it is the body of a stream's last record
abbrev pub is_end : Body → Bool
is_end body.End = true
is_end b = false

-- whether the answer says that a stream's last record was taken, or gives it
abbrev pub is_last : Result Reply Refusal → Bool
is_last (Ok Finished) = true
is_last (Ok (Gave sent)) = is_end sent.body
is_last answer = false

-- whether a stream's last record has come, or was given
abbrev pub are_over : List Saying → Bool
are_over xs = list_any (λ x. is_last x.answer) xs

-- what an answer says was opened
abbrev pub opened_by : Result Reply Refusal → Opened
opened_by (Ok (Asked ask)) = Session ask.session
opened_by (Ok (Streaming stream)) = Stream stream
opened_by answer = Nothing

-- what the first letter opened
abbrev pub opened_behind : List Saying → Opened
opened_behind [] = Nothing
opened_behind (x ∷ xs) = opened_by x.answer

-- the letter that closes what was opened, if anything was
abbrev pub cut_of : Opened → List Event
cut_of Nothing = []
cut_of (Session session) = CutIn session ∷ []
cut_of (Stream stream) = CutOut stream ∷ []
