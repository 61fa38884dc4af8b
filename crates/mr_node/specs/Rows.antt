-- worked rows: what the definitions give for small conversations
use Rattle.std.specs.Prelude.{◌≡◌, ◌==◌, ◌++◌, ℕ, true, false, List, [], ◌∷◌, length, map, Ok, Err, refl}
use Rattle.std.proofs.Common.{ap, sym, ◌∙◌}
use Rattle.std.specs.Global.{Vec}
use Rattle.mr_version.specs.Name.{Name}
use Rattle.mr_wire.specs.Frames.{Question}
use Rattle.mr_wire.specs.declared.frame.Frame.{Frame}
use Rattle.mr_wire.specs.declared.frame.Frame.TheVariants as frame
use Rattle.mr_wire.specs.declared.frame.Receipt.{Receipt}
use Rattle.mr_replica.specs.declared.event.Event.{Event}
use Rattle.mr_replica.specs.declared.event.Event.TheVariants.{Pull, Receive, CutIn, CutOut, Answer, Next, Vouch, Release, Retire}
use Rattle.mr_replica.specs.declared.event.Reply.TheVariants.{Asked, Streaming, Took, Known, Finished, Vouched, Done}
use Rattle.mr_replica.specs.declared.refusal.Refusal.{Refusal}
use Rattle.mr_threads.specs.Exchange.{said}
use Rattle.mr_threads.specs.inner.Exchange.{exchange}
use Rattle.mr_node.specs.Saying.{Saying, answer_frame, frames_read, frames_given, receives}
use Rattle.mr_node.specs.Turn.{SaysNext, is_done, is_reading, reads, IsWhole, IsCutShort, cut_behind}
use Rattle.mr_node.specs.inner.Turn.{progress_of}
use Rattle.mr_node.specs.declared.turn.Turn.TheVariants as turn
use Rattle.mr_node.specs.declared.turn.Stop.TheVariants.{NotSent}
use Rattle.mr_node.specs.declared.progress.Opened.{Opened}
use Rattle.mr_node.specs.declared.progress.Opened.TheVariants.{Session, Stream}
use Rattle.mr_lane.specs.declared.note.Sender.TheVariants.{User, FirstLink}
use Rattle.mr_node.specs.Machine.{admitted_of}

-- ---- which letters are logged

-- of three letters of two senders the second is refused, and the others go into the log in order
pub refused_is_not_logged : (e : Refusal) → admitted_of (exchange User (Next 1) (Ok Done) ∷ exchange FirstLink Pull (Err e) ∷ exchange User Retire (Ok Done) ∷ []) ≡ Next 1 ∷ Retire ∷ []
refused_is_not_logged e = refl

-- nothing is logged where nothing is said
pub nothing_is_logged : admitted_of [] ≡ []
nothing_is_logged = refl

-- ---- a pull

-- a pull that takes two records, the second as the last
abbrev whole_pull : Question → Frame → Frame → List Saying
whole_pull ask f g = said Pull (Ok (Asked ask)) ∷ said (Receive f) (Ok Took) ∷ said (Receive g) (Ok Finished) ∷ []

-- and one that has taken the first, and cuts its session
abbrev half_pull : Question → Frame → List Saying
half_pull ask f = said Pull (Ok (Asked ask)) ∷ said (Receive f) (Ok Known) ∷ []

-- two frames were read, and one was to be sent
pub frames_of_a_pull : (ask : Question) (f g : Frame) → (frames_read (whole_pull ask f g) ≡ f ∷ g ∷ []) × (frames_given (whole_pull ask f g) ≡ frame.Ask ask ∷ [])
frames_of_a_pull ask f g = (refl, refl)

pub receives_of_a_pull : (ask : Question) (f g : Frame) → receives (whole_pull ask f g) ≡ 2
receives_of_a_pull ask f g = refl

-- it is orderly, and done with its last record
pub pull_is_whole : (ask : Question) (f g : Frame) → IsWhole turn.Pull (whole_pull ask f g)
pull_is_whole ask f g = record { orderly = (refl, refl, refl, (refl, (f, refl), refl, (refl, (g, refl), refl, tt))); done = refl }

pub half_is_not_done : (ask : Question) (f : Frame) → is_done turn.Pull (half_pull ask f) ≡ false
half_is_not_done ask f = refl

-- its session is cut where it stops half way, and not where it is done, or was refused at once
pub half_is_cut : (ask : Question) (f : Frame) → cut_behind (half_pull ask f) ≡ CutIn ask.session ∷ []
half_is_cut ask f = refl

pub whole_is_not_cut : (ask : Question) (f g : Frame) → cut_behind (whole_pull ask f g) ≡ []
whole_is_not_cut ask f g = refl

pub refused_at_once : (e : Refusal) → cut_behind (said Pull (Err e) ∷ []) ≡ []
refused_at_once e = refl

-- a record that is refused leaves the session open
pub refused_late : (ask : Question) (f : Frame) (e : Refusal) → cut_behind (said Pull (Ok (Asked ask)) ∷ said (Receive f) (Err e) ∷ []) ≡ CutIn ask.session ∷ []
refused_late ask f e = refl

-- where its request is not sent it has said no more
pub unsent_request : (ask : Question) → IsCutShort turn.Pull (said Pull (Ok (Asked ask)) ∷ []) NotSent
unsent_request ask = record { before = []; last = said Pull (Ok (Asked ask)); all = refl; orderly = (refl, refl, refl, tt); frame = frame.Ask ask; gives = refl }

-- not a record that it took behind that
pub none_behind_unsent : (ask : Question) (f : Frame) → ¬ IsCutShort turn.Pull (half_pull ask f) NotSent
none_behind_unsent ask f h = cc (ap (λ (x : Saying). answer_frame x.answer) (last_is h.before h.last (said Pull (Ok (Asked ask))) (said (Receive f) (Ok Known)) h.all), h.gives)
  where
    last_is : (before : List Saying) (last x y : Saying) → x ∷ y ∷ [] ≡ before ++ last ∷ [] → last ≡ y
    last_is [] last x y e = absurd (cc)
    last_is (a ∷ []) last x y e = cc
    last_is (a ∷ b ∷ []) last x y e = absurd (cc)
    last_is (a ∷ b ∷ c ∷ before) last x y e = absurd (cc)

-- it reads nothing before it has asked
pub asks_first : (ask : Question) (f : Frame) → (is_reading turn.Pull [] ≡ false) × (is_reading turn.Pull (half_pull ask f) ≡ true)
asks_first ask f = (refl, refl)

-- how far it has come
pub half_way : (ask : Question) (f : Frame) → progress_of (half_pull ask f) ≡ record { said = 2; opened = Session ask.session; over = false }
half_way ask f = refl

-- ---- one who serves

-- it reads a request, and then says Next of the stream that it opened
pub says_next : (ask : Question) (letter : Event) → SaysNext turn.Serve (said (Answer ask) (Ok (Streaming 7)) ∷ []) letter → letter ≡ Next 7
says_next ask letter h = h.2 ∙ ap Next (sym (same_stream h.0 h.1))
  where
    stream_in : Opened → ℕ
    stream_in (Stream n) = n
    stream_in other = 7

    same_stream : (n : ℕ) → Stream 7 ≡ Stream n → 7 ≡ n
    same_stream n is = ap stream_in is

pub stream_is_cut : (ask : Question) → cut_behind (said (Answer ask) (Ok (Streaming 7)) ∷ []) ≡ CutOut 7 ∷ []
stream_is_cut ask = refl

pub serves_requests_alone : (ask : Question) (receipt : Receipt) → map (reads turn.Serve) (frame.Ask ask ∷ frame.Receipt receipt ∷ []) ≡ true ∷ false ∷ []
serves_requests_alone ask receipt = refl

-- ---- receipts

-- one receipt is given for one version
pub grants_one : (versions : Vec Name) (v : Name) (receipt : Receipt) → versions.items ≡ v ∷ [] → is_done (turn.Grant versions) (said (Vouch v) (Ok (Vouched receipt)) ∷ []) ≡ true
grants_one versions v receipt is = ap (λ (l : List Name). 1 == length l) is

pub receipt_is_given : (v : Name) (receipt : Receipt) → frames_given (said (Vouch v) (Ok (Vouched receipt)) ∷ []) ≡ frame.Receipt receipt ∷ []
receipt_is_given v receipt = refl

-- one of two is not all
pub redeems_one_of_two : (receipt : Receipt) → (is_done (turn.Redeem 1) (said (Release receipt) (Ok Done) ∷ []) ≡ true) × (is_done (turn.Redeem 2) (said (Release receipt) (Ok Done) ∷ []) ≡ false)
redeems_one_of_two receipt = (refl, refl)

-- nothing of it stays open
pub nothing_to_cut : (receipt : Receipt) → cut_behind (said (Release receipt) (Ok Done) ∷ []) ≡ []
nothing_to_cut receipt = refl
