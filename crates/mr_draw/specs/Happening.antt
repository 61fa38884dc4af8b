-- what happened in a world, as far as a picture shows it
use Rattle.std.specs.Prelude.{ℕ, ◌+◌, List, [], ◌∷◌, Option, Some, None, Ok}
use Rattle.std.specs.List.{cons_option, filter_map}
use Rattle.std.specs.Option.{option_map}
use Rattle.mr_version.specs.Name.{Name}
use Rattle.mr_mail.specs.Mail.{Mail}
use Rattle.mr_model.specs.declared.event.Act.{Act}
use Rattle.mr_model.specs.declared.event.Act.TheVariants as act
use Rattle.mr_replica.specs.declared.event.Reply.{Reply}
use Rattle.mr_replica.specs.declared.event.Reply.TheVariants as reply
use Rattle.mr_world.specs.Pool.{at_number}
use Rattle.mr_world.specs.declared.answer.Answer.{Answer}
use Rattle.mr_world.specs.declared.answer.Answer.TheVariants.{Stepped}
use Rattle.mr_world.specs.declared.answered.Answered.{Answered}
use Rattle.mr_draw.specs.NoteLists.{NoteLists}
use Rattle.mr_draw.specs.Notes.{notes_of}
use Rattle.mr_draw.specs.Happened.{Happened}
use Rattle.mr_draw.specs.declared.happening.Kind.{Kind}
use Rattle.mr_draw.specs.declared.happening.Kind.TheVariants.{Issue, Open, Cut, Retire, Vouch, Release}

-- ---- what an event shows

-- what was done
abbrev pub kind_of_done : NoteLists → Act Mail → Option Kind
kind_of_done notes (act.CutIn session) = Some Cut
kind_of_done notes (act.CutOut stream) = Some Cut
kind_of_done notes act.Retire = Some Retire
kind_of_done notes (act.Release n) = option_map (λ v. Release v) (at_number notes.receipts n)
kind_of_done notes other = None

-- the record that was taken
abbrev pub kind_of_taken : NoteLists → Act Mail → Option Kind
kind_of_taken notes (act.Receive n) = at_number notes.records n
kind_of_taken notes (act.DeliverPart n bytes) = at_number notes.records n
kind_of_taken notes other = None

-- the stream that was opened
abbrev pub kind_of_opened : NoteLists → Act Mail → ℕ → Option Kind
kind_of_opened notes (act.Answer n) stream = option_map (λ target. Open target stream) (at_number notes.asks n)
kind_of_opened notes other stream = None

abbrev pub kind_of_reply : NoteLists → Act Mail → Reply → Option Kind
kind_of_reply notes a (reply.Issued v) = Some (Issue v)
kind_of_reply notes a reply.Done = kind_of_done notes a
kind_of_reply notes a (reply.Asked ask) = None
kind_of_reply notes a (reply.Streaming stream) = kind_of_opened notes a stream
kind_of_reply notes a (reply.Gave sent) = None
kind_of_reply notes a reply.Took = kind_of_taken notes a
kind_of_reply notes a reply.Known = kind_of_taken notes a
kind_of_reply notes a reply.Finished = kind_of_taken notes a
kind_of_reply notes a (reply.Vouched receipt) = Some (Vouch receipt.descent.version)

-- a refusal shows nothing, and neither do ports
abbrev pub kind_of_answer : NoteLists → Act Mail → Answer → Option Kind
kind_of_answer notes a (Stepped (Ok r)) = kind_of_reply notes a r
kind_of_answer notes a other = None

abbrev pub kind_of : NoteLists → Answered → Option Kind
kind_of notes x = kind_of_answer notes x.event.act x.answer

-- a version is on its author's lane, and all else on that of the replica that the event is for
abbrev pub lane_of : ℕ → Kind → ℕ
lane_of replica (Issue v) = v.author
lane_of replica other = replica

abbrev pub happening_at : NoteLists → ℕ → Answered → Option Happened
happening_at notes place x = option_map (λ kind. record { lane = lane_of x.event.replica kind; kind = kind; place = place }) (kind_of notes x)

-- what these answers show, the first of them being at the place n
abbrev pub happenings_from : NoteLists → ℕ → List Answered → List Happened
happenings_from notes n [] = []
happenings_from notes n (x ∷ xs) = cons_option (happening_at notes n x) (happenings_from notes (n + 1) xs)

abbrev pub happenings_of : List Answered → List Happened
happenings_of answers = happenings_from (notes_of answers) 0 answers

-- ---- the dots

-- the version that was issued
abbrev pub issued_in : Answer → Option Name
issued_in (Stepped (Ok (reply.Issued v))) = Some v
issued_in other = None

-- all versions that were issued, in order of time
abbrev pub issued_versions : List Answered → List Name
issued_versions answers = filter_map (λ x. issued_in x.answer) answers

-- the version whose dot stands for this, with its lane
pub record Dot : Type 0 where
  pub lane : ℕ
  pub version : Name

abbrev pub dot_as : ℕ → Kind → Option Dot
dot_as lane (Issue v) = Some (record { lane = lane; version = v })
dot_as lane other = None

abbrev pub dot_of : Happened → Option Dot
dot_of h = dot_as h.lane h.kind

-- the version's dot on its author's lane
abbrev pub dot_at : Name → Dot
dot_at v = record { lane = v.author; version = v }

-- all dots
abbrev pub dots : List Happened → List Dot
dots found = filter_map dot_of found
