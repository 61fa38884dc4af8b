-- A crash of a replica: it loses its last steps, of which nobody was given anything.
use Rattle.std.specs.Prelude.{◌≡◌, ◌≢◌, ℕ, ◌==◌, Bool, not, if◌then◌else◌, IsFalse, List, [], ◌∷◌, ◌++◌, filter, Option, ⊤}
use Rattle.mr_model.specs.Versions.{Versions}
use Rattle.mr_model.specs.History.{Setting, Ask, Record, Entry, Reply, Step, History}
use Rattle.mr_model.specs.declared.event.Act.{Act}
use Rattle.mr_model.specs.declared.event.Act.TheVariants.{Receive, DeliverPart, Answer, Release}
use Rattle.mr_model.specs.Moment.{Holding, Mark, Moment, start}
use Rattle.mr_model.specs.Changes.{Change, happens, change, now}
use Rattle.mr_model.specs.Rules.{In, IsAllowed, IsRun}
use Rattle.mr_model.specs.Laws.{Grows}
use Rattle.mr_crash.specs.Frames.{Frame, frames, gives, takes}

-- ---- what is lost, and that nobody was given anything of it

-- r does the step
abbrev pub is_of : {M C : Type 0} → ℕ → Step M C → Bool
is_of r x = x.event.replica == r

-- from m on, the steps of the others take only what is in `kept`, and what they gave since themselves: nothing that a step of r gave
abbrev pub OthersTakeOnly : {M C : Type 0} → Setting M C → ℕ → Moment M C → (kept : List Frame) → History M C → Type 0
OthersTakeOnly s r m kept [] = ⊤
OthersTakeOnly s r m kept (x ∷ later) =
    (IsFalse (is_of r x) → (frame : Frame) → In frame (takes (change m x)) → In frame kept)
    × OthersTakeOnly s r (happens s m (change m x)) (if is_of r x then kept else gives (change m x) ++ kept) later

-- nobody took anything that a step of r in `later` gave
abbrev pub NobodyTook : {M C : Type 0} → Setting M C → (before later : History M C) → ℕ → Type 0
NobodyTook s before later r = OthersTakeOnly s r (now s before) (frames (now s before)) later

-- ---- what is left of a history

-- What a step does: who does what, what is answered, and the change that this makes, with the frame itself that is taken. The number by which the act names that frame is left out (it is 0 here): it counts the frames given before, so it falls where some of these are lost.
pub record Deed (M C : Type 0) : Type 0 where
  pub replica : ℕ
  pub act : Act M
  pub reply : Reply C
  pub change : Change M C

-- the act without the number of a frame
abbrev pub unnumbered : {M : Type 0} → Act M → Act M
unnumbered (Receive n) = Receive 0
unnumbered (DeliverPart n bytes) = DeliverPart 0 bytes
unnumbered (Answer n) = Answer 0
unnumbered (Release n) = Release 0
unnumbered act = act

-- what the steps do from m on
abbrev pub deeds : {M C : Type 0} → Setting M C → Moment M C → History M C → List (Deed M C)
deeds s m [] = []
deeds s m (x ∷ later) =
    record { replica = x.event.replica; act = unnumbered x.event.act; reply = x.reply; change = change m x } ∷ deeds s (happens s m (change m x)) later

-- all but those of r
abbrev pub of_others : {M C : Type 0} → ℕ → List (Deed M C) → List (Deed M C)
of_others r ds = filter (λ d. not (d.replica == r)) ds

-- `left` is what is left of `later`: what the others did, all of it and in its order, and nothing that r did
abbrev pub IsLeftOf : {M C : Type 0} → Setting M C → (before later : History M C) → ℕ → (left : History M C) → Type 0
IsLeftOf s before later r left = deeds s (now s before) left ≡ of_others r (deeds s (now s before) later)

-- ---- one replica at a moment

-- all that a moment has of one replica
pub record Replica (C : Type 0) : Type 0 where
  pub is_retired : Bool
  pub holding : Holding
  pub feed : List (Entry C)
  pub taken_in : List Record
  pub ask_of : (stream : ℕ) → Option Ask
  pub known_at_answer : (stream : ℕ) → Versions
  pub held_at_draw : (stream : ℕ) → Versions
  pub offered : (subscriber : ℕ) → List (Mark C)
  pub taken : (subscriber : ℕ) → List (Entry C)

-- replica q at the moment
abbrev pub replica : {M C : Type 0} → Moment M C → ℕ → Replica C
replica m q = record {
  is_retired = m.is_retired q;
  holding = m.holding q;
  feed = m.feed q;
  taken_in = m.taken_in q;
  ask_of = m.ask_of q;
  known_at_answer = m.known_at_answer q;
  held_at_draw = m.held_at_draw q;
  offered = m.offered q;
  taken = m.taken q;
}

-- ---- one crash, and any number

-- what holds after `before` and `left`, where r lost its steps in `later`
pub record HoldsOfCrash {M C : Type 0} (s : Setting M C) (before later : History M C) (r : ℕ) (left : History M C) : Type 0 where
  pub run : IsRun s start (before ++ left)
  -- each other replica is as it was, and r is as it was before its first lost step
  pub others : (q : ℕ) → q ≢ r → replica (now s (before ++ left)) q ≡ replica (now s (before ++ later)) q
  pub itself : replica (now s (before ++ left)) r ≡ replica (now s before) r
  -- the versions that are left are of the items that they were of, and supersede what they superseded
  pub versions : Grows (now s (before ++ left)) (now s (before ++ later))

-- what is left of a history with crashes: it grows by steps that the rules allow after what is left so far, and in a crash it loses what a replica did last, of which nobody took anything
pub data IsWithCrashes {M C : Type 0} (s : Setting M C) : History M C → Type 0 where
  Nothing : IsWithCrashes s []
  OneMore : (h : History M C) (x : Step M C) → IsWithCrashes s h → IsAllowed s (now s h) (change (now s h) x) → IsWithCrashes s (h ++ x ∷ [])
  Crash : (before later left : History M C) (r : ℕ) → IsWithCrashes s (before ++ later) → NobodyTook s before later r → IsLeftOf s before later r left → IsWithCrashes s (before ++ left)
