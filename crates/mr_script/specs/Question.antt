-- what is printed of a world that is asked
use Rattle.std.specs.Prelude.{◌≡◌, ℕ, List, Option, None, Some, Result, Ok, Err, ◌⊎◌, length, codes, string_bytes}
use Rattle.std.specs.declared.string.String.{String}
use Rattle.std.specs.declared.alloc.Global.{Global}
use Rattle.mr_forms.specs.Known.{Pairs, Part, Form}
use Rattle.mr_concise.specs.Fragments.{ConciseFragment}
use Rattle.mr_concise.specs.Vector.{vector_has}
use Rattle.mr_version.specs.Name.{Name}
use Rattle.mr_madewith.specs.Revision.{Rev}
use Rattle.mr_store.specs.Revisions.{AreConflicts}
use Rattle.mr_wire.specs.declared.frame.Frame.TheVariants as frame
use Rattle.mr_model.specs.Moment.{numbered}
use Rattle.mr_replica.specs.Fragments.{HaveKnown, AreFragmentsOf, HasHoleyPart}
use Rattle.mr_replica.specs.State.{State, held}
use Rattle.mr_replica.specs.declared.refusal.Refusal.TheVariants.{TooManyHoles}
use Rattle.mr_world.specs.Kept.{WorldView, replica_at}
use Rattle.mr_world.specs.Pool.{GivesFrame}
use Rattle.mr_command.specs.declared.pool.Pool.{Pool}
use Rattle.mr_command.specs.declared.pool.Pool.TheVariants.{Asks, Records, Receipts}
use Rattle.mr_command.specs.declared.command.Question.{Question}
use Rattle.mr_command.specs.declared.command.Question.TheVariants.{Heads, PushOuts, Conflicts, Know, Feed, Log, Show, Bytes, Index, Unseen}
use Rattle.mr_command.specs.declared.fault.LineFault.{LineFault}
use Rattle.mr_command.specs.declared.fault.LineFault.TheVariants.{NoSuchReplica, NoSuchFrame, OutOfMemory}
use Rattle.mr_command.specs.Reading.{Reading}
use Rattle.mr_script.specs.Answer.{refused_text, bytes_text}
use Rattle.mr_script.specs.Holding.{heads_text, push_outs_text, conflicts_text, feed_text, log_text, know_text}
use Rattle.mr_script.specs.Show.{Shows}
use Rattle.mr_script.specs.Taken.{IsIndexLine, IsUnseenLine}

-- the bytes of a text that is answered
abbrev pub text_of : Result (String Global) LineFault → Result (List ℕ) LineFault
text_of (Ok text) = Ok (string_bytes text)
text_of (Err fault) = Err fault

-- the text, or out of memory
abbrev pub tells : List ℕ → Reading (List ℕ)
tells text result = (result ≡ Ok text) ⊎ (result ≡ Err OutOfMemory)

-- a text that is so, or out of memory
abbrev pub tells_one : (List ℕ → Type 0) → Reading (List ℕ)
tells_one is (Ok text) = is text
tells_one is (Err fault) = fault ≡ OutOfMemory

-- what is printed of a version, which is held as this revision or not at all
abbrev pub tells_held : Option Rev → Reading (List ℕ)
tells_held None = tells (codes "not held\n")
tells_held (Some r) = tells_one (Shows r)

-- what is printed of the items with several heads
abbrev pub tells_conflicts : ℕ → List Rev → Reading (List ℕ)
tells_conflicts id heads = tells_one (λ text. (items : List Name) × AreConflicts heads items × (text ≡ conflicts_text id items))

-- the text is that of the fragments of a knowledge: those of its parts, which have what is known
pub record IsKnowText (id : ℕ) (known : Pairs) (is_part : Part → Type 0) (text : List ℕ) : Type 0 where
  pub fragments : List ConciseFragment
  pub have : HaveKnown vector_has known fragments
  pub are : AreFragmentsOf is_part fragments
  pub is : text ≡ know_text id fragments

-- what is printed of what is known, unless a part of it has no concise vector
abbrev pub tells_known : ℕ → Pairs → (Part → Type 0) → Reading (List ℕ)
tells_known id known is_part = tells_one (λ text. IsKnowText id known is_part text ⊎ ((text ≡ refused_text TooManyHoles) × HasHoleyPart is_part))

-- what is printed of a frame, where there is one of that number
abbrev pub tells_frame : Pool → ℕ → Option (List ℕ) → Reading (List ℕ)
tells_frame pool number None result = result ≡ Err NoSuchFrame
tells_frame pool number (Some bytes) result = tells (bytes_text pool number bytes) result

module _ {K : Type 0} where
  -- the bytes are those of the frame of that number, where there is one
  abbrev pub IsFrameAt : WorldView K → Pool → ℕ → Option (List ℕ) → Type 0
  IsFrameAt w Asks n bytes = GivesFrame (λ x. frame.Ask x) (numbered w.asks n) bytes
  IsFrameAt w Records n bytes = GivesFrame (λ x. frame.Record x) (numbered w.records n) bytes
  IsFrameAt w Receipts n bytes = GivesFrame (λ x. frame.Receipt x) (numbered w.receipts n) bytes

  -- what is printed of a replica, where it is there
  abbrev pub of_replica : Option (State K) → (State K → Reading (List ℕ)) → Reading (List ℕ)
  of_replica None tells_it result = result ≡ Err NoSuchReplica
  of_replica (Some state) tells_it result = tells_it state result

module _ {K : Type 0} (form : Form K) (w : WorldView K) where
  -- what is printed at a question
  abbrev pub replies : Question → Reading (List ℕ)
  replies (Heads id) = of_replica (replica_at w.members id) (λ r. tells (heads_text id r.heads))
  replies (PushOuts id) = of_replica (replica_at w.members id) (λ r. tells (push_outs_text id r.push_outs))
  replies (Conflicts id) = of_replica (replica_at w.members id) (λ r. tells_conflicts id r.heads)
  replies (Know id) = of_replica (replica_at w.members id) (λ r. tells_known id (form.known r.knowledge) (form.is_part r.knowledge))
  replies (Feed id) = of_replica (replica_at w.members id) (λ r. tells (feed_text id r.feed))
  replies (Log id) = of_replica (replica_at w.members id) (λ r. tells (log_text id (length r.log)))
  replies (Show id version) = of_replica (replica_at w.members id) (λ r. tells_held (held r version))
  replies (Bytes pool number) = λ result. (bytes : Option (List ℕ)) × IsFrameAt w pool number bytes × tells_frame pool number bytes result
  replies (Index id label) = tells_one (IsIndexLine w.answers id (string_bytes label))
  replies (Unseen id) = tells_one (IsUnseenLine w.answers id)
