-- worked rows: what the definitions give for small values
use Rattle.std.specs.Prelude.{◌≡◌, ℕ, true, false, List, [], ◌∷◌, Some, None, Ok, Err, refl}
use Rattle.mr_version.specs.Name.{Name}
use Rattle.mr_concise.specs.declared.vector.AuthorColumn.{AuthorColumn}
use Rattle.mr_mail.specs.Mail.{Mail, card_of}
use Rattle.mr_filter.specs.Filter.{ClauseParts}
use Rattle.mr_feed.specs.declared.entry.Entry.{Entry}
use Rattle.mr_feed.specs.declared.entry.Entry.TheVariants.{Added, Dropped}
use Rattle.mr_madewith.specs.Revision.{Rev}
use Rattle.mr_wire.specs.Frames.{Question, Sent}
use Rattle.mr_wire.specs.declared.frame.Body.{Body}
use Rattle.mr_wire.specs.declared.frame.Body.TheVariants.{Start, Item, MoveOut, Held, Know, End}
use Rattle.mr_wire.specs.declared.frame.Frame.TheVariants as frame
use Rattle.mr_wire.specs.declared.frame.Mode.TheVariants.{Full, Partial}
use Rattle.mr_wire.specs.declared.frame.Receipt.{Receipt}
use Rattle.mr_replica.specs.State.{State, new_state, next_version, item_of_held}
use Rattle.mr_replica.specs.Issue.{issuing, revision_for, told_more}
use Rattle.mr_replica.specs.Create.{create_refusal, created}
use Rattle.mr_replica.specs.Growing.{FeedGrows, admitted}
use Rattle.mr_replica.specs.Edit.{lower_of, edit_refusal, edited}
use Rattle.mr_replica.specs.Retire.{retire_refusal, retiring}
use Rattle.mr_replica.specs.Pull.{pull_refusal, pulling}
use Rattle.mr_replica.specs.CutIn.{cut_in_refusal}
use Rattle.mr_replica.specs.CutOut.{cut_out_refusal}
use Rattle.mr_replica.specs.Vouch.{vouch_refusal}
use Rattle.mr_replica.specs.Release.{release_refusal, releasing}
use Rattle.mr_replica.specs.Answer.{answer_refusal, mode_for}
use Rattle.mr_replica.specs.Next.{next_refusal}
use Rattle.mr_replica.specs.Receive.{receive_refusal, learning}
use Rattle.mr_replica.specs.Forged.{is_forged, line_of}
use Rattle.mr_replica.specs.declared.refusal.Refusal.TheVariants.{Retired, NoBase, NotHeld, MixedItems, OwnHeadLeft, LogFull, NotForMe, NoSession, NotStart, NotARecord, NoStream, OwnAsk, NotPushedOut, PushOutsLeft}
use Rattle.mr_replica.specs.declared.event.Event.TheVariants.{Pull}
use Rattle.mr_replica.specs.declared.event.Reply.TheVariants.{Done}

-- ---- values

abbrev name : ℕ → ℕ → Name
name author counter = record { author = author; counter = counter }

-- an author's versions from 1 to this one
abbrev upto : (author last : ℕ) → AuthorColumn
upto author last = record { author = author; column = record { upto = last; holes = [] } }

-- a message with these flags alone
abbrev mail : ℕ → Mail
mail flags = record { from = []; subject = []; body = []; labels = []; flags = flags; day = 0 }

-- the filter that selects all messages, and the one that selects those that are not deleted
abbrev all : List ClauseParts
all = record { all_labels = []; no_labels = []; flags_on = 0; flags_off = 0; since = 0 } ∷ []

abbrev not_deleted : List ClauseParts
not_deleted = record { all_labels = []; no_labels = []; flags_on = 0; flags_off = 16; since = 0 } ∷ []

abbrev rev : (item version : Name) → List AuthorColumn → (flags : ℕ) → Rev
rev item version below flags = record { item = item; version = version; below = below; message = mail flags }

abbrev added : Rev → Entry
added r = Added r.item r.version (card_of r.message)

-- replica 3, to which nothing has happened: it selects what is not deleted and admits two events
abbrev fresh : State ℕ
fresh = new_state 3 not_deleted 2 0

-- it after two events
abbrev full : State ℕ
full = record fresh { log = Pull ∷ Pull ∷ [] }

-- it after it retired
abbrev retired : State ℕ
retired = retiring fresh

-- a request of this replica for its first session, for what this filter selects
abbrev ask : ℕ → List ClauseParts → Question
ask target filter = record { target = target; session = 1; filter = filter; fragments = [] }

-- the record of this index of a stream to this replica's first session
abbrev sent : (target index : ℕ) → Body → Sent
sent target index body = record { header = record { source = 5; stream = 1; target = target; session = 1; index = index }; body = body }

abbrev receipt : Rev → Receipt
receipt r = record { giver = 5; descent = line_of r }

-- the first version of the replica, and one of another for the same item, made from it
abbrev first : Rev
first = rev (name 3 1) (name 3 1) [] 0

abbrev other : Rev
other = rev (name 3 1) (name 5 1) (upto 3 1 ∷ []) 0

-- ---- what a fresh replica refuses

pub fresh_refusals :
    (create_refusal fresh ≡ None)
    -- an edit wants a base first of all
    × (edit_refusal fresh [] ≡ Some NoBase)
    -- the first base that isn't held is named
    × (edit_refusal fresh (name 5 2 ∷ name 3 1 ∷ []) ≡ Some (NotHeld (name 5 2)))
    -- it has nothing to lose
    × (retire_refusal fresh ≡ None)
    × (pull_refusal fresh ≡ None)
    × (cut_in_refusal fresh 1 ≡ Some NoSession)
    × (cut_out_refusal fresh 1 ≡ Some NoStream)
    × (next_refusal fresh 1 ≡ Some NoStream)
    × (vouch_refusal fresh (name 3 1) ≡ Some (NotHeld (name 3 1)))
    × (release_refusal fresh (receipt first) ≡ Some NotPushedOut)
    -- it answers others, though not itself
    × (answer_refusal fresh (ask 5 all) ≡ None)
    × (answer_refusal fresh (ask 3 all) ≡ Some OwnAsk)
    -- a record for another replica is not its own, whether or not it has the session
    × (receive_refusal fresh (frame.Record (sent 4 0 (Start Full))) ≡ Some NotForMe)
    × (receive_refusal fresh (frame.Record (sent 3 0 (Start Full))) ≡ Some NoSession)
    -- a request is no record
    × (receive_refusal fresh (frame.Ask (ask 5 all)) ≡ Some NotARecord)
fresh_refusals = (refl, refl, refl, refl, refl, refl, refl, refl, refl, refl, refl, refl, refl, refl, refl)

-- ---- what a replica with a full log refuses: the log's fault comes last

pub full_refusals :
    (create_refusal full ≡ Some LogFull)
    × (edit_refusal full [] ≡ Some NoBase)
    × (pull_refusal full ≡ Some LogFull)
    × (answer_refusal full (ask 5 all) ≡ Some LogFull)
    × (answer_refusal full (ask 3 all) ≡ Some OwnAsk)
    -- it may retire all the same
    × (retire_refusal full ≡ None)
full_refusals = (refl, refl, refl, refl, refl, refl)

-- ---- what a retired replica refuses

pub retired_refusals :
    (create_refusal retired ≡ Some Retired)
    -- that it has retired comes before all else
    × (edit_refusal retired [] ≡ Some Retired)
    × (create_refusal (retiring full) ≡ Some Retired)
    × (retire_refusal retired ≡ Some Retired)
    × (cut_in_refusal retired 1 ≡ Some Retired)
    × (vouch_refusal retired (name 3 1) ≡ Some Retired)
    × (receive_refusal retired (frame.Ask (ask 5 all)) ≡ Some Retired)
    -- it goes on telling others
    × (answer_refusal retired (ask 5 all) ≡ None)
    × (next_refusal retired 1 ≡ Some NoStream)
retired_refusals = (refl, refl, refl, refl, refl, refl, refl, refl, refl)

-- ---- a create

-- the replica behind the create of a message with these flags
abbrev behind_create : ℕ → State ℕ
behind_create flags = issuing fresh 0 (revision_for fresh (created fresh (mail flags)) [])

pub after_a_create :
    -- the first version is 1, and its own item
    (next_version fresh ≡ name 3 1)
    -- what the filter selects enters the heads, and the feed tells it
    × ((behind_create 0).heads ≡ first ∷ [])
    × ((behind_create 0).push_outs ≡ [])
    × ((behind_create 0).feed ≡ added first ∷ [])
    -- what it doesn't select is pushed out, and the feed tells nothing
    × ((behind_create 16).push_outs ≡ rev (name 3 1) (name 3 1) [] 16 ∷ [])
    × ((behind_create 16).heads ≡ [])
    × ((behind_create 16).feed ≡ [])
    -- the push-out feed tells it, and nothing of a head
    × ((behind_create 16).push_out_feed ≡ added (rev (name 3 1) (name 3 1) [] 16) ∷ [])
    × ((behind_create 0).push_out_feed ≡ [])
    -- the next version is 2 either way
    × (next_version (behind_create 16) ≡ name 3 2)
after_a_create = (refl, refl, refl, refl, refl, refl, refl, refl, refl, refl)

-- ---- an edit

-- the replica behind an edit of its first version to a message with these flags
abbrev behind_edit : ℕ → State ℕ
behind_edit flags = issuing (behind_create 0) 0 (revision_for (behind_create 0) (edited (behind_create 0) (name 3 1 ∷ []) (mail flags)) (upto 3 1 ∷ []))

pub after_an_edit :
    -- the new version keeps the item, and takes its base's place
    ((behind_edit 1).heads ≡ rev (name 3 1) (name 3 2) (upto 3 1 ∷ []) 1 ∷ [])
    -- the feed tells that the base left, and then that the new version entered
    × ((behind_edit 1).feed ≡ added first ∷ Dropped (name 3 1) (name 3 1) ∷ added (rev (name 3 1) (name 3 2) (upto 3 1 ∷ []) 1) ∷ [])
    -- what the filter no longer selects leaves the heads for the push-outs
    × ((behind_edit 16).heads ≡ [])
    × ((behind_edit 16).push_outs ≡ rev (name 3 1) (name 3 2) (upto 3 1 ∷ []) 16 ∷ [])
    × ((behind_edit 16).feed ≡ added first ∷ Dropped (name 3 1) (name 3 1) ∷ [])
    -- the last own version of the item is the new one alone
    × ((behind_edit 1).trail ≡ rev (name 3 1) (name 3 2) (upto 3 1 ∷ []) 1 ∷ [])
    -- what leaves is told in the order of the heads, before what enters
    × (told_more [] (first ∷ other ∷ []) (rev (name 3 1) (name 3 2) [] 0 ∷ []) ≡ Dropped (name 3 1) (name 3 1) ∷ Dropped (name 3 1) (name 5 1) ∷ added (rev (name 3 1) (name 3 2) [] 0) ∷ [])
after_an_edit = (refl, refl, refl, refl, refl, refl, refl)

-- ---- what an event adds

-- a create adds an entry behind those of the feed, which are none here
pub create_tells : FeedGrows fresh (behind_create 0)
create_tells = (added first ∷ [], refl)

pub which_are_admitted :
    -- an admitted event is one more of the log, and a refused one is none
    (admitted Pull (Ok Done) ≡ Pull ∷ [])
    × (admitted Pull (Err LogFull) ≡ [])
which_are_admitted = (refl, refl)

-- ---- what an edit refuses

-- replica 3 issued versions 1 and 2 of an item, and holds 2 beside another's version that was made from 1
abbrev conflicting : State ℕ
conflicting = record fresh { issued = 2; heads = rev (name 3 1) (name 3 2) (upto 3 1 ∷ []) 0 ∷ other ∷ [] }

pub edit_refusals :
    -- both versions may be the bases
    (edit_refusal conflicting (name 5 1 ∷ name 3 2 ∷ []) ≡ None)
    -- the own one alone may be
    × (edit_refusal conflicting (name 3 2 ∷ []) ≡ None)
    -- the other's alone may not, for that leaves out the own one
    × (edit_refusal conflicting (name 5 1 ∷ []) ≡ Some (OwnHeadLeft (name 3 2)))
    -- that is told before that the log is full
    × (edit_refusal (record conflicting { log = Pull ∷ Pull ∷ [] }) (name 5 1 ∷ []) ≡ Some (OwnHeadLeft (name 3 2)))
    -- a base that is superseded is held no more
    × (edit_refusal conflicting (name 3 2 ∷ name 3 1 ∷ []) ≡ Some (NotHeld (name 3 1)))
    -- bases of two items are mixed, whatever own version they leave out
    × (edit_refusal (record conflicting { push_outs = rev (name 7 1) (name 7 1) [] 0 ∷ [] }) (name 5 1 ∷ name 7 1 ∷ []) ≡ Some MixedItems)
    -- the lower of two versions goes by the author first
    × (lower_of (Some (name 5 1)) (Some (name 3 2)) ≡ Some (name 3 2))
    -- a version that isn't held counts as its own item
    × (item_of_held fresh (name 5 1) ≡ name 5 1)
edit_refusals = (refl, refl, refl, refl, refl, refl, refl, refl)

-- ---- push-outs

pub push_outs_released :
    -- a replica with a push-out doesn't retire
    (retire_refusal (behind_create 16) ≡ Some PushOutsLeft)
    -- a push-out is not vouched for
    × (vouch_refusal (behind_create 16) (name 3 1) ≡ Some (NotHeld (name 3 1)))
    × (vouch_refusal (behind_create 0) (name 3 1) ≡ None)
    -- a receipt for the push-out itself releases it, and so does one for a version that supersedes it
    × ((releasing (behind_create 16) (receipt first)).push_outs ≡ [])
    × ((releasing (behind_create 16) (receipt other)).push_outs ≡ [])
    -- the push-out feed tells that it left
    × ((releasing (behind_create 16) (receipt other)).push_out_feed ≡ added (rev (name 3 1) (name 3 1) [] 16) ∷ Dropped (name 3 1) (name 3 1) ∷ [])
    -- also where something known supersedes it
    × ((learning (behind_create 16) 0 (line_of other) (Some other)).push_out_feed ≡ added (rev (name 3 1) (name 3 1) [] 16) ∷ Dropped (name 3 1) (name 3 1) ∷ [])
    -- a receipt for a version of another item releases nothing
    × (release_refusal (behind_create 16) (receipt (rev (name 7 1) (name 7 2) (upto 3 1 ∷ []) 0)) ≡ Some NotPushedOut)
    -- a head is not released
    × (release_refusal (behind_create 0) (receipt first) ≡ Some NotPushedOut)
push_outs_released = (refl, refl, refl, refl, refl, refl, refl, refl, refl)

-- ---- streams

pub streams_and_sessions :
    -- one who selects no more than is selected here gets a full stream, and one who selects more a partial one
    (mode_for fresh (ask 5 not_deleted) ≡ Full)
    × (mode_for fresh (ask 5 all) ≡ Partial)
    -- a session's first record is the start of its stream
    × (receive_refusal (pulling fresh) (frame.Record (sent 3 0 (Start Full))) ≡ None)
    × (receive_refusal (pulling fresh) (frame.Record (sent 3 1 End)) ≡ Some NotStart)
    -- an arriving revision drops the head that it supersedes, and the feed tells both
    × ((learning (behind_create 0) 0 (line_of other) (Some other)).heads ≡ other ∷ [])
    × ((learning (behind_create 0) 0 (line_of other) (Some other)).feed ≡ added first ∷ Dropped (name 3 1) (name 3 1) ∷ added other ∷ [])
    -- a version that is told as moved out takes what it supersedes with it, and nothing enters
    × ((learning (behind_create 0) 0 (line_of other) None).heads ≡ [])
streams_and_sessions = (refl, refl, refl, refl, refl, refl, refl)

-- ---- records that no replica gave

pub which_are_forged :
    -- a version of another may supersede an own one that was issued
    (is_forged (behind_create 0) (MoveOut (line_of other)) ≡ false)
    -- not one that was never issued
    × (is_forged fresh (MoveOut (line_of other)) ≡ true)
    × (is_forged (behind_create 0) (Held (upto 3 2 ∷ [])) ≡ true)
    × (is_forged (behind_create 0) (Held (upto 3 1 ∷ upto 5 9 ∷ [])) ≡ false)
    -- nor may a fragment list an item that was never created
    × (is_forged (behind_create 0) (Know (record { items = Some (name 3 2 ∷ []); vector = [] })) ≡ true)
    -- a held version keeps its item
    × (is_forged (behind_create 0) (Item (rev (name 5 1) (name 3 1) (upto 5 1 ∷ []) 0)) ≡ true)
which_are_forged = (refl, refl, refl, refl, refl, refl)
