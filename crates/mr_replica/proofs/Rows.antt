-- Worked rows: what the definitions of a step say of states that were computed by hand.
use Rattle.std.proofs.Common.{◌≡◌, arith, ℕ, zero, suc, Bool, true, false, refl, List, [], ◌∷◌, ◌++◌, map, Option, Some, None}
use Rattle.mr_replica.proofs.Names.{Added, Answer, AuthorColumn, Body, ClauseParts, CutIn, CutOut, Dropped, Edit, End, Form, Full, GivesNext, IsLongestWithin}
use Rattle.mr_replica.proofs.Names.{Item, Keeps, LogFull, Mail, MixedItems, Name, Next, NoBase, NoSession, NoStream, NotHeld, NotPushedOut, OwnAsk}
use Rattle.mr_replica.proofs.Names.{OwnHeadLeft, Partial, Piece, Pull, PushOutsLeft, Question, Receipt, Release, Retire, Retired, Rev, Sent, State, Stream}
use Rattle.mr_replica.proofs.Names.{Table, TooManySessions, TooManyStreams, Vouch, answering, asked_of, below_of_issue, card_of, cutting_in, cutting_out}
use Rattle.mr_replica.proofs.Names.{edited, empty_table, entered, first_refusal, has_below, has_conflict, issuing, left_by, logged, mode_for, new_session}
use Rattle.mr_replica.proofs.Names.{new_stream, pulling, receipt_for, releasing, retiring, total_len, version_learned, version_of, with_opened}
use Rattle.mr_replica.specs.inner.Contents.{news_of}
use Rattle.mr_replica.proofs.PullLemmas.{fits_until}

abbrev pub name : ℕ → ℕ → Name
name author counter = record { author = author; counter = counter }

abbrev pub mail : Mail
mail = record { from = []; subject = []; body = []; labels = []; flags = 0; day = 0 }

-- the versions 1 to this one of an author
abbrev pub column : ℕ → ℕ → AuthorColumn
column author upto = record { author = author; column = record { upto = upto; holes = [] } }

abbrev pub rev : Name → List AuthorColumn → Rev
rev version below = record { item = name 0 1; version = version; below = below; message = mail }

-- the filter of one clause with no condition
abbrev pub all_messages : List ClauseParts
all_messages = record { all_labels = []; no_labels = []; flags_on = 0; flags_off = 0; since = 0 } ∷ []

-- what an edit of these bases supersedes
abbrev edited_below : State (Unit {0}) → List Name → Name → Bool
edited_below s bases = below_of_issue s (edited s bases mail)

-- a replica 0 that issued so many versions, with these heads and last own versions
abbrev replica : ℕ → List Rev → List Rev → State (Unit {0})
replica issued heads trail = record { id = 0; filter = all_messages; event_limit = 9; issued = issued; knowledge = tt; heads = heads; push_outs = []; trail = trail; feed = []; push_out_feed = []; log = []; is_retired = false; sessions = empty_table; streams = empty_table }

-- ---- a conflict and its merge: 1.1 and 2.1 both replace 0.1

abbrev conflict : State (Unit {0})
conflict = replica 1 (rev (name 1 1) (column 0 1 ∷ []) ∷ rev (name 2 1) (column 0 1 ∷ []) ∷ []) (rev (name 0 1) [] ∷ [])

abbrev second : Rev
second = rev (name 0 2) (column 0 1 ∷ column 2 1 ∷ [])

-- an edit of 1.1 alone leaves the own head 0.2, and is refused; one of both is admitted
abbrev half_merged : State (Unit {0})
half_merged = replica 2 (second ∷ rev (name 1 1) (column 0 1 ∷ []) ∷ []) (rev (name 0 2) (column 0 1 ∷ column 2 1 ∷ []) ∷ [])

abbrev third : Rev
third = rev (name 0 3) (column 0 2 ∷ column 1 1 ∷ column 2 1 ∷ [])

edits_of_a_conflict :
    (has_conflict conflict.heads (name 0 1) ≡ true)
    -- an edit of 2.1 supersedes 2.1 and 0.1, and leaves 1.1
    × (first_refusal conflict (Edit (name 2 1 ∷ []) mail) ≡ None)
    × (map (edited_below conflict (name 2 1 ∷ [])) (name 0 1 ∷ name 0 2 ∷ name 1 1 ∷ name 2 1 ∷ []) ≡ true ∷ false ∷ false ∷ true ∷ [])
    × (map version_of (entered second (left_by second.item (has_below second) conflict.heads)) ≡ name 0 2 ∷ name 1 1 ∷ [])
    × (news_of true second conflict.heads ≡ Dropped (name 0 1) (name 2 1) ∷ Added (name 0 1) (name 0 2) (card_of mail) ∷ [])
    × (first_refusal half_merged (Edit (name 1 1 ∷ []) mail) ≡ Some (OwnHeadLeft (name 0 2)))
    × (first_refusal half_merged (Edit (name 0 2 ∷ name 1 1 ∷ []) mail) ≡ None)
    × (map (edited_below half_merged (name 0 2 ∷ name 1 1 ∷ [])) (name 0 1 ∷ name 0 2 ∷ name 0 3 ∷ name 1 1 ∷ name 2 1 ∷ []) ≡ true ∷ true ∷ false ∷ true ∷ true ∷ [])
    -- what leaves comes first, in version order
    × (news_of true third half_merged.heads ≡ Dropped (name 0 1) (name 0 2) ∷ Dropped (name 0 1) (name 1 1) ∷ Added (name 0 1) (name 0 3) (card_of mail) ∷ [])
    × (map version_of (entered third (left_by third.item (has_below third) half_merged.heads)) ≡ name 0 3 ∷ [])
edits_of_a_conflict = (refl, refl, refl, refl, refl, refl, refl, refl, refl, refl)

-- ---- refusals in their order

abbrev other_item : Rev
other_item = record { item = name 3 7; version = name 3 7; below = []; message = mail }

refusals_in_order :
    (first_refusal half_merged (Edit [] mail) ≡ Some NoBase)
    -- the first base in the order given that is not held, before mixed items
    × (first_refusal half_merged (Edit (name 1 1 ∷ name 5 1 ∷ name 3 1 ∷ []) mail) ≡ Some (NotHeld (name 5 1)))
    -- mixed items, before an own head that is left
    × (first_refusal (replica 2 (second ∷ rev (name 1 1) (column 0 1 ∷ []) ∷ other_item ∷ []) []) (Edit (name 1 1 ∷ name 3 7 ∷ []) mail) ≡ Some MixedItems)
    -- a full log comes after what the state refuses
    × (first_refusal (record half_merged { event_limit = 0 }) (Edit (name 1 1 ∷ []) mail) ≡ Some (OwnHeadLeft (name 0 2)))
    × (first_refusal (record half_merged { event_limit = 0 }) (Edit (name 0 2 ∷ name 1 1 ∷ name 1 1 ∷ []) mail) ≡ Some LogFull)
refusals_in_order = (refl, refl, refl, refl, refl)

-- ---- the trail: the own 0.2 has left the store, and still goes into the next below, with what it superseded

abbrev own_has_left : State (Unit {0})
own_has_left = replica 2 (rev (name 1 1) (column 0 1 ∷ []) ∷ []) (rev (name 0 2) (column 0 1 ∷ column 2 1 ∷ []) ∷ [])

trail_below : map (edited_below own_has_left (name 1 1 ∷ [])) (name 0 1 ∷ name 0 2 ∷ name 0 3 ∷ name 1 1 ∷ name 2 1 ∷ []) ≡ true ∷ true ∷ false ∷ true ∷ true ∷ []
trail_below = refl

-- ---- the own column is filled: 0.3 and 0.4 are other items' first versions

abbrev creates_between : State (Unit {0})
creates_between = replica 4 (rev (name 0 2) (column 0 1 ∷ []) ∷ []) (rev (name 0 2) (column 0 1 ∷ []) ∷ [])

-- so dropping asks for the item too
abbrev pub of_item : Name → Rev
of_item version = record { item = version; version = version; below = []; message = mail }

filled_columns :
    (map (edited_below creates_between (name 0 2 ∷ [])) (name 0 1 ∷ name 0 2 ∷ name 0 3 ∷ name 0 4 ∷ name 0 5 ∷ name 1 1 ∷ []) ≡ true ∷ true ∷ true ∷ true ∷ false ∷ false ∷ [])
    × (map version_of (left_by (name 0 1) (has_below (rev (name 0 5) (column 0 4 ∷ []))) (rev (name 0 2) (column 0 1 ∷ []) ∷ of_item (name 0 3) ∷ of_item (name 0 4) ∷ [])) ≡ name 0 3 ∷ name 0 4 ∷ [])
filled_columns = (refl, refl)

-- ---- a version is learned alone

abbrev knows_nothing : Form (Unit {0})
knows_nothing = record { known = λ _ _ _. false; is_part = λ _ _. ⊥; learns_for_all = λ _ _ _ _. false; firsts_for_all = λ _ _ _ _. false; has_too_many_holes = λ _. ⊥; has_too_many_items = λ _. ⊥ }

learned_alone :
    (map (version_learned knows_nothing creates_between (name 0 1) (name 0 1)) (name 0 2 ∷ name 0 3 ∷ name 0 4 ∷ name 0 5 ∷ name 0 6 ∷ []) ≡ false ∷ false ∷ false ∷ true ∷ false ∷ [])
    × (version_learned knows_nothing creates_between (name 0 1) (name 0 3) (name 0 5) ≡ false)
learned_alone = (refl, refl)

-- ---- a filter that selects nothing: an own version joins the push-outs, and the feed tells nothing of it

abbrev selects_nothing : State (Unit {0})
selects_nothing = record conflict { filter = []; heads = rev (name 1 1) (column 0 1 ∷ []) ∷ []; push_outs = rev (name 2 1) (column 0 1 ∷ []) ∷ [] }

unselected_edit :
    -- a push-out may be a base
    (first_refusal selects_nothing (Edit (name 2 1 ∷ []) mail) ≡ None)
    × (map version_of (issuing selects_nothing tt second).push_outs ≡ name 0 2 ∷ [])
    × (map version_of (issuing selects_nothing tt second).heads ≡ name 1 1 ∷ [])
    × ((issuing selects_nothing tt second).feed ≡ [])
unselected_edit = (refl, refl, refl, refl)

-- ---- retirement: push-outs keep it, a full log does not

abbrev gone : State (Unit {0})
gone = retiring selects_nothing

retirement :
    (first_refusal selects_nothing Retire ≡ Some PushOutsLeft)
    × (first_refusal (record half_merged { event_limit = 0 }) Retire ≡ None)
    × (map version_of gone.push_outs ≡ name 2 1 ∷ [])
    -- a retired replica goes on telling others, and nothing else
    × (first_refusal gone Retire ≡ Some Retired)
    × (first_refusal gone (Edit [] mail) ≡ Some Retired)
retirement = (refl, refl, refl, refl, refl)

-- ---- cuts: one session or stream is closed, and its number is not used again

abbrev two_sessions : State (Unit {0})
two_sessions = record conflict { sessions = with_opened (with_opened empty_table new_session) new_session }

cuts :
    (first_refusal two_sessions (CutIn 3) ≡ Some NoSession)
    × (first_refusal (retiring two_sessions) (CutIn 3) ≡ Some Retired)
    × (cutting_in two_sessions 1 ≡ record two_sessions { sessions = record { opened = 2; open_ones = (record { number = 2; value = new_session }) ∷ [] } })
    × (first_refusal (retiring two_sessions) (CutOut 1) ≡ Some NoStream)
cuts = (refl, refl, refl, refl)

-- ---- a pull: eight sessions may be open, and each gets a number of its own

abbrev third_is_open : State (Unit {0})
third_is_open = pulling (cutting_in two_sessions 2)

abbrev eight_sessions : State (Unit {0})
eight_sessions = pulling (pulling (pulling (pulling (pulling (pulling two_sessions)))))

-- of three pieces of 3 bytes two take at most 8 bytes: not three, and not one
abbrev piece : Piece
piece = record { items = None; vector = [] }

pulls :
    (third_is_open.sessions ≡ record { opened = 3; open_ones = (record { number = 1; value = new_session }) ∷ (record { number = 3; value = new_session }) ∷ [] })
    × (first_refusal (cutting_in eight_sessions 8) Pull ≡ None)
    × (first_refusal eight_sessions Pull ≡ Some TooManySessions)
    × (first_refusal (record eight_sessions { event_limit = 0 }) Pull ≡ Some TooManySessions)
    × (first_refusal (record two_sessions { event_limit = 0 }) Pull ≡ Some LogFull)
    × (first_refusal (retiring eight_sessions) Pull ≡ Some Retired)
pulls = (refl, refl, refl, refl, refl, refl)

two_take_six : total_len (piece ∷ piece ∷ []) ≡ 6
two_take_six = refl

two_fit : IsLongestWithin 8 (piece ∷ piece ∷ piece ∷ []) (piece ∷ piece ∷ [])
two_fit = fits_until 8 (piece ∷ piece ∷ piece ∷ []) (piece ∷ piece ∷ []) [] piece 2 (record { whole = refl; used = refl }) (omega arith)

three_do_not : ¬ IsLongestWithin 8 (piece ∷ piece ∷ piece ∷ []) (piece ∷ piece ∷ piece ∷ [])
three_do_not h = let nine : total_len (piece ∷ piece ∷ piece ∷ []) ≡ 9 = refl in omega (arith, nine, h.within)

one_is_not_all : ¬ IsLongestWithin 8 (piece ∷ piece ∷ piece ∷ []) (piece ∷ [])
one_is_not_all h = let two = h.longest 2 (omega (arith, two_take_six)) in omega (arith, two)

-- ---- receipts: a head is vouched for, a push-out is not

-- the receipt of 2.2, which supersedes 0.1 and 2.1, frees 2.1 and not 1.1; of the filled column 2.1 of another item stays
abbrev receipt : Receipt
receipt = receipt_for 3 (rev (name 2 2) (column 0 1 ∷ column 2 1 ∷ []))

abbrev pushing_out : List Rev → State (Unit {0})
pushing_out rs = record selects_nothing { push_outs = rs }

receipts :
    (first_refusal selects_nothing (Vouch (name 1 1)) ≡ None)
    × (first_refusal selects_nothing (Vouch (name 2 1)) ≡ Some (NotHeld (name 2 1)))
    × (first_refusal (record selects_nothing { event_limit = 0 }) (Vouch (name 2 1)) ≡ Some (NotHeld (name 2 1)))
    × (map version_of (releasing (pushing_out (rev (name 1 2) [] ∷ rev (name 2 1) [] ∷ rev (name 2 2) [] ∷ [])) receipt).push_outs ≡ name 1 2 ∷ [])
    × (first_refusal (pushing_out (of_item (name 2 1) ∷ [])) (Release receipt) ≡ Some NotPushedOut)
    × (map version_of (releasing conflict receipt).heads ≡ name 1 1 ∷ name 2 1 ∷ [])
receipts = (refl, refl, refl, refl, refl, refl)

-- ---- requests: a stream is opened for another replica, one of eight at most

-- the filter of one clause, which wants flags
abbrev flagged : List ClauseParts
flagged = record { all_labels = []; no_labels = []; flags_on = 1; flags_off = 0; since = 0 } ∷ []

abbrev request : ℕ → List ClauseParts → Question
request target filter = record { target = target; session = 1; filter = filter; fragments = [] }

-- so many streams were opened, and are open
abbrev streams_of : ℕ → Table Stream
streams_of zero = empty_table
streams_of (suc n) = with_opened (streams_of n) (new_stream (asked_of (request 1 flagged)) Partial [])

abbrev telling : ℕ → State (Unit {0})
telling n = record conflict { streams = streams_of n }

answers :
    (first_refusal (telling 7) (Answer (request 1 flagged)) ≡ None)
    × (first_refusal (telling 8) (Answer (request 1 flagged)) ≡ Some TooManyStreams)
    -- one was closed
    × (first_refusal (cutting_out (telling 8) 3) (Answer (request 1 flagged)) ≡ None)
    × (first_refusal (record (telling 8) { event_limit = 0 }) (Answer (request 0 flagged)) ≡ Some OwnAsk)
    × (first_refusal (record (telling 8) { event_limit = 0 }) (Answer (request 1 flagged)) ≡ Some TooManyStreams)
    × (first_refusal (record (telling 7) { event_limit = 0 }) (Answer (request 1 flagged)) ≡ Some LogFull)
    -- a retired replica goes on telling others
    × (first_refusal (retiring (telling 7)) (Answer (request 1 flagged)) ≡ None)
    -- the mode is full where the replica selects all that is asked for, not where all that it selects is asked for
    × (mode_for conflict (request 1 flagged) ≡ Full)
    × (mode_for (record conflict { filter = flagged }) (request 1 all_messages) ≡ Partial)
    -- all that is known goes into a full stream, and nothing into a partial one
    × (Keeps knows_nothing Partial tt [])
    × ((answering (telling 2) (request 1 flagged) []).streams.opened ≡ 3)
answers = (refl, refl, refl, refl, refl, refl, refl, refl, refl, refl, refl)

-- ---- records: the stream must be open, and gives of what is held now

-- a partial stream for all messages, of which the next record has this index, and whose walk looked at this version last
abbrev walking : ℕ → Option Name → Stream
walking index past = record (new_stream (asked_of (request 1 all_messages)) Partial []) { next = index; past = past }

-- a replica with these heads, of which the stream 1 is open
abbrev giving : List Rev → Stream → State (Unit {0})
giving heads stream = record conflict { heads = heads; streams = record { opened = 1; open_ones = (record { number = 1; value = stream }) ∷ [] } }

-- the record of that index
abbrev record_of : ℕ → Body → Sent
record_of index body = record { header = record { source = 0; stream = 1; target = 1; session = 1; index = index }; body = body }

-- 3.1 has entered since the walk looked at 2.1, the last head of then
abbrev entered_since : Rev
entered_since = rev (name 3 1) (column 0 1 ∷ [])

nexts :
    (first_refusal (record (telling 2) { event_limit = 0 }) (Next 3) ≡ Some NoStream)
    × (first_refusal (record (telling 2) { event_limit = 0 }) (Next 2) ≡ Some LogFull)
    × (first_refusal (retiring (telling 2)) (Next 2) ≡ None)
nexts = (refl, refl, refl)

gives_what_entered_since :
    GivesNext (giving (conflict.heads ++ entered_since ∷ []) (walking 3 (Some (name 2 1)))) 1 (record_of 3 (Item entered_since))
    (logged (giving (conflict.heads ++ entered_since ∷ []) (walking 4 (Some (name 3 1)))) (Next 1))
gives_what_entered_since = (
  (giving [] (walking 4 (Some (name 3 1)))).streams,
  (walking 3 (Some (name 2 1)), walking 4 (Some (name 3 1)), refl, (walking 3 (Some (name 3 1)), (refl, refl), refl, refl), refl),
  refl,
)

-- else the stream ends, and is closed
closed_with_its_end :
    GivesNext (giving conflict.heads (walking 3 (Some (name 2 1)))) 1 (record_of 3 End)
    (logged (record conflict { streams = record { opened = 1; open_ones = [] } }) (Next 1))
closed_with_its_end = (
  record { opened = 1; open_ones = [] },
  (walking 3 (Some (name 2 1)), walking 4 (Some (name 2 1)), refl, (walking 3 (Some (name 2 1)), (refl, refl), refl, refl), refl),
  refl,
)
