-- worked rows: what the definitions give for small values
use Rattle.std.specs.Prelude.{◌≡◌, ℕ, true, false, List, [], ◌∷◌, codes, Some, None, Ok, Err, refl}
use Rattle.std.specs.Fmt.{digits}
use Rattle.mr_version.specs.Name.{Name}
use Rattle.mr_mail.specs.Mail.{Mail, card_of}
use Rattle.mr_forms.specs.Known.{Form}
use Rattle.mr_feed.specs.declared.entry.Entry.{Entry}
use Rattle.mr_feed.specs.declared.entry.Entry.TheVariants.{Added, Dropped}
use Rattle.mr_madewith.specs.Revision.{Rev}
use Rattle.mr_model.specs.History.{◌does◌}
use Rattle.mr_model.specs.declared.event.Act.TheVariants.{Take}
use Rattle.mr_model.specs.declared.event.Subscriber.TheVariants.{Indexer, Notifier}
use Rattle.mr_replica.specs.declared.event.Reply.TheVariants.{Issued, Streaming}
use Rattle.mr_replica.specs.declared.refusal.Refusal.TheVariants.{NotHeld, OwnHeadLeft, LogFull}
use Rattle.mr_world.specs.Kept.{WorldView}
use Rattle.mr_world.specs.declared.answer.Answer.TheVariants.{NothingNew, Stepped, TookEntry, Empty}
use Rattle.mr_world.specs.declared.answered.Answered.{Answered}
use Rattle.mr_command.specs.declared.command.Question.TheVariants.{Heads, Log}
use Rattle.mr_command.specs.declared.command.Sync.{Sync}
use Rattle.mr_command.specs.declared.fault.LineFault.TheVariants.{NoSuchReplica}
use Rattle.mr_script.specs.declared.answer.PoolSizes.{PoolSizes}
use Rattle.mr_script.specs.declared.sync_line.SyncEnd.TheVariants.{Finished, Refused}
use Rattle.mr_script.specs.Answer.{refusal_text, answer_text, sync_text}
use Rattle.mr_script.specs.Frame.{joined_words, items_text}
use Rattle.mr_script.specs.Holding.{heads_text, push_outs_text, conflicts_text, feed_text, log_text, know_text}
use Rattle.mr_script.specs.Question.{replies}
use Rattle.mr_script.specs.Run.{is_skipped}
use Rattle.mr_script.specs.Script.{lines_of, line_text}
use Rattle.mr_script.specs.Show.{joined, flags_text, subject_text, shown_text}
use Rattle.mr_script.specs.Taken.{taken_of, index_text, unseen_text}

-- ---- lines

-- no bytes are no line
pub no_lines : lines_of [] ≡ []
no_lines = refl

-- a line feed at the end begins no line
pub one_line : lines_of (codes "a\n") ≡ codes "a\n" ∷ []
one_line = refl

-- the last line may lack it
pub last_line : lines_of (codes "a\nb") ≡ codes "a\n" ∷ codes "b" ∷ []
last_line = refl

-- line feeds alone are empty lines
pub empty_lines : lines_of (codes "\n\n") ≡ codes "\n" ∷ codes "\n" ∷ []
empty_lines = refl

pub text_of_line : line_text (codes "a\n") ≡ codes "a"
text_of_line = refl

pub text_of_last : line_text (codes "a") ≡ codes "a"
text_of_last = refl

-- a carriage return stays
pub carriage_return : line_text (97 ∷ 13 ∷ 10 ∷ []) ≡ 97 ∷ 13 ∷ []
carriage_return = refl

-- an empty line is skipped, and so is a remark
pub skips_empty : is_skipped [] ≡ true
skips_empty = refl

pub skips_remark : is_skipped (codes "#heads 1") ≡ true
skips_remark = refl

-- not one that begins with a space
pub no_remark : is_skipped (codes " # a") ≡ false
no_remark = refl

pub no_blank : is_skipped (codes " ") ≡ false
no_blank = refl

-- ---- what a replica holds

abbrev name : ℕ → ℕ → Name
name author counter = record { author = author; counter = counter }

-- a message from x of 1 label, seen and deleted, with this subject
abbrev mail : List ℕ → Mail
mail subject = record { from = codes "x"; subject = subject; body = codes "b"; labels = codes "in" ∷ []; flags = 17; day = 0 }

-- a version of the item 3.1
abbrev rev : (version : Name) → Rev
rev version = record { item = name 3 1; version = version; below = []; message = mail (codes "hi you") }

-- a replica without heads has nothing behind the colon
pub no_heads : heads_text 3 [] ≡ codes "heads 3:\n"
unfolding digits
no_heads = refl

pub two_heads : heads_text 3 (rev (name 3 1) ∷ rev (name 10 2) ∷ []) ≡ codes "heads 3: 3.1 10.2\n"
unfolding digits
two_heads = refl

pub one_push_out : push_outs_text 3 (rev (name 10 2) ∷ []) ≡ codes "pushouts 3: 10.2\n"
unfolding digits
one_push_out = refl

pub one_conflict : conflicts_text 0 (name 3 1 ∷ []) ≡ codes "conflicts 0: 3.1\n"
unfolding digits
one_conflict = refl

-- a version that entered has a plus, one that left a minus; the item is not told
pub two_entries : feed_text 5 (Added (name 3 1) (name 5 1) (card_of (mail [])) ∷ Dropped (name 3 1) (name 3 2) ∷ []) ≡ codes "feed 5: +5.1 -3.2\n"
unfolding digits
two_entries = refl

pub empty_log : log_text 3 0 ≡ codes "log 3: 0\n"
unfolding digits
empty_log = refl

-- a hyphen stands for no knowledge
pub knows_nothing : know_text 3 [] ≡ codes "know 3: -\n"
unfolding digits
knows_nothing = refl

-- ---- messages

-- one dot stands for the empty list
pub none_joined : joined (codes ",") [] ≡ codes "."
none_joined = refl

pub one_joined : joined (codes ",") (codes "a" ∷ []) ≡ codes "a"
one_joined = refl

pub two_joined : joined (codes ",") (codes "a" ∷ codes "b" ∷ []) ≡ codes "a,b"
two_joined = refl

pub no_flags : flags_text 0 ≡ codes "."
no_flags = refl

-- flags are printed in the order of their bits
pub two_flags : flags_text 17 ≡ codes "seen+deleted"
two_flags = refl

-- no space stands before an empty subject
pub empty_subject : subject_text [] ≡ []
empty_subject = refl

-- a message is shown without its body
pub shown : shown_text (rev (name 3 2)) (codes "1970-01-01") ≡ codes "show 3.2 in seen+deleted 1970-01-01 x hi you\n"
unfolding digits
shown = refl

pub shown_bare : shown_text (record (rev (name 3 2)) { message = record { from = codes "x"; subject = []; body = []; labels = []; flags = 0; day = 0 } }) (codes "1970-01-01") ≡ codes "show 3.2 . . 1970-01-01 x\n"
unfolding digits
shown_bare = refl

-- ---- answers

-- a refusal is told by its number and its name, and by the version that it is about
pub refused : refusal_text LogFull ≡ codes "refused 8 LogFull"
unfolding digits
refused = refl

pub refused_version : refusal_text (NotHeld (name 3 12)) ≡ codes "refused 3 NotHeld 3.12"
unfolding digits
refused_version = refl

abbrev sizes : PoolSizes
sizes = record { asks = 1; records = 2; receipts = 3 }

pub issued : answer_text sizes (Stepped (Ok (Issued (name 0 7)))) ≡ codes "issued 0.7\n"
unfolding digits
issued = refl

-- a stream has its own number, whatever the sizes of the pools are
pub streaming : answer_text sizes (Stepped (Ok (Streaming 9))) ≡ codes "streaming 9\n"
unfolding digits
streaming = refl

pub stepped_refused : answer_text sizes (Stepped (Err (OwnHeadLeft (name 3 1)))) ≡ codes "refused 5 OwnHeadLeft 3.1\n"
unfolding digits
stepped_refused = refl

pub took : answer_text sizes (TookEntry (Dropped (name 3 1) (name 3 2))) ≡ codes "took -3.2\n"
unfolding digits
took = refl

pub nothing_new : answer_text sizes NothingNew ≡ codes "nothing new\n"
nothing_new = refl

abbrev sync : Sync
sync = record { target = 1; source = 0; most = None }

-- items are counted before move outs, and the target stands before the source
pub synced : sync_text sync (record { items = 2; move_outs = 3 }) Finished ≡ codes "sync 1 from 0: items 2 moveouts 3 finished\n"
unfolding digits
synced = refl

pub sync_refused : sync_text sync (record { items = 0; move_outs = 0 }) (Refused LogFull) ≡ codes "sync 1 from 0: items 0 moveouts 0 refused 8 LogFull\n"
unfolding digits
sync_refused = refl

-- ---- frames

-- spaces stand between words alone
pub words_joined : joined_words (codes "a" ∷ codes "b" ∷ []) ≡ codes "a b"
words_joined = refl

pub all_items : items_text None ≡ codes "all"
all_items = refl

pub two_items : items_text (Some (name 3 1 ∷ name 10 2 ∷ [])) ≡ codes "3.1,10.2"
unfolding digits
two_items = refl

-- ---- what subscribers took

abbrev entry : ℕ → Entry
entry counter = Dropped (name 3 1) (name 3 counter)

-- the indexer of 1 took an entry and found nothing behind it, the notifier of 1 took one, and the indexer of 2
abbrev answers : List Answered
answers =
    record { event = 1 does Take Indexer; answer = TookEntry (entry 1) } ∷ record { event = 1 does Take Indexer; answer = Empty }
    ∷ record { event = 1 does Take Notifier; answer = TookEntry (entry 2) } ∷ record { event = 2 does Take Indexer; answer = TookEntry (entry 3) } ∷ []

pub taken_by_indexer : taken_of answers 1 Indexer ≡ entry 1 ∷ []
taken_by_indexer = refl

pub taken_by_notifier : taken_of answers 1 Notifier ≡ entry 2 ∷ []
taken_by_notifier = refl

pub index_of_none : index_text 1 (codes "in") [] ≡ codes "index 1 in:\n"
unfolding digits
index_of_none = refl

pub none_unseen : unseen_text 1 0 ≡ codes "unseen 1: 0\n"
unfolding digits
none_unseen = refl

-- ---- questions

-- a world without replicas
abbrev bare_world : WorldView ℕ
bare_world = record { members = []; asks = []; records = []; receipts = []; answers = [] }

-- a question about a replica that isn't there is at fault
pub heads_of_none : (form : Form ℕ) → replies form bare_world (Heads 3) (Err NoSuchReplica)
heads_of_none form = refl

pub log_of_none : (form : Form ℕ) → replies form bare_world (Log 3) (Err NoSuchReplica)
log_of_none form = refl
