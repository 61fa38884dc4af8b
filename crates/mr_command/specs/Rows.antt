-- worked rows: what the definitions give for small values
use Rattle.std.proofs.Common.{arith}
use Rattle.std.specs.Prelude.{◌≡◌, ◌==◌, ℕ, true, false, List, [], ◌∷◌, codes, Some, None, Ok, Err, refl}
use Rattle.std.specs.Fmt.{digits}
use Rattle.mr_mail.specs.declared.fault.MessageFault.TheVariants.{BadLabel, BadFlags as BadFlagByte, OutOfMemory as NoMemory}
use Rattle.mr_mail.specs.Label.{different_labels}
use Rattle.mr_mail.specs.declared.flags.Flag.TheVariants.{Seen, Flagged, Deleted}
use Rattle.mr_model.specs.History.{◌does◌}
use Rattle.mr_model.specs.declared.event.Act.TheVariants.{Pull, Offer}
use Rattle.mr_model.specs.declared.event.Subscriber.TheVariants.{Notifier}
use Rattle.mr_command.specs.declared.command.Command.TheVariants.{Ask, Happen}
use Rattle.mr_command.specs.declared.command.Question.TheVariants.{Heads}
use Rattle.mr_command.specs.declared.fault.LineFault.TheVariants.{WrongWords, UnknownCommand, NoSuchReplica, LateReplica, SameReplica, MessageRefused, OutOfMemory}
use Rattle.mr_command.specs.declared.pool.Pool.TheVariants.{Records, Receipts}
use Rattle.mr_command.specs.Command.{reads_command, reads_words, reads_most}
use Rattle.mr_command.specs.Event.{reads_create}
use Rattle.mr_command.specs.Fault.{fault_of_message}
use Rattle.mr_command.specs.List.{pieces_of, united, NamesFlags}
use Rattle.mr_command.specs.Message.{Parts, takes_parts, subject_of, body_of, parts_fault, makes}
use Rattle.mr_command.specs.Named.{SpellsFrame}
use Rattle.mr_command.specs.Number.{SpellsNumber}
use Rattle.mr_command.specs.Opening.{takes_spec, reads_opening}
use Rattle.mr_command.specs.Reading.{Both.goes_on, Both.ends}
use Rattle.mr_command.specs.Scene.{Scene}
use Rattle.mr_command.specs.Taking.{takes_one, takes_two_or_three}
use Rattle.mr_command.specs.Words.{words, unwords}
use Rattle.mr_command.specs.inner.Words.{words_left}

-- ---- words

-- each space ends a word, so that two of them have an empty one between them
pub two_spaces : words (codes "a  b") ≡ codes "a" ∷ [] ∷ codes "b" ∷ []
two_spaces = refl

-- an empty text is one empty word
pub empty_text : words [] ≡ [] ∷ []
empty_text = refl

pub space_at_the_end : words (codes "a ") ≡ codes "a" ∷ [] ∷ []
space_at_the_end = refl

-- spaces alone part words
pub comma_inside : words (codes "a,b c") ≡ codes "a,b" ∷ codes "c" ∷ []
comma_inside = refl

-- words joined again are the text with all its spaces
pub joined_again : unwords (codes "a" ∷ [] ∷ codes "b" ∷ []) ≡ codes "a  b"
joined_again = refl

-- behind the last word there is nothing, not even an empty word
pub behind_the_last : words_left None ≡ []
behind_the_last = refl

-- ---- lists

pub pieces : pieces_of 44 (codes "a,b") ≡ codes "a" ∷ codes "b" ∷ []
pieces = refl

-- one dot is the empty list
pub dot : pieces_of 44 (codes ".") ≡ []
dot = refl

-- a dot among other pieces is a piece
pub dot_inside : pieces_of 44 (codes ".,a") ≡ codes "." ∷ codes "a" ∷ []
dot_inside = refl

-- the empty word is a list of one empty piece
pub empty_word : pieces_of 44 [] ≡ [] ∷ []
empty_word = refl

-- a separator at the end leaves an empty piece
pub separator_at_the_end : pieces_of 43 (codes "seen+") ≡ codes "seen" ∷ [] ∷ []
separator_at_the_end = refl

-- no flags have no bits
pub no_flags : united [] ≡ 0
no_flags = refl

pub two_flags : united (Deleted ∷ Seen ∷ []) ≡ 17
two_flags = refl

-- a flag that stands twice counts once
pub flag_twice : united (Flagged ∷ Seen ∷ Flagged ∷ []) ≡ 5
flag_twice = refl

-- flags may stand in any order
pub flags_in_any_order : NamesFlags (codes "deleted+seen") 17
flags_in_any_order = record { flags = Deleted ∷ Seen ∷ []; named = refl; are = refl }

pub dot_names_no_flags : NamesFlags (codes ".") 0
dot_names_no_flags = record { flags = []; named = refl; are = refl }

-- ---- numbers and frames

pub zero_is_spelled : SpellsNumber (codes "0") 0
unfolding digits
zero_is_spelled = record { spelled = refl; in_range = omega arith }

-- a frame is the letter of its pool and its number
pub record_12 : SpellsFrame Records (codes "P12") 12
unfolding digits
record_12 = record { spelled = refl; in_range = omega arith }

pub receipt_1 : SpellsFrame Receipts (codes "R1") 1
unfolding digits
receipt_1 = record { spelled = refl; in_range = omega arith }

-- ---- subject and body

-- a subject ends before the mark, and the body begins behind it
pub subject_before_mark : subject_of (codes "a // b") ≡ codes "a"
subject_before_mark = refl

pub body_behind_mark : body_of (codes "a // b") ≡ codes "b"
body_behind_mark = refl

-- the first mark counts: a second is text of the body
pub subject_before_first : subject_of (codes "a // b // c") ≡ codes "a"
subject_before_first = refl

pub body_behind_first : body_of (codes "a // b // c") ≡ codes "b // c"
body_behind_first = refl

-- without a mark all is subject
pub subject_alone : subject_of (codes "a b") ≡ codes "a b"
subject_alone = refl

pub no_body : body_of (codes "a b") ≡ []
no_body = refl

-- two slashes are no mark without a space on either side
pub slashes_alone : subject_of (codes "// a//b //") ≡ codes "// a//b //"
slashes_alone = refl

-- a mark at the beginning leaves an empty subject
pub empty_subject : subject_of (codes " // b") ≡ []
empty_subject = refl

pub body_alone : body_of (codes " // b") ≡ codes "b"
body_alone = refl

-- a mark at the end has an empty body behind it
pub mark_at_the_end : body_of (codes "a // ") ≡ []
mark_at_the_end = refl

-- ---- the parts of a message

-- these words, with no subject
abbrev parts : (labels flags date : List ℕ) → Parts
parts labels flags date = record { labels = labels; flags = flags; date = date; from = codes "x"; subject_and_body = [] }

-- a subject may be missing
pub no_subject : takes_parts (codes "a" ∷ codes "." ∷ codes "d" ∷ codes "x" ∷ []) (Ok (parts (codes "a") (codes ".") (codes "d")))
no_subject = refl

-- a sender may not
pub no_sender : takes_parts (codes "a" ∷ codes "." ∷ codes "d" ∷ []) (Err WrongWords)
no_sender = refl

-- a message may have no labels
pub no_labels : parts_fault (parts (codes ".") (codes ".") (codes "d")) 0 ≡ None
no_labels = refl

-- an empty label is bad
pub empty_label : parts_fault (parts (codes "a,") (codes ".") (codes "d")) 0 ≡ Some BadLabel
empty_label = refl

-- a bad label is told before a bad flag byte
pub label_before_flags : parts_fault (parts (codes "A") (codes ".") (codes "d")) 32 ≡ Some BadLabel
label_before_flags = refl

pub bad_flags : parts_fault (parts (codes "a") (codes ".") (codes "d")) 32 ≡ Some BadFlagByte
bad_flags = refl

-- memory is wanted for parts that make a message, and for no others
pub wants_memory : makes (parts (codes "a") (codes ".") (codes "d")) 0 0 (Err OutOfMemory)
wants_memory = refl

pub wants_none : makes (parts (codes "A") (codes ".") (codes "d")) 0 0 (Err (MessageRefused 4))
wants_none = refl

-- labels that are repeated count once
pub repeated_labels : different_labels (pieces_of 44 (codes "a,b,a")) ≡ 2
repeated_labels = refl

-- a message's fault is told by its number, but for the want of memory
pub bad_label_told : fault_of_message BadLabel ≡ MessageRefused 4
bad_label_told = refl

pub no_memory_told : fault_of_message NoMemory ≡ OutOfMemory
no_memory_told = refl

-- ---- as many words as there have to be

pub one_word_of_two : takes_one (codes "a" ∷ codes "b" ∷ []) (Err WrongWords)
one_word_of_two = refl

pub third_missing : takes_two_or_three (codes "a" ∷ codes "b" ∷ []) (Ok (codes "a", codes "b", None))
third_missing = refl

pub fourth_word : takes_two_or_three (codes "a" ∷ codes "b" ∷ codes "c" ∷ codes "d" ∷ []) (Err WrongWords)
fourth_word = refl

-- a filter has one word at least
pub no_filter : takes_spec (codes "1" ∷ codes "2" ∷ codes "3" ∷ []) (Err WrongWords)
no_filter = refl

-- ---- lines, and which fault of a line comes first

-- replica 3 is there, and no frame
abbrev begun : Scene
begun = record { is_opening = false; has_replica = λ id. id == 3; has_frame = λ pool number. false }

abbrev opening : Scene
opening = record { is_opening = true; has_replica = λ id. id == 3; has_frame = λ pool number. false }

-- a question about a replica
pub asks_heads : reads_command begun (codes "heads 3") (Ok (Ask (Heads 3)))
unfolding digits
asks_heads = goes_on (goes_on refl (goes_on {x = 3} (record { spelled = refl; in_range = omega arith }) refl)) refl

-- an event of a replica
pub pulls : reads_command begun (codes "pull 3") (Ok (Happen (3 does Pull)))
unfolding digits
pulls = goes_on (goes_on refl (goes_on {x = 3} (record { spelled = refl; in_range = omega arith }) refl)) refl

-- two words, of which the second names a subscriber
pub offers : reads_command begun (codes "offer 3 notifier") (Ok (Happen (3 does Offer Notifier)))
unfolding digits
offers = goes_on (goes_on refl (goes_on (goes_on {x = 3} (record { spelled = refl; in_range = omega arith }) refl) (goes_on {x = Notifier} refl refl))) refl

-- names are in lower case
pub upper_case : reads_command begun (codes "Heads 3") (Err UnknownCommand)
upper_case = refl

-- a space in front of a name makes the first word empty
pub space_in_front : reads_command begun (codes " heads 3") (Err UnknownCommand)
space_in_front = refl

-- no words are no command
pub no_words : reads_words begun [] (Err WrongWords)
no_words = refl

-- too many words are told before that the replica isn't there
pub words_before_replica : reads_command begun (codes "heads 4 4") (Err WrongWords)
words_before_replica = ends (ends refl)

pub no_such_replica : reads_command begun (codes "heads 4") (Err NoSuchReplica)
unfolding digits
no_such_replica = ends (goes_on refl (goes_on {x = 4} (record { spelled = refl; in_range = omega arith }) refl))

-- that the replica isn't there is told before what is wrong with the word behind it
pub replica_before_version : reads_command begun (codes "show 4 x") (Err NoSuchReplica)
unfolding digits
replica_before_version = ends (goes_on refl (ends (goes_on {x = 4} (record { spelled = refl; in_range = omega arith }) refl)))

-- and before what is wrong with its message
pub replica_before_message : reads_create begun (codes "4" ∷ codes "A" ∷ codes "!" ∷ codes "d" ∷ codes "x" ∷ []) (Err NoSuchReplica)
unfolding digits
replica_before_message = goes_on refl (ends (goes_on {x = 4} (record { spelled = refl; in_range = omega arith }) refl))

-- missing words of a replica that is made are told before that it comes too late
pub words_before_late : reads_opening begun [] (Err WrongWords)
words_before_late = ends refl

-- and that before its id, its limits and its filter
pub late_before_id : reads_opening begun (codes "3" ∷ codes "0" ∷ codes "0" ∷ codes "?" ∷ []) (Err LateReplica)
late_before_id = goes_on refl refl

pub id_before_limit : reads_opening opening (codes "3" ∷ codes "0" ∷ codes "0" ∷ codes "?" ∷ []) (Err SameReplica)
unfolding digits
id_before_limit = goes_on refl (ends (goes_on {x = 3} (record { spelled = refl; in_range = omega arith }) refl))

-- a number that is missing is none
pub no_most : reads_most None (Ok None)
no_most = refl
