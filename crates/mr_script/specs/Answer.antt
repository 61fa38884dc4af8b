-- the lines of a world's answers, of syncs and of frames' bytes, each with its line feed
use Rattle.std.specs.Prelude.{ℕ, List, [], ◌∷◌, ◌++◌, Option, Some, None, Ok, Err, codes, encode_utf8}
use Rattle.std.specs.List.{concat}
use Rattle.std.specs.Fmt.{decimal}
use Rattle.hex.specs.Hex.{encode_lower}
use Rattle.mr_version.specs.Name.{Name, name_text}
use Rattle.mr_feed.specs.declared.entry.Entry.{Entry}
use Rattle.mr_feed.specs.declared.entry.Entry.TheVariants.{Added, Dropped}
use Rattle.mr_wire.specs.declared.frame.Body.{Body}
use Rattle.mr_wire.specs.declared.frame.Body.TheVariants.{Item, MoveOut}
use Rattle.mr_replica.specs.declared.event.Reply.{Reply}
use Rattle.mr_replica.specs.declared.event.Reply.TheVariants as reply
use Rattle.mr_replica.specs.declared.refusal.Refusal.{Refusal}
use Rattle.mr_replica.specs.declared.refusal.Refusal.TheVariants.{NotHeld, OwnHeadLeft}
use Rattle.mr_replica.specs.Refusal.{refusal_number, refusal_name}
use Rattle.mr_world.specs.declared.answer.Answer.{Answer}
use Rattle.mr_world.specs.declared.answer.Answer.TheVariants.{Stepped, Truncated, Offered, NothingNew, Full, TookEntry, Empty, Closed, Done}
use Rattle.mr_script.specs.declared.answer.PoolSizes.{PoolSizes}
use Rattle.mr_command.specs.declared.pool.Pool.{Pool}
use Rattle.mr_command.specs.declared.command.Sync.{Sync}
use Rattle.mr_script.specs.declared.sync_line.SyncCounts.{SyncCounts}
use Rattle.mr_script.specs.declared.sync_line.SyncEnd.{SyncEnd}
use Rattle.mr_script.specs.declared.sync_line.SyncEnd.TheVariants.{Finished, Cut, Refused}
use Rattle.mr_command.specs.Pool.{letter_of}
use Rattle.mr_script.specs.Frame.{joined_words, kind_word, said_words}

-- ---- refusals

-- the version that a refusal is about
abbrev pub named_version : Refusal → Option Name
named_version (NotHeld version) = Some version
named_version (OwnHeadLeft version) = Some version
named_version refusal = None

-- a version after a space, if there is one
abbrev pub spaced : Option Name → List ℕ
spaced None = []
spaced (Some version) = codes " " ++ name_text version

-- `refused N Name`, and the version that is named
abbrev pub refusal_text : Refusal → List ℕ
refusal_text refusal = concat (codes "refused " ∷ decimal (refusal_number refusal) ∷ codes " " ∷ refusal_name refusal ∷ spaced (named_version refusal) ∷ [])

-- a refusal as a line
abbrev pub refused_text : Refusal → List ℕ
refused_text refusal = refusal_text refusal ++ codes "\n"

-- ---- entries and records

-- `+V` for a version that entered, `-V` for one that left
abbrev pub entry_text : Entry → List ℕ
entry_text (Added item version card) = codes "+" ++ name_text version
entry_text (Dropped item version) = codes "-" ++ name_text version

-- what a record says in short: of an item its version alone
abbrev pub short_words : Body → List (List ℕ)
short_words (Item revision) = name_text revision.version ∷ []
short_words (MoveOut line) = name_text line.version ∷ []
short_words body = said_words body

-- a record in short: its kind, and what it says
abbrev pub record_text : Body → List ℕ
record_text body = joined_words (kind_word body ∷ short_words body)

-- `gave Pn ` and the record in short
abbrev pub gave_text : ℕ → Body → List ℕ
gave_text number body = concat (codes "gave P" ∷ decimal number ∷ codes " " ∷ record_text body ∷ codes "\n" ∷ [])

-- `took +V` or `took -V`
abbrev pub took_text : Entry → List ℕ
took_text entry = codes "took " ++ entry_text entry ++ codes "\n"

-- ---- answers, with the sizes of the pools after them: the size of a pool is the number of its newest frame

-- what a replica replied
abbrev pub reply_text : PoolSizes → Reply → List ℕ
reply_text sizes (reply.Issued version) = codes "issued " ++ name_text version ++ codes "\n"
reply_text sizes reply.Done = codes "done\n"
reply_text sizes (reply.Asked ask) = concat (codes "asked Q" ∷ decimal sizes.asks ∷ codes " session " ∷ decimal ask.session ∷ codes "\n" ∷ [])
reply_text sizes (reply.Streaming stream) = codes "streaming " ++ decimal stream ++ codes "\n"
reply_text sizes (reply.Gave sent) = gave_text sizes.records sent.body
reply_text sizes reply.Took = codes "took\n"
reply_text sizes reply.Known = codes "known\n"
reply_text sizes reply.Finished = codes "finished\n"
reply_text sizes (reply.Vouched receipt) = codes "vouched R" ++ decimal sizes.receipts ++ codes "\n"

-- what a world answered
abbrev pub answer_text : PoolSizes → Answer → List ℕ
answer_text sizes (Stepped (Ok reply)) = reply_text sizes reply
answer_text sizes (Stepped (Err refusal)) = refused_text refusal
answer_text sizes Truncated = codes "truncated\n"
answer_text sizes (Offered entry) = codes "offered\n"
answer_text sizes NothingNew = codes "nothing new\n"
answer_text sizes Full = codes "full\n"
answer_text sizes (TookEntry entry) = took_text entry
answer_text sizes Empty = codes "empty\n"
answer_text sizes Closed = codes "closed\n"
answer_text sizes Done = codes "done\n"

-- ---- bytes of frames

-- `bytes Qn: ` and the bytes, by two lower case digits each
abbrev pub bytes_text : Pool → ℕ → List ℕ → List ℕ
bytes_text pool number frame = concat (codes "bytes " ∷ encode_utf8 (letter_of pool) ∷ decimal number ∷ codes ": " ∷ encode_lower frame ∷ codes "\n" ∷ [])

-- ---- syncs

-- how a sync ended
abbrev pub ending_text : SyncEnd → List ℕ
ending_text Finished = codes "finished"
ending_text Cut = codes "cut"
ending_text (Refused refusal) = refusal_text refusal

-- `sync T from S: items I moveouts M `
abbrev pub counted_text : Sync → SyncCounts → List ℕ
counted_text sync counts =
    concat (codes "sync " ∷ decimal sync.target ∷ codes " from " ∷ decimal sync.source
    ∷ codes ": items " ∷ decimal counts.items ∷ codes " moveouts " ∷ decimal counts.move_outs ∷ codes " " ∷ [])

-- the line of a sync: its counts, and then how it ended
abbrev pub sync_text : Sync → SyncCounts → SyncEnd → List ℕ
sync_text sync counts ending = counted_text sync counts ++ ending_text ending ++ codes "\n"
