-- Names for proofs: of other crates, and of this crate's definitions.
pub use Rattle.mr_talk.specs.Hello.{HasId, IsHello, IsOfFormat, Reads, flag, hello_bytes}
pub use Rattle.mr_talk.specs.Host.{Act, Acts, Asks, Closes, EndsTurn, Gives, Greets, HasRefused, Keeps, KeepsFiles, Known, Listens, Meets, MeetsIt, Offers}
pub use Rattle.mr_talk.specs.Host.{Played, Plays, Serves, Speaks, nobody, refusal_of}
pub use Rattle.mr_talk.specs.Kinds.{kind_byte, kind_of_byte, limit_of}
pub use Rattle.mr_talk.specs.Line.{Hears, IsBegun}
pub use Rattle.mr_talk.specs.Messages.{Answers, body_read, decoded, head_read, kind_read, length_read}
pub use Rattle.mr_talk.specs.Packed.{Copy, Digits, EndsBadly, IsBlamed, IsToken, Literal, Long, Move, Spelled, Spells, Tells, TellsTooMuch, TellsUpTo, Token}
pub use Rattle.mr_talk.specs.Packed.{Unpacks, body, head, highest, lowest, size_of, spell, token_bytes, two_digits}
pub use Rattle.mr_talk.specs.Reader.{Nexts}
pub use Rattle.mr_talk.specs.Said.{IsMessage, Said, message_bytes}
pub use Rattle.mr_talk.specs.Stream.{AreMessages, Begins}
pub use Rattle.mr_talk.specs.Talk.{BrokeOff, Ended, IsCause, IsFixed, Talked, TalkedFor, if_sender, kinds, other, sent_by}
pub use Rattle.mr_talk.specs.Turns.{Leads, next_of, sender_of}
pub use Rattle.mr_talk.specs.World.{Agree, Event, Follows, Receives, Sends, World, after, allowed, called_receives, called_sends, caller_receives}
pub use Rattle.mr_talk.specs.World.{caller_sends, happens, received, start}
pub use Rattle.mr_talk.specs.contracts.turn.Turn.{the_type}
pub use Rattle.mr_talk.specs.declared.fault.MessageFault.{MessageFault}
pub use Rattle.mr_talk.specs.declared.fault.MessageFault.TheVariants.{BadKind, OutOfMemory, TooLong, Truncated}
pub use Rattle.mr_talk.specs.declared.hello.TheConstants.{HELLO_FORMAT}
pub use Rattle.mr_talk.specs.declared.kind.Kind.{Kind}
pub use Rattle.mr_talk.specs.declared.kind.Kind.TheVariants.{Ask, Begin, Done, End, Fault, Hello, Idle, Missing, Piece, PushOuts, Receipts, Records, Wants}
pub use Rattle.mr_talk.specs.declared.kind.Kind.TheVariants.{Whole}
pub use Rattle.mr_talk.specs.declared.kind.TheConstants.{MAX_FRAMES_BYTES, MAX_PACKED_BYTES}
pub use Rattle.mr_talk.specs.declared.meeting.Meeting.{Meeting}
pub use Rattle.mr_talk.specs.declared.side.HostFault.{HostFault}
pub use Rattle.mr_talk.specs.declared.talk_fault.TalkFault.{TalkFault}
pub use Rattle.mr_talk.specs.declared.turn.Role.{Role}
pub use Rattle.mr_talk.specs.declared.turn.Role.TheVariants.{Called, Caller}
pub use Rattle.mr_talk.specs.declared.turn.Turn.{Turn}
pub use Rattle.mr_talk.specs.declared.turn.Turn.TheVariants.{CalledAsks, CalledCloses, CalledGreets, CalledPasses, CalledSettles, CalledSettlesFile}
pub use Rattle.mr_talk.specs.declared.turn.Turn.TheVariants.{CalledTells, CalledTellsFile, CallerAsks, CallerCloses, CallerGreets, CallerSettles}
pub use Rattle.mr_talk.specs.declared.turn.Turn.TheVariants.{CallerSettlesFile, CallerTells, CallerTellsFile, CallerWants, Failed, Over}
pub use Rattle.mr_talk.specs.inner.Host.{EndsWith, GaveFault, Hands, IsAskedFor, IsBrokenBy, IsEndedFor, IsKeptFor, IsMet, IsSentFor, IsServed, IsTakenIn}
pub use Rattle.mr_talk.specs.inner.Host.{IsVoiced, known_of, speech_message}
pub use Rattle.mr_talk.specs.inner.Line.{IsSame}
pub use Rattle.mr_talk.specs.inner.Packed.{AreDigits, ArePairs, BeginsWith, CanBeWritten, Fits, IsNoToken, IsRunOf, Takes, Writes, meaning, moves}
pub use Rattle.mr_talk.specs.inner.Packed.{place_after, rest_tokens, run_size}
pub use Rattle.mr_talk.specs.inner.Talk.{IsLast, IsPartly, IsUngiven, IsUnheard, IsUnmade, IsUnsaid, IsUntaken, Suits}
pub use Rattle.mr_version.specs.declared.author.TheConstants.{AUTHORS}
pub use Rattle.std.proofs.KnownBytes.{Appends-kept, Appends-nil, Appends-trans, Consumes-nil, Consumes-trans}
pub use Rattle.std.proofs.Math.Seq.{take-add}
pub use Rattle.std.proofs.lemmas.Bool.{and_parts, eqb-true, le-ltb, leb-true, lt-ltb, ltb-false, ltb-true}
pub use Rattle.std.proofs.lemmas.List.{append-nil, append_cancel_left, drop-drop, drop_at, drop_more, get_or-drop, get_or-take, get_or_past, length-append}
pub use Rattle.std.proofs.lemmas.List.{length-drop, length-take, length-take-le, take-append-drop, take-append-le, take-take, take_at, take_rest}
pub use Rattle.std.proofs.lemmas.List.Concat.{flat_map-append, flat_map-cons}
pub use Rattle.std.proofs.lemmas.Nat.{be_bytes_4, from_be_bytes-to_be_bytes_4}
pub use Rattle.std.specs.Int.{from_be_bytes, to_be_bytes, w32}
pub use Rattle.std.specs.Io.KnownBytes.{Appends, Consumes}
pub use Rattle.std.specs.List.{AllByRecursion, flat_map}
pub use Rattle.std.specs.Option.{is_some, option_copied, option_or}
pub use Rattle.std.specs.Prelude.{Err, IfErr, IfOk, IsErrAnd, IsTrue, MatchResult, OnOk, Result, count_by, length, min, nat_le, nat_lt, replicate}
