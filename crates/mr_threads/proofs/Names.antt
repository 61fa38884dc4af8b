-- Names for proofs: of other crates, and of this crate's definitions.
pub use Rattle.mr_feed.specs.declared.entry.Entry.{Entry}
pub use Rattle.mr_lane.specs.Letters.{letter_in, letters_by, letters_in}
pub use Rattle.mr_lane.specs.Post.{PostView, with_end_mark, with_letter}
pub use Rattle.mr_lane.specs.Tap.{TapEnd, with_end}
pub use Rattle.mr_lane.specs.declared.note.Note.{Note}
pub use Rattle.mr_lane.specs.declared.note.Sender.{Sender}
pub use Rattle.mr_lane.specs.declared.post.Posts.{Posts}
pub use Rattle.mr_mail.specs.Mail.{MailCard}
pub use Rattle.mr_model.specs.Headline.{Cards}
pub use Rattle.mr_threads.specs.Core.{GivesAnswers, IsNewCore, KeepsLanes, Ran, RanShort, Serves, ServesPart, TellsBoth, TellsPart, closed_feeds}
pub use Rattle.mr_threads.specs.Core.{closed_replies, letters_with_senders}
pub use Rattle.mr_threads.specs.Ends.{HasSpoken, ListenerRan, VoiceRan}
pub use Rattle.mr_threads.specs.Exchange.{Exchange, Replays, Said, answers_heard, answers_to, letters_said, said_by}
pub use Rattle.mr_threads.specs.Lanes.{with_items}
pub use Rattle.mr_threads.specs.Settled.{IsInterleaving}
pub use Rattle.mr_threads.specs.Talk.{HaltsAmong, IsNew, SameLanes, Says, SaysInPart, SpokeInTurn, with_letters}
pub use Rattle.mr_threads.specs.declared.core_parts.Core.{Core}
pub use Rattle.mr_threads.specs.declared.settling.FeedTaps.{FeedTaps}
pub use Rattle.mr_threads.specs.declared.settling.Taps.{Taps}
pub use Rattle.mr_threads.specs.declared.talk.Talk.{Talk}
pub use Rattle.mr_threads.specs.declared.voice.Voice.{Voice}
pub use Rattle.mr_threads.specs.inner.Core.{GivesAnswer, Serving, ServingPart}
pub use Rattle.mr_threads.specs.inner.Running.{AllRan, are_all_whole}
pub use Rattle.mr_threads.specs.inner.Talk.{HearsOut}
pub use Rattle.std.proofs.lemmas.List.{append-nil, map-append, take-append-drop}
pub use Rattle.std.specs.Prelude.{IsTrue}
pub use Rattle.std.specs.Vec.Iter.{into_iter_items}
