-- What a history of the model sees of a world: its events as they are, and of frames and answers what follows.
use Rattle.std.specs.Prelude.{ℕ, List, Ok, Err, Result, filter, map}
use Rattle.mr_version.specs.Name.{Name}
use Rattle.mr_mail.specs.Mail.{Mail, MailCard, card_of}
use Rattle.mr_feed.specs.Entry.{told_entry}
use Rattle.mr_filter.specs.Filter.{ClauseParts}
use Rattle.mr_filter.specs.Meaning.{selects}
use Rattle.mr_model.specs.Versions.{Issue, item_of, in_version_order}
use Rattle.mr_model.specs.History as model
use Rattle.mr_model.specs.Moment.{Moment}
use Rattle.mr_replica.specs.declared.event.Reply.{Reply}
use Rattle.mr_replica.specs.declared.event.Reply.TheVariants as reply
use Rattle.mr_replica.specs.declared.refusal.Refusal.{Refusal}
use Rattle.mr_session.specs.Session.{is_full_mode}
use Rattle.mr_session.specs.Stream.{claimed}
use Rattle.mr_wire.specs.Frames.{Question, Sent}
use Rattle.mr_wire.specs.declared.frame.Body.{Body}
use Rattle.mr_wire.specs.declared.frame.Body.TheVariants as body
use Rattle.mr_wire.specs.declared.frame.Receipt.{Receipt}
use Rattle.mr_world.specs.declared.answer.Answer.{Answer}
use Rattle.mr_world.specs.declared.answer.Answer.TheVariants as answer

-- the moments of mail
abbrev pub MailMoment : Type 0
MailMoment = Moment Mail MailCard

-- the settings of mail
abbrev pub MailSetting : Type 0
MailSetting = model.Setting Mail MailCard

-- the setting of a world whose replicas have these filters
abbrev pub setting_of : (ℕ → List ClauseParts) → MailSetting
setting_of filters = record { card = card_of; selects = λ r message. selects (filters r) (card_of message) }

-- ---- frames

-- a history sees of a body which version it tells of, and no vector
abbrev pub seen_body : Body → model.Body
seen_body (body.Start mode) = model.Start (is_full_mode mode)
seen_body (body.Item r) = model.Item r.version
seen_body (body.MoveOut line) = model.MoveOut line.version
seen_body (body.Held vector) = model.Held
seen_body (body.Know piece) = model.Know
seen_body body.End = model.End

abbrev pub seen_record : Sent → model.Record
seen_record sent = record {
  source = sent.header.source;
  stream = sent.header.stream;
  target = sent.header.target;
  session = sent.header.session;
  index = sent.header.index;
  body = seen_body sent.body;
}

abbrev pub seen_receipt : Receipt → model.Receipt
seen_receipt receipt = record { giver = receipt.giver; version = receipt.descent.version }

-- all issued versions, each before the next
abbrev pub versions_in_order : List (Issue Mail) → List Name
versions_in_order issues = map (λ x. x.version) (in_version_order issues)

-- a request claims the issued versions that its fragments say are known for their items
abbrev pub seen_ask : List (Issue Mail) → Question → model.Ask
seen_ask issues question = record {
  target = question.target;
  session = question.session;
  claimed = filter (λ v. claimed question.fragments (item_of issues v) v) (versions_in_order issues);
}

-- ---- answers

abbrev pub seen_reply : List (Issue Mail) → Reply → model.Reply MailCard
seen_reply issues (reply.Issued v) = model.Issued v
seen_reply issues reply.Done = model.Done
seen_reply issues (reply.Asked question) = model.Asked (seen_ask issues question)
seen_reply issues (reply.Streaming stream) = model.Streaming stream
seen_reply issues (reply.Gave sent) = model.Gave (seen_record sent)
seen_reply issues reply.Took = model.Took
seen_reply issues reply.Known = model.Known
seen_reply issues reply.Finished = model.Finished
seen_reply issues (reply.Vouched receipt) = model.Vouched (seen_receipt receipt)

-- each refusal is one
abbrev pub seen_outcome : List (Issue Mail) → Result Reply Refusal → model.Reply MailCard
seen_outcome issues (Ok given) = seen_reply issues given
seen_outcome issues (Err refusal) = model.Refused

-- a history sees no difference between refusals, a frame that is cut, and a port that passes nothing on
abbrev pub seen_answer : List (Issue Mail) → Answer → model.Reply MailCard
seen_answer issues (answer.Stepped outcome) = seen_outcome issues outcome
seen_answer issues (answer.Offered entry) = model.Offered (told_entry entry)
seen_answer issues (answer.TookEntry entry) = model.TookEntry (told_entry entry)
seen_answer issues answer.Done = model.Done
seen_answer issues answer.Truncated = model.Refused
seen_answer issues answer.NothingNew = model.Refused
seen_answer issues answer.Full = model.Refused
seen_answer issues answer.Empty = model.Refused
seen_answer issues answer.Closed = model.Refused
