-- messages and cards as contracts see them
use Rattle.std.specs.Prelude.{ℕ, ◌≤◌, ◌<◌, List, length, refl}
use Rattle.std.specs.Coded.{Coded, code_by, coded×, coded_ℕ, coded_list}
use Rattle.mr_mail.specs.Label.{IsLabelSet}
use Rattle.mr_mail.specs.declared.message.TheConstants.{MAX_FROM_BYTES, MAX_SUBJECT_BYTES, MAX_BODY_BYTES}

-- a message: sender, subject and body as bytes, its labels, its flag byte and its day
pub record Mail : Type 0 where
  pub from : List ℕ
  pub subject : List ℕ
  pub body : List ℕ
  pub labels : List (List ℕ)
  pub flags : ℕ
  pub day : ℕ

-- what a feed's entry tells of a message: labels, flag byte and day
pub record MailCard : Type 0 where
  pub labels : List (List ℕ)
  pub flags : ℕ
  pub day : ℕ

abbrev pub card_of : Mail → MailCard
card_of mail = record { labels = mail.labels; flags = mail.flags; day = mail.day }

-- the message with this sender, subject, body and card
abbrev pub mail_with : List ℕ → List ℕ → List ℕ → MailCard → Mail
mail_with from subject body card = record { from = from; subject = subject; body = body; labels = card.labels; flags = card.flags; day = card.day }

-- what each card keeps
pub record IsCard (card : MailCard) : Type 0 where
  pub labels_in : IsLabelSet card.labels
  pub flags_in : card.flags ≤ 31
  pub day_in : card.day < 65536

-- what each message keeps
pub record IsMail (mail : Mail) : Type 0 where
  pub from_in : length mail.from ≤ MAX_FROM_BYTES
  pub subject_in : length mail.subject ≤ MAX_SUBJECT_BYTES
  pub body_in : length mail.body ≤ MAX_BODY_BYTES
  pub card_in : IsCard (card_of mail)

abbrev pub coded_text : Coded (List ℕ)
coded_text = coded_list coded_ℕ

-- a card is stored as the tuple of its fields
abbrev pub card_code : Coded MailCard
card_code =
    code_by (List (List ℕ) × (ℕ × ℕ)) (coded× (coded_list coded_text) (coded× coded_ℕ coded_ℕ))
    (λ c. (c.labels, (c.flags, c.day)))
    (λ p. record { labels = p.0; flags = p.1.0; day = p.1.1 }) (λ _. refl)

-- a message is stored as the tuple of its fields
abbrev pub mail_code : Coded Mail
mail_code =
    code_by ((List ℕ × (List ℕ × List ℕ)) × (List (List ℕ) × (ℕ × ℕ)))
    (coded× (coded× coded_text (coded× coded_text coded_text)) (coded× (coded_list coded_text) (coded× coded_ℕ coded_ℕ)))
    (λ m. ((m.from, (m.subject, m.body)), (m.labels, (m.flags, m.day))))
    (λ p. record { from = p.0.0; subject = p.0.1.0; body = p.0.1.1; labels = p.1.0; flags = p.1.1.0; day = p.1.1.1 }) (λ _. refl)
