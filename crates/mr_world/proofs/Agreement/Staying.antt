-- Parts of the agreement that a change leaves as they are.
use Rattle.std.proofs.Common.{◌≡◌, sym, ap, ◌∙◌, ℕ, Bool, List, ◌∷◌, inl, inr, Option, Some, arith}
use Rattle.mr_world.proofs.Names.Wire.{Sent}
use Rattle.mr_world.proofs.Names.Replica.{Event, State}
use Rattle.mr_world.proofs.Names.Sessions.{Origin, Session, Stream, Table}
use Rattle.mr_world.proofs.Names.Model.{Ask, Entry, Holding, IsOf, Issue, Record, Versions, at, item_of}
use Rattle.mr_world.proofs.Names.Laws.{at_elim, at_elim₂, held_more, held_split, of_more, of_split}
use Rattle.mr_world.proofs.Names.Mails.{ClauseParts, Form, Mail, MailCard}
use Rattle.mr_world.proofs.Names.World.{Agrees, HoldingsAgree, MailMoment, SessionAgrees, SessionsAgree, StreamAgrees, StreamsAgree, World}
use Rattle.mr_world.proofs.Names.World.{seen_record, shown_by, told_by}
use Rattle.mr_world.proofs.Groundwork.Tools.{at_elim₄}
use Rattle.mr_world.proofs.Agreement.Parts.{IsAt, parts_other}

-- one more record is given, of no stream that the session is bound to, or past its next index
pub session_given : (x : Sent) (given : List Sent) (taken : List Record) (opened number : ℕ) (k : Session) →
    ((o : Origin) → k.origin ≡ Some o → ¬ IsAt o.source o.stream k.next x) →
    SessionAgrees given taken opened number k → SessionAgrees (x ∷ given) taken opened number k
session_given x given taken opened number k other a = record {
  old = a.old;
  follows = a.follows;
  keeps = λ o e full. (let kept = a.keeps o e full in record {
    held = λ v. kept.held v ∙ sym (parts_other (λ b. shown_by b v) x given o.source o.stream k.next (other o e));
    know = λ i v. kept.know i v ∙ sym (parts_other (λ b. told_by b i v) x given o.source o.stream k.next (other o e));
  });
}

-- a record of another stream is given
pub stream_given : (x : Sent) (issues : List (Issue Mail)) (filters : ℕ → List ClauseParts) (records : List Sent) (given : List Record) (r opened number : ℕ)
    (ask_of : Option Ask) (known_at_answer held_at_draw held_at_draw' : Versions) (k : Stream) →
    ¬ ((x.header.source ≡ r) × (x.header.stream ≡ number)) → held_at_draw' ≡ held_at_draw →
    StreamAgrees issues filters records given r opened number ask_of known_at_answer held_at_draw k →
    StreamAgrees issues filters (x ∷ records) (seen_record x ∷ given) r opened number ask_of known_at_answer held_at_draw' k
stream_given x issues filters records given r opened number ask_of known_at_answer held_at_draw held_at_draw' k other same a = record {
  old = a.old;
  ask = a.ask;
  asked = a.asked;
  sees = a.sees;
  covers = a.covers;
  below_next = λ y of. a.below_next y (back y of);
  begun = λ n. (let h = a.begun n in (h.0, of_more (seen_record x) given r number h.0 h.1, h.2));
  no_end = λ y of. a.no_end y (back y of);
  starts = λ y of. a.starts y (back y of);
  past = λ p e. (let h = a.past p e in (h.0, of_more (seen_record x) given r number h.0 h.1, h.2));
  behind = λ y v of. a.behind y v (back y of);
  walking = λ e h. elim (held_split (seen_record x) given r number h) [ inl n ↦ other n.1 | inr o ↦ a.walking e o ];
  showing = λ e. held_more (seen_record x) given r number (a.showing e);
  shows_full = a.shows_full;
  unbegun = a.unbegun;
  held = λ e v. rw (parts_other (λ b. shown_by b v) x records r number k.next not_at) (a.held e v ∙ ap (λ (s : Versions). s v) (sym same));
  none_shown = λ e v. parts_other (λ b. shown_by b v) x records r number k.next not_at ∙ a.none_shown e v;
  held_issued = a.held_issued;
  knows = λ e. (let h = a.knows e in record {
    issued = λ i v j. h.issued i v (rw (← parts_other (λ b. told_by b i v) x records r number k.next not_at) j);
    same = λ v j. rw (parts_other (λ b. told_by b (item_of issues v) v) x records r number k.next not_at) (h.same v j);
  });
  know_issued = a.know_issued;
  listed = a.listed;
}
  where
    not_at : ¬ IsAt r number k.next x
    not_at h = other (h.source, h.stream)

    back : (y : Record) → IsOf (seen_record x ∷ given) r number y → IsOf given r number y
    back y of = elim (of_split (seen_record x) given r number y of) [
      | inl p ↦ absurd (other (ap (λ (z : Record). z.source) p ∙ of.source_is, ap (λ (z : Record). z.stream) p ∙ of.stream_is))
      | inr o ↦ o
    ]

module _ {K : Type 0} (form : Form K) where
  -- the tables and the log become others
  abbrev pub with_tables : State K → List Event → Table Session → Table Stream → State K
  with_tables s log sessions streams = record s { log = log; sessions = sessions; streams = streams }

  pub tables_hold : (issues : List (Issue Mail)) (filters : ℕ → List ClauseParts) (r : ℕ) (holding : Holding) (feed : List (Entry MailCard)) (retired : Bool) (s : State K)
      (log : List Event) (sessions : Table Session) (streams : Table Stream) →
      HoldingsAgree form issues filters r holding feed retired s → HoldingsAgree form issues filters r holding feed retired (with_tables s log sessions streams)
  tables_hold issues filters r holding feed retired s log sessions streams h = grind arith

  -- r is another, and so are its own sets
  pub own_agrees : (filters : ℕ → List ClauseParts) (w : World K) (m : MailMoment) → Agrees form filters w m → (r : ℕ) (new : State K) (h : Holding) (feed : List (Entry MailCard)) (retired : Bool) (taken : List Record) →
      HoldingsAgree form m.issues filters r h feed retired new → SessionsAgree w.records taken new.sessions → StreamsAgree m.issues filters w.records m.given r (m.ask_of r) (m.known_at_answer r) (m.held_at_draw r) new.streams →
      Agrees form filters (record w { replicas = at w.replicas r new }) (record m { holding = at m.holding r h; feed = at m.feed r feed; is_retired = at m.is_retired r retired; taken_in = at m.taken_in r taken })
  own_agrees filters w m a r new h feed retired taken holdings sessions streams = grind (arith, at_elim₄, at_elim₂, at_elim)
