-- a replica has issued as many versions as the events of its log issue
use Rattle.std.proofs.Common.{arith}
use Rattle.std.proofs.Common.{◌≡◌, ℕ, Bool, List, [], ◌∷◌, Option, ap, ◌∙◌}
use Rattle.mr_kept.proofs.Names.{AdmitsAll, Changes, ClauseParts, Ends, EndsSession, Event, Form, Frame}
use Rattle.mr_kept.proofs.Names.{Replays, Reply, Sent, State, TakesBody, TakesFrame, TakesLine, counted}
use Rattle.mr_kept.proofs.Names.{issued_after, step_changes}
use Rattle.mr_madewith.specs.Revision.{Rev}
use Rattle.mr_session.specs.Session.{Session}
use Rattle.mr_wire.specs.Values.{DescentParts}
use Rattle.mr_wire.specs.declared.frame.Body.{Body}

module _ {K : Type 0} (form : Form K) where
  line_issues : (s : State K) (sent : Sent) (line : DescentParts) (comer : Option Rev) (told : Reply) (new : State K) → TakesLine form s sent line comer told new → new.issued ≡ s.issued
  line_issues s sent line comer told new h = grind arith

  end_issues : (s : State K) (sent : Sent) (session : Session) (full : Bool) (new : State K) → Ends form s sent session full new → new.issued ≡ s.issued
  end_issues s sent session full new h = grind arith

  session_issues : (s : State K) (sent : Sent) (session : Option Session) (new : State K) → EndsSession form s sent session new → new.issued ≡ s.issued
  session_issues s sent session new h = grind (arith, end_issues)

  body_issues : (s : State K) (sent : Sent) (b : Body) (told : Reply) (new : State K) → TakesBody form s sent b told new → new.issued ≡ s.issued
  body_issues s sent b told new h = grind (arith, line_issues, session_issues)

  frame_issues : (s : State K) (f : Frame) (told : Reply) (new : State K) → TakesFrame form s f told new → new.issued ≡ s.issued
  frame_issues s f told new h = grind (arith, body_issues)

  change_issues : (s : State K) (event : Event) (told : Reply) (new : State K) → Changes form s event told new → new.issued ≡ counted s.issued event
  change_issues s event told new h = grind (arith, frame_issues)

  all_issue : (s new : State K) (events : List Event) → AdmitsAll form s events new → new.issued ≡ issued_after s.issued events
  all_issue s new [] h = ap (λ (z : State K). z.issued) h
  all_issue s new (event ∷ events) h = grind (arith, all_issue h.0 new events h.2, change_issues, step_changes)

  pub replayed_issued : (id : ℕ) (filter : List ClauseParts) (event_limit : ℕ) (events : List Event) (s : State K) → Replays form id filter event_limit events s → s.issued ≡ issued_after 0 events
  replayed_issued id filter event_limit events s h = all_issue h.fresh s events h.admits ∙ ap (λ (z : State K). issued_after z.issued events) h.is_fresh.is_empty
