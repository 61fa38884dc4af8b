-- A run of a world is a run of the rules, so it has the headline.
use Rattle.std.proofs.Common.{◌≡◌, refl, sym, ap, subst, ◌∙◌, ℕ, true, false, List, [], ◌∷◌, ◌++◌, map, Some, None, arith}
use Rattle.mr_world.proofs.Names.Wire.{Sent}
use Rattle.mr_world.proofs.Names.Replica.{IsFresh, State}
use Rattle.mr_world.proofs.Names.Sessions.{empty_table}
use Rattle.mr_world.proofs.Names.Model.{Headline, History, IsRun, after, happens, nothing, now, start}
use Rattle.mr_world.proofs.Names.Laws.{Inv, after-append, change_keeps, headline_holds, run_inv, run_more, start_holds}
use Rattle.mr_world.proofs.Names.Mails.{ClauseParts, Form, Mail, MailCard}
use Rattle.mr_world.proofs.Names.World.{Agrees, HoldingsAgree, IsFreshWorld, MailMoment, Port, PortAgrees, ReceiptsAgree, RecordsAgree, Runs}
use Rattle.mr_world.proofs.Names.World.{SeesAsks, SessionsAgree, StreamsAgree, World, history, history_from, new_port, seen_receipt, seen_record}
use Rattle.mr_world.proofs.Names.World.{seen_step, setting_of}
use Rattle.mr_model.specs.Changes.{change}
use Rattle.mr_world.specs.declared.answered.Answered.{Answered}
use Rattle.mr_world.proofs.Moving.ByParts.{MovesAt, by_parts}
use Rattle.mr_world.proofs.Agreement.Learning.{none_hold}
use Rattle.mr_world.proofs.Moving.Refinement.{refines}

-- ---- a world in which nothing happened

no_records : RecordsAgree [] [] (λ s t. nothing) (λ s t. nothing)
no_records = record { each = λ x i. elim i [ ]; starts = λ x i. elim i [ ]; one_place = λ x y i. elim i [ ]; whole = λ x y i. elim i [ ] }

no_receipts : ReceiptsAgree [] []
no_receipts = λ x i. elim i [ ]

fresh_sessions : SessionsAgree [] [] empty_table
fresh_sessions = record { each = λ n k e. (let c : (◌≡◌ None (Some k)) = e in absurd (cc)); fresh = λ n lt. refl }

module _ (filters : ℕ → List ClauseParts) where
  fresh_streams : (r : ℕ) → StreamsAgree [] filters [] [] r (λ t. None) (λ t. nothing) (λ t. nothing) empty_table
  fresh_streams r = record { each = λ n k e. (let c : (◌≡◌ None (Some k)) = e in absurd (cc)); fresh = λ n lt. refl }

fresh_port : (p : Port) (capacity : ℕ) → p ≡ new_port capacity → PortAgrees [] [] p
fresh_port p capacity e = subst (PortAgrees [] []) (sym e) (record { count = refl; waits = refl; closes = refl })

module _ {K : Type 0} (form : Form K) (filters : ℕ → List ClauseParts) where
  fresh_holds : (event_limit r : ℕ) (s : State K) → IsFresh form r (filters r) event_limit s → HoldingsAgree form [] filters r (record { known = nothing; stored = nothing; pushed_out = nothing }) [] false s
  fresh_holds event_limit r s f = subst (HoldingsAgree form [] filters r (record { known = nothing; stored = nothing; pushed_out = nothing }) [] false) (sym f.is_empty) (record {
    id = refl;
    filter = refl;
    is_retired = refl;
    knows = record { issued = λ i v h. (let c : false ≡ true = sym (f.knows_nothing i v) ∙ h in absurd (cc)); same = λ v h. absurd (cc) };
    heads = none_hold [];
    push_outs = none_hold [];
    entries = refl;
    count = refl;
    last = λ i. refl;
    last_below = λ i l e. absurd (cc);
  })

  pub fresh_agrees : (w : World K) → IsFreshWorld form filters w → Agrees form filters w start
  fresh_agrees w f = record {
    asks = subst (SeesAsks [] filters []) (sym f.asks) tt;
    given = sym (ap (map seen_record) f.records);
    records = subst (λ (xs : List Sent). RecordsAgree [] xs (λ s t. nothing) (λ s t. nothing)) (sym f.records) no_records;
    vouched = sym (ap (map seen_receipt) f.receipts);
    receipts = subst (ReceiptsAgree []) (sym f.receipts) no_receipts;
    holdings = λ r. fresh_holds (f.replicas r).0 r (w.replicas r) (f.replicas r).1;
    sessions = λ r. (let g = f.replicas r in subst (λ (s : State K). SessionsAgree w.records [] s.sessions) (sym g.1.is_empty) (subst (λ (xs : List Sent). SessionsAgree xs [] empty_table) (sym f.records) fresh_sessions));
    streams = λ r. (let g = f.replicas r in subst (λ (s : State K). StreamsAgree [] filters w.records [] r (λ t. None) (λ t. nothing) (λ t. nothing) s.streams) (sym g.1.is_empty)
        (subst (λ (xs : List Sent). StreamsAgree [] filters xs [] r (λ t. None) (λ t. nothing) (λ t. nothing) empty_table) (sym f.records) (fresh_streams filters r)));
    ports = λ r u. (let p = f.ports r u in fresh_port (w.ports r u) p.0 p.1);
  }

  -- ---- runs

  run_refines : (w w' : World K) (m : MailMoment) (xs : List Answered) → Inv (setting_of filters) m → Agrees form filters w m → Runs form w xs w' →
      IsRun (setting_of filters) m (history_from filters m xs) × Agrees form filters w' (after (setting_of filters) m (history_from filters m xs))
  run_refines w w' m [] inv a run = (tt, subst (λ (z : World K). Agrees form filters z m) (sym run) a)
  run_refines w w' m (x ∷ later) inv a run =
      let step = refines form filters w m inv a x.event x.answer run.0 (by_parts form w x.event x.answer run.0 run.1) in
      let rest = run_refines run.0 w' (happens (setting_of filters) m (change m (seen_step m x))) later (change_keeps (setting_of filters) m (change m (seen_step m x)) step.0 inv) step.1 run.2 in
      ((step.0, rest.0), rest.1)

  -- every run of a fresh world is a run of the rules, and the world agrees with its moment
  pub world_runs : (w w' : World K) (xs : List Answered) → IsFreshWorld form filters w → Runs form w xs w' →
      IsRun (setting_of filters) start (history filters xs) × Agrees form filters w' (now (setting_of filters) (history filters xs))
  world_runs w w' xs f run = run_refines w w' start xs (start_holds (setting_of filters)) (fresh_agrees w f) run

  pub world_headline : (w w' : World K) (xs : List Answered) → IsFreshWorld form filters w → Runs form w xs w' → Headline (setting_of filters) (history filters xs)
  world_headline w w' xs f run = headline_holds (setting_of filters) (history filters xs) (world_runs w w' xs f run).0

  -- one more event of a world that agrees
  pub one_more : (w w' : World K) (h : History Mail MailCard) (x : Answered) → IsRun (setting_of filters) start h → Agrees form filters w (now (setting_of filters) h) → MovesAt form w x.event x.answer w' →
      IsRun (setting_of filters) start (h ++ seen_step (now (setting_of filters) h) x ∷ []) × Agrees form filters w' (now (setting_of filters) (h ++ seen_step (now (setting_of filters) h) x ∷ []))
  one_more w w' h x run a move =
      let step = refines form filters w (now (setting_of filters) h) (run_inv (setting_of filters) h run) a x.event x.answer w' move in (
        run_more (setting_of filters) start h (seen_step (now (setting_of filters) h) x) run step.0,
        subst (Agrees form filters w') (sym (after-append (setting_of filters) start h (seen_step (now (setting_of filters) h) x ∷ []))) step.1,
      )
