-- No run of a world answers Forged.
use Rattle.std.proofs.Common.{◌≡◌, ◌≢◌, sym, subst, ℕ, List, [], ◌∷◌, ◌++◌, inl, inr, IsTrue, ◌⊎◌, Some, arith}
use Rattle.mr_world.proofs.Names.Lists.{Err, both_ways}
use Rattle.mr_world.proofs.Names.Wire.{Body, DescentParts, Item, MoveOut, Sent}
use Rattle.mr_world.proofs.Names.Replica.{IsFresh, State, line_of, step_changes, told_line}
use Rattle.mr_world.proofs.Names.Model.{Change, Event, History, In, IsRun, happens, is, is_closed, is_issued, now, start, with_mark}
use Rattle.mr_world.proofs.Names.Laws.{Inv, after-append, change_keeps, choice, item_is_issued, or_right, run_inv, start_holds}
use Rattle.mr_world.proofs.Names.Mails.{ClauseParts, Form, ListsMore, Mail, MailCard, Name, Rev}
use Rattle.mr_world.proofs.Names.World.{Agrees, Answer, HoldingsAgree, IsFreshWorld, IsGenuine, IsListedReplica, IsListedWorld, IsNormalReplica}
use Rattle.mr_world.proofs.Names.World.{IsTrueBody, IsTrueLine, IsTrueRevision, ListsIssued, MailMoment, MailSetting, Runs, World, seen_answer}
use Rattle.mr_world.proofs.Names.World.{seen_step, setting_of}
use Rattle.mr_model.specs.Changes.{Change.Closes, Change.Issues, change}
use Rattle.mr_model.specs.Moment.{Mark.CloseMark}
use Rattle.mr_replica.specs.declared.refusal.Refusal.TheVariants as refusal
use Rattle.mr_world.specs.declared.answer.Answer.TheVariants as answer
use Rattle.mr_world.specs.declared.answered.Answered.{Answered}
use Rattle.mr_world.proofs.Moving.ByParts.{MovesAt, by_parts}
use Rattle.mr_world.proofs.Keeping.ListedItems.{lists_more, replica_more, step_listed}
use Rattle.mr_world.proofs.Keeping.NeverForged.{never_forged}
use Rattle.mr_world.proofs.Keeping.NormalForm.{moves_normal}
use Rattle.mr_world.proofs.Moving.ByReplica.{Hold, keeps, mover}
use Rattle.mr_world.proofs.Moving.Refinement.{refines}
use Rattle.mr_world.proofs.Histories.WholeRuns.{fresh_agrees}

-- what was issued stays so
issued_stays : (s : MailSetting) (m : MailMoment) (c : Change Mail MailCard) (v : Name) → IsTrue (is_issued m.issues v) → IsTrue (is_issued (happens s m c).issues v)
issued_stays s m (Issues r x) v h = or_right (is x.version v) (is_issued m.issues v) h
issued_stays s m (Closes r u) v h = choice (λ (z : MailMoment). IsTrue (is_issued z.issues v)) (is_closed (m.offered r u)) m (with_mark m r u CloseMark) (λ t. h) (λ n. h)
issued_stays s m c v h = grind (arith, or_right, is, is_issued, choice, is_closed, with_mark)

module _ {K : Type 0} (form : Form K) (filters : ℕ → List ClauseParts) where
  pub fresh_genuine : (w : World K) → IsFreshWorld form filters w → IsGenuine form [] w
  fresh_genuine w f = record {
    normal = record { replicas = λ r. normal (f.replicas r).0 r (f.replicas r).1; records = λ sent i. absurd (none sent i) };
    listed = record { replicas = λ r. listed (f.replicas r).0 r (f.replicas r).1; records = λ sent i. absurd (none sent i) };
  }
    where
      none : (sent : Sent) → ¬ In sent w.records
      none sent i = elim (subst (In sent) f.records i) [ ]

      normal : (event_limit r : ℕ) → IsFresh form r (filters r) event_limit (w.replicas r) → IsNormalReplica (w.replicas r)
      normal event_limit r h = subst IsNormalReplica (sym h.is_empty) (record { heads = λ x i. elim i [ ]; push_outs = λ x i. elim i [ ]; streams = λ n k e. absurd (cc) })

      listed : (event_limit r : ℕ) → IsFresh form r (filters r) event_limit (w.replicas r) → IsListedReplica form [] (w.replicas r)
      listed event_limit r h = subst (IsListedReplica form []) (sym h.is_empty) (record { filed = λ i v k. absurd (both_ways (form.known (w.replicas r).knowledge i v) (h.knows_nothing i v) k); streams = λ n k e. absurd (cc); sessions = λ n k e. absurd (cc) })

module _ {K : Type 0} (form : Form K) (filters : ℕ → List ClauseParts) (form_lists : ListsMore form) where
  module _ (w w' : World K) (m m' : MailMoment) (inv : Inv (setting_of filters) m) (inv' : Inv (setting_of filters) m') (a : Agrees form filters w m) (a' : Agrees form filters w' m')
      (more : (v : Name) → IsTrue (is_issued m.issues v) → IsTrue (is_issued m'.issues v)) (listed : IsListedWorld form m.issues w) where
    -- a revision that r holds is of an issued item
    held_issued : (r : ℕ) (s : State K) → (w'.replicas r) ≡ s → (x : Rev) → In x s.heads ⊎ In x s.push_outs → IsTrue (is_issued m'.issues x.item)
    held_issued r s same x i =
        let hold : HoldingsAgree form m'.issues filters r (m'.holding r) (m'.feed r) (m'.is_retired r) s = subst (HoldingsAgree form m'.issues filters r (m'.holding r) (m'.feed r) (m'.is_retired r)) same (a'.holdings r) in
        let t : IsTrueRevision m'.issues x = elim i [ inl j ↦ hold.heads.each x j | inr j ↦ hold.push_outs.each x j ] in
        subst (λ (z : Name). IsTrue (is_issued m'.issues z)) t.below.of_item (item_is_issued m'.issues inv'.core.sets.list x.version t.below.is_one).0

    listed_later : IsListedWorld form m'.issues w
    listed_later = record { replicas = λ r. replica_more m.issues m'.issues more form (w.replicas r) (listed.replicas r); records = λ sent i. lists_more m.issues m'.issues more sent.body (listed.records sent i) }

    -- a record of the pool tells of issued items
    line_issued : (line : DescentParts) → IsTrueLine m.issues line → IsTrue (is_issued m'.issues line.item)
    line_issued line t = more line.item (subst (λ (z : Name). IsTrue (is_issued m.issues z)) t.of_item (item_is_issued m.issues inv.core.sets.list line.version t.is_one).0)

    body_issued : (b : Body) → IsTrueBody m.issues b → (line : DescentParts) → told_line b ≡ Some line → IsTrue (is_issued m'.issues line.item)
    body_issued (Item x) t line e = line_issued line (subst (IsTrueLine m.issues) (let same : line_of x ≡ line = cc in same) t.below)
    body_issued (MoveOut other) t line e = line_issued line (subst (IsTrueLine m.issues) (let same : other ≡ line = cc in same) t)
    body_issued b t line e = grind (arith, line_issued, line_of)

    pool_issued : (sent : Sent) → In sent w.records → ListsIssued m'.issues sent.body × ((line : DescentParts) → told_line sent.body ≡ Some line → IsTrue (is_issued m'.issues line.item))
    pool_issued sent i = (listed_later.records sent i, body_issued sent.body (a.records.each sent i))

    moves_listed : (e : Event Mail) (reply : Answer) → MovesAt form w e reply w' → IsListedWorld form m'.issues w'
    moves_listed e reply move =
        let old : Hold form w (λ (r : ℕ) (s : State K). IsListedReplica form m'.issues s) (ListsIssued m'.issues) w = record { replicas = listed_later.replicas; records = listed_later.records } in
        let new = keeps form w (λ (r : ℕ) (s : State K). IsListedReplica form m'.issues s) (ListsIssued m'.issues) reply w' old
        (λ r there told new pool same step. step_listed form form_lists m'.issues (w.replicas r) (listed_later.replicas r) there told new (λ sent e. pool_issued sent (pool sent e)) (held_issued r new same) (step_changes form (w.replicas r) there told new step))
        (mover form w e reply w' move) in
        record { replicas = new.replicas; records = new.records }

  -- ---- one event

  -- a genuine world stays one
  pub moves_genuine : (w w' : World K) (m : MailMoment) (e : Event Mail) (reply : Answer) → Inv (setting_of filters) m → Agrees form filters w m → IsGenuine form m.issues w → MovesAt form w e reply w' →
      IsGenuine form (happens (setting_of filters) m (change m (record { event = e; reply = seen_answer m.issues reply }))).issues w'
  moves_genuine w w' m e reply inv a genuine move =
      let c = change m (record { event = e; reply = seen_answer m.issues reply }) in
      let step = refines form filters w m inv a e reply w' move in
      record {
        normal = moves_normal form w genuine.normal e reply w' move;
        listed = moves_listed w w' m (happens (setting_of filters) m c) inv (change_keeps (setting_of filters) m c step.0 inv) a step.1 (issued_stays (setting_of filters) m c) genuine.listed e reply move;
      }

  -- and answers no event with Forged
  pub genuine_answers : (w w' : World K) (m : MailMoment) (e : Event Mail) (reply : Answer) → Inv (setting_of filters) m → Agrees form filters w m → IsGenuine form m.issues w → MovesAt form w e reply w' → reply ≢ answer.Stepped (Err refusal.Forged)
  genuine_answers w w' m e reply inv a genuine move forged = never_forged form filters w m inv a genuine.normal genuine.listed.records e w' (subst (λ (z : Answer). MovesAt form w e z w') forged move)

  -- ---- whole runs

  run_answers : (w w' : World K) (m : MailMoment) (xs : List Answered) → Inv (setting_of filters) m → Agrees form filters w m → IsGenuine form m.issues w → Runs form w xs w' → (x : Answered) → In x xs → x.answer ≢ answer.Stepped (Err refusal.Forged)
  run_answers w w' m [] inv a genuine run x i = elim i [ ]
  run_answers w w' m (y ∷ later) inv a genuine run x i =
      let move = by_parts form w y.event y.answer run.0 run.1 in
      let step = refines form filters w m inv a y.event y.answer run.0 move in
      elim i [
        | inl e ↦ subst (λ (z : Answered). z.answer ≢ answer.Stepped (Err refusal.Forged)) e (genuine_answers w run.0 m y.event y.answer inv a genuine move)
        | inr j ↦ run_answers run.0 w' (happens (setting_of filters) m (change m (seen_step m y))) later (change_keeps (setting_of filters) m (change m (seen_step m y)) step.0 inv) step.1 (moves_genuine w run.0 m y.event y.answer inv a genuine move) run.2 x j
      ]

  -- no run of a fresh world answers Forged
  pub world_answers : (w w' : World K) (xs : List Answered) → IsFreshWorld form filters w → Runs form w xs w' → (x : Answered) → In x xs → x.answer ≢ answer.Stepped (Err refusal.Forged)
  world_answers w w' xs f run = run_answers w w' start xs (start_holds (setting_of filters)) (fresh_agrees form filters w f) (fresh_genuine form filters w f) run

  -- one more event of a world that agrees with the moment after a run
  pub one_more_genuine : (w w' : World K) (h : History Mail MailCard) (x : Answered) → IsRun (setting_of filters) start h → Agrees form filters w (now (setting_of filters) h) → IsGenuine form (now (setting_of filters) h).issues w → MovesAt form w x.event x.answer w' →
      IsGenuine form (now (setting_of filters) (h ++ seen_step (now (setting_of filters) h) x ∷ [])).issues w' × (x.answer ≢ answer.Stepped (Err refusal.Forged))
  one_more_genuine w w' h x run a genuine move =
      let inv = run_inv (setting_of filters) h run in (
        subst (λ (z : MailMoment). IsGenuine form z.issues w') (sym (after-append (setting_of filters) start h (seen_step (now (setting_of filters) h) x ∷ [])))
            (moves_genuine w w' (now (setting_of filters) h) x.event x.answer inv a genuine move),
        genuine_answers w w' (now (setting_of filters) h) x.event x.answer inv a genuine move,
      )
