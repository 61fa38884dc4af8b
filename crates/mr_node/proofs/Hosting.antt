-- A replica as a machine of letters and answers.
use Rattle.std.proofs.Common.{arith}
use Rattle.std.proofs.Common.{◌≡◌, ◌++◌, List, [], ◌∷◌, Result, sym, ap, ◌∙◌, append_assoc}
use Rattle.mr_node.proofs.Names.{Event, Exchange, Form, Refusal, Replays, Reply, State, Steps, admitted_of, append-nil, flat_map-append}
use Rattle.mr_replica.specs.Growing.{admitted}
use Rattle.mr_replica.proofs.Replaying.{step_log}

module _ {K : Type 0} (form : Form K) where
  -- the log gets the letters that were admitted
  pub log_grows : (s t : State K) (xs : List (Exchange Event (Result Reply Refusal))) → Replays (Steps form) s xs t → t.log ≡ s.log ++ admitted_of xs
  log_grows s t [] h = ap (λ (z : State K). z.log) h ∙ sym (append-nil s.log)
  log_grows s t (x ∷ xs) h = grind (arith, log_grows h.0 t xs h.2, step_log, append_assoc)

  -- and behind them the one of the last
  pub log_grows_by_last : (s m t : State K) (xs before : List (Exchange Event (Result Reply Refusal))) (last : Exchange Event (Result Reply Refusal)) → xs ≡ before ++ last ∷ []
      → Replays (Steps form) s before m → Replays (Steps form) m (last ∷ []) t → t.log ≡ s.log ++ admitted_of xs
  log_grows_by_last s m t xs before last is h k =
      log_grows m t (last ∷ []) k
      ∙ (ap (λ l. l ++ admitted_of (last ∷ [])) (log_grows s m before h)
      ∙ (append_assoc s.log (admitted_of before) (admitted_of (last ∷ []))
      ∙ ap (λ l. s.log ++ l) (sym (flat_map-append (λ (x : Exchange Event (Result Reply Refusal)). admitted x.letter x.answer) before (last ∷ [])) ∙ ap admitted_of (sym is))))
