-- nothing but memory keeps the replicas of a plan from running
use Rattle.std.proofs.Common.{◌≡◌, ◌≢◌, ◌==◌, ◌∷◌, ◌++◌, inl, inr, ℕ, true, false, List, [], Option, Some, None, Result, Ok, sym, ap, subst, ◌∙◌, arith}
use Rattle.std.specs.List.{list_any}
use Rattle.std.proofs.lemmas.Bool.Decides.{nat_tests}
use Rattle.std.proofs.lemmas.List.Elements.{All-push}
use Rattle.std.proofs.lemmas.List.Folds.{list_any_at}
use Rattle.std.proofs.lemmas.List.Quantifiers.{all_pairs_push}
use Rattle.mr_command.specs.Command.{reads_command}
use Rattle.mr_command.specs.declared.command.Command.{Command}
use Rattle.mr_command.specs.declared.command.Command.TheVariants as command
use Rattle.mr_command.specs.declared.fault.LineFault.{LineFault}
use Rattle.mr_command.specs.There.{IsNew}
use Rattle.mr_command.proofs.There.{command-there}
use Rattle.mr_world.specs.declared.spec.Spec.{Spec}
use Rattle.mr_live.specs.declared.plan.Asked.{Asked}
use Rattle.mr_live.specs.declared.plan.NodePlan.{NodePlan}
use Rattle.mr_live.specs.Plan.{PlanView, AreApart, CanAllRun, CanRun, Halves, Adds, AddsAsked, LineAsks, TextAsks, asked_by, scene_of}
use Rattle.mr_live.specs.inner.Plan.{CanBothRun}
use Rattle.mr_live.specs.Plan.TextAsks.{skipped, unknown, not_read, done}

-- one more, whose id none of them has
apart_and : (specs : List Spec) (s : Spec) → AreApart specs → list_any (λ (t : Spec). t.id == s.id) specs ≡ false → AreApart (specs ++ s ∷ [])
apart_and specs s apart none =
    all_pairs_push (λ (a b : Spec). a.id ≢ b.id) specs s apart (λ k d within same.
    let found : list_any (λ (t : Spec). t.id == s.id) specs ≡ true = list_any_at (λ (t : Spec). t.id == s.id) specs k d within (grind (same, arith, nat_tests)) in
    cc (found, none))

-- so they can all run
run_and : (p : PlanView) (s : Spec) → CanAllRun p.specs → IsNew (scene_of p) s → CanAllRun (p.specs ++ s ∷ [])
run_and p s can new = record {
  apart = apart_and p.specs s can.apart new.other;
  each = All-push CanRun p.specs s can.each (record { some_events = new.some_events; few_events = new.few_events; places = record { some = new.some_places; few = new.few_places } });
}

-- what is asked leaves the replicas
asked_run : (p q : PlanView) (a : Option Asked) (result : Result (Unit {0}) LineFault) → CanAllRun p.specs → AddsAsked p a result q → CanAllRun q.specs
asked_run p q (Some a) result can (inl h) = rw h.1 can
asked_run p q (Some a) result can (inr h) = rw h.1 can
asked_run p q None result can h = rw h.1 can

-- what a command adds can run beside them
adds_run : (p q : PlanView) (text : List ℕ) (c : Command) (result : Result (Unit {0}) LineFault) → CanAllRun p.specs → reads_command (scene_of p) text (Ok c) → Adds p c result q → CanAllRun q.specs
adds_run p q text (command.AddReplica spec) result can reads (inl h) =
    rw h.1 (run_and p spec can (command-there (scene_of p) text (Ok (command.AddReplica spec)) reads))
adds_run p q text (command.AddReplica spec) result can reads (inr h) = rw h.1 can
adds_run p q text (command.Happen event) result can reads h = asked_run p q (asked_by event.replica event.act) result can h
adds_run p q text (command.Sync sync) result can reads h = rw h.1 can
adds_run p q text (command.Ask question) result can reads h = rw h.1 can

text_run : (p q : PlanView) (text : List ℕ) (result : Result (Unit {0}) LineFault) → CanAllRun p.specs → TextAsks p text result q → CanAllRun q.specs
text_run p q text result can (skipped is) = can
text_run p q text result can (unknown is other) = can
text_run p q text result can (not_read is live reads) = can
text_run p q text result can (done c is live reads adds) = adds_run p q text c result can reads adds

-- so does what a line adds
pub line_run : (p q : PlanView) (line : List ℕ) (result : Result (Unit {0}) LineFault) → CanAllRun p.specs → LineAsks p line result q → CanAllRun q.specs
line_run p q line result can (inl h) = text_run p q line result can h.1
line_run p q line result can (inr h) = rw h.2 can

-- where there is none
pub none_run : CanAllRun []
none_run = record {
  apart = λ i j d before within. omega (arith, within);
  each = λ k d within. absurd (omega (arith, within));
}

-- where there are two, both can
pub both_run : (p : PlanView) (nodes : NodePlan × NodePlan) → CanAllRun p.specs → Halves p (Some nodes) → CanBothRun nodes
both_run p nodes can are =
    let two : CanAllRun (are.0 ∷ are.1 ∷ []) = subst CanAllRun are.2 can in
    record {
      apart = λ same. two.apart 0 1 are.0 (omega arith) (omega arith) (ap (λ (s : Spec). s.id) (sym are.3.replica) ∙ (same ∙ ap (λ (s : Spec). s.id) are.4.replica));
      first = rw are.3.replica (two.each 0 are.0 (omega arith));
      second = rw are.4.replica (two.each 1 are.0 (omega arith));
    }
