-- What a list of calls comes to, by its first call and what it leaves to the others.
use Rattle.std.proofs.Common.{◌≡◌, ◌≢◌, ℕ, List, [], ◌∷◌, ◌++◌, Option, Some, None, Result, Ok, Err, refl, sym, ap, subst, ◌∙◌, append_assoc}
use Rattle.mr_talk.proofs.Names.{AreMessages, BadKind, MessageFault, OutOfMemory, Said, TooLong, Truncated, append-nil, decoded}
use Rattle.mr_talk.specs.declared.fault.MessageFault.TheVariants.{Failed}
use Rattle.mr_talk.specs.Calls.{Call, Fed, Asked, Runs, fed, given, told, Ends, ComesTo, IsDrained, AreAlike}
use Rattle.mr_talk.proofs.StreamLaws.{begins_more, messages_once}

-- calls of a reader that has failed take, give and tell nothing
record ComesToNothing (calls : List Call) (state : Option (List ℕ)) : Type 0 where
  pub taken : fed calls ≡ []
  pub messages : given calls ≡ []
  pub faults : told calls ≡ []
  pub stays : state ≡ None

runs_from : (calls : List Call) (state : Option (List ℕ)) (old new : Option (List ℕ)) → old ≡ new → Runs old calls state → Runs new calls state
runs_from calls state old new e r = subst (λ (s : Option (List ℕ)). Runs s calls state) e r

failed_runs : (calls : List Call) (state : Option (List ℕ)) → Runs None calls state → ComesToNothing calls state
failed_runs [] state r = record { taken = refl; messages = refl; faults = refl; stays = r }
failed_runs (Fed piece (Ok done) ∷ calls) state r = absurd cc
failed_runs (Fed piece (Err fault) ∷ calls) state r = again (failed_runs calls state (runs_from calls state r.0 None r.1.1 r.2))
  where
    again : ComesToNothing calls state → ComesToNothing (Fed piece (Err fault) ∷ calls) state
    again n = record { taken = n.taken; messages = n.messages; faults = n.faults; stays = n.stays }
failed_runs (Asked answer ∷ calls) state r = again answer r.1.0 (failed_runs calls state (runs_from calls state r.0 None r.1.1 r.2))
  where
    again : (answer : Result (Option Said) MessageFault) → answer ≡ Err Failed → ComesToNothing calls state → ComesToNothing (Asked answer ∷ calls) state
    again answer e n = subst (λ (a : Result (Option Said) MessageFault). ComesToNothing (Asked a ∷ calls) state) (sym e) (record { taken = n.taken; messages = n.messages; faults = n.faults; stays = n.stays })

-- the rest is told as a fault, and nothing more comes
told_last : (rest : List ℕ) (fault : MessageFault) (calls : List Call) (state : Option (List ℕ)) → decoded rest ≡ Err fault → fault ≢ Truncated → ComesToNothing calls state →
    ComesTo (rest ++ fed calls) (given calls) (fault ∷ told calls) state
told_last rest fault calls state e other n = record {
  rest = rest;
  spelled = rw (n.taken, n.messages) (append-nil rest);
  ends = rw n.faults (e, other, n.stays);
}

-- the calls go on from the same rest
pub comes_to : (calls : List Call) (rest : List ℕ) (state : Option (List ℕ)) → Runs (Some rest) calls state → ComesTo (rest ++ fed calls) (given calls) (told calls) state
comes_to [] rest state r = record { rest = rest; spelled = append-nil rest; ends = r }
comes_to (Fed piece (Ok done) ∷ calls) rest state r =
    let later = comes_to calls (rest ++ piece) state (runs_from calls state r.0 (Some (rest ++ piece)) r.1 r.2) in
    subst (λ (bytes : List ℕ). ComesTo bytes (given calls) (told calls) state) (append_assoc rest piece (fed calls)) later
comes_to (Fed piece (Err fault) ∷ calls) rest state r = comes_to calls rest state (runs_from calls state r.0 (Some rest) r.1.1 r.2)
comes_to (Asked (Ok (Some f)) ∷ calls) rest state r =
    let left = r.1.0 in
    let later = comes_to calls left state (runs_from calls state r.0 (Some left) r.1.1 r.2) in
    record { rest = later.rest; spelled = (left ++ fed calls, begins_more rest f left (fed calls) r.1.2, later.spelled); ends = later.ends }
comes_to (Asked (Ok None) ∷ calls) rest state r = comes_to calls rest state (runs_from calls state r.0 (Some rest) r.1.1 r.2)
comes_to (Asked (Err OutOfMemory) ∷ calls) rest state r = comes_to calls rest state (runs_from calls state r.0 (Some rest) r.1.1 r.2)
comes_to (Asked (Err Truncated) ∷ calls) rest state r = absurd r.1
comes_to (Asked (Err TooLong) ∷ calls) rest state r = told_last rest TooLong calls state r.1.0 (λ e. cc) (failed_runs calls state (runs_from calls state r.0 None r.1.1 r.2))
comes_to (Asked (Err BadKind) ∷ calls) rest state r = told_last rest BadKind calls state r.1.0 (λ e. cc) (failed_runs calls state (runs_from calls state r.0 None r.1.1 r.2))
comes_to (Asked (Err Failed) ∷ calls) rest state r = absurd r.1

-- ---- readers that have nothing more to give

-- why a drained reader gives nothing, by the faults that were told
abbrev reason : List MessageFault → MessageFault
reason [] = Truncated
reason (fault ∷ faults) = fault

ends_refused : (faults : List MessageFault) (rest : List ℕ) (state : Option (List ℕ)) → Ends faults rest state → IsDrained state → decoded rest ≡ Err (reason faults)
ends_refused [] rest state e d = let h : IsDrained (Some rest) = subst IsDrained e d in h
ends_refused (fault ∷ []) rest state e d = e.0
ends_refused (fault ∷ other ∷ faults) rest state e d = absurd e

fault_is : (one other : MessageFault) (r : Result (Said × ℕ) MessageFault) → r ≡ Err one → r ≡ Err other → one ≡ other
fault_is one other r e h = cc

-- a rest ends in one way
ends_once : (faults others : List MessageFault) (rest : List ℕ) (state other : Option (List ℕ)) → Ends faults rest state → Ends others rest other → IsDrained state → IsDrained other →
    (faults ≡ others) × (state ≡ other)
ends_once [] [] rest state other a b d h = (refl, a ∙ sym b)
ends_once (fault ∷ []) (second ∷ []) rest state other a b d h = (ap (λ (f : MessageFault). f ∷ []) (fault_is fault second (decoded rest) a.0 b.0), a.2 ∙ sym b.2)
ends_once [] (second ∷ []) rest state other a b d h = absurd (b.1 (fault_is second Truncated (decoded rest) b.0 (ends_refused [] rest state a d)))
ends_once (fault ∷ []) [] rest state other a b d h = absurd (a.1 (fault_is fault Truncated (decoded rest) a.0 (ends_refused [] rest other b h)))
ends_once faults (second ∷ third ∷ others) rest state other a b d h = absurd b
ends_once (fault ∷ third ∷ faults) others rest state other a b d h = absurd a

pub alike : (calls others : List Call) (state other : Option (List ℕ)) → Runs (Some []) calls state → Runs (Some []) others other → fed calls ≡ fed others →
    IsDrained state → IsDrained other → AreAlike calls others state other
alike calls others state other a b e d h =
    let one = comes_to calls [] state a in
    let two = comes_to others [] other b in
    let spelled : AreMessages (fed calls) (given others) two.rest = subst (λ (z : List ℕ). AreMessages z (given others) two.rest) (sym e) two.spelled in
    let same = messages_once (fed calls) (given calls) (given others) one.rest two.rest (reason (told calls)) (reason (told others)) one.spelled spelled
    (ends_refused (told calls) one.rest state one.ends d) (ends_refused (told others) two.rest other two.ends h) in
    let ends : Ends (told others) one.rest other = subst (λ (z : List ℕ). Ends (told others) z other) (sym same.1) two.ends in
    let last = ends_once (told calls) (told others) one.rest state other one.ends ends d h in
    record { messages = same.0; faults = last.0; states = last.1 }

pub gives_all : (calls : List Call) (state : Option (List ℕ)) (frames : List Said) (rest : List ℕ) → Runs (Some []) calls state → IsDrained state →
    AreMessages (fed calls) frames rest → decoded rest ≡ Err Truncated → (given calls ≡ frames) × (state ≡ Some rest)
gives_all calls state frames rest r d spelled cut =
    let one = comes_to calls [] state r in
    let same = messages_once (fed calls) (given calls) frames one.rest rest (reason (told calls)) Truncated one.spelled spelled (ends_refused (told calls) one.rest state one.ends d) cut in
    let ends : Ends (told calls) rest state = subst (λ (z : List ℕ). Ends (told calls) z state) same.1 one.ends in
    (same.0, (ends_once (told calls) [] rest state (Some rest) ends refl d cut).1)
