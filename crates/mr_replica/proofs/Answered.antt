-- why an event's issue was not made
use Rattle.std.proofs.Common.{◌≢◌, ◌↔◌, IsErrOf, sym, ◌∙◌, List, Result, Err, inl, inr, arith}
use Rattle.mr_replica.proofs.Names.{All, All-cons, All-nil, AuthorColumn, Create, Edit, FirstFault, Fits, Form, FormFault, HasTooManyHoles, Issue, Mail, Name}
use Rattle.mr_replica.proofs.Names.{OutOfMemory, Refusal, RefusesLate, RefusesMade, State, TooManyHoles, TooManyItems, Wanted.Knowledge, Wanted.Vector}
use Rattle.mr_replica.proofs.Names.{below_of_issue, created, edited, version_learned, wanted_by_issue}
use Rattle.mr_forms.specs.declared.fault.FormFault.TheVariants as faults

module _ {K : Type 0} (form : Form K) (s : State K) (i : Issue) where
  -- why it was not made
  abbrev pub RefusesIssue : Refusal → Type 0
  RefusesIssue OutOfMemory = All (Fits form) (wanted_by_issue form s i)
  RefusesIssue e = FirstFault form e (wanted_by_issue form s i)

  -- the vector that was made, or was not
  module _ (made : Result (List AuthorColumn) FormFault) (holes : IsErrOf made faults.TooManyHoles ↔ HasTooManyHoles (below_of_issue s i)) where
    vector_fits : made ≢ Err faults.TooManyHoles → Fits form (Vector (below_of_issue s i))
    vector_fits few many = few (holes.1 many)

    -- there is a value for all that it wants
    pub all_fit : made ≢ Err faults.TooManyHoles → Fits form (Knowledge (version_learned form s i.item)) → All (Fits form) (wanted_by_issue form s i)
    all_fit few fits = grind (arith, All-cons, vector_fits, All-nil)

    -- it was not admitted
    pub refused_issue : (e : Refusal) → RefusesMade form made (version_learned form s i.item) e → RefusesIssue e
    refused_issue OutOfMemory h = all_fit (λ many. cc (sym h.0 ∙ many)) h.1
    refused_issue TooManyHoles (inl many) = inl (holes.0 many)
    refused_issue TooManyHoles (inr h) = inr (vector_fits h.0, inl h.1)
    refused_issue TooManyItems h = inr (vector_fits h.0, inl h.1)
    refused_issue e h = grind (arith, all_fit, vector_fits)

module _ {K : Type 0} (form : Form K) (s : State K) where
  -- so the Create is refused
  pub late_create : (message : Mail) (e : Refusal) → RefusesIssue form s (created s message) e → RefusesLate form s (Create message) e
  late_create message OutOfMemory h = h
  late_create message e h = grind arith

  -- so the Edit is refused
  pub late_edit : (bases : List Name) (message : Mail) (e : Refusal) → RefusesIssue form s (edited s bases message) e → RefusesLate form s (Edit bases message) e
  late_edit bases message OutOfMemory h = h
  late_edit bases message e h = grind arith
