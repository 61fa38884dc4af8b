-- a subscriber's port, what it answers, and what becomes of it
use Rattle.std.specs.Prelude.{◌≡◌, ◌≢◌, ◌+◌, ℕ, true, false, IsTrue, IsFalse, List, [], ◌∷◌, ◌++◌, length, Some, None}
use Rattle.std.specs.List.{slice_get}
use Rattle.mr_feed.specs.PlainPort.{PortView}
use Rattle.mr_feed.specs.declared.entry.Entry.{Entry}
use Rattle.mr_world.specs.declared.answer.Answer.{Answer}
use Rattle.mr_world.specs.declared.answer.Answer.TheVariants.{Offered, NothingNew, Full, TookEntry, Empty, Closed, Done}

-- a port to a subscriber, and how many entries of the feed were offered to it: the first ones
pub record Port : Type 0 where
  pub view : PortView
  pub offered : ℕ

-- a port with so many places, through which nothing went
abbrev pub new_port : (capacity : ℕ) → Port
new_port capacity = record { view = record { waiting = []; capacity = capacity; closed = false }; offered = 0 }

-- the port with one more entry behind those that wait
abbrev pub with_offered : Port → Entry → Port
with_offered p entry = record p { view = record p.view { waiting = p.view.waiting ++ entry ∷ [] }; offered = p.offered + 1 }

-- the port with these entries left of those that wait
abbrev pub with_waiting : Port → List Entry → Port
with_waiting p rest = record p { view = record p.view { waiting = rest } }

-- the port closed
abbrev pub with_close : Port → Port
with_close p = record p { view = record p.view { closed = true } }

-- as many entries wait as there are places
abbrev pub IsFull : Port → Type 0
IsFull p = length p.view.waiting ≡ p.view.capacity

-- The feed's next entry is put behind those that wait; or the port is closed, or else the whole feed was offered, or else
-- the port is full.
abbrev pub Offers : (feed : List Entry) → Port → Answer → Port → Type 0
Offers feed p (Offered entry) new = IsFalse p.view.closed × (slice_get feed p.offered ≡ Some entry) × (¬ IsFull p) × (new ≡ with_offered p entry)
Offers feed p Closed new = IsTrue p.view.closed × (new ≡ p)
Offers feed p NothingNew new = IsFalse p.view.closed × (slice_get feed p.offered ≡ None) × (new ≡ p)
Offers feed p Full new = IsFalse p.view.closed × (slice_get feed p.offered ≢ None) × IsFull p × (new ≡ p)
Offers feed p answer new = ⊥

-- the first of the entries that wait is taken; or none waits, and the port is closed or not
abbrev pub Takes : Port → Answer → Port → Type 0
Takes p (TookEntry entry) new = (rest : List Entry) × (p.view.waiting ≡ entry ∷ rest) × (new ≡ with_waiting p rest)
Takes p Closed new = (p.view.waiting ≡ []) × IsTrue p.view.closed × (new ≡ p)
Takes p Empty new = (p.view.waiting ≡ []) × IsFalse p.view.closed × (new ≡ p)
Takes p answer new = ⊥

-- the port is closed, once more where it was
abbrev pub Closes : Port → Answer → Port → Type 0
Closes p Done new = new ≡ with_close p
Closes p answer new = ⊥
