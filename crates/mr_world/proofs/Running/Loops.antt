-- Loops that go on by one: members of specifications, and events that are answered.
use Rattle.std.proofs.Common.{◌≡◌, ℕ, ◌+◌, List, [], ◌∷◌, ◌++◌, length, Err, sym, ap, ◌∙◌, arith, append_assoc, append-nil, length-append}
use Rattle.mr_world.proofs.Names.Lists.{AllZip}
use Rattle.mr_world.proofs.Names.Model.{Event}
use Rattle.mr_world.proofs.Names.Mails.{Form, Mail}
use Rattle.mr_world.proofs.Names.World.{Answer, Happens, IsMadeOf, Leads, Meets, MemberView, Spec, StopsAt, WorldFault, WorldView}
use Rattle.mr_world.proofs.Running.Happening.{leads_more}

zip_more : {A B : Type 0} (R : A → B → Type 0) (xs : List A) (ys : List B) (x : A) (y : B) → AllZip R xs ys → R x y → AllZip R (xs ++ x ∷ []) (ys ++ y ∷ [])
zip_more R [] [] x y all h = (h, tt)
zip_more R [] (v ∷ ys) x y all h = absurd all
zip_more R (u ∷ xs) [] x y all h = absurd all
zip_more R (u ∷ xs) (v ∷ ys) x y all h = (all.0, zip_more R xs ys x y all.1 h)

module _ {K : Type 0} (form : Form K) where
  -- these members are made of the specifications so far
  pub record MembersSoFar (all yielded left : List Spec) (members : List (MemberView K)) : Type 0 where
    pub whole : all ≡ yielded ++ left
    pub each : AllZip (IsMadeOf form) yielded members

  pub members_begin : (all left : List Spec) → left ≡ all → MembersSoFar all [] left []
  members_begin all left e = record { whole = sym e; each = tt }

  pub members_more : (all yielded left next : List Spec) (members : List (MemberView K)) (spec : Spec) (m : MemberView K) → MembersSoFar all yielded left members → left ≡ spec ∷ next → IsMadeOf form spec m → MembersSoFar all (yielded ++ spec ∷ []) next (members ++ m ∷ [])
  members_more all yielded left next members spec m so taken is = grind (arith, append_assoc, zip_more)

  pub members_end : (all yielded left : List Spec) (members : List (MemberView K)) → MembersSoFar all yielded left members → left ≡ [] → AllZip (IsMadeOf form) all members
  members_end all yielded left members so none = rw (so.whole, none, append-nil yielded) so.each

  -- the events so far were answered
  pub record EventsSoFar (w : WorldView K) (all yielded left : List (Event Mail)) (at : ℕ) (now : WorldView K) : Type 0 where
    pub whole : all ≡ yielded ++ left
    pub count : at ≡ length yielded
    pub leads : Leads form w yielded now

  -- one event more was answered
  pub events_answered : (w now new : WorldView K) (all yielded left next : List (Event Mail)) (at : ℕ) (e : Event Mail) (answer : Answer)
      → EventsSoFar w all yielded left at now → left ≡ e ∷ next → Happens form now e answer new → EventsSoFar w all (yielded ++ e ∷ []) next (at + 1) new
  events_answered w now new all yielded left next at e answer so taken h = record {
    whole = so.whole ∙ (ap (λ rest. yielded ++ rest) taken ∙ sym (append_assoc yielded (e ∷ []) next));
    count = omega (arith, so.count, length-append yielded (e ∷ []));
    leads = leads_more form w now new yielded e answer so.leads h;
  }

  -- the event at hand was not answered
  pub events_stopped : (w now new : WorldView K) (all yielded left next : List (Event Mail)) (at : ℕ) (e : Event Mail) (fault : WorldFault)
      → EventsSoFar w all yielded left at now → left ≡ e ∷ next → Meets form now e (Err fault) new → StopsAt form w all at fault new
  events_stopped w now new all yielded left next at e fault so taken h = grind arith
