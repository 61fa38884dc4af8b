-- A talk with one message more, and one that breaks off.
use denote.Enum.Bare.{sameb, same_true, same_false}
use Rattle.std.proofs.Common.{◌≡◌, ℕ, true, false, ◌+◌, arith, List, [], ◌∷◌, ◌++◌, inl, inr, Option, Some, None, Ok, refl, sym, ap, subst, ◌∙◌, append_assoc}
use Rattle.mr_talk.proofs.Names.{Appends, Appends-kept, Appends-trans, BrokeOff, Called, Caller, CallerGreets, Consumes, Consumes-trans, Hears, IsBegun}
use Rattle.mr_talk.proofs.Names.{IsPartly, Leads, Role, Said, Talked, Turn, append-nil, if_sender, kinds, length, length-append, message_bytes, next_of}
use Rattle.mr_talk.proofs.Names.{other, received, sender_of, sent_by}
use Rattle.mr_talk.specs.contracts.turn.Role.{the_type}
use Rattle.mr_talk.proofs.LineLaws.{begun_all, begun_behind}

-- ---- the two sides

own : (role : Role) (bytes : List ℕ) → if_sender role (Some role) bytes ≡ bytes
own Caller bytes = refl
own Called bytes = refl

not_own : (role : Role) (bytes : List ℕ) → if_sender role (Some (other role)) bytes ≡ []
not_own Caller bytes = refl
not_own Called bytes = refl

other_other : (role : Role) → role ≡ other (other role)
other_other Caller = refl
other_other Called = refl

other_is : (role sender : Role) → (sender ≡ role → ⊥) → sender ≡ other role
other_is Caller Caller h = absurd (h refl)
other_is Caller Called h = refl
other_is Called Caller h = refl
other_is Called Called h = absurd (h refl)

-- whose turn it is, by a comparison
pub is_own : (role sender : Role) (s : Option Role) → s ≡ Some sender → true ≡ sameb the_type sender role → s ≡ Some role
is_own role sender s e h = e ∙ ap (λ (x : Role). Some x) (same_true the_type tt sender role (sym h))

pub is_others : (role sender : Role) (s : Option Role) → s ≡ Some sender → false ≡ sameb the_type sender role → s ≡ Some (other role)
is_others role sender s e h = e ∙ ap (λ (x : Role). Some x) (other_is role sender (same_false the_type sender role (sym h)))

-- ---- one message more

runs_more : (t : Turn) (ms : List Said) (end next : Turn) (m : Said) → Leads t (kinds ms) end → next_of end m.kind ≡ Some next → Leads t (kinds (ms ++ m ∷ [])) next
runs_more t [] end next m r n = (next, subst (λ (x : Turn). next_of x m.kind ≡ Some next) (sym r) n, refl)
runs_more t (k ∷ ms) end next m r n = (r.0, r.1, runs_more r.0 ms end next m r.2 n)

sent_more : (role : Role) (t : Turn) (ms : List Said) (end : Turn) (m : Said) → Leads t (kinds ms) end → sent_by role t (ms ++ m ∷ []) ≡ sent_by role t ms ++ if_sender role (sender_of end) (message_bytes m)
sent_more role t [] end m r = append-nil (if_sender role (sender_of t) (message_bytes m)) ∙ ap (λ (x : Turn). if_sender role (sender_of x) (message_bytes m)) r
sent_more role t (k ∷ ms) end m r =
    let first = if_sender role (sender_of t) (message_bytes k) in
    let later : sent_by role (received (next_of t k.kind)) (ms ++ m ∷ []) ≡ sent_by role (received (next_of t k.kind)) ms ++ if_sender role (sender_of end) (message_bytes m) =
    subst (λ (x : Turn). sent_by role x (ms ++ m ∷ []) ≡ sent_by role x ms ++ if_sender role (sender_of end) (message_bytes m)) (sym (ap received r.1)) (sent_more role r.0 ms end m r.2) in
    ap (λ (x : List ℕ). first ++ x) later ∙ sym (append_assoc first (sent_by role (received (next_of t k.kind)) ms) (if_sender role (sender_of end) (message_bytes m)))

-- a message of this side adds its bytes
sent_own : (role : Role) (t : Turn) (ms : List Said) (end : Turn) (m : Said) → Leads t (kinds ms) end → sender_of end ≡ Some role → sent_by role t (ms ++ m ∷ []) ≡ sent_by role t ms ++ message_bytes m
sent_own role t ms end m r s = sent_more role t ms end m r ∙ ap (λ (x : List ℕ). sent_by role t ms ++ x) (ap (λ (x : Option Role). if_sender role x (message_bytes m)) s ∙ own role (message_bytes m))

-- one of the other side adds none
sent_not_own : (role : Role) (t : Turn) (ms : List Said) (end : Turn) (m : Said) → Leads t (kinds ms) end → sender_of end ≡ Some (other role) → sent_by role t (ms ++ m ∷ []) ≡ sent_by role t ms
sent_not_own role t ms end m r s =
    sent_more role t ms end m r ∙ ap (λ (x : List ℕ). sent_by role t ms ++ x) (ap (λ (x : Option Role). if_sender role x (message_bytes m)) s ∙ not_own role (message_bytes m)) ∙ append-nil (sent_by role t ms)

-- the same, seen from the other side
sent_by_this : (role : Role) (t : Turn) (ms : List Said) (end : Turn) (m : Said) → Leads t (kinds ms) end → sender_of end ≡ Some role → sent_by (other role) t (ms ++ m ∷ []) ≡ sent_by (other role) t ms
sent_by_this role t ms end m r s = sent_not_own (other role) t ms end m r (s ∙ ap (λ (x : Role). Some x) (other_other role))

hears_consumes : (a b : Option (List ℕ)) (m : Said) → Hears a (Ok m) b → Consumes a b (message_bytes m)
hears_consumes None b m h = tt
hears_consumes (Some a) b m h = subst (λ (x : Option (List ℕ)). Consumes (Some a) x (message_bytes m)) (sym h.1) h.2.whole

-- ---- talks

-- this side says a message
pub talked_said : (role : Role) (from to next : Turn) (o o' o'' i i' : Option (List ℕ)) (m : Said) → Talked role from to o o' i i' → sender_of to ≡ Some role → next_of to m.kind ≡ Some next → Appends o' o'' (message_bytes m) →
    Talked role from next o o'' i i'
talked_said role from to next o o' o'' i i' m t s n a = record {
  messages = t.messages ++ m ∷ [];
  runs = runs_more from t.messages to next m t.runs n;
  sent = subst (λ (x : List ℕ). Appends o o'' x) (sym (sent_own role from t.messages to m t.runs s)) (Appends-trans o o' o'' (sent_by role from t.messages) (message_bytes m) t.sent a);
  came = subst (λ (x : List ℕ). Consumes i i' x) (sym (sent_by_this role from t.messages to m t.runs s)) t.came;
}

-- this side hears one
pub talked_heard : (role : Role) (from to next : Turn) (o o' i i' i'' : Option (List ℕ)) (m : Said) → Talked role from to o o' i i' → sender_of to ≡ Some (other role) → next_of to m.kind ≡ Some next → Hears i' (Ok m) i'' →
    Talked role from next o o' i i''
talked_heard role from to next o o' i i' i'' m t s n h = record {
  messages = t.messages ++ m ∷ [];
  runs = runs_more from t.messages to next m t.runs n;
  sent = subst (λ (x : List ℕ). Appends o o' x) (sym (sent_not_own role from t.messages to m t.runs s)) t.sent;
  came = subst (λ (x : List ℕ). Consumes i i'' x) (sym (sent_own (other role) from t.messages to m t.runs s)) (Consumes-trans i i' i'' (sent_by (other role) from t.messages) (message_bytes m) t.came (hears_consumes i' i'' m h));
}

-- ---- as many messages

pub one_more : (ms : List Said) (m : Said) (n : ℕ) → length ms ≡ n → length (ms ++ m ∷ []) ≡ n + 1
one_more ms m n e = omega (arith, length-append ms (m ∷ []), e)

-- with that message at its end
pub said_more : (role : Role) (from to next : Turn) (o o' o'' i i' : Option (List ℕ)) (m : Said) (k : Talked role from to o o' i i') → sender_of to ≡ Some role → next_of to m.kind ≡ Some next → Appends o' o'' (message_bytes m) →
    (talk : Talked role from next o o'' i i') × (talk.messages ≡ k.messages ++ m ∷ [])
unfolding talked_said
said_more role from to next o o' o'' i i' m k s place a = (talked_said role from to next o o' o'' i i' m k s place a, refl)

pub heard_more : (role : Role) (from to next : Turn) (o o' i i' i'' : Option (List ℕ)) (m : Said) (k : Talked role from to o o' i i') → sender_of to ≡ Some (other role) → next_of to m.kind ≡ Some next → Hears i' (Ok m) i'' →
    (talk : Talked role from next o o' i i'') × (talk.messages ≡ k.messages ++ m ∷ [])
unfolding talked_heard
heard_more role from to next o o' i i' i'' m k s place h = (talked_heard role from to next o o' i i' i'' m k s place h, refl)

-- ---- talks that break off

-- with no message begun
pub broke_between : (role : Role) (t : Turn) (o o' i i' : Option (List ℕ)) → Talked role CallerGreets t o o' i i' → BrokeOff role o o' i
broke_between role t o o' i i' k = record { messages = k.messages; turn = t; left = i'; runs = k.runs; sent = begun_all o o' (sent_by role CallerGreets k.messages) k.sent; came = k.came }

-- with one begun, or none
pub broke_partly : (role : Role) (t : Turn) (o o' o'' i i' : Option (List ℕ)) (m : Said) → Talked role CallerGreets t o o' i i' → sender_of t ≡ Some role → IsPartly t m o' o'' → BrokeOff role o o'' i
broke_partly role t o o' o'' i i' m k s (inl kept) = record {
  messages = k.messages;
  turn = t;
  left = i';
  runs = k.runs;
  sent = begun_all o o'' (sent_by role CallerGreets k.messages) (Appends-kept o o' o'' (sent_by role CallerGreets k.messages) k.sent kept);
  came = k.came;
}
broke_partly role t o o' o'' i i' m k s (inr (next, n, begun)) = record {
  messages = k.messages ++ m ∷ [];
  turn = next;
  left = i';
  runs = runs_more CallerGreets k.messages t next m k.runs n;
  sent = subst (λ (x : List ℕ). IsBegun o o'' x) (sym (sent_own role CallerGreets k.messages t m k.runs s)) (begun_behind o o' o'' (sent_by role CallerGreets k.messages) (message_bytes m) k.sent begun);
  came = subst (λ (x : List ℕ). Consumes i i' x) (sym (sent_by_this role CallerGreets k.messages t m k.runs s)) k.came;
}
