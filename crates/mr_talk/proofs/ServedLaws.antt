-- A talk's host, served one message more.
use Rattle.std.proofs.Common.{◌≡◌, ℕ, ◌+◌, List, [], ◌∷◌, ◌++◌, length, false, Option, Some, None, Ok, refl, sym, ap, subst, ◌∙◌, append_assoc}
use Rattle.mr_talk.proofs.Names.{Act, Acts, Appends, Called, Caller, CallerGreets, HasRefused, Hears, HostFault, IsSentFor, IsServed, IsTakenIn, IsVoiced}
use Rattle.mr_talk.proofs.Names.{Keeps, Known, Leads, Listens, Meeting, Played, Plays, Role, Said, Serves, Talked, Turn, append-nil, kinds, known_of}
use Rattle.mr_talk.proofs.Names.{message_bytes, next_of, nobody, other, received, sender_of}
use Rattle.mr_talk.specs.Host.{Tells}
use Rattle.mr_talk.proofs.HostLaws.{acts_append, none_is_some, refused_before, refused_behind}
use Rattle.mr_talk.proofs.TalkLaws.{heard_more, one_more, said_more}

by_fault : (before after : Option HostFault) → ((fault : HostFault) → before ≡ Some fault → after ≡ Some fault) → after ≡ None → before ≡ None
by_fault None after stays none = refl
by_fault (Some fault) after stays none = absurd (none_is_some fault (sym none ∙ stays fault refl))

-- a fault that stays is none that wasn't there
pub still_none : (before after : Meeting) → ((fault : HostFault) → before.broken ≡ Some fault → after.broken ≡ Some fault) → after.broken ≡ None → before.broken ≡ None
still_none before after stays none = by_fault before.broken after.broken stays none

serves_own : (role : Role) (t : Turn) (from to : Known) (m : Said) (acts : List Act) → Tells from t m acts to → Serves role (Some role) from t m acts to
serves_own Caller t from to m acts tells = tells
serves_own Called t from to m acts tells = tells

serves_others : (role : Role) (t : Turn) (from to : Known) (m : Said) (acts : List Act) → Listens m.kind from m acts to → Serves role (Some (other role)) from t m acts to
serves_others Caller t from to m acts listens = listens
serves_others Called t from to m acts listens = listens

-- one message more
plays_more : (role : Role) (from : Known) (t : Turn) (ms : List Said) (acts : List Act) (k : Known) (end : Turn) (m : Said) (more : List Act) (to : Known) → Plays role from t ms acts k → Leads t (kinds ms) end → Serves role (sender_of end) k end m more to →
    Plays role from t (ms ++ m ∷ []) (acts ++ more) to
plays_more role from t [] acts k end m more to (none, same) leads serves =
    (more, [], to, ap (λ (x : List Act). x ++ more) none ∙ sym (append-nil more), subst (λ (x : Turn). Serves role (sender_of x) from x m more to) (sym leads) (subst (λ (x : Known). Serves role (sender_of end) x end m more to) (sym same) serves), (refl, refl))
plays_more role from t (x ∷ ms) acts k end m more to (first, rest, between, whole, serving, later) (next, place, leads) serves =
    let goes : Plays role between next (ms ++ m ∷ []) (rest ++ more) to = plays_more role between next ms rest k end m more to (subst (λ (y : Turn). Plays role between y ms rest k) (ap received place) later) leads serves in
    (first, rest ++ more, between, ap (λ (y : List Act). y ++ more) whole ∙ append_assoc first rest more, serving, subst (λ (y : Turn). Plays role between y (ms ++ m ∷ []) (rest ++ more) to) (sym (ap received place)) goes)

-- the fault of a side was refused by its host, before or now
refused_then : (b a : Option HostFault) (first acts : List Act) → ((f : HostFault) → b ≡ Some f → a ≡ Some f) → ((f : HostFault) → b ≡ Some f → HasRefused f first) → (b ≡ None → (f : HostFault) → a ≡ Some f → HasRefused f acts) → (fault : HostFault) → a ≡ Some fault →
    HasRefused fault (first ++ acts)
refused_then None a first acts stays before now fault is = refused_behind fault first acts (now refl fault is)
refused_then (Some f) a first acts stays before now fault is = refused_before fault first acts (before fault (sym (stays f refl) ∙ is))

breaks_later : (before after : Meeting) (first acts : List Act) → ((f : HostFault) → before.broken ≡ Some f → after.broken ≡ Some f) → ((f : HostFault) → before.broken ≡ Some f → HasRefused f first) →
    (before.broken ≡ None → (f : HostFault) → after.broken ≡ Some f → HasRefused f acts) → (fault : HostFault) → after.broken ≡ Some fault → HasRefused fault (first ++ acts)
breaks_later before after first acts stays earlier now fault is = refused_then before.broken after.broken first acts stays earlier now fault is

-- with a message of this side
served_said : {S : Type 0} (steps : S → Act → S → Type 0) (role : Role) (ms : List Said) (t : Turn) (m : Said) (before after : Meeting) (old between voiced new : S) → Leads CallerGreets (kinds ms) t → IsServed steps role ms before old between → sender_of t ≡ Some role →
    IsVoiced steps before t (Ok m) after between voiced → (next : Turn) → IsSentFor {T = Turn} steps (Ok next) voiced new → IsServed steps role (ms ++ m ∷ []) after old new
served_said steps role ms t m before after old between voiced new runs served s v next (sent, leads, kept) =
    let acts = v.acts ++ sent in
    record {
      acts = served.acts ++ acts;
      leads = acts_append steps old between new served.acts acts served.leads (acts_append steps between voiced new v.acts sent v.leads leads);
      plays = λ none.
          let first = still_none before after v.stays none in
          let tells : Tells (known_of before) t m acts (known_of after) = record { answered = v.acts; speaks = v.speaks first none; kept = ap (λ (x : List Act). v.acts ++ x) kept; same = v.known } in
          plays_more role nobody CallerGreets ms served.acts (known_of before) t m acts (known_of after) (served.plays first) runs
          (subst (λ (x : Option Role). Serves role x (known_of before) t m acts (known_of after)) (sym s) (serves_own role t (known_of before) (known_of after) m acts tells));
      breaks = λ fault is. breaks_later before after served.acts acts v.stays served.breaks (λ none f e. refused_before f v.acts sent (v.breaks none f e)) fault is;
    }

-- with one of the other side
served_heard : {S : Type 0} (steps : S → Act → S → Type 0) (role : Role) (ms : List Said) (t : Turn) (m : Said) (before after : Meeting) (old between new : S) → Leads CallerGreets (kinds ms) t → IsServed steps role ms before old between → sender_of t ≡ Some (other role) →
    IsTakenIn steps before m (Ok tt) after between new → IsServed steps role (ms ++ m ∷ []) after old new
served_heard steps role ms t m before after old between new runs served s taken = record {
  acts = served.acts ++ taken.acts;
  leads = acts_append steps old between new served.acts taken.acts served.leads taken.leads;
  plays = λ none.
      let first = still_none before after taken.stays none in
      plays_more role nobody CallerGreets ms served.acts (known_of before) t m taken.acts (known_of after) (served.plays first) runs
      (subst (λ (x : Option Role). Serves role x (known_of before) t m taken.acts (known_of after)) (sym s) (serves_others role t (known_of before) (known_of after) m taken.acts (taken.listens first none)));
  breaks = λ fault is. breaks_later before after served.acts taken.acts taken.stays served.breaks taken.breaks fault is;
}

-- nothing was said
pub served_nothing : {S : Type 0} (steps : S → Act → S → Type 0) (role : Role) (host : S) (meeting : Meeting) → meeting ≡ record { theirs = None; is_idle = false; broken = None } → IsServed steps role [] meeting host host
served_nothing steps role host meeting new =
    subst (λ (x : Meeting). IsServed steps role [] x host host) (sym new) (record { acts = []; leads = refl; plays = λ _. (refl, refl); breaks = λ fault e. absurd (none_is_some fault e) })

-- ---- the talk and its host together

-- what a side keeps of its talk: each round is one message, and the host is served all of them
abbrev pub Goes : {S : Type 0} → (S → Act → S → Type 0) → Role → Turn → (o o' i i' : Option (List ℕ)) → Meeting → (old new : S) → ℕ → Type 0
Goes steps role t o o' i i' meeting old new n = (talk : Talked role CallerGreets t o o' i i') × (length talk.messages ≡ n) × IsServed steps role talk.messages meeting old new

more : {S : Type 0} (steps : S → Act → S → Type 0) (role : Role) (t : Turn) (o o' i i' : Option (List ℕ)) (meeting : Meeting) (old new : S) (ms : List Said) (m : Said) (n : ℕ) (talk : Talked role CallerGreets t o o' i i') → talk.messages ≡ ms ++ m ∷ [] → length ms ≡ n →
    IsServed steps role (ms ++ m ∷ []) meeting old new → Goes steps role t o o' i i' meeting old new (n + 1)
more steps role t o o' i i' meeting old new ms m n talk is many served =
    (talk, ap (λ (x : List Said). length x) is ∙ one_more ms m n many, subst (λ (x : List Said). IsServed steps role x meeting old new) (sym is) served)

pub goes_said : {S : Type 0} (steps : S → Act → S → Type 0) (role : Role) (t next : Turn) (o o' o'' i i' : Option (List ℕ)) (m : Said) (before after : Meeting) (old between voiced new : S) (n : ℕ) → Goes steps role t o o' i i' before old between n → sender_of t ≡ Some role →
    next_of t m.kind ≡ Some next → Appends o' o'' (message_bytes m) → IsVoiced steps before t (Ok m) after between voiced → IsSentFor {T = Turn} steps (Ok next) voiced new → Goes steps role next o o'' i i' after old new (n + 1)
goes_said steps role t next o o' o'' i i' m before after old between voiced new n (k, many, served) s place a v sent =
    let one = said_more role CallerGreets t next o o' o'' i i' m k s place a in
    more steps role next o o'' i i' after old new k.messages m n one.0 one.1 many (served_said steps role k.messages t m before after old between voiced new k.runs served s v next sent)

pub goes_heard : {S : Type 0} (steps : S → Act → S → Type 0) (role : Role) (t next : Turn) (o o' i i' i'' : Option (List ℕ)) (m : Said) (before after : Meeting) (old between new : S) (n : ℕ) → Goes steps role t o o' i i' before old between n → sender_of t ≡ Some (other role) →
    next_of t m.kind ≡ Some next → Hears i' (Ok m) i'' → IsTakenIn steps before m (Ok tt) after between new → Goes steps role next o o' i i'' after old new (n + 1)
goes_heard steps role t next o o' i i' i'' m before after old between new n (k, many, served) s place h taken =
    let one = heard_more role CallerGreets t next o o' i i' i'' m k s place h in
    more steps role next o o' i i'' after old new k.messages m n one.0 one.1 many (served_heard steps role k.messages t m before after old between new k.runs served s taken)

-- at its end what the host did is kept
pub played : {S : Type 0} (steps : S → Act → S → Type 0) (role : Role) (ms : List Said) (meeting : Meeting) (old between new : S) → IsServed steps role ms meeting old between → meeting.broken ≡ None → (acts : List Act) → Acts steps between acts new → acts ≡ Keeps (Ok tt) ∷ [] →
    Played steps role ms old new
played steps role ms meeting old between new served none acts leads kept = record {
  acts = served.acts;
  known = known_of meeting;
  plays = served.plays none;
  leads = subst (λ (x : List Act). Acts steps old (served.acts ++ x) new) kept (acts_append steps old between new served.acts acts served.leads leads);
}
