-- Why a talk ends, by what was asked of its host, what was sent and what came.
use Rattle.std.proofs.Common.{◌≡◌, ℕ, true, Bool, cond, List, ◌++◌, inl, inr, Option, Some, None, Ok, refl, sym, ap, subst, ◌∙◌}
use Rattle.mr_talk.proofs.Names.{Act, Appends-kept, Called, Caller, CallerGreets, Ended, EndsWith, Err, Failed, GaveFault, HasRefused, Hears, HostFault}
use Rattle.mr_talk.proofs.Names.{IfErr, IsBrokenBy, IsCause, IsEndedFor, IsFixed, IsKeptFor, IsSentFor, IsServed, IsTakenIn, IsUngiven, IsUnheard, IsUnsaid}
use Rattle.mr_talk.proofs.Names.{IsUntaken, IsVoiced, Kind, Meeting, Offers, OnOk, Over, Result, Role, Said, TalkFault, Talked, TalkedFor, Turn, append-nil}
use Rattle.mr_talk.proofs.Names.{next_of, other, sender_of, sent_by}
use Rattle.std.specs.Io.KnownBytes.{Keeps}
use Rattle.mr_talk.specs.declared.kind.Kind.TheVariants as kind
use Rattle.mr_talk.specs.declared.talk_fault.TalkFault.TheVariants as talk
use Rattle.mr_talk.proofs.HostLaws.{acts_append, offered, refused_before, refused_behind}
use Rattle.mr_talk.proofs.ServedLaws.{played, still_none}
use Rattle.mr_talk.proofs.Tables.{each_placed, is_kind, is_turn, kind_from, placed_at, turn_at, turn_from}
use Rattle.mr_talk.proofs.TalkLaws.{talked_heard}

-- ---- why it ends

-- only a fault fails a talk, and each does
abbrev fails : Kind → Turn → Bool
fails k next = cond (is_turn next Failed) (is_kind k kind.Fault) true

abbrev failed : Kind → Turn → Bool
failed k next = cond (is_kind k kind.Fault) (is_turn next Failed) true

pub fails_by_fault : (t : Turn) (k : Kind) → next_of t k ≡ Some Failed → k ≡ kind.Fault
fails_by_fault t k e = kind_from k kind.Fault (placed_at t fails (turn_at (λ (s : Turn). each_placed s fails) refl t) k Failed e)

fault_fails : (t next : Turn) → next_of t kind.Fault ≡ Some next → next ≡ Failed
fault_fails t next e = turn_from next Failed (placed_at t failed (turn_at (λ (s : Turn). each_placed s failed) refl t) kind.Fault next e)

pub over_or_failed : (t : Turn) → sender_of t ≡ None → (t ≡ Failed → ⊥) → t ≡ Over
over_or_failed Over e h = refl
over_or_failed Failed e h = absurd (h refl)
over_or_failed t e h = absurd cc

not_other : (role : Role) → Some role ≡ Some (other role) → ⊥
not_other Caller e = absurd cc
not_other Called e = absurd cc

none_some : (role : Role) → ◌≡◌ {A = Option Role} None (Some role) → ⊥
none_some role e = absurd cc

talked_kept : (role : Role) (t : Turn) (o o' o'' i i' : Option (List ℕ)) → Talked role CallerGreets t o o' i i' → Keeps o' o'' → Talked role CallerGreets t o o'' i i'
talked_kept role t o o' o'' i i' k kept = record { messages = k.messages; runs = k.runs; sent = Appends-kept o o' o'' (sent_by role CallerGreets k.messages) k.sent kept; came = k.came }

-- ---- with a message that isn't said

ungiven : (role : Role) (t : Turn) (o o' i i' : Option (List ℕ)) (fault : TalkFault) → Talked role CallerGreets t o o' i i' → sender_of t ≡ Some role → IsUngiven t fault → (first acts : List Act) → GaveFault t fault acts → IsCause fault role (first ++ acts) o o' i i'
ungiven role t o o' i i' (talk.Line fault) k s u first acts g = (t, inr (o', record { before = k; sender = s }, u))
ungiven role t o o' i i' talk.OutOfPlace k s u first acts (m, offers, is) =
    inr (inl (record { turn = t; may = record { before = k; sender = s }; free = u; m = m; before = first; answered = acts; last = refl; offers = offers; place = inl is }))
ungiven role t o o' i i' (talk.Hello fault) k s u first acts g = absurd u
ungiven role t o o' i i' (talk.Host fault) k s u first acts g = absurd u
ungiven role t o o' i i' (talk.Told bytes) k s u first acts g = absurd u

pub ended_ungiven : {S : Type 0} (steps : S → Act → S → Type 0) (role : Role) (t : Turn) (o o' i i' : Option (List ℕ)) (before after : Meeting) (old between new : S) (fault : TalkFault) (k : Talked role CallerGreets t o o' i i') → IsServed steps role k.messages before old between →
    sender_of t ≡ Some role → IsVoiced steps before t (Err fault) after between new → IsUngiven t fault → Ended steps fault role old new o o' i i'
ended_ungiven steps role t o o' i i' before after old between new fault k served s v u =
    (served.acts ++ v.acts, acts_append steps old between new served.acts v.acts served.leads v.leads, ungiven role t o o' i i' fault k s u served.acts v.acts v.given)

-- a fault has its place wherever a side may speak
fault_placed : (role : Role) (t : Turn) → sender_of t ≡ Some role → next_of t kind.Fault ≡ None → ⊥
fault_placed role Over s e = absurd cc
fault_placed role Failed s e = absurd cc
fault_placed role t s e = absurd cc

no_fault : (role : Role) (t : Turn) (m : Said) → sender_of t ≡ Some role → next_of t m.kind ≡ None → m.kind ≡ kind.Fault → ⊥
no_fault role t m s none is = fault_placed role t s (subst (λ (x : Kind). next_of t x ≡ None) is none)

-- what is out of place the host has offered
offers_if : {S : Type 0} (steps : S → Act → S → Type 0) (role : Role) (t : Turn) (m : Said) (before after : Meeting) (old new : S) → IsVoiced steps before t (Ok m) after old new → sender_of t ≡ Some role → next_of t m.kind ≡ None → (IsFixed t → ⊥) →
    (b : Option HostFault) → b ≡ after.broken → (acts : List Act) → (before.broken ≡ None → after.broken ≡ None → Offers t m acts) → Offers t m acts
offers_if steps role t m before after old new v s none free None is acts gives = gives (still_none before after (λ fault e. v.stays fault e) (sym is)) (sym is)
offers_if steps role t m before after old new v s none free (Some fault) is acts gives = absurd (no_fault role t m s none (v.tells fault (sym is)))

unsaid : (role : Role) (t : Turn) (m : Said) (o o' o'' i i' : Option (List ℕ)) (fault : TalkFault) → Talked role CallerGreets t o o' i i' → sender_of t ≡ Some role → (IsFixed t → next_of t m.kind ≡ None → ⊥) →
    IsUnsaid t m.kind fault o' o'' → (first voice sent : List Act) → (next_of t m.kind ≡ None → (IsFixed t → ⊥) → Offers t m voice) → IsKeptFor {T = Turn} (Err fault) sent → IsCause fault role (first ++ (voice ++ sent)) o o'' i i'
unsaid role t m o o' o'' i i' (talk.Line fault) k s place u first voice sent offers kept = (t, inr (o', record { before = k; sender = s }, u))
unsaid role t m o o' o'' i i' talk.OutOfPlace k s place u first voice sent offers kept =
    let free : IsFixed t → ⊥ = λ f. place f u.0 in
    inr (inl (record {
      turn = t;
      may = record { before = talked_kept role t o o' o'' i i' k u.1; sender = s };
      free = free;
      m = m;
      before = first;
      answered = voice;
      last = ap (λ (x : List Act). first ++ x) (ap (λ (x : List Act). voice ++ x) kept ∙ append-nil voice);
      offers = offers u.0 free;
      place = inr u.0;
    }))
unsaid role t m o o' o'' i i' (talk.Host fault) k s place u first voice sent offers kept =
    (record { turn = t; talked = talked_kept role t o o' o'' i i' k u; here = λ e. not_other role (sym s ∙ e) }, refused_behind fault first (voice ++ sent) (refused_behind fault voice sent kept))
unsaid role t m o o' o'' i i' (talk.Hello fault) k s place u first voice sent offers kept = absurd u
unsaid role t m o o' o'' i i' (talk.Told bytes) k s place u first voice sent offers kept = absurd u

pub ended_unsaid : {S : Type 0} (steps : S → Act → S → Type 0) (role : Role) (t : Turn) (m : Said) (o o' o'' i i' j : Option (List ℕ)) (before after : Meeting) (old between voiced new : S) → j ≡ i' → (fault : TalkFault) (k : Talked role CallerGreets t o o' i i') →
    IsServed steps role k.messages before old between → sender_of t ≡ Some role → IsVoiced steps before t (Ok m) after between voiced → (IsFixed t → next_of t m.kind ≡ None → ⊥) → IsUnsaid t m.kind fault o' o'' → IsSentFor {T = Turn} steps (Err fault) voiced new →
    Ended steps fault role old new o o'' i j
ended_unsaid steps role t m o o' o'' i i' j before after old between voiced new same fault k served s v place u (sent, leads, kept) =
    let offers : next_of t m.kind ≡ None → (IsFixed t → ⊥) → Offers t m v.acts = λ none free.
    offers_if steps role t m before after between voiced v s none free after.broken refl v.acts (λ b a. offered _ t m v.acts free (v.speaks b a)) in (
      served.acts ++ (v.acts ++ sent),
      acts_append steps old between new served.acts (v.acts ++ sent) served.leads (acts_append steps between voiced new v.acts sent v.leads leads),
      subst (λ (x : Option (List ℕ)). IsCause fault role (served.acts ++ (v.acts ++ sent)) o o'' i x) (sym same) (unsaid role t m o o' o'' i i' fault k s place u served.acts v.acts sent offers kept),
    )

-- ---- with one that isn't heard or taken

unheard : (role : Role) (t : Turn) (o o' i i' i'' : Option (List ℕ)) (fault : TalkFault) → Talked role CallerGreets t o o' i i' → sender_of t ≡ Some (other role) → IsUnheard t fault i' i'' → (acts : List Act) → IsCause fault role acts o o' i i''
unheard role t o o' i i' i'' (talk.Line fault) k s u acts = (t, inl (record { between = i'; before = k; sender = s; heard = u }))
unheard role t o o' i i' i'' talk.OutOfPlace k s u acts =
    inl (record { turn = t; m = u.0; heard = record { between = i'; before = k; sender = s; heard = u.1 }; place = u.2 })
unheard role t o o' i i' i'' (talk.Hello fault) k s u acts = absurd u
unheard role t o o' i i' i'' (talk.Host fault) k s u acts = absurd u
unheard role t o o' i i' i'' (talk.Told bytes) k s u acts = absurd u

pub cause_unheard : (role : Role) (t : Turn) (o o' p : Option (List ℕ)) → p ≡ o' → (i i' i'' : Option (List ℕ)) (fault : TalkFault) → Talked role CallerGreets t o o' i i' → sender_of t ≡ Some (other role) → IsUnheard t fault i' i'' → (acts : List Act) → IsCause fault role acts o p i i''
cause_unheard role t o o' p same i i' i'' fault k s u acts = subst (λ (x : Option (List ℕ)). IsCause fault role acts o x i i'') (sym same) (unheard role t o o' i i' i'' fault k s u acts)

pub ended_unheard : {S : Type 0} (steps : S → Act → S → Type 0) (role : Role) (t : Turn) (o o' p : Option (List ℕ)) (before : Meeting) (old new : S) → p ≡ o' → (i i' i'' : Option (List ℕ)) (fault : TalkFault) (k : Talked role CallerGreets t o o' i i') →
    IsServed steps role k.messages before old new → sender_of t ≡ Some (other role) → IsUnheard t fault i' i'' → Ended steps fault role old new o p i i''
ended_unheard steps role t o o' p before old new same i i' i'' fault k served s u = (served.acts, served.leads, cause_unheard role t o o' p same i i' i'' fault k s u served.acts)

untaken : (role : Role) (t next : Turn) (m : Said) (o o' i i' i'' : Option (List ℕ)) (before : Meeting) (fault : TalkFault) → Talked role CallerGreets t o o' i i' → sender_of t ≡ Some (other role) → next_of t m.kind ≡ Some next → Hears i' (Ok m) i'' →
    IsUntaken m fault → (first acts : List Act) → ((f : HostFault) → before.broken ≡ Some f → HasRefused f first) → IsBrokenBy before fault → IsCause fault role (first ++ acts) o o' i i''
untaken role t next m o o' i i' i'' before (talk.Hello fault) k s n h u first acts breaks broken =
    record { turn = t; next = next; m = m; heard = record { between = i'; before = k; sender = s; heard = h }; place = n; kind = u.0; reads = u.1 }
untaken role t next m o o' i i' i'' before (talk.Host fault) k s n h u first acts breaks broken =
    let fails : next ≡ Failed = fault_fails t next (subst (λ (x : Kind). next_of t x ≡ Some next) u n) in
    (record { turn = next; talked = talked_heard role CallerGreets t next o o' i i' i'' m k s n h; here = λ e. none_some (other role) (sym (ap sender_of fails) ∙ e) }, refused_before fault first acts (breaks fault broken))
untaken role t next m o o' i i' i'' before (talk.Told bytes) k s n h u first acts breaks broken =
    (t, record { between = i'; before = k; sender = s; heard = subst (λ (x : Said). Hears i' (Ok x) i'') u h })
untaken role t next m o o' i i' i'' before (talk.Line fault) k s n h u first acts breaks broken = absurd u
untaken role t next m o o' i i' i'' before talk.OutOfPlace k s n h u first acts breaks broken = absurd u

pub ended_untaken : {S : Type 0} (steps : S → Act → S → Type 0) (role : Role) (t next : Turn) (m : Said) (o o' p : Option (List ℕ)) (before after : Meeting) (old between new : S) → p ≡ o' → (i i' i'' : Option (List ℕ)) (fault : TalkFault) (k : Talked role CallerGreets t o o' i i') →
    IsServed steps role k.messages before old between → sender_of t ≡ Some (other role) → next_of t m.kind ≡ Some next → Hears i' (Ok m) i'' → IsUntaken m fault → IsTakenIn steps before m (Err fault) after between new → Ended steps fault role old new o p i i''
ended_untaken steps role t next m o o' p before after old between new same i i' i'' fault k served s n h u taken = (
  served.acts ++ taken.acts,
  acts_append steps old between new served.acts taken.acts served.leads taken.leads,
  subst (λ (x : Option (List ℕ)). IsCause fault role (served.acts ++ taken.acts) o x i i'') (sym same) (untaken role t next m o o' i i' i'' before fault k s n h u served.acts taken.acts served.breaks taken.told),
)

-- ---- where nobody may send

ended : (T : Type 0) (role : Role) (t : Turn) (o o' i i' : Option (List ℕ)) (meeting : Meeting) (fault : TalkFault) → Talked role CallerGreets t o o' i i' → sender_of t ≡ None → (first acts : List Act) → ((f : HostFault) → meeting.broken ≡ Some f → HasRefused f first) →
    EndsWith meeting {T = T} (Err fault) acts → IsCause fault role (first ++ acts) o o' i i'
ended T role t o o' i i' meeting (talk.Host fault) k s first acts breaks (inl broken) = (record { turn = t; talked = k; here = λ e. none_some (other role) (sym s ∙ e) }, refused_before fault first acts (breaks fault broken))
ended T role t o o' i i' meeting (talk.Host fault) k s first acts breaks (inr refused) = (record { turn = t; talked = k; here = λ e. none_some (other role) (sym s ∙ e) }, refused_behind fault first acts refused)
ended T role t o o' i i' meeting (talk.Line fault) k s first acts breaks e = absurd e
ended T role t o o' i i' meeting (talk.Hello fault) k s first acts breaks e = absurd e
ended T role t o o' i i' meeting talk.OutOfPlace k s first acts breaks e = absurd e
ended T role t o o' i i' meeting (talk.Told bytes) k s first acts breaks e = absurd e

pub ended_here : {S T : Type 0} (steps : S → Act → S → Type 0) (role : Role) (t : Turn) (o o' i i' : Option (List ℕ)) (meeting : Meeting) (old between new : S) (r : Result T TalkFault) (k : Talked role CallerGreets t o o' i i') → IsServed steps role k.messages meeting old between →
    sender_of t ≡ None → IsEndedFor steps meeting r between new → IfErr r (λ fault. Ended steps fault role old new o o' i i')
ended_here steps role t o o' i i' meeting old between new (Ok x) k served s e = tt
ended_here {T = T} steps role t o o' i i' meeting old between new (Err fault) k served s (acts, leads, with) =
    (served.acts ++ acts, acts_append steps old between new served.acts acts served.leads leads, ended T role t o o' i i' meeting fault k s served.acts acts served.breaks with)

-- a talk in which nobody may send, and whose host has no fault, is over
pub ends_whole : {T E P : Type 0} (r : Result T E) (role : Role) (t : Turn) (o o' i i' : Option (List ℕ)) → Talked role CallerGreets t o o' i i' → sender_of t ≡ None → (t ≡ Failed → P → ⊥) → OnOk r P → OnOk r (Talked role CallerGreets Over o o' i i')
ends_whole (Ok x) role t o o' i i' k s h p = subst (λ (x : Turn). Talked role CallerGreets x o o' i i') (over_or_failed t s (λ e. h e p)) k
ends_whole (Err e) role t o o' i i' k s h p = tt

-- and was played
pub played_whole : {S T : Type 0} (steps : S → Act → S → Type 0) (r : Result T TalkFault) (role : Role) (t : Turn) (o o' i i' : Option (List ℕ)) (meeting : Meeting) (old between new : S) (k : Talked role CallerGreets t o o' i i') → IsServed steps role k.messages meeting old between →
    sender_of t ≡ None → (t ≡ Failed → meeting.broken ≡ None → ⊥) → OnOk r (meeting.broken ≡ None) → IsEndedFor steps meeting r between new → OnOk r (TalkedFor steps role old new o o' i i')
played_whole steps (Ok x) role t o o' i i' meeting old between new k served s h none (acts, leads, kept) =
    let over : t ≡ Over = over_or_failed t s (λ e. h e none) in
    let talked : (talk : Talked role CallerGreets t o o' i i') × IsServed steps role talk.messages meeting old between = (k, served) in
    let whole : (talk : Talked role CallerGreets Over o o' i i') × IsServed steps role talk.messages meeting old between =
    subst (λ (x : Turn). (talk : Talked role CallerGreets x o o' i i') × IsServed steps role talk.messages meeting old between) over talked in
    (whole.0, played steps role whole.0.messages meeting old between new whole.1 none acts leads kept)
played_whole steps (Err fault) role t o o' i i' meeting old between new k served s h none e = tt
