-- Calls of a host, one behind the other, and what they are for.
use Rattle.std.proofs.Common.{◌≡◌, ◌⊎◌, ℕ, Bool, true, false, List, [], ◌∷◌, ◌++◌, inl, inr, Option, Some, None, Result, Ok, Err, refl, sym, ap, subst, ◌∙◌}
use Rattle.mr_talk.proofs.Names.{Act, Acts, Asks, CalledAsks, CalledGreets, CalledPasses, CallerAsks, CallerGreets, EndsTurn, EndsWith, GaveFault, Gives}
use Rattle.mr_talk.proofs.Names.{Hands, HasRefused, HostFault, IfErr, IfOk, IsAskedFor, IsEndedFor, IsErrAnd, IsFixed, IsKeptFor, IsLast, IsMet, IsSentFor}
use Rattle.mr_talk.proofs.Names.{IsTakenIn, IsUnmade, IsVoiced, Keeps, KeepsFiles, Kind, Known, Listens, Meeting, Meets, MeetsIt, Offers, Reads, Said, Speaks}
use Rattle.mr_talk.proofs.Names.{Suits, TalkFault, Turn, is_some, known_of, option_or, refusal_of, speech_message}
use Rattle.std.specs.Result.{result_err, result_unwrap_or}
use Rattle.mr_talk.specs.declared.fault.LineFault.{LineFault}
use Rattle.mr_talk.specs.declared.hello.Hello.{Hello}
use Rattle.mr_talk.specs.declared.talk_fault.TalkFault.TheVariants as talk
use Rattle.std.specs.Global.{Vec}
use Rattle.mr_talk.specs.declared.meeting.Speech.TheVariants as speech
use Rattle.mr_talk.specs.Host.{Takes}
use Rattle.mr_talk.specs.declared.meeting.Speech.{Speech}
use Rattle.mr_talk.specs.declared.kind.Kind.TheVariants as kind

pub acts_one : {S : Type 0} (steps : S → Act → S → Type 0) (old new : S) (act : Act) → steps old act new → Acts steps old (act ∷ []) new
acts_one steps old new act s = (new, s, refl)

pub acts_two : {S : Type 0} (steps : S → Act → S → Type 0) (old between new : S) (act next : Act) → steps old act between → steps between next new → Acts steps old (act ∷ next ∷ []) new
acts_two steps old between new act next s t = (between, s, (new, t, refl))

pub acts_append : {S : Type 0} (steps : S → Act → S → Type 0) (old between new : S) (first rest : List Act) → Acts steps old first between → Acts steps between rest new → Acts steps old (first ++ rest) new
acts_append steps old between new [] rest a b = subst (λ x. Acts steps x rest new) (sym a) b
acts_append steps old between new (act ∷ first) rest a b = (a.0, a.1, acts_append steps a.0 between new first rest a.2 b)

-- what each call keeps, all of them keep
pub acts_keep : {S : Type 0} (steps : S → Act → S → Type 0) (keeps : S → S → Type 0) → ((s : S) → keeps s s) → ((a b c : S) → keeps a b → keeps b c → keeps a c) → ((old : S) (act : Act) (new : S) → steps old act new → keeps old new) →
    (old new : S) (acts : List Act) → Acts steps old acts new → keeps old new
acts_keep steps keeps still on step old new [] same = subst (keeps old) same (still old)
acts_keep steps keeps still on step old new (act ∷ acts) (between, first, rest) = on old between new (step old act between first) (acts_keep steps keeps still on step between new acts rest)

pub refused_before : (fault : HostFault) (first rest : List Act) → HasRefused fault first → HasRefused fault (first ++ rest)
refused_before fault [] rest h = absurd h
refused_before fault (act ∷ first) rest (inl e) = inl e
refused_before fault (act ∷ first) rest (inr h) = inr (refused_before fault first rest h)

pub refused_behind : (fault : HostFault) (first rest : List Act) → HasRefused fault rest → HasRefused fault (first ++ rest)
refused_behind fault [] rest h = h
refused_behind fault (act ∷ first) rest h = inr (refused_behind fault first rest h)

-- one call, by its answer
pub asked_one : {S T : Type 0} (steps : S → Act → S → Type 0) (P : T → List Act → Type 0) (old new : S) (call : Result T HostFault → Act) (r : Result T HostFault) → steps old (call r) new → ((fault : HostFault) → refusal_of (call (Err fault)) ≡ Some fault) →
    ((x : T) → P x (call (Ok x) ∷ [])) → IsAskedFor steps P old r new
asked_one steps P old new call (Ok x) s refuses gives = (call (Ok x) ∷ [], acts_one steps old new (call (Ok x)) s, gives x)
asked_one steps P old new call (Err fault) s refuses gives = (call (Err fault) ∷ [], acts_one steps old new (call (Err fault)) s, inl (refuses fault))

-- a message that is handed over as it came
pub handed : {S : Type 0} (steps : S → Act → S → Type 0) (old new : S) (m : Said) (k : Kind) (bytes : List ℕ) (r : Result (Unit {0}) HostFault) → m.kind ≡ k → bytes ≡ m.bytes → steps old (Takes (record { kind = k; bytes = bytes }) r) new →
    ((acts : List Act) → acts ≡ Takes m (Ok tt) ∷ [] → Hands k m acts) → IsAskedFor steps (λ _ acts. Hands m.kind m acts) old r new
handed steps old new m k bytes r is same s hands =
    let whole : ◌≡◌ {A = Said} (record { kind = k; bytes = bytes }) m = ap (λ (x : List ℕ). record { kind = k; bytes = x }) same ∙ ap (λ (x : Kind). record { kind = x; bytes = m.bytes }) (sym is) in
    asked_one steps (λ _ acts. Hands m.kind m acts) old new (λ x. Takes m x) r (subst (λ (x : Said). steps old (Takes x r) new) whole s) (λ fault. refl)
    (λ x. subst (λ (y : Kind). Hands y m (Takes m (Ok x) ∷ [])) (sym is) (hands (Takes m (Ok x) ∷ []) refl))

records_by_answer : {S : Type 0} (steps : S → Act → S → Type 0) (old between new : S) (m : Said) (r : Result (Unit {0}) HostFault) → m.kind ≡ kind.Records → steps old (KeepsFiles (Ok tt)) between → steps between (Takes m r) new →
    IsAskedFor steps (λ _ acts. Hands m.kind m acts) old r new
records_by_answer steps old between new m (Ok x) is f s =
    (KeepsFiles (Ok tt) ∷ Takes m (Ok x) ∷ [], acts_two steps old between new (KeepsFiles (Ok tt)) (Takes m (Ok x)) f s, subst (λ (y : Kind). Hands y m (KeepsFiles (Ok tt) ∷ Takes m (Ok x) ∷ [])) (sym is) refl)
records_by_answer steps old between new m (Err fault) is f s = (
  KeepsFiles (Ok tt) ∷ Takes m (Err fault) ∷ [],
  acts_two steps old between new (KeepsFiles (Ok tt)) (Takes m (Err fault)) f s,
  inr (inl refl),
)

-- a record is, behind the files
pub handed_records : {S : Type 0} (steps : S → Act → S → Type 0) (old between new : S) (m : Said) (bytes : List ℕ) (r : Result (Unit {0}) HostFault) → m.kind ≡ kind.Records → bytes ≡ m.bytes → steps old (KeepsFiles (Ok tt)) between →
    steps between (Takes (record { kind = kind.Records; bytes = bytes }) r) new → IsAskedFor steps (λ _ acts. Hands m.kind m acts) old r new
handed_records steps old between new m bytes r is same f s =
    let whole : ◌≡◌ {A = Said} (record { kind = kind.Records; bytes = bytes }) m = ap (λ (x : List ℕ). record { kind = kind.Records; bytes = x }) same ∙ ap (λ (x : Kind). record { kind = x; bytes = m.bytes }) (sym is) in
    records_by_answer steps old between new m r is f (subst (λ (x : Said). steps between (Takes x r) new) whole s)

-- a call that was refused
pub refused_at : {S T U : Type 0} (steps : S → Act → S → Type 0) (P : T → List Act → Type 0) (old new : S) (call : Result U HostFault → Act) (r : Result T HostFault) (fault : HostFault) → IsErrAnd r (λ e. e ≡ fault) →
    steps old (call (Err fault)) new → refusal_of (call (Err fault)) ≡ Some fault → IsAskedFor steps P old r new
refused_at steps P old new call (Ok x) fault is s refuses = absurd is
refused_at steps P old new call (Err e) fault is s refuses =
    (call (Err fault) ∷ [], acts_one steps old new (call (Err fault)) s, subst (λ x. HasRefused x (call (Err fault) ∷ [])) (sym is) (inl refuses))

of_file : (m : Said) (acts : List Act) → ((m.kind ≡ kind.Whole) ⊎ ((m.kind ≡ kind.Begin) ⊎ ((m.kind ≡ kind.Piece) ⊎ (m.kind ≡ kind.End)))) → acts ≡ Takes m (Ok tt) ∷ [] → Hands m.kind m acts
of_file m acts (inl is) e = subst (λ (y : Kind). Hands y m acts) (sym is) e
of_file m acts (inr (inl is)) e = subst (λ (y : Kind). Hands y m acts) (sym is) e
of_file m acts (inr (inr (inl is))) e = subst (λ (y : Kind). Hands y m acts) (sym is) e
of_file m acts (inr (inr (inr is))) e = subst (λ (y : Kind). Hands y m acts) (sym is) e

-- each message of a file is handed over as it came
pub handed_file : {S : Type 0} (steps : S → Act → S → Type 0) (old new : S) (m : Said) (r : Result (Unit {0}) HostFault) → ((m.kind ≡ kind.Whole) ⊎ ((m.kind ≡ kind.Begin) ⊎ ((m.kind ≡ kind.Piece) ⊎ (m.kind ≡ kind.End)))) → steps old (Takes m r) new →
    IsAskedFor steps (λ _ acts. Hands m.kind m acts) old r new
handed_file steps old new m r is s =
    asked_one steps (λ _ acts. Hands m.kind m acts) old new (λ x. Takes m x) r s (λ fault. refl) (λ x. of_file m (Takes m (Ok x) ∷ []) is refl)

-- ---- what is said

-- in the other turns a host says what it has to say
pub speaks_freely : (known : Known) (t : Turn) (m : Said) (acts : List Act) → (t ≡ CallerGreets → ⊥) → (t ≡ CalledGreets → ⊥) → (t ≡ CalledAsks → ⊥) → (t ≡ CalledPasses → ⊥) → (t ≡ CallerAsks → ⊥) → Offers t m acts → Speaks known t m acts
speaks_freely known CallerGreets m acts a b c d e o = absurd (a refl)
speaks_freely known CalledGreets m acts a b c d e o = absurd (b refl)
speaks_freely known CalledAsks m acts a b c d e o = absurd (c refl)
speaks_freely known CalledPasses m acts a b c d e o = absurd (d refl)
speaks_freely known CallerAsks m acts a b c d e o = absurd (e refl)
speaks_freely known t m acts a b c d e o = o

pub not_fixed : (t : Turn) → (t ≡ CallerGreets → ⊥) → (t ≡ CalledGreets → ⊥) → (t ≡ CalledAsks → ⊥) → (t ≡ CalledPasses → ⊥) → (t ≡ CallerAsks → ⊥) → IsFixed t → ⊥
not_fixed CallerGreets a b c d e h = a refl
not_fixed CalledGreets a b c d e h = b refl
not_fixed CalledAsks a b c d e h = c refl
not_fixed CalledPasses a b c d e h = d refl
not_fixed CallerAsks a b c d e h = e refl
not_fixed t a b c d e h = h

-- the end of a turn, behind a host that has nothing to say
pub ended_turn : {S : Type 0} (steps : S → Act → S → Type 0) (known : Known) (t : Turn) (old between new : S) (r : Result Speech HostFault) → steps old (Gives t (Ok None)) between →
    IsAskedFor steps (λ s acts. EndsTurn t (speech_message s) acts) between r new → ((m : Said) (acts : List Act) → Offers t m acts → Speaks known t m acts) →
    IsAskedFor steps (λ s acts. Speaks known t (speech_message s) acts) old r new
ended_turn steps known t old between new (Ok s) g (acts, leads, ends) speaks =
    (Gives t (Ok None) ∷ acts, (between, g, leads), speaks (speech_message s) (Gives t (Ok None) ∷ acts) (inr (acts, refl, ends)))
ended_turn steps known t old between new (Err fault) g (acts, leads, refused) speaks =
    (Gives t (Ok None) ∷ acts, (between, g, leads), inr refused)

pub speaks_ask : (known : Known) (t : Turn) (bytes : Vec ℕ) (acts : List Act) → (t ≡ CalledAsks) ⊎ (t ≡ CallerAsks) → acts ≡ Asks (Ok bytes) ∷ [] → Speaks known t (speech_message (speech.Ask bytes)) acts
speaks_ask known t bytes acts (inl is) e = subst (λ (x : Turn). Speaks known x (speech_message (speech.Ask bytes)) acts) (sym is) (bytes, e, refl)
speaks_ask known t bytes acts (inr is) e = subst (λ (x : Turn). Speaks known x (speech_message (speech.Ask bytes)) acts) (sym is) (bytes, e, refl)

-- what ends a turn suits any that is not fixed
suits_end : (t : Turn) (s : Speech) → (IsFixed t → ⊥) → IsLast s → Suits t s
suits_end t speech.Turn free last = λ f. absurd (free f)
suits_end t (speech.Done knows) free last = λ f. absurd (free f)
suits_end t s free last = absurd last

pub suits_last : (t : Turn) (r : Result Speech HostFault) → (IsFixed t → ⊥) → IfOk r IsLast → IfOk r (Suits t)
suits_last t (Ok s) free last = suits_end t s free last
suits_last t (Err fault) free last = tt

pub suits_err : {T : Type 0} (P : T → Type 0) (r : Result T HostFault) (fault : HostFault) → IsErrAnd r (λ e. e ≡ fault) → IfOk r P
suits_err P (Ok x) fault is = absurd is
suits_err P (Err e) fault is = tt

-- ---- what is said, heard and ended

pub none_is_some : (fault : HostFault) → ◌≡◌ {A = Option HostFault} None (Some fault) → ⊥
none_is_some fault e = absurd cc

pub sent_refused : {S T : Type 0} (steps : S → Act → S → Type 0) (r : Result T TalkFault) (fault : HostFault) (old new : S) → IsErrAnd r (λ e. e ≡ talk.Host fault) → steps old (Keeps (Err fault)) new → IsSentFor steps r old new
sent_refused steps (Ok x) fault old new is s = absurd is
sent_refused {S} {T} steps (Err e) fault old new is s =
    (Keeps (Err fault) ∷ [], acts_one steps old new (Keeps (Err fault)) s, subst (λ (x : TalkFault). IsKeptFor {T = T} (Err x) (Keeps (Err fault) ∷ [])) (sym is) (inl refl))

pub sent_broken : {S T : Type 0} (steps : S → Act → S → Type 0) (r : Result T TalkFault) (fault : LineFault) (old new : S) → IsErrAnd r (λ e. e ≡ talk.Line fault) → steps old (Keeps (Ok tt)) new → IsSentFor steps r old new
sent_broken steps (Ok x) fault old new is s = absurd is
sent_broken {S} {T} steps (Err e) fault old new is s =
    (Keeps (Ok tt) ∷ [], acts_one steps old new (Keeps (Ok tt)) s, subst (λ (x : TalkFault). IsKeptFor {T = T} (Err x) (Keeps (Ok tt) ∷ [])) (sym is) tt)

pub ended_refused : {S T : Type 0} (steps : S → Act → S → Type 0) (meeting : Meeting) (r : Result T TalkFault) (fault : HostFault) (old new : S) → IsErrAnd r (λ e. e ≡ talk.Host fault) → steps old (Keeps (Err fault)) new → IsEndedFor steps meeting r old new
ended_refused steps meeting (Ok x) fault old new is s = absurd is
ended_refused {S} {T} steps meeting (Err e) fault old new is s =
    (Keeps (Err fault) ∷ [], acts_one steps old new (Keeps (Err fault)) s, subst (λ (x : TalkFault). EndsWith meeting {T = T} (Err x) (Keeps (Err fault) ∷ [])) (sym is) (inr (inl refl)))

pub offered : (known : Known) (t : Turn) (m : Said) (acts : List Act) → (IsFixed t → ⊥) → Speaks known t m acts → Offers t m acts
offered known CallerGreets m acts free o = absurd (free tt)
offered known CalledGreets m acts free o = absurd (free tt)
offered known CalledAsks m acts free o = absurd (free tt)
offered known CalledPasses m acts free o = absurd (free tt)
offered known CallerAsks m acts free o = absurd (free tt)
offered known t m acts free o = o

gave_fault : (known : Known) (t : Turn) (s : Speech) (acts : List Act) (fault : TalkFault) → Suits t s → Speaks known t (speech_message s) acts → IsUnmade s fault → GaveFault t fault acts
gave_fault known t (speech.Given m) acts talk.OutOfPlace suits o u = (m, offered known t m acts suits o, u.1)
gave_fault known t (speech.Hello h) acts talk.OutOfPlace suits o u = absurd u
gave_fault known t (speech.Idle h) acts talk.OutOfPlace suits o u = absurd u
gave_fault known t (speech.Ask bytes) acts talk.OutOfPlace suits o u = absurd u
gave_fault known t speech.Turn acts talk.OutOfPlace suits o u = absurd u
gave_fault known t (speech.Done knows) acts talk.OutOfPlace suits o u = absurd u
gave_fault known t s acts (talk.Line fault) suits o u = tt
gave_fault known t s acts (talk.Hello fault) suits o u = tt
gave_fault known t s acts (talk.Host fault) suits o u = tt
gave_fault known t s acts (talk.Told bytes) suits o u = tt

said_so : (known : Known) (t : Turn) (s : Speech) (acts : List Act) (r : Result Said TalkFault) → Speaks known t (speech_message s) acts → IfOk r (λ m. m ≡ speech_message s) → IfOk r (λ m. Speaks known t m acts)
said_so known t s acts (Ok m) o is = subst (λ (x : Said). Speaks known t x acts) (sym is) o
said_so known t s acts (Err fault) o is = tt

faults_so : (known : Known) (t : Turn) (s : Speech) (acts : List Act) (r : Result Said TalkFault) → Suits t s → Speaks known t (speech_message s) acts → IfErr r (IsUnmade s) → IfErr r (λ fault. GaveFault t fault acts)
faults_so known t s acts (Ok m) suits o u = tt
faults_so known t s acts (Err fault) suits o u = gave_fault known t s acts fault suits o u

-- what the host has to say is said
pub voiced : {S : Type 0} (steps : S → Act → S → Type 0) (meeting : Meeting) (t : Turn) (s : Speech) (r : Result Said TalkFault) (old new : S) → meeting.broken ≡ None → Suits t s →
    ((acts : List Act) × Acts steps old acts new × Speaks (known_of meeting) t (speech_message s) acts) → IfOk r (λ m. m ≡ speech_message s) → IfErr r (IsUnmade s) → IsVoiced steps meeting t r meeting old new
voiced steps meeting t s r old new none suits (acts, leads, o) says unmade = record {
  acts = acts;
  leads = leads;
  known = refl;
  speaks = λ _ _. said_so (known_of meeting) t s acts r o says;
  breaks = λ _ fault is. absurd (none_is_some fault (sym none ∙ is));
  stays = λ fault is. is;
  tells = λ fault is. absurd (none_is_some fault (sym none ∙ is));
  given = faults_so (known_of meeting) t s acts r suits o unmade;
}

-- ---- what is taken

-- once the host has refused a call it is asked no more
pub taken_broken : {S : Type 0} (steps : S → Act → S → Type 0) (meeting : Meeting) (m : Said) (old : S) → (meeting.broken ≡ None → ⊥) → IsTakenIn steps meeting m (Ok tt) meeting old old
taken_broken steps meeting m old broken = record {
  acts = [];
  leads = refl;
  listens = λ none _. absurd (broken none);
  breaks = λ none _ _. absurd (broken none);
  stays = λ _ is. is;
  told = tt;
}

listens_met : (m : Said) → (m.kind ≡ kind.Hello) ⊎ (m.kind ≡ kind.Idle) → (from : Known) (acts : List Act) (to : Known) → MeetsIt m acts to → Listens m.kind from m acts to
listens_met m (inl is) from acts to met = subst (λ (x : Kind). Listens x from m acts to) (sym is) met
listens_met m (inr is) from acts to met = subst (λ (x : Kind). Listens x from m acts to) (sym is) met

-- a hello, by what the host answered
met_by_answer : {S : Type 0} (steps : S → Act → S → Type 0) (meeting : Meeting) (m : Said) (h : Hello) (answer : Result Bool HostFault) (old new : S) → meeting.broken ≡ None → (m.kind ≡ kind.Hello) ⊎ (m.kind ≡ kind.Idle) → Reads m.bytes (Ok h) → steps old (Meets h answer) new →
    IsTakenIn steps meeting m (Ok tt) (record { theirs = Some h; is_idle = result_unwrap_or answer meeting.is_idle; broken = option_or (result_err answer) meeting.broken }) old new
met_by_answer steps meeting m h (Ok idle) old new none is reads s = record {
  acts = Meets h (Ok idle) ∷ [];
  leads = acts_one steps old new (Meets h (Ok idle)) s;
  listens = λ _ _. listens_met m is (known_of meeting) (Meets h (Ok idle) ∷ []) (record { theirs = Some h; is_idle = idle }) (h, idle, reads, refl, refl);
  breaks = λ _ fault broken. absurd (none_is_some fault (sym none ∙ broken));
  stays = λ _ broken. broken;
  told = tt;
}
met_by_answer steps meeting m h (Err fault) old new none is reads s = record {
  acts = Meets h (Err fault) ∷ [];
  leads = acts_one steps old new (Meets h (Err fault)) s;
  listens = λ _ broken. absurd (none_is_some fault (sym broken));
  breaks = λ _ _ broken. inl broken;
  stays = λ other broken. absurd (none_is_some other (sym none ∙ broken));
  told = tt;
}

pub taken_met : {S : Type 0} (steps : S → Act → S → Type 0) (meeting : Meeting) (m : Said) (h : Hello) (after : Meeting) (old new : S) → meeting.broken ≡ None → (m.kind ≡ kind.Hello) ⊎ (m.kind ≡ kind.Idle) → Reads m.bytes (Ok h) →
    IsMet steps (record { theirs = Some h; is_idle = meeting.is_idle; broken = meeting.broken }) h after old new → IsTakenIn steps meeting m (Ok tt) after old new
taken_met steps meeting m h after old new none is reads met = subst (λ (x : Meeting). IsTakenIn steps meeting m (Ok tt) x old new) (sym met.is) (met_by_answer steps meeting m h met.answer old new none is reads met.step)

listens_handed : (m : Said) (k : Kind) (from : Known) (acts : List Act) → (k ≡ kind.Fault → ⊥) → (k ≡ kind.Hello → ⊥) → (k ≡ kind.Idle → ⊥) → Hands k m acts → Listens k from m acts from
listens_handed m kind.Fault from acts a b c h = absurd (a refl)
listens_handed m kind.Hello from acts a b c h = absurd (b refl)
listens_handed m kind.Idle from acts a b c h = absurd (c refl)
listens_handed m k from acts a b c h = (h, refl)

abbrev RefusedIf : Option HostFault → List Act → Type 0
RefusedIf None acts = Unit {0}
RefusedIf (Some fault) acts = HasRefused fault acts

-- any other message, by what the host answered
pub taken_handed : {S : Type 0} (steps : S → Act → S → Type 0) (meeting : Meeting) (m : Said) (r : Result (Unit {0}) HostFault) (old new : S) → meeting.broken ≡ None → (m.kind ≡ kind.Fault → ⊥) → (m.kind ≡ kind.Hello → ⊥) → (m.kind ≡ kind.Idle → ⊥) →
    IsAskedFor steps (λ _ acts. Hands m.kind m acts) old r new → IsTakenIn steps meeting m (Ok tt) (record { theirs = meeting.theirs; is_idle = meeting.is_idle; broken = result_err r }) old new
taken_handed steps meeting m (Ok x) old new none a b c (acts, leads, hands) = record {
  acts = acts;
  leads = leads;
  listens = λ _ _. listens_handed m m.kind (known_of meeting) acts a b c hands;
  breaks = λ _ fault broken. absurd (none_is_some fault broken);
  stays = λ fault broken. absurd (none_is_some fault (sym none ∙ broken));
  told = tt;
}
taken_handed steps meeting m (Err fault) old new none a b c (acts, leads, refused) = record {
  acts = acts;
  leads = leads;
  listens = λ _ broken. absurd (none_is_some fault (sym broken));
  breaks = λ _ other broken. subst (λ (x : Option HostFault). RefusedIf x acts) broken refused;
  stays = λ other broken. absurd (none_is_some other (sym none ∙ broken));
  told = tt;
}

pub is_some_any : {T : Type 0} (o : Option T) → true ≡ is_some o → o ≡ None → ⊥
is_some_any None s e = absurd cc
is_some_any (Some x) s e = absurd cc

pub not_some : {T : Type 0} (o : Option T) → false ≡ is_some o → o ≡ None
not_some None s = refl
not_some (Some x) s = absurd cc
