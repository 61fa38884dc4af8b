-- Of an id that no replica of a world has, nothing is held in its history.
use Rattle.std.proofs.Common.{◌≡◌, ◌≢◌, inl, inr, refl, sym, ap, subst, ◌∙◌, ℕ, false, List, [], ◌∷◌, Option, None, is_none, find, ◌==◌, arith}
use Rattle.mr_settle.proofs.Names.{Act, All, All-append, All-cons, All-head, All-nil, All-tail, All-weaker, Answer, Answered, ClauseParts, Event, Form}
use Rattle.mr_settle.proofs.Names.{Happens, Holding, Holds, IsWorldOf, Leads, Mail, MailCard, MailMoment, MailSetting, MemberView, Name, State, WorldView}
use Rattle.mr_settle.proofs.Names.{answered, both_ways, filters_of, ids_of, member_at, moment_of, numbered, setting_of, start}
use Rattle.mr_model.specs.Changes.{Reception.AsTaken, Reception.AsKnown, Reception.AsFinished, Change, Change.Issues, Change.Opens, Change.Releases, Change.Takes, change, change_by_reply, change_of, change_if_found, happens, after}
use Rattle.mr_model.specs.History as model
use Rattle.mr_model.specs.declared.event.Act.TheVariants as act
use Rattle.mr_world.specs.Runs.{history_from, seen_step}
use Rattle.mr_world.proofs.Groundwork.AtPlaces.{at_other}
use Rattle.mr_settle.proofs.MoveLemmas.{there_if}

-- ---- a change is of one replica

-- what q holds stays
abbrev Leaves : Change Mail MailCard → (q : ℕ) → Type 0
Leaves (Issues r x) q = q ≢ r
Leaves (Takes r x reception) q = q ≢ r
Leaves (Releases r x) q = q ≢ r
Leaves c q = Unit {0}

leaves_holding : (s : MailSetting) (m : MailMoment) (c : Change Mail MailCard) (q : ℕ) → Leaves c q → (happens s m c).holding q ≡ m.holding q
leaves_holding s m c q ne = grind (arith, at_other)

found_leaves : {A : Type 0} (o : Option A) (made : A → Change Mail MailCard) (q : ℕ) → ((x : A) → Leaves (made x) q) → Leaves (change_if_found o made) q
found_leaves o made q h = grind arith

-- an act changes what its own replica holds, and nothing that another does
taken_leaves : (m : MailMoment) (r n : ℕ) (reply : model.Reply MailCard) (q : ℕ) → q ≢ r → Leaves (change_by_reply m r n reply) q
taken_leaves m r n model.Took q ne = found_leaves (numbered m.given n) (λ x. Takes r x AsTaken) q (λ x. ne)
taken_leaves m r n model.Known q ne = found_leaves (numbered m.given n) (λ x. Takes r x AsKnown) q (λ x. ne)
taken_leaves m r n model.Finished q ne = found_leaves (numbered m.given n) (λ x. Takes r x AsFinished) q (λ x. ne)
taken_leaves m r n reply q ne = grind (arith, found_leaves)

change_leaves : (m : MailMoment) (r : ℕ) (a : Act Mail) (reply : model.Reply MailCard) (q : ℕ) → q ≢ r → Leaves (change_of m r a reply) q
change_leaves m r (act.Create message) (model.Issued v) q ne = ne
change_leaves m r (act.Edit bases message) (model.Issued v) q ne = ne
change_leaves m r (act.Receive n) reply q ne = taken_leaves m r n reply q ne
change_leaves m r (act.DeliverPart n bytes) reply q ne = taken_leaves m r n reply q ne
change_leaves m r (act.Answer n) (model.Streaming t) q ne = found_leaves (numbered m.asks n) (Opens r t) q (λ x. tt)
change_leaves m r (act.Release n) model.Done q ne = found_leaves (numbered m.receipts n) (Releases r) q (λ x. ne)
change_leaves m r a model.Refused q ne = tt
change_leaves m r a reply q ne = grind (arith, taken_leaves, found_leaves)

-- ---- a history without events of q

held_still : (filters : ℕ → List ClauseParts) (m : MailMoment) (xs : List Answered) (q : ℕ) → All (λ x. q ≢ x.event.replica) xs → (after (setting_of filters) m (history_from filters m xs)).holding q ≡ m.holding q
held_still filters m [] q all = refl
held_still filters m (x ∷ xs) q all =
    held_still filters (happens (setting_of filters) m (change m (seen_step m x))) xs q (All-tail (λ (x : Answered). q ≢ x.event.replica) x xs all)
    ∙ leaves_holding (setting_of filters) m (change m (seen_step m x)) q (change_leaves m x.event.replica x.event.act _ q (All-head (λ (x : Answered). q ≢ x.event.replica) x xs all))

-- ---- who was asked

module _ {K : Type 0} where
  -- each event was for a replica that is there
  abbrev AskedMembers : WorldView K → Type 0
  AskedMembers w = All (λ x. is_none (member_at w.members x.event.replica) ≡ false) w.answers

  there_still : (w w' : WorldView K) (q : ℕ) → ids_of w'.members ≡ ids_of w.members → is_none (member_at w.members q) ≡ false → is_none (member_at w'.members q) ≡ false
  there_still w w' q ids h = there_if w'.members q ∙ ap (λ (xs : List ℕ). is_none (find (λ i. i == q) xs)) ids ∙ sym (there_if w.members q) ∙ h

module _ {K : Type 0} (form : Form K) where
  asked_on : (w w' : WorldView K) (e : Event Mail) (answer : Answer) → Happens form w e answer w' → AskedMembers w → AskedMembers w'
  asked_on w w' e answer h all = subst (All (λ x. is_none (member_at w'.members x.event.replica) ≡ false)) (sym h.notes)
      (All-append (λ x. is_none (member_at w'.members x.event.replica) ≡ false) w.answers (answered e answer ∷ [])
      (All-weaker (λ x. is_none (member_at w.members x.event.replica) ≡ false) (λ x. is_none (member_at w'.members x.event.replica) ≡ false) (λ x there. there_still w w' x.event.replica h.becomes.ids there) w.answers all)
      (All-cons (λ x. is_none (member_at w'.members x.event.replica) ≡ false) (answered e answer) [] (there_still w w' e.replica h.becomes.ids (ap (λ (o : Option (MemberView K)). is_none o) h.becomes.was)) (All-nil (λ x. is_none (member_at w'.members x.event.replica) ≡ false))))

  asked_all : (w w' : WorldView K) (events : List (Event Mail)) → Leads form w events w' → AskedMembers w → AskedMembers w'
  asked_all w w' [] h all = subst AskedMembers (sym h) all
  asked_all w w' (e ∷ events) h all = asked_all h.0 w' events h.2 (asked_on w h.0 e h.1.0 h.1.1 all)

  asked_since : (ends : List (State K)) (w : WorldView K) → IsWorldOf form ends w → AskedMembers w
  asked_since ends w of = asked_all of.start w of.events of.leads (subst (All (λ x. is_none (member_at of.start.members x.event.replica) ≡ false)) (sym of.is_start.made.answers) (All-nil (λ x. is_none (member_at of.start.members x.event.replica) ≡ false)))

  -- where no replica has the id, nothing is held by it
  pub nothing_held : (ends : List (State K)) (w : WorldView K) → IsWorldOf form ends w → (q : ℕ) → member_at w.members q ≡ None → (v : Name) → Holds (moment_of w) q v → ⊥
  nothing_held ends w of q none v held = by (ap (λ (h : Holding). h.stored v) still) (ap (λ (h : Holding). h.pushed_out v) still) held
    where
      other : (x : Answered) → is_none (member_at w.members x.event.replica) ≡ false → q ≢ x.event.replica
      other x there is = both_ways (is_none (member_at w.members x.event.replica)) there (sym (ap (λ (r : ℕ). is_none (member_at w.members r)) is) ∙ ap is_none none)

      still : (moment_of w).holding q ≡ (let s : MailMoment = start in s.holding q)
      still = held_still (filters_of w) start w.answers q (All-weaker (λ x. is_none (member_at w.members x.event.replica) ≡ false) (λ x. q ≢ x.event.replica) other w.answers (asked_since ends w of))

      by : ((moment_of w).holding q).stored v ≡ false → ((moment_of w).holding q).pushed_out v ≡ false → Holds (moment_of w) q v → ⊥
      by s p (inl h) = cc (s, h)
      by s p (inr h) = cc (p, h)
