-- What a change leaves as it is: the other replicas, what stands in the pools, and streams that have ended.
use Rattle.std.proofs.Common.{◌≡◌, ◌≢◌, refl, ap, subst, ◌∙◌, ℕ, ◌==◌, true, ◌&&◌, if◌then◌else◌, List, [], ◌∷◌, ◌++◌, map, ◌⊎◌, inl, inr, IsFalse, eqb-true, Option, Some, None, arith}
use Rattle.std.specs.Prelude.{⊤}
use Rattle.std.proofs.lemmas.Bool.{and_parts}
use Rattle.mr_model.specs.Versions.{Versions, Issue}
use Rattle.mr_model.specs.History.{Setting, Body.End, Record, Reply, Reply.Issued, Reply.Done, Reply.Asked, Reply.Streaming, Reply.Gave, Reply.Took, Reply.Known, Reply.Finished, Reply.Offered, Reply.TookEntry, Reply.Vouched}
use Rattle.mr_model.specs.declared.event.Act.{Act}
use Rattle.mr_model.specs.declared.event.Act.TheVariants.{Create, Edit, Retire, Pull, Receive, DeliverPart, CutIn, Answer, Next, CutOut, Offer, Take, Close, Vouch, Release}
use Rattle.mr_model.specs.Moment.{Mark.Moved, Mark.CloseMark, Moment, known, stored, at, at_two, numbered}
use Rattle.mr_model.specs.Changes.{Reception.AsTaken, Reception.AsKnown, Reception.AsFinished, Change, Change.Issues, Change.Asks, Change.Opens, Change.Gives, Change.Takes, Change.Retires, Change.Offers, Change.Closes, Change.TakesEntry, Change.Vouches, Change.Releases, Change.Stays, Change.Misfits, change_if_found, change_of, holding_after_issue, holding_after_record, holding_after_release, feed_after, with_issue, is_first_held, with_mark, is_closed, happens}
use Rattle.mr_model.specs.Rules.{In, IsAllowed}
use Rattle.mr_model.proofs.Basics.{false_from, in_append}
use Rattle.mr_model.proofs.Lists.{in_map}
use Rattle.mr_model.proofs.Sets.{choice}
use Rattle.mr_crash.specs.Frames.{Frame, Frame.AskFrame, Frame.RecordFrame, Frame.ReceiptFrame, frames, gives}
use Rattle.mr_crash.specs.Crash.{replica}

-- ---- who makes a change

-- k makes the change
abbrev pub IsBy : {M C : Type 0} → ℕ → Change M C → Type 0
IsBy k (Issues r x) = r ≡ k
IsBy k (Asks r ask) = r ≡ k
IsBy k (Opens q t ask) = q ≡ k
IsBy k (Gives q t x) = q ≡ k
IsBy k (Takes r x reception) = r ≡ k
IsBy k (Retires r) = r ≡ k
IsBy k (Offers r u e) = r ≡ k
IsBy k (Closes r u) = r ≡ k
IsBy k (TakesEntry r u e) = r ≡ k
IsBy k (Vouches r v x) = r ≡ k
IsBy k (Releases r x) = r ≡ k
IsBy k Stays = ⊤
IsBy k Misfits = ⊤

pub found_by : {M C A : Type 0} (k : ℕ) (o : Option A) (f : A → Change M C) → ((x : A) → IsBy k (f x)) → IsBy k (change_if_found o f)
found_by k None f h = tt
found_by k (Some x) f h = h x

-- a step's change is made by the replica of its event
pub change_by : {M C : Type 0} (m : Moment M C) (k : ℕ) (act : Act M) (reply : Reply C) → IsBy k (change_of m k act reply)
change_by m k act reply = grind (arith, found_by)

-- ---- the other replicas

pub at_other : {A : Type 0} (f : ℕ → A) (r : ℕ) (x : A) (q : ℕ) → q ≢ r → at f r x q ≡ f q
at_other f r x q other = grind (arith, eqb-true)

pub at_two_other : {A : Type 0} (f : ℕ → ℕ → A) (r u : ℕ) (x : A) (q : ℕ) → q ≢ r → (t : ℕ) → at_two f r u x q t ≡ f q t
at_two_other f r u x q other t = grind (arith, eqb-true, and_parts)

-- elsewhere than at r and u
pub at_two_elsewhere : {A : Type 0} (f : ℕ → ℕ → A) (r u : ℕ) (x : A) (q t : ℕ) → ¬ ((q ≡ r) × (t ≡ u)) → at_two f r u x q t ≡ f q t
at_two_elsewhere f r u x q t other = grind (arith, eqb-true, and_parts)

-- each replica but its maker is after a change as before
pub replica_other : {M C : Type 0} (s : Setting M C) (m : Moment M C) (c : Change M C) (k q : ℕ) → IsAllowed s m c → IsBy k c → q ≢ k → replica (happens s m c) q ≡ replica m q
replica_other s m (Issues r x) k q rule by other = λ i. record (replica m q) {
  holding = at_other m.holding r (holding_after_issue s (with_issue m x) r x) q (λ e. other (e ∙ by)) i;
  feed = at_other m.feed r (feed_after s (x ∷ m.issues) (stored m r) (holding_after_issue s (with_issue m x) r x).stored (m.feed r)) q (λ e. other (e ∙ by)) i;
}
replica_other s m (Opens r t ask) k q rule by other = λ i. record (replica m q) {
  ask_of = λ u. at_two_other m.ask_of r t (Some ask) q (λ e. other (e ∙ by)) u i;
  known_at_answer = λ u. at_two_other m.known_at_answer r t (known m r) q (λ e. other (e ∙ by)) u i;
}
replica_other s m (Gives r t x) k q rule by other = λ i. record (replica m q) { held_at_draw = shown i }
  where
    shown : (if is_first_held m.given x then at_two m.held_at_draw x.source x.stream (stored m x.source) else m.held_at_draw) q ≡ m.held_at_draw q
    shown = choice (λ (f : ℕ → ℕ → Versions). f q ≡ m.held_at_draw q) (is_first_held m.given x) (at_two m.held_at_draw x.source x.stream (stored m x.source)) m.held_at_draw
        (λ b i u. at_two_other m.held_at_draw x.source x.stream (stored m x.source) q (λ e. other (e ∙ (rule.source ∙ by))) u i) (λ b. refl)
replica_other s m (Takes r x reception) k q rule by other = λ i. record (replica m q) {
  holding = at_other m.holding r (holding_after_record s m r x x.body) q (λ e. other (e ∙ by)) i;
  feed = at_other m.feed r (feed_after s m.issues (stored m r) (holding_after_record s m r x x.body).stored (m.feed r)) q (λ e. other (e ∙ by)) i;
  taken_in = at_other m.taken_in r (x ∷ m.taken_in r) q (λ e. other (e ∙ by)) i;
}
replica_other s m (Retires r) k q rule by other = λ i. record (replica m q) { is_retired = at_other m.is_retired r true q (λ e. other (e ∙ by)) i }
replica_other s m (Offers r u x) k q rule by other = λ i. record (replica m q) { offered = λ v. at_two_other m.offered r u (m.offered r u ++ Moved x ∷ []) q (λ e. other (e ∙ by)) v i }
replica_other {M} {C} s m (Closes r u) k q rule by other = choice (λ (n : Moment M C). replica n q ≡ replica m q) (is_closed (m.offered r u)) m (with_mark m r u CloseMark)
    (λ b. refl) (λ b i. record (replica m q) { offered = λ v. at_two_other m.offered r u (m.offered r u ++ CloseMark ∷ []) q (λ e. other (e ∙ by)) v i })
replica_other s m (TakesEntry r u x) k q rule by other = λ i. record (replica m q) { taken = λ v. at_two_other m.taken r u (m.taken r u ++ x ∷ []) q (λ e. other (e ∙ by)) v i }
replica_other s m (Releases r x) k q rule by other = λ i. record (replica m q) {
  holding = at_other m.holding r (holding_after_release m r x.version) q (λ e. other (e ∙ by)) i;
  feed = at_other m.feed r (feed_after s m.issues (stored m r) (holding_after_release m r x.version).stored (m.feed r)) q (λ e. other (e ∙ by)) i;
}
replica_other s m _ k q rule by other = refl

-- ---- the pools

-- the frame stands in its pool
abbrev pub InPools : {M C : Type 0} → Moment M C → Frame → Type 0
InPools m (AskFrame ask) = In ask m.asks
InPools m (RecordFrame x) = In x m.given
InPools m (ReceiptFrame x) = In x m.receipts

pub frames_in : {M C : Type 0} (m : Moment M C) (f : Frame) → In f (frames m) → InPools m f
frames_in m f i = grind (arith, in_append (map AskFrame m.asks ++ map RecordFrame m.given) (map ReceiptFrame m.receipts) f, in_append (map AskFrame m.asks) (map RecordFrame m.given) f, in_map)

pub pools_grow : {M C : Type 0} (s : Setting M C) (m : Moment M C) (c : Change M C) (f : Frame) → InPools m f → InPools (happens s m c) f
pools_grow s m (Asks r ask) (AskFrame a) i = inr i
pools_grow s m (Gives k t x) (RecordFrame y) i = inr i
pools_grow s m (Vouches r v x) (ReceiptFrame y) i = inr i
pools_grow {M} {C} s m (Closes r u) (AskFrame a) i = choice (λ (n : Moment M C). In a n.asks) (is_closed (m.offered r u)) m (with_mark m r u CloseMark) (λ b. i) (λ b. i)
pools_grow {M} {C} s m (Closes r u) (RecordFrame y) i = choice (λ (n : Moment M C). In y n.given) (is_closed (m.offered r u)) m (with_mark m r u CloseMark) (λ b. i) (λ b. i)
pools_grow {M} {C} s m (Closes r u) (ReceiptFrame y) i = choice (λ (n : Moment M C). In y n.receipts) (is_closed (m.offered r u)) m (with_mark m r u CloseMark) (λ b. i) (λ b. i)
pools_grow s m _ _ i = i

-- what a change gives comes into its pool
pub pools_new : {M C : Type 0} (s : Setting M C) (m : Moment M C) (c : Change M C) (f : Frame) → In f (gives c) → InPools (happens s m c) f
pools_new s m (Asks r ask) f i = elim i [ inl e ↦ subst (InPools (happens s m (Asks r ask))) e (inl refl) | inr j ↦ absurd j ]
pools_new s m (Gives k t x) f i = elim i [ inl e ↦ subst (InPools (happens s m (Gives k t x))) e (inl refl) | inr j ↦ absurd j ]
pools_new s m (Vouches r v x) f i = elim i [ inl e ↦ subst (InPools (happens s m (Vouches r v x))) e (inl refl) | inr j ↦ absurd j ]
pools_new s m _ f i = absurd i

-- a record of the pool stood there before, or the maker of the change gave it
pub given_new : {M C : Type 0} (s : Setting M C) (m : Moment M C) (c : Change M C) (k : ℕ) → IsAllowed s m c → IsBy k c → (x : Record) → In x (happens s m c).given →
    In x m.given ⊎ ((x.source ≡ k) × In (RecordFrame x) (gives c))
given_new s m (Gives q t y) k rule by x i = elim i [ inl e ↦ inr (subst (λ (z : Record). z.source ≡ k) e (rule.source ∙ by), inl (ap RecordFrame e)) | inr j ↦ inl j ]
given_new {M} {C} s m (Closes r u) k rule by x i = inl (choice (λ (n : Moment M C). In x n.given → In x m.given) (is_closed (m.offered r u)) m (with_mark m r u CloseMark) (λ b j. j) (λ b j. j) i)
given_new s m _ k rule by x i = inl i

-- ---- the issue list

-- what a change issues
abbrev pub new_issues : {M C : Type 0} → Change M C → List (Issue M)
new_issues (Issues r x) = x ∷ []
new_issues _ = []

pub issues_after : {M C : Type 0} (s : Setting M C) (m : Moment M C) (c : Change M C) → (happens s m c).issues ≡ new_issues c ++ m.issues
issues_after {M} {C} s m (Closes r u) = choice (λ (n : Moment M C). n.issues ≡ m.issues) (is_closed (m.offered r u)) m (with_mark m r u CloseMark) (λ b. refl) (λ b. refl)
issues_after s m _ = refl

-- ---- streams that have ended

-- what a stream showed stays, once it has ended
pub change_ended : {M C : Type 0} (s : Setting M C) (m : Moment M C) (c : Change M C) → IsAllowed s m c → (x : Record) → In x m.given → x.body ≡ End →
    (happens s m c).held_at_draw x.source x.stream ≡ m.held_at_draw x.source x.stream
change_ended s m (Gives q t y) rule x i e = choice (λ (f : ℕ → ℕ → Versions). f x.source x.stream ≡ m.held_at_draw x.source x.stream) (is_first_held m.given y)
    (at_two m.held_at_draw y.source y.stream (stored m y.source)) m.held_at_draw
    (λ b. at_two_elsewhere m.held_at_draw y.source y.stream (stored m y.source) x.source x.stream (λ both. rule.open_still x (record { is_given = i; source_is = both.0; stream_is = both.1 }) e))
    (λ b. refl)
change_ended {M} {C} s m (Closes r u) rule x i e = choice (λ (n : Moment M C). n.held_at_draw x.source x.stream ≡ m.held_at_draw x.source x.stream) (is_closed (m.offered r u)) m (with_mark m r u CloseMark) (λ b. refl) (λ b. refl)
change_ended s m _ rule x i e = refl
