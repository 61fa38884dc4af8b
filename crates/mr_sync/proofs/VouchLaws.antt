-- receipts that are given, and the files of what they are for
use Rattle.std.proofs.Common.{◌≡◌, ◌⊎◌, ◌<◌, ◌++◌, inl, inr, ℕ, true, false, List, [], ◌∷◌, length, get_or, map, take, Contains, IsTrue, Option, None, Some, refl, sym, ap, subst, ◌∙◌}
use Rattle.std.specs.BTreeMap.{BTreeMap}
use Rattle.std.proofs.lemmas.List.Elements.{All-from_all_within, AllWithin-from_all, AllWithin-push}
use Rattle.mr_folder.specs.Store.{IsKept}
use Rattle.mr_folder.specs.Tree.{IsUntouched, Tree}
use Rattle.mr_folder.proofs.KeepLemmas.{keeps_untouched}
use Rattle.mr_madewith.specs.Revision.{Rev}
use Rattle.mr_mail.specs.Mail.{Mail}
use Rattle.mr_replica.specs.declared.event.Event.{Event}
use Rattle.mr_sync.proofs.Names.{All, AllByRecursion, GrowsOnlyBy, Name, PushOut, Vouch, some_is}
use Rattle.mr_sync.specs.Named.{NeedsFile}
use Rattle.mr_sync.specs.inner.Vouching.{AddsAnswer, GivesReceipt, HasItsFile, IsVouchOf, IsVouchedFor}

-- a log that grows by some events grows by such as these are
all_under : (P Q : Event → Type 0) → ((e : Event) → P e → Q e) → (events : List Event) → AllByRecursion P events → AllByRecursion Q events
all_under P Q under [] all = tt
all_under P Q under (e ∷ events) all = (under e all.0, all_under P Q under events all.1)

pub grows_under : (P Q : Event → Type 0) → ((e : Event) → P e → Q e) → {old new : List Event} → GrowsOnlyBy P old new → GrowsOnlyBy Q old new
grows_under P Q under grows = record { events = grows.events; log = grows.log; are = all_under P Q under grows.events grows.are }

module _ {F : Type 0} {seen : F → Tree} {may_leave : F → Tree → Type 0} where
  -- the one file that a head needs is kept, or it needs none
  pub has_needed : (head : Rev) (files : F) (message : Mail) (digest : List ℕ) → message ≡ head.message → ((other : List ℕ) → NeedsFile message other → ◌≡◌ {A = Option (List ℕ)} (Some digest) (Some other)) → IsKept seen may_leave digest files → HasItsFile seen may_leave head files
  has_needed head files message digest same needed kept = λ other needs. subst (λ d. IsKept seen may_leave d files) (some_is digest other (needed other (subst (λ m. NeedsFile m other) (sym same) needs))) kept

  pub has_none : (head : Rev) (files : F) (message : Mail) → message ≡ head.message → ((other : List ℕ) → NeedsFile message other → ◌≡◌ {A = Option (List ℕ)} None (Some other)) → HasItsFile seen may_leave head files
  has_none head files message same needed = λ other needs. absurd (no other (needed other (subst (λ m. NeedsFile m other) (sym same) needs)))
    where
      no : (other : List ℕ) → ◌≡◌ {A = Option (List ℕ)} None (Some other) → ⊥
      no other e = cc

module _ {F : Type 0} {seen : F → Tree} {may_leave : F → Tree → Type 0} {moment : F → ℕ} {left_since : F → ℕ → Tree → Type 0} (heads : List Rev) (waiting : BTreeMap Name Name) where
  -- a head that is vouched for has its file behind a call that writes nothing
  vouched_on : (version : Name) {old new : F} → IsUntouched seen may_leave moment left_since old new → IsVouchedFor seen may_leave heads waiting old version → IsVouchedFor seen may_leave heads waiting new version
  vouched_on version untouched is = record {
    head = is.head;
    is = is.is;
    version_is = is.version_is;
    answers = is.answers;
    file = λ digest needs. (keeps_untouched untouched digest).kept (is.file digest needs);
  }

  -- one more, or none
  pub answers_more : {old new : F} (before after : List PushOut) (head : Rev) → IsUntouched seen may_leave moment left_since old new → Contains heads head → All (λ (p : PushOut). IsVouchedFor seen may_leave heads waiting old p.version) before → AddsAnswer seen may_leave head waiting new before after →
      All (λ (p : PushOut). IsVouchedFor seen may_leave heads waiting new p.version) after
  answers_more {old} {new} before after head untouched is all (inl same) =
      subst (All (λ (p : PushOut). IsVouchedFor seen may_leave heads waiting new p.version)) (sym same) (λ k d lt. vouched_on _ untouched (all k d lt))
  answers_more {old} {new} before after head untouched is all (inr (p, same, version, answers, file)) =
      let P : PushOut → Type 0 = λ p. IsVouchedFor seen may_leave heads waiting new p.version in
      let one : P p = record { head = head; is = is; version_is = sym version; answers = answers; file = file } in
      subst (All P) (sym same) (All-from_all_within P (before ++ p ∷ []) (AllWithin-push P before p (AllWithin-from_all P before (λ k d lt. vouched_on _ untouched (all k d lt))) one))

-- one more receipt for one of these
pub vouch_of : (heads : List PushOut) (k : ℕ) (p : PushOut) → k < length heads → p ≡ get_or heads k p → IsVouchOf heads (Vouch p.version)
vouch_of heads k p lt at = (p, (k, lt, sym at), refl)

-- so each receipt is for such a head
pub receipt_of : {F : Type 0} {seen : F → Tree} {may_leave : F → Tree → Type 0} (heads : List Rev) (waiting : BTreeMap Name Name) {files : F} (found : List PushOut) → All (λ (p : PushOut). IsVouchedFor seen may_leave heads waiting files p.version) found → (e : Event) → IsVouchOf found e → GivesReceipt seen may_leave heads waiting files e
receipt_of {seen} {may_leave} heads waiting {files} found all (Vouch version) (p, (k, lt, at), same) =
    subst (IsVouchedFor seen may_leave heads waiting files) same (subst (λ (q : PushOut). IsVouchedFor seen may_leave heads waiting files q.version) at (all k p lt))
receipt_of heads waiting found all e is = absurd is
