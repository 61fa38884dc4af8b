-- A replica that has retired has no push-outs: it retires only where none are left, and admits nothing afterwards but what tells others.
use Rattle.std.proofs.Common.{inl, inr, ◌≡◌, ◌≢◌, refl, sym, ap, subst, ◌∙◌, Bool, true, List, [], ◌∷◌, Some, None, arith}
use Rattle.mr_replica.proofs.Names.{AdmitsAll, Answer, Changes, CutOut, Event, Form, Frame, IsItsLog, Next, PushOutsLeft, Receive, Reply, Retire, Retired}
use Rattle.mr_replica.proofs.Names.{Rev, State, false≢true, first_refusal, has_any, refused_if, ◌orelse◌}
use Rattle.mr_replica.specs.declared.event.Reply.TheVariants as reply
use Rattle.mr_replica.proofs.FiveKinds.{change_made}
use Rattle.mr_replica.proofs.Replies.{step_replied}

-- it has no push-outs, where it has retired
abbrev pub HasReleased : {K : Type 0} → State K → Type 0
HasReleased s = s.is_retired ≡ true → s.push_outs ≡ []

-- what Retire is refused for isn't there
nothing_left : (b : Bool) (xs : List Rev) → (refused_if b Retired orelse refused_if (has_any xs) PushOutsLeft) ≡ None → xs ≡ []
nothing_left b xs h = grind arith

module _ {K : Type 0} (form : Form K) (s : State K) where
  -- one that a retired replica refuses
  refused_then : (event : Event) (told : Reply) (new : State K) → event ≢ Retire → (s.is_retired ≡ true → first_refusal s event ≡ Some Retired) → first_refusal s event ≡ None → Changes form s event told new → HasReleased new
  refused_then event told new other refuses none h = λ t. elim (change_made form s event told new h).retired [
    | inl is ↦ absurd (other is)
    | inr same ↦ let e : Some Retired ≡ None = sym (refuses (sym same ∙ t)) ∙ none in absurd (cc)
  ]

  -- one that tells others
  tells : (new made : State K) → new ≡ made → made.is_retired ≡ s.is_retired → made.push_outs ≡ s.push_outs → HasReleased s → HasReleased new
  tells new made is same push_outs released = λ t. ap (λ (z : State K). z.push_outs) is ∙ (push_outs ∙ released (sym (ap (λ (z : State K). z.is_retired) is ∙ same) ∙ t))

  by_frame_refused : (f : Frame) → s.is_retired ≡ true → first_refusal s (Receive f) ≡ Some Retired
  by_frame_refused f r = grind arith

  released_after : (event : Event) (told : Reply) (new : State K) → first_refusal s event ≡ None → Changes form s event told new → HasReleased s → HasReleased new
  released_after Retire reply.Done new none h released = λ t. ap (λ (z : State K). z.push_outs) h ∙ nothing_left s.is_retired s.push_outs none
  released_after (Answer ask) (reply.Streaming stream) new none h released = tells new _ h.3 refl refl released
  released_after (Next stream) (reply.Gave sent) new none h released = tells new _ h.2 refl refl released
  released_after (CutOut stream) reply.Done new none h released = tells new _ h refl refl released
  released_after (Receive f) told new none h released = refused_then (Receive f) told new (λ is. cc) (by_frame_refused f) none h
  released_after Retire told new none h released = absurd h
  released_after (Answer ask) told new none h released = absurd h
  released_after (Next stream) told new none h released = absurd h
  released_after (CutOut stream) told new none h released = absurd h
  released_after event told new none h released = refused_then event told new (λ is. cc) (λ r. rw r refl) none h

module _ {K : Type 0} (form : Form K) where
  all_released : (s new : State K) (events : List Event) → AdmitsAll form s events new → HasReleased s → HasReleased new
  all_released s new [] h released = subst (λ (z : State K). HasReleased z) (sym h) released
  all_released s new (event ∷ events) h released = grind (arith, all_released h.0 new events h.2, step_replied, released_after)

  -- a replica, which is its log replayed, has none where it has retired
  pub has_released : (s : State K) → IsItsLog form s → HasReleased s
  has_released s its = all_released its.fresh s s.log its.admits (λ t. absurd (false≢true (sym (ap (λ (z : State K). z.is_retired) its.is_fresh.is_empty) ∙ t)))
