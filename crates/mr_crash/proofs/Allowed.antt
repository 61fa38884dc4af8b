-- What another replica does is allowed without the lost steps too.
use Rattle.std.proofs.Common.{◌≡◌, ◌≢◌, refl, sym, subst, ◌∙◌, ℕ, ◌+◌, ◌||◌, ◌∷◌, ◌++◌, inl, inr, ◌⊎◌, IsTrue, IsFalse, Bool, Some, None, arith}
use Rattle.mr_model.specs.Versions.{is, is_issued}
use Rattle.mr_model.specs.History.{Setting, Receipt}
use Rattle.mr_model.specs.Moment.{Moment}
use Rattle.mr_model.specs.Changes.{Change, Change.Issues, Change.Asks, Change.Opens, Change.Gives, Change.Takes, Change.Retires, Change.Offers, Change.Closes, Change.TakesEntry, Change.Vouches, Change.Releases, Change.Stays, Change.Misfits, entries_of, is_closed}
use Rattle.mr_model.specs.Rules.{In, IsAllowed}
use Rattle.mr_model.proofs.Issues.{superseded_in, made_issued}
use Rattle.mr_model.proofs.Core.{Inv}
use Rattle.mr_crash.specs.Frames.{Frame, Frame.AskFrame, Frame.RecordFrame, Frame.ReceiptFrame, takes}
use Rattle.mr_crash.specs.Crash.{Replica, replica}
use Rattle.mr_crash.proofs.LostIssues.{is_left, made_same, count_same}
use Rattle.mr_crash.proofs.Changes.{IsBy, InPools}
use Rattle.mr_crash.proofs.Agreeing.{Agrees}
use Rattle.mr_crash.proofs.Sees.{Sees, sees, draw_there, reception_same}

-- the frame that the change takes stands in the pools
abbrev pub IsFound : {M C : Type 0} → Moment M C → Change M C → Type 0
IsFound m c = (f : Frame) → In f (takes c) → InPools m f

-- a receipt is of an issued version
pub vouched_issued : {M C : Type 0} (s : Setting M C) (m : Moment M C) → Inv s m → (x : Receipt) → In x m.receipts → IsTrue (is_issued m.issues x.version)
vouched_issued s m inv x i = elim (inv.core.vouched x i) [
  | inl a ↦ (let b = superseded_in m.issues x.version a in (made_issued m.issues inv.core.sets.list b.0 x.version b.1).1)
  | inr b ↦ (inv.core.sets.each b.0).issued x.version ((inv.core.sets.each b.0).stored x.version b.1)
]

pub alive_there : {M C : Type 0} (m m' : Moment M C) (k : ℕ) → replica m k ≡ replica m' k → IsFalse (m.is_retired k) → IsFalse (m'.is_retired k)
alive_there {M} {C} m m' k e h = subst (λ (z : Replica C). IsFalse z.is_retired) e h

pub allowed_there : {M C : Type 0} (s : Setting M C) (r k : ℕ) (b m m' : Moment M C) (c : Change M C) → Agrees r b m m' → Inv s m → Inv s m' → k ≢ r → IsBy k c → IsFound m' c → IsAllowed s m c → IsAllowed s m' c
allowed_there {M} {C} s r k b m m' (Issues q x) a inv inv' other by found rule = record {
  alive = alive_there m m' q w.own rule.alive;
  author = rule.author;
  counter = rule.counter ∙ (λ i. count_same r b.issues a.lost q (λ e. other (sym by ∙ e)) i + 1);
  held = λ v i. subst (λ (z : Replica C). IsTrue (z.holding.stored v) ⊎ IsTrue (z.holding.pushed_out v)) w.own (rule.held v i);
  one_item = λ v i. sym (w.item v (w.held v (rule.held v i))) ∙ rule.one_item v i;
  own_item = rule.own_item;
}
  where
    w : Sees s m m' q
    w = sees s r q b m m' a inv inv' (λ e. other (sym by ∙ e))
allowed_there {M} {C} s r k b m m' (Asks q ask) a inv inv' other by found rule = let e = a.others q (λ p. other (sym by ∙ p)) in record {
  alive = alive_there m m' q e rule.alive;
  target = rule.target;
  claims_known = λ v h. subst (λ (z : Replica C). IsTrue (z.holding.known v)) e (rule.claims_known v h);
}
allowed_there {M} {C} s r k b m m' (Opens q t ask) a inv inv' other by found rule = let e = a.others q (λ p. other (sym by ∙ p)) in record {
  asked = found (AskFrame ask) (inl refl);
  other = rule.other;
  fresh = subst (λ (z : Replica C). z.ask_of t ≡ None) e rule.fresh;
}
allowed_there {M} {C} s r k b m m' (Gives q t x) a inv inv' other by found rule = record {
  source = rule.source;
  stream = rule.stream;
  ask = rule.ask;
  opened = subst (λ (z : Replica C). z.ask_of x.stream ≡ Some rule.ask) w.own rule.opened;
  target = rule.target;
  session = rule.session;
  index = λ y o. rule.index y (w.back x.stream y o);
  open_still = λ y o. rule.open_still y (w.back x.stream y o);
  draw = draw_there s m m' x.source w x.stream rule.ask x.body rule.draw;
}
  where
    w : Sees s m m' x.source
    w = sees s r x.source b m m' a inv inv' (λ e. other (sym by ∙ (sym rule.source ∙ e)))
allowed_there {M} {C} s r k b m m' (Takes q x reception) a inv inv' other by found rule = let e = a.others q (λ p. other (sym by ∙ p)) in record {
  alive = alive_there m m' q e rule.alive;
  in_pool = found (RecordFrame x) (inl refl);
  target = rule.target;
  answer = rule.answer ∙ reception_same m m' q x.body e;
}
allowed_there {M} {C} s r k b m m' (Retires q) a inv inv' other by found rule = let e = a.others q (λ p. other (sym by ∙ p)) in record {
  alive = alive_there m m' q e rule.alive;
  clean = λ v. subst (λ (z : Replica C). IsFalse (z.holding.pushed_out v)) e (rule.clean v);
}
allowed_there {M} {C} s r k b m m' (Offers q u x) a inv inv' other by found rule = let e = a.others q (λ p. other (sym by ∙ p)) in record {
  rest = rule.rest;
  next = subst (λ (z : Replica C). z.feed ≡ entries_of (z.offered u) ++ x ∷ rule.rest) e rule.next;
  not_closed = subst (λ (z : Replica C). IsFalse (is_closed (z.offered u))) e rule.not_closed;
}
allowed_there {M} {C} s r k b m m' (TakesEntry q u x) a inv inv' other by found rule = let e = a.others q (λ p. other (sym by ∙ p)) in record {
  rest = rule.rest;
  next = subst (λ (z : Replica C). entries_of (z.offered u) ≡ z.taken u ++ x ∷ rule.rest) e rule.next;
}
allowed_there {M} {C} s r k b m m' (Vouches q v x) a inv inv' other by found rule = let e = a.others q (λ p. other (sym by ∙ p)) in record {
  alive = alive_there m m' q e rule.alive;
  giver = rule.giver;
  version = rule.version;
  stored = subst (λ (z : Replica C). IsTrue (z.holding.stored v)) e rule.stored;
}
allowed_there {M} {C} s r k b m m' (Releases q x) a inv inv' other by found rule = record {
  alive = alive_there m m' q e rule.alive;
  in_pool = found (ReceiptFrame x) (inl refl);
  frees = (
    rule.frees.0,
    subst (λ (z : Replica C). IsTrue (z.holding.pushed_out rule.frees.0)) e rule.frees.1,
    subst (λ (h : Bool). IsTrue (is x.version rule.frees.0 || h)) (made_same r b.issues a.lost inv.core.sets.list inv'.core.sets.list x.version rule.frees.0
        (is_left r b.issues a.lost x.version (vouched_issued s m' inv' x (found (ReceiptFrame x) (inl refl))))) rule.frees.2,
  );
}
  where
    e : replica m q ≡ replica m' q
    e = a.others q (λ p. other (sym by ∙ p))
allowed_there s r k b m m' Misfits a inv inv' other by found rule = rule
allowed_there s r k b m m' _ a inv inv' other by found rule = tt
