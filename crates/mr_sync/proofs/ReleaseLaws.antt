-- receipts that let go of what they are for
use Rattle.std.proofs.Common.{◌≡◌, List, [], ◌∷◌, ℕ, Option, Some, Result, Ok, Err, refl, sym, ap, subst, inl, inr, ◌∙◌}
use Rattle.mr_sync.proofs.Names.{Answered, AreFrames, Bool, Done, Frame, Hello, Journal, KeptFault, LetsGo, Normal, OnOk, Refused, Release, ReleasesAll}
use Rattle.mr_sync.proofs.Names.{ReleasesOne, State, SyncFault, TakesReceipts, option_map, reply_by, sparing_form, was_there}
use Rattle.mr_replica.specs.declared.refusal.Refusal.TheVariants.{NotPushedOut}
use Rattle.mr_wire.specs.declared.frame.Frame.TheVariants as frame
use Rattle.mr_wire.specs.declared.frame.Receipt.{Receipt}

-- what a replica answered to a receipt, where that is told as an answer
go_where_told : {D : Type 0} (journal : Journal D) (old new : State Normal) (r : Receipt) (answer : Result (Unit {0}) KeptFault) → Answered sparing_form journal old (Release r) (reply_by (λ _. Done) answer) new → OnOk (was_there answer) (LetsGo old r new)
go_where_told journal old new r (Ok v) h = inl h.1
go_where_told journal old new r (Err (Refused NotPushedOut)) h = inr h.1
go_where_told journal old new r (Err e) h = tt

-- so the receipt of a frame lets go of what it is for
pub released_one : {D : Type 0} (journal : Journal D) (old new : State Normal) (giver : ℕ) (f : Frame) (r : Receipt) (answer : Result (Unit {0}) KeptFault) (told : Result Bool SyncFault) → told ≡ was_there answer → f ≡ frame.Receipt r → r.giver ≡ giver →
    Answered sparing_form journal old (Release r) (reply_by (λ _. Done) answer) new → OnOk told (ReleasesOne giver old f new)
released_one journal old new giver f r answer told is is_receipt given h =
    subst (λ (a : Result Bool SyncFault). OnOk a (ReleasesOne giver old f new)) (sym is) (go (was_there answer) (go_where_told journal old new r answer h))
  where
    go : (a : Result Bool SyncFault) → OnOk a (LetsGo old r new) → OnOk a (ReleasesOne giver old f new)
    go (Ok x) goes = record { receipt = r; is = is_receipt; given = given; released = goes }
    go (Err e) goes = tt

-- none are left
pub released_none : (giver : ℕ) (now : State Normal) (left : List Frame) → left ≡ [] → ReleasesAll giver now left now
released_none giver now left none = record { receipts = []; are = none; given = tt; released = refl }

-- one, and then the others
pub released_more : (giver : ℕ) (old mid new : State Normal) (left rest : List Frame) (f : Frame) → left ≡ f ∷ rest → ReleasesOne giver old f mid → ReleasesAll giver mid rest new → ReleasesAll giver old left new
released_more giver old mid new left rest f is one all = record {
  receipts = one.receipt ∷ all.receipts;
  are = is ∙ ap (λ (g : Frame). g ∷ rest) one.is ∙ ap (λ (fs : List Frame). frame.Receipt one.receipt ∷ fs) all.are;
  given = (one.given, all.given);
  released = (mid, one.released, all.released);
}

-- so a message of receipts is taken
pub takes_receipts : (theirs : Option Hello) (other : ℕ) (bytes : List ℕ) (frames : List Frame) (old taken new : State Normal) → option_map (λ h. h.id) theirs ≡ Some other → AreFrames frames bytes → ReleasesAll other old frames taken → new ≡ taken → TakesReceipts theirs old bytes new
takes_receipts theirs other bytes frames old taken new met spelled all same = record {
  other = other;
  met = met;
  frames = frames;
  spelled = spelled;
  releases = subst (ReleasesAll other old frames) (sym same) all;
}
