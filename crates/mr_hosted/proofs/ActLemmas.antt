-- one more act behind others
use Rattle.std.proofs.Common.{◌≡◌, ◌⊎◌, ◌&&◌, true, inl, inr, ⊎_elim, ℕ, ◌+◌, ◌-◌, ◌<◌, ◌≤◌, List, [], ◌∷◌, ◌++◌, length, take, drop, get_or, refl, sym, ap, subst, ◌∙◌, arith, length-append, length-drop}
use Rattle.std.proofs.lemmas.Bool.{and_parts, cases_lt}
use Rattle.std.proofs.lemmas.List.{take_all, get_or-take, get_or-drop, get_or_append_left, get_or-append_right, length-take, length-take-le, take-append-le}
use Rattle.std.proofs.lemmas.List.Folds.{list_all-append}
use Rattle.std.specs.List.{list_all}
use Rattle.std.specs.Prelude.{min, Result, Ok, Err, OnOk, OnErr}
use Rattle.mr_journal.specs.Device.{Cut, IsOldOrWritten, Only, Passes, Torn, overwritten}
use Rattle.mr_hosted.specs.Acts.{AreSyncs, LeftBy, LeftByAll, LeftSince, MayLeave, all_done, done, is_sync, only_now}
use Rattle.mr_hosted.specs.declared.act.Act.{Act}
use Rattle.mr_hosted.specs.declared.act.Act.TheVariants as act

-- the file once one more act is done
pub all_done-append : (file : List ℕ) (acts : List Act) (a : Act) → all_done file (acts ++ a ∷ []) ≡ done (all_done file acts) a
all_done-append file [] a = refl
all_done-append file (x ∷ acts) a = all_done-append (done file x) acts a

pub after : (file : List ℕ) (acts later : List Act) (a : Act) → later ≡ acts ++ a ∷ [] → all_done file later ≡ done (all_done file acts) a
after file acts later a is = ap (λ (l : List Act). all_done file l) is ∙ all_done-append file acts a

-- with one more act all are syncs only where it is one, and those before it are
pub all_syncs : (acts later : List Act) (a : Act) → later ≡ acts ++ a ∷ [] → AreSyncs later → AreSyncs acts × (is_sync a ≡ true)
all_syncs acts later a is syncs =
    let both = and_parts (list_all is_sync acts) (is_sync a && true) (sym (ap (λ (l : List Act). list_all is_sync l) is ∙ list_all-append is_sync acts (a ∷ [])) ∙ syncs) in
    (both.0, (and_parts (is_sync a) true both.1).0)

-- what one more act leaves of what those before it left
splits : (file : List ℕ) (before : List ℕ → Type 0) (acts : List Act) (a : Act) (c : List ℕ) → LeftByAll file before (acts ++ a ∷ []) c → LeftBy (all_done file acts) a (LeftByAll file before acts) c
splits file before [] a c left = left
splits file before (x ∷ acts) a c left = splits (done file x) (LeftBy file x before) acts a c left

pub left_behind : (file : List ℕ) (acts later : List Act) (a : Act) (c : List ℕ) → later ≡ acts ++ a ∷ [] → MayLeave file later c → LeftBy (all_done file acts) a (MayLeave file acts) c
left_behind file acts later a c is left = splits file (λ d. d ≡ file) acts a c (subst (λ (l : List Act). MayLeave file l c) is left)

pub length_written : (file : List ℕ) (at : ℕ) (bytes : List ℕ) → length (overwritten file at bytes) ≡ min at (length file) + (length bytes + (length file - (at + length bytes)))
length_written file at bytes =
    omega (arith, length-append (take at file) (bytes ++ drop (at + length bytes) file), length-append bytes (drop (at + length bytes) file), length-take at file, length-drop (at + length bytes) file)

-- a byte of a write that is done is the one from before, or the written one
each_done : (file : List ℕ) (at : ℕ) (bytes : List ℕ) (i : ℕ) → i < length file → IsOldOrWritten at bytes file (overwritten file at bytes) i
each_done file at bytes i lt =
    let behind = drop (at + length bytes) file in
    let rest = bytes ++ behind in
    ⊎_elim
    (λ (early : i < at). inl (get_or_append_left (take at file) rest 0 i (omega (arith, length-take at file)) ∙ get_or-take at file i 0 early))
    (λ (from : at ≤ i).
    let there : get_or (overwritten file at bytes) i 0 ≡ get_or rest (i - at) 0 = get_or-append_right (take at file) rest at i 0 (length-take-le at file (omega arith)) from in
    ⊎_elim
    (λ (within : i < at + length bytes). inr (from, within, there ∙ get_or_append_left bytes behind 0 (i - at) (omega arith)))
    (λ (after : at + length bytes ≤ i). inl (there ∙ get_or-append_right bytes behind (length bytes) (i - at) 0 refl (omega arith) ∙ get_or-drop (at + length bytes) file (i - at - length bytes) 0 ∙ ap (λ (n : ℕ). get_or file n 0) (omega arith)))
    (cases_lt i (at + length bytes)))
    (cases_lt i at)

-- a write that is done is one that a crash may leave, and so is a cut
torn_done : (file : List ℕ) (at : ℕ) (bytes : List ℕ) → Torn at bytes file (overwritten file at bytes)
torn_done file at bytes = record {
  no_shorter = omega (arith, length_written file at bytes);
  no_longer = omega (arith, length_written file at bytes);
  each = λ i lt. each_done file at bytes i lt;
}

cut_front : (file : List ℕ) (len : ℕ) → take len file ≡ take (length (take len file)) file
cut_front file len =
    ⊎_elim
    (λ (short : len < length file). sym (ap (λ (n : ℕ). take n file) (length-take-le len file (omega arith))))
    (λ (whole : length file ≤ len). take_all len file whole ∙ sym (take_all (length (take len file)) file (omega (arith, length-take len file))))
    (cases_lt len (length file))

cut_done : (file : List ℕ) (len : ℕ) → Cut len file (take len file)
cut_done file len = record { no_shorter = omega (arith, length-take len file); front = cut_front file len }

act_left : (file : List ℕ) (before : List ℕ → Type 0) (a : Act) → before file → LeftBy file a before (done file a)
act_left file before (act.Write at bytes) h = (file, h, torn_done file at bytes.items)
act_left file before (act.Cut len) h = (file, h, cut_done file len)
act_left file before act.Sync h = refl

left_done : (file : List ℕ) (before : List ℕ → Type 0) (acts : List Act) → before file → LeftByAll file before acts (all_done file acts)
left_done file before [] h = h
left_done file before (a ∷ acts) h = left_done (done file a) (LeftBy file a before) acts (act_left file before a h)

-- the file with all acts done may be left
pub file_left : (file : List ℕ) (acts : List Act) → MayLeave file acts (all_done file acts)
file_left file acts = left_done file (λ d. d ≡ file) acts refl

-- a crash since then left what it might have left before the act, or what it may leave now
pub before_or_now : (file : List ℕ) (acts later : List Act) (a : Act) (t : ℕ) (c : List ℕ) → later ≡ acts ++ a ∷ [] → LeftSince file later t c → LeftSince file acts t c ⊎ MayLeave file later c
before_or_now file acts later a t c is since =
    ⊎_elim
    (λ (last : length acts < since.begun). inr (subst (λ (l : List Act). MayLeave file l c) (take_all since.begun later (omega (arith, ap length is, length-append acts (a ∷ []), last))) since.left))
    (λ (earlier : since.begun ≤ length acts). inl (record { begun = since.begun; from = since.from; to = earlier; left = subst (λ (l : List Act). MayLeave file l c) (ap (λ (l : List Act). take since.begun l) is ∙ take-append-le since.begun acts (a ∷ []) earlier) since.left }))
    (cases_lt (length acts) since.begun)

still_left : (file : List ℕ) (acts later : List Act) (a : Act) (t : ℕ) (c : List ℕ) → later ≡ acts ++ a ∷ [] → LeftSince file acts t c → LeftSince file later t c
still_left file acts later a t c is since = record {
  begun = since.begun;
  from = since.from;
  to = omega (arith, ap length is, length-append acts (a ∷ []), since.to);
  left = subst (λ (l : List Act). MayLeave file l c) (sym (ap (λ (l : List Act). take since.begun l) is ∙ take-append-le since.begun acts (a ∷ []) since.to)) since.left;
}

-- time passes by an act
pub passes : (file : List ℕ) (acts later : List Act) (a : Act) → later ≡ acts ++ a ∷ [] → Passes (length acts) (length later) (LeftSince file acts) (LeftSince file later) (MayLeave file later)
passes file acts later a is = record {
  later = omega (arith, ap length is, length-append acts (a ∷ []));
  no_more = λ t c le since. before_or_now file acts later a t c is since;
  no_less = λ t c le since. still_left file acts later a t c is since;
}

-- a sync leaves the file alone, which might have been left before
left_by_sync : (file : List ℕ) (acts later : List Act) (c : List ℕ) → later ≡ acts ++ act.Sync ∷ [] → MayLeave file later c → c ≡ all_done file acts
left_by_sync file acts later c is left = left_behind file acts later act.Sync c is left

sync_adds_none : (file : List ℕ) (acts later : List Act) (c : List ℕ) → later ≡ acts ++ act.Sync ∷ [] → MayLeave file later c → MayLeave file acts c
sync_adds_none file acts later c is left = subst (λ (d : List ℕ). MayLeave file acts d) (sym (left_by_sync file acts later c is left)) (file_left file acts)

-- The acts after a call that notes a sync, or finds no memory for it.
module _ {T E : Type 0} (file : List ℕ) (acts later : List Act) where
  pub same_file : (r : Result T E) → OnOk r (later ≡ acts ++ act.Sync ∷ []) → OnErr r (later ≡ acts) → all_done file later ≡ all_done file acts
  same_file (Ok _) is none = after file acts later act.Sync is
  same_file (Err _) none is = ap (λ (l : List Act). all_done file l) is

  pub syncs_before : (r : Result T E) → OnOk r (later ≡ acts ++ act.Sync ∷ []) → OnErr r (later ≡ acts) → AreSyncs later → AreSyncs acts
  syncs_before (Ok _) is none syncs = (all_syncs acts later act.Sync is syncs).0
  syncs_before (Err _) none is syncs = subst (λ (l : List Act). AreSyncs l) is syncs

  pub durable : (r : Result T E) → OnOk r (later ≡ acts ++ act.Sync ∷ []) → OnOk r (Only (all_done file acts) (MayLeave file later))
  durable (Ok _) is = λ c left. left_by_sync file acts later c is left
  durable (Err _) none = tt

  pub adds_none : (r : Result T E) → OnOk r (later ≡ acts ++ act.Sync ∷ []) → OnErr r (later ≡ acts) → (c : List ℕ) → MayLeave file later c → MayLeave file acts c
  adds_none (Ok _) is none c left = sync_adds_none file acts later c is left
  adds_none (Err _) none is c left = subst (λ (l : List Act). MayLeave file l c) is left

  pub no_fewer : (r : Result T E) → OnOk r (later ≡ acts ++ act.Sync ∷ []) → OnErr r (later ≡ acts) → length acts ≤ length later
  no_fewer (Ok _) is none = omega (arith, ap length is, length-append acts (act.Sync ∷ []))
  no_fewer (Err _) none is = omega (arith, ap length is)

  pub before_sync : (r : Result T E) → OnOk r (later ≡ acts ++ act.Sync ∷ []) → OnErr r (later ≡ acts) → (t : ℕ) (c : List ℕ) → LeftSince file later t c → LeftSince file acts t c ⊎ MayLeave file acts c
  before_sync (Ok _) is none t c since = ⊎_elim (λ (earlier : LeftSince file acts t c). inl earlier) (λ (now : MayLeave file later c). inr (sync_adds_none file acts later c is now)) (before_or_now file acts later act.Sync t c is since)
  before_sync (Err _) none is t c since = inl (subst (λ (l : List Act). LeftSince file l t c) is since)

  pub since_sync : (r : Result T E) → OnOk r (later ≡ acts ++ act.Sync ∷ []) → OnErr r (later ≡ acts) → (c : List ℕ) → LeftSince file later (length acts) c → MayLeave file acts c
  since_sync r ok err c since = ⊎_elim (λ (earlier : LeftSince file acts (length acts) c). only_now file acts c earlier) (λ (now : MayLeave file acts c). now) (before_sync r ok err (length acts) c since)
