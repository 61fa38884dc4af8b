-- what holds at every moment while the acts of a plan are done, and of the names of the files that they make
use Rattle.std.proofs.Common.{◌≡◌, ℕ, zero, suc, ◌+◌, ◌<◌, ◌≤◌, Bool, true, false, not, cond, ◌&&◌, ◌||◌, List, [], ◌∷◌, ◌++◌, length, take, Option, Some, None, refl, sym, ap, ◌∙◌, inl, inr, ◌⊎◌, length-append, arith, subst}
use Rattle.mr_maildir.proofs.Names.{FileAct, FileParts, IsMadeName, Link, Mail, Move, Remove, acts_for, after, and_from, and_parts, cases_Bool, false≢true}
use Rattle.mr_maildir.proofs.Names.{file_eq, first_seen, flat_map, has_file, is_blocked, is_blocked_from, is_blocked_where, is_fit, is_fit_byte, is_free}
use Rattle.mr_maildir.proofs.Names.{is_from_new, is_kept, is_path_byte, is_taken, kept_in, leb-true, letters_from, letters_with, link_in, link_where}
use Rattle.mr_maildir.proofs.Names.{list_all, list_any, list_any-append, makes, move_in, move_where, name_in, nat_le, not-true, or_cases, or_left, or_parts}
use Rattle.mr_maildir.proofs.Names.{or_right, overwrites_nothing, own_name, put_in, remove_of, slice_index, standing_files, standing_in, takes, tells}
use Rattle.mr_maildir.proofs.Names.{without, ◌==◌}
use Rattle.mr_maildir.proofs.FolderLemmas.{part, implied}
use Rattle.mr_maildir.proofs.PlanLemmas.{is_itself, has_untaken, placed-unique, put-label, put-unseen_first, put-unseen, no_remove_makes, seen_taken, unseen_taken, unseen_made}

-- ---- at every moment

abbrev adds : FileAct → Bool
adds (Link from to) = true
adds (Move from to) = true
adds (Remove file) = false

grown : (files : List FileParts) (to : FileParts) → 0 < length (files ++ to ∷ [])
grown files to = let long = length-append files (to ∷ []) in omega arith

-- where acts only make files, some is there
some_added : (acts : List FileAct) (files : List FileParts) → list_all adds acts ≡ true → 0 < length files + length acts → 0 < length (after acts files)
some_added [] files all some = omega arith
some_added (Link from to ∷ acts) files all some = some_added acts (files ++ to ∷ []) all (let more = grown files to in omega arith)
some_added (Move from to ∷ acts) files all some = some_added acts (without from files ++ to ∷ []) all (let more = grown (without from files) to in omega arith)
some_added (Remove file ∷ acts) files all some = absurd (false≢true all)

some_there : (files : List FileParts) (g : FileParts) → has_file files g ≡ true → 0 < length files
some_there [] g has = absurd (false≢true has)
some_there (f ∷ files) g has = omega arith

any_taken : (p : FileAct → Bool) (k : ℕ) (acts : List FileAct) → list_any p acts ≡ false → list_any p (take k acts) ≡ false
any_taken p zero acts none = refl
any_taken p (suc k) [] none = refl
any_taken p (suc k) (a ∷ acts) none =
    let parts = or_parts (p a) (list_any p acts) none in
    ap (λ b. b || list_any p (take k acts)) parts.0 ∙ any_taken p k acts parts.1

-- before the file is made there are acts that make files alone
before_made : (p : FileAct → Bool) (k : ℕ) (adding rest : List FileAct) → list_all adds adding ≡ true → list_any p adding ≡ true → list_any p (take k (adding ++ rest)) ≡ false → (list_all adds (take k (adding ++ rest)) ≡ true) × (k ≤ length (take k (adding ++ rest)))
before_made p zero adding rest all some none = (refl, omega arith)
before_made p (suc k) [] rest all some none = absurd (false≢true some)
before_made p (suc k) (a ∷ adding) rest all some none =
    let alls = and_parts (adds a) (list_all adds adding) all in
    let nones = or_parts (p a) (list_any p (take k (adding ++ rest))) none in
    let later : list_any p adding ≡ true = elim (or_cases (p a) (list_any p adding) some) [ inl now ↦ absurd (false≢true (sym nones.0 ∙ now)) | inr then ↦ then ] in
    let more = before_made p k adding rest alls.1 later nones.1 in
    (and_from (adds a) (list_all adds (take k (adding ++ rest))) alls.0 more.0, let few = more.1 in omega arith)

all_append : (xs ys : List FileAct) → list_all adds xs ≡ true → list_all adds ys ≡ true → list_all adds (xs ++ ys) ≡ true
all_append [] ys one two = two
all_append (x ∷ xs) ys one two =
    let parts = and_parts (adds x) (list_all adds xs) one in
    and_from (adds x) (list_all adds (xs ++ ys)) parts.0 (all_append xs ys parts.1 two)

all_add : (mail : Mail) (labels : List (List ℕ)) → (list_all adds (flat_map (link_in mail) labels) ≡ true) × (list_all adds (flat_map (move_in mail) labels) ≡ true)
all_add mail [] = (refl, refl)
all_add mail (label ∷ labels) =
    let rest = all_add mail labels in
    (all_append (link_in mail label) (flat_map (link_in mail) labels) (link (kept_in mail label)) rest.0, all_append (move_in mail label) (flat_map (move_in mail) labels) (move (kept_in mail label)) rest.1)
  where
    link : (o : Option FileParts) → list_all adds (link_where mail label o) ≡ true
    link None = refl
    link (Some f) = refl

    renamed : (f : FileParts) (t : Bool) → list_all adds (cond t [] (Move f (put_in mail label (Some f)) ∷ [])) ≡ true
    renamed f true = refl
    renamed f false = refl

    move : (o : Option FileParts) → list_all adds (move_where mail label o) ≡ true
    move None = refl
    move (Some f) = renamed f (tells mail.flags f)

-- at each moment some file is there that is never taken away, or that is yet to be made
moment : (mail : Mail) (labels : List (List ℕ)) (w : FileParts) (k : ℕ) → list_any (takes w) (acts_for mail labels) ≡ false → (has_file mail.seen w ≡ true) ⊎ (list_any (makes w) (flat_map (link_in mail) labels ++ flat_map (move_in mail) labels) ≡ true) → 0 < length mail.seen + k → 0 < length (after (take k (acts_for mail labels)) mail.seen)
moment mail labels w k untaken (inl has) begun =
    some_there (after (take k (acts_for mail labels)) mail.seen) w
    (has_untaken (take k (acts_for mail labels)) mail.seen w (any_taken (takes w) k (acts_for mail labels) untaken)
    ∙ or_left (has_file mail.seen w) (list_any (makes w) (take k (acts_for mail labels))) has)
moment mail labels w k untaken (inr made) begun =
    elim (cases_Bool (list_any (makes w) (take k (acts_for mail labels)))) [
      | inl holds ↦
          some_there (after (take k (acts_for mail labels)) mail.seen) w
          (has_untaken (take k (acts_for mail labels)) mail.seen w (any_taken (takes w) k (acts_for mail labels) untaken)
          ∙ or_right (has_file mail.seen w) (list_any (makes w) (take k (acts_for mail labels))) holds)
      | inr fails ↦
          let adding = all_add mail labels in
          let both = all_append (flat_map (link_in mail) labels) (flat_map (move_in mail) labels) adding.0 adding.1 in
          let front = before_made (makes w) k (flat_map (link_in mail) labels ++ flat_map (move_in mail) labels) (flat_map (remove_of mail labels) mail.seen) both made fails in
          let long : k ≤ length (take k (acts_for mail labels)) = front.1 in
          some_added (take k (acts_for mail labels)) mail.seen front.0 (omega arith)
    ]

made_early : (mail : Mail) (labels : List (List ℕ)) (w : FileParts) → list_any (makes w) (acts_for mail labels) ≡ true → list_any (makes w) (flat_map (link_in mail) labels ++ flat_map (move_in mail) labels) ≡ true
made_early mail labels w made =
    let adding : List FileAct = flat_map (link_in mail) labels ++ flat_map (move_in mail) labels in
    elim (or_cases (list_any (makes w) adding) (list_any (makes w) (flat_map (remove_of mail labels) mail.seen)) (sym (list_any-append (makes w) adding (flat_map (remove_of mail labels) mail.seen)) ∙ made)) [
      | inl early ↦ early
      | inr late ↦ absurd (false≢true (sym (no_remove_makes mail labels w mail.seen) ∙ late))
    ]

-- some file is there at every moment, once there is one
pub always_some : (mail : Mail) (labels : List (List ℕ)) → mail.flags ≤ 31 → (k : ℕ) → 0 < length labels → 0 < length mail.seen + k → 0 < length (after (take k (acts_for mail labels)) mail.seen)
always_some mail [] within k some begun = absurd (omega arith)
always_some mail (label ∷ labels) within k some begun =
    let w : FileParts = standing_in mail label in
    let stands : has_file (standing_files mail (label ∷ labels)) (standing_in mail label) ≡ true = or_left (file_eq w w) (has_file (standing_files mail labels) w) (is_itself w) in
    elim (cases_Bool (has_file mail.seen (standing_in mail label))) [
      | inl has ↦
          moment mail (label ∷ labels) (standing_in mail label) k
          (not-true (list_any (takes (standing_in mail label)) (acts_for mail (label ∷ labels))) (seen_taken mail (label ∷ labels) (standing_in mail label) within has ∙ stands))
          (inl has) begun
      | inr lacking ↦
          moment mail (label ∷ labels) (standing_in mail label) k
          (unseen_taken mail (label ∷ labels) (standing_in mail label) lacking)
          (inr (made_early mail (label ∷ labels) (standing_in mail label) (unseen_made mail (label ∷ labels) (standing_in mail label) lacking ∙ stands))) begun
    ]

-- ---- names

-- what is made is not taken, where the folder isn't blocked
put-free : (mail : Mail) (label : List ℕ) (source : Option FileParts) → is_blocked_from mail label source ≡ false → is_taken mail.taken (put_in mail label source).label (put_in mail label source).unique ≡ false
put-free mail label source open_ =
    ap (λ l. is_taken mail.taken l (put_in mail label source).unique) (put-label mail label source)
    ∙ (ap (is_taken mail.taken label) (placed-unique label (name_in mail label source) (letters_with (letters_from source) mail.flags) (is_from_new source))
    ∙ elim (is_taken mail.taken label (own_name mail source)) as (λ t. is_taken mail.taken label (own_name mail source) ≡ t → (t && is_taken mail.taken label mail.digits) ≡ false → is_taken mail.taken label (cond t mail.digits (own_name mail source)) ≡ false) [
      | true ↦ λ _ free. free
      | false ↦ λ free _. free
    ] refl open_)

free : (mail : Mail) (to : FileParts) → has_file mail.seen to ≡ false → is_taken mail.taken to.label to.unique ≡ false → is_free mail to ≡ true
free mail to unseen untaken = and_from (not (has_file mail.seen to)) (not (is_taken mail.taken to.label to.unique)) (ap not unseen) (ap not untaken)

free_links : (mail : Mail) (label : List ℕ) (o : Option FileParts) → kept_in mail label ≡ o → is_blocked_where mail label o ≡ false → list_all (overwrites_nothing mail) (link_where mail label o) ≡ true
free_links mail label None is open_ =
    and_from (is_free mail (put_in mail label (first_seen mail))) true (free mail (put_in mail label (first_seen mail)) (put-unseen_first mail label is) (put-free mail label (first_seen mail) open_)) refl
free_links mail label (Some f) is open_ = refl

free_moves : (mail : Mail) (label : List ℕ) (o : Option FileParts) → mail.flags ≤ 31 → kept_in mail label ≡ o → is_blocked_where mail label o ≡ false → list_all (overwrites_nothing mail) (move_where mail label o) ≡ true
free_moves mail label None within is open_ = refl
free_moves mail label (Some f) within is open_ = at (tells mail.flags f) refl open_
  where
    at : (t : Bool) → tells mail.flags f ≡ t → (not t && is_blocked_from mail label (Some f)) ≡ false → list_all (overwrites_nothing mail) (cond t [] (Move f (put_in mail label (Some f)) ∷ [])) ≡ true
    at true _ unblocked = refl
    at false other unblocked =
        and_from (is_free mail (put_in mail label (Some f))) true (free mail (put_in mail label (Some f)) (put-unseen mail label f within is other) (put-free mail label (Some f) unblocked)) refl

all_free : (mail : Mail) (xs ys : List FileAct) → list_all (overwrites_nothing mail) xs ≡ true → list_all (overwrites_nothing mail) ys ≡ true → list_all (overwrites_nothing mail) (xs ++ ys) ≡ true
all_free mail [] ys one two = two
all_free mail (x ∷ xs) ys one two =
    let parts = and_parts (overwrites_nothing mail x) (list_all (overwrites_nothing mail) xs) one in
    and_from (overwrites_nothing mail x) (list_all (overwrites_nothing mail) (xs ++ ys)) parts.0 (all_free mail xs ys parts.1 two)

each_link : (mail : Mail) (labels : List (List ℕ)) → list_any (is_blocked mail) labels ≡ false → list_all (overwrites_nothing mail) (flat_map (link_in mail) labels) ≡ true
each_link mail [] open_ = refl
each_link mail (label ∷ labels) open_ =
    let parts = or_parts (is_blocked mail label) (list_any (is_blocked mail) labels) open_ in
    all_free mail (link_in mail label) (flat_map (link_in mail) labels) (free_links mail label (kept_in mail label) refl parts.0) (each_link mail labels parts.1)

each_move : (mail : Mail) (labels : List (List ℕ)) → mail.flags ≤ 31 → list_any (is_blocked mail) labels ≡ false → list_all (overwrites_nothing mail) (flat_map (move_in mail) labels) ≡ true
each_move mail [] within open_ = refl
each_move mail (label ∷ labels) within open_ =
    let parts = or_parts (is_blocked mail label) (list_any (is_blocked mail) labels) open_ in
    all_free mail (move_in mail label) (flat_map (move_in mail) labels) (free_moves mail label (kept_in mail label) within refl parts.0) (each_move mail labels within parts.1)

each_remove : (mail : Mail) (labels : List (List ℕ)) (files : List FileParts) → list_all (overwrites_nothing mail) (flat_map (remove_of mail labels) files) ≡ true
each_remove mail labels [] = refl
each_remove mail labels (f ∷ files) = all_free mail (remove_of mail labels f) (flat_map (remove_of mail labels) files) (at (is_kept mail labels f)) (each_remove mail labels files)
  where
    at : (t : Bool) → list_all (overwrites_nothing mail) (cond t [] (Remove f ∷ [])) ≡ true
    at true = refl
    at false = refl

-- no act makes a file over another
pub nothing_overwritten : (mail : Mail) (labels : List (List ℕ)) → mail.flags ≤ 31 → list_any (is_blocked mail) labels ≡ false → list_all (overwrites_nothing mail) (acts_for mail labels) ≡ true
nothing_overwritten mail labels within open_ =
    all_free mail (flat_map (link_in mail) labels ++ flat_map (move_in mail) labels) (flat_map (remove_of mail labels) mail.seen)
    (all_free mail (flat_map (link_in mail) labels) (flat_map (move_in mail) labels) (each_link mail labels open_) (each_move mail labels within open_))
    (each_remove mail labels mail.seen)

-- ---- what a made file is called

fit_byte_in_path : (b : ℕ) → is_fit_byte b ≡ true → is_path_byte b ≡ true
fit_byte_in_path b is = (and_parts (is_path_byte b) (not (b == 58)) is).0

fit_no_colon : (b : ℕ) → is_fit_byte b ≡ true → not (b == 58) ≡ true
fit_no_colon b is = (and_parts (is_path_byte b) (not (b == 58)) is).1

fit_is_made : (text : List ℕ) → is_fit text ≡ true → IsMadeName text
fit_is_made text is =
    let three = and_parts (nat_le 1 (length text) && nat_le (length text) 200 && not (slice_index text 0 == 46)) (list_all is_fit_byte text) is in
    let two = and_parts (nat_le 1 (length text) && nat_le (length text) 200) (not (slice_index text 0 == 46)) three.0 in
    record {
      part = part text (leb-true 1 (length text) (and_parts (nat_le 1 (length text)) (nat_le (length text) 200) two.0).0) (implied is_fit_byte is_path_byte fit_byte_in_path text three.1) (not-true (slice_index text 0 == 46) two.1);
      colon = implied is_fit_byte (λ b. not (b == 58)) fit_no_colon text three.1;
    }

own_is_made : (mail : Mail) (source : Option FileParts) → IsMadeName mail.spare → IsMadeName (own_name mail source)
own_is_made mail None spare = spare
own_is_made mail (Some file) spare =
    elim (is_fit file.unique) as (λ t. is_fit file.unique ≡ t → IsMadeName (cond t file.unique mail.spare)) [
      | true ↦ λ is. fit_is_made file.unique is
      | false ↦ λ _. spare
    ] refl

-- whatever it is made of
pub put-named : (mail : Mail) → IsMadeName mail.spare → IsMadeName mail.digits → (label : List ℕ) (source : Option FileParts) → IsMadeName (put_in mail label source).unique
put-named mail spare digits label source =
    let P : List ℕ → Type 0 = λ (text : List ℕ). IsMadeName text in
    subst P (sym (placed-unique label (name_in mail label source) (letters_with (letters_from source) mail.flags) (is_from_new source)))
    (elim (is_taken mail.taken label (own_name mail source)) as (λ t. IsMadeName (cond t mail.digits (own_name mail source))) [
      | true ↦ digits
      | false ↦ own_is_made mail source spare
    ])
