-- what a subscriber keeps, and what its calls make of it
use Rattle.std.specs.Prelude.{◌≡◌, Bool, IsTrue, IsFalse, IsSome, List, [], ◌∷◌, ◌++◌, Option, Some, None}
use Rattle.std.specs.Option.{option_to_list}
use Rattle.mr_mail.specs.Mail.{MailCard}
use Rattle.mr_model.specs.Headline.{Cards, fold, fold_from, no_cards}
use Rattle.mr_feed.specs.declared.entry.Entry.{Entry}
use Rattle.mr_feed.specs.Entry.{told, told_entry}
use Rattle.mr_feed.specs.Fold.{fold_from-append}
use Rattle.std.proofs.Common.{ap, sym, subst, ◌∙◌}
use Rattle.std.proofs.lemmas.List.{map-append}
use Rattle.mr_subs.specs.declared.subscriber.Drained.{Drained}
use Rattle.mr_subs.specs.declared.subscriber.Drained.TheVariants.{Empty, Closed}

-- the fold of the entries that were applied, and the entry that was taken and is not applied yet
pub record Keeping (F : Type 0) : Type 0 where
  pub fold : F
  pub kept : Option Entry

-- s shows the fold of these entries
abbrev pub ShowsFold : {F : Type 0} → (F → Cards MailCard → Type 0) → F → List Entry → Type 0
ShowsFold shows s entries = shows s (fold (told entries))

-- s becomes t by these entries: where s shows some cards, t shows what the entries make of them
abbrev pub Applies : {F : Type 0} → (F → Cards MailCard → Type 0) → F → List Entry → F → Type 0
Applies shows s entries t = (cards : Cards MailCard) → shows s cards → shows t (fold_from cards (told entries))

-- how a drain ended
abbrev pub EndedSo : {P : Type 0} → (P → Bool) → (P → Type 0) → P → Drained → Type 0
EndedSo is_done was_empty port Empty = IsFalse (is_done port) × was_empty port
EndedSo is_done was_empty port Closed = IsTrue (is_done port)

-- the entries that a subscriber has yet to apply, before those that it takes next
abbrev pub pending : {F : Type 0} → Keeping F → List Entry
pending s = option_to_list s.kept

-- there was a kept entry, it alone is applied, and none is kept
pub record CatchesUp {F : Type 0} (shows : F → Cards MailCard → Type 0) (s t : Keeping F) : Type 0 where
  pub was_kept : IsSome s.kept
  pub applies : Applies shows s.fold (pending s) t.fold
  pub none_kept : t.kept ≡ None

module _ {F P : Type 0} (shows : F → Cards MailCard → Type 0) (took : P → List Entry → P → Type 0) where
  -- the kept entry and all that was taken are applied, and none is kept
  pub record AppliesAll (s : Keeping F) (port : P) (t : Keeping F) (port' : P) : Type 0 where
    pub taken : List Entry
    pub takes : took port taken port'
    pub applies : Applies shows s.fold (pending s ++ taken) t.fold
    pub none_kept : t.kept ≡ None

  -- the kept entry and all that was taken but the last are applied, and the last is kept
  pub record KeepsLast (s : Keeping F) (port : P) (t : Keeping F) (port' : P) : Type 0 where
    pub taken : List Entry
    pub last : Entry
    pub takes : took port (taken ++ last ∷ []) port'
    pub applies : Applies shows s.fold (pending s ++ taken) t.fold
    pub last_kept : t.kept ≡ Some last

-- ---- laws of `Applies`

-- entries after entries
pub Applies-append : {F : Type 0} (shows : F → Cards MailCard → Type 0) (s t u : F) (xs ys : List Entry) → Applies shows s xs t → Applies shows t ys u → Applies shows s (xs ++ ys) u
Applies-append shows s t u xs ys h k cards p =
    subst (shows u) (sym (ap (fold_from cards) (map-append told_entry xs ys) ∙ fold_from-append cards (told xs) (told ys))) (k (fold_from cards (told xs)) (h cards p))

-- entries applied to a fold
pub ShowsFold-append : {F : Type 0} (shows : F → Cards MailCard → Type 0) (s t : F) (xs ys : List Entry) → ShowsFold shows s xs → Applies shows s ys t → ShowsFold shows t (xs ++ ys)
ShowsFold-append shows s t xs ys h k =
    subst (shows t) (sym (ap fold (map-append told_entry xs ys) ∙ fold_from-append no_cards (told xs) (told ys))) (k (fold (told xs)) h)
