-- the unseen versions after one entry
use Rattle.std.specs.Prelude.{if◌then◌else◌}
use Rattle.std.proofs.Common.{◌≡◌, Bool, true, false, cond, ap, sym, ◌∙◌, refl, List, [], ◌∷◌, Option}
use Rattle.mr_subs.proofs.Names.{Entry, MailCard, Name, is_listed, name_eq}
use Rattle.mr_model.specs.Headline.{Cards, fold_from}
use Rattle.mr_feed.specs.declared.entry.Entry.TheVariants.{Added, Dropped}
use Rattle.mr_feed.specs.Entry.{told, entry_version}
use Rattle.mr_feed.specs.inner.Entry.{card_added}
use Rattle.mr_subs.specs.Unseen.{lacks_seen, ListsUnseen}

-- an entry changes the card of its version alone
fold_from-entry : (cards : Cards MailCard) (entry : Entry) (v : Name) → fold_from cards (told (entry ∷ [])) v ≡ (if name_eq (entry_version entry) v then card_added entry else cards v)
fold_from-entry cards (Added item version card) v = refl
fold_from-entry cards (Dropped item version) v = refl

lacks_seen-cond : (b : Bool) (x y : Option MailCard) → lacks_seen (cond b x y) ≡ cond b (lacks_seen x) (lacks_seen y)
lacks_seen-cond true x y = refl
lacks_seen-cond false x y = refl

-- a list that has the entry's version exactly where it is unseen, and else what the old one has, is the new one
pub ListsUnseen-entry : (old new : List Name) (entry : Entry) (version : Name) (unseen : Bool) → version ≡ entry_version entry → lacks_seen (card_added entry) ≡ unseen →
    ((v : Name) → is_listed new v ≡ cond (name_eq version v) unseen (is_listed old v)) →
    (cards : Cards MailCard) → ListsUnseen old cards → ListsUnseen new (fold_from cards (told (entry ∷ [])))
ListsUnseen-entry old new entry version unseen same e h cards k v =
    h v
    ∙ ap (λ u. cond (name_eq u v) unseen (is_listed old v)) same
    ∙ ap (λ b. cond (name_eq (entry_version entry) v) b (is_listed old v)) (sym e)
    ∙ ap (λ b. cond (name_eq (entry_version entry) v) (lacks_seen (card_added entry)) b) (k v)
    ∙ sym (lacks_seen-cond (name_eq (entry_version entry) v) (card_added entry) (cards v))
    ∙ ap lacks_seen (sym (fold_from-entry cards entry v))
