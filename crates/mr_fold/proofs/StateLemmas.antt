-- what notes tell, note by note
use Rattle.std.proofs.Common.{◌≡◌, ℕ, ◌+◌, ◌<◌, List, take, length, get_or, Option, None, ap, sym, ◌∙◌}
use Rattle.std.proofs.lemmas.List.Sums.{fold_push}
use Rattle.mr_entry.specs.Note.{NoteParts}
use Rattle.mr_compare.proofs.ListLemmas.{take_one}
use Rattle.mr_compare.specs.Shown.{ShownParts}
use Rattle.mr_compare.specs.declared.note.Meeting.{Meeting}
use Rattle.mr_compare.specs.declared.note.FolderNote.{FolderNote}
use Rattle.mr_fold.specs.State.{read_of, nothing_shown, shown_with, shown_by, met_with, met_by, meeting_at}

pub shown_more : (notes : List NoteParts) (i : ℕ) (x : NoteParts) (old new : ShownParts) (read : Option FolderNote) → i < length notes → x ≡ get_or notes i x → read ≡ read_of x → new ≡ shown_with old read → old ≡ shown_by (take i notes) → new ≡ shown_by (take (i + 1) notes)
shown_more notes i x old new read h e is put known =
    put ∙ ap (shown_with old) is ∙ ap (λ s. shown_with s (read_of x)) known
    ∙ sym (ap shown_by (take_one notes i x h e) ∙ fold_push (λ shown note. shown_with shown (read_of note)) nothing_shown (take i notes) x)

pub met_more : (notes : List NoteParts) (i : ℕ) (x : NoteParts) (old new : List (ℕ × Meeting)) (read : Option FolderNote) → i < length notes → x ≡ get_or notes i x → read ≡ read_of x →
    ((id : ℕ) → meeting_at new id ≡ met_with (meeting_at old id) read id) → ((id : ℕ) → meeting_at old id ≡ met_by (take i notes) id) → (id : ℕ) → meeting_at new id ≡ met_by (take (i + 1) notes) id
met_more notes i x old new read h e is put known id =
    put id ∙ ap (λ r. met_with (meeting_at old id) r id) is ∙ ap (λ last. met_with last (read_of x) id) (known id)
    ∙ sym (ap (λ ns. met_by ns id) (take_one notes i x h e) ∙ fold_push (λ last note. met_with last (read_of note) id) None (take i notes) x)
