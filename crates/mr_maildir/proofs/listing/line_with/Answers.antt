use Rattle.std.proofs.Common.{◌++◌, ◌∷◌, [], ap, ◌∙◌, string_bytes}
use Rattle.mr_maildir.proofs.Names.{join_with_byte, letters_with, printed}
use Rattle.mr_version.specs.Name.{name_text}
use Rattle.mr_maildir.proofs.ListingLemmas.{line_made}
use Rattle.mr_maildir.proofs.listing.line_with.Goals as goal

pub returns : goal.returns
returns c =
    line_made (string_bytes c.in_ok-line.line) (string_bytes c.push_letters.new.line) (string_bytes c.push_labels.new.line) (string_bytes c.push_field.new.line) (string_bytes c.push_text.new.line) (string_bytes c.push_text-2.new.line)
    (name_text c.args.version) (letters_with [] c.args.view.now.flags) (join_with_byte 44 c.args.view.now.labels) c.args.date.now (printed (string_bytes c.args.header.now.from)) (printed (string_bytes c.args.header.now.subject))
    c.in_ok-line.ensures
    (c.in_ok-push_letters.ensures ∙ ap (λ f. string_bytes c.in_ok-line.line ++ 9 ∷ letters_with [] f) c.flags.ensures.value)
    (c.in_ok-push_labels.ensures ∙ ap (λ ls. string_bytes c.push_letters.new.line ++ 9 ∷ join_with_byte 44 ls) c.labels.ensures.value)
    c.in_ok-push_field.ensures
    (c.in_ok-push_text.ensures ∙ ap (λ t. string_bytes c.push_field.new.line ++ 9 ∷ printed t) c.as_str.ensures.value)
    (c.in_ok-push_text-2.ensures ∙ ap (λ t. string_bytes c.push_text.new.line ++ 9 ∷ printed t) c.as_str-2.ensures.value)
