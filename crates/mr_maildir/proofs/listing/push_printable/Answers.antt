use Rattle.std.proofs.Common.{◌++◌, flat_map, sym, ap, ◌∙◌, map-id, string_bytes}
use Rattle.mr_maildir.proofs.Names.{YieldsList-end, YieldsList-from_chars, chars, encode_utf8_all, printed_char}
use Rattle.mr_maildir.proofs.ListingLemmas.{printed-flat}
use Rattle.mr_maildir.proofs.listing.push_printable.Goals as goal

pub returns : goal.returns
returns c =
    let end = YieldsList-end (YieldsList-from_chars c.args.text.now c.utf8.text cc) c.loop-character.yielded _ c.loop-character.yielded_by _ _ c.in-None.is c.next.ensures.steps in
    c.loop-character.invariant
    ∙ (ap (λ cs. string_bytes c.args.line.now ++ flat_map (λ c. encode_utf8_all (printed_char c)) cs) (sym (map-id c.loop-character.yielded) ∙ end.0)
    ∙ ap (λ bs. string_bytes c.args.line.now ++ bs) (printed-flat (chars c.args.text.now)))
