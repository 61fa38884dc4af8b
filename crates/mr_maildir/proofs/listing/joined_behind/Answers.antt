use Rattle.std.proofs.Common.{◌++◌, ◌∷◌, ℕ, List, ap, ◌∙◌}
use Rattle.std.specs.List.{flat_map}
use Rattle.mr_maildir.proofs.ListingLemmas.{comma_joined}
use Rattle.mr_maildir.proofs.listing.joined_behind.Goals as goal

pub returns : goal.returns
returns c =
    c.in_ok-push_others.ensures
    ∙ (ap (λ l. l ++ flat_map (λ (label : List ℕ). 44 ∷ label) c.args.others.now) (c.in_ok-text.ensures.ok ∙ c.as_str.ensures.value)
    ∙ comma_joined c.args.first.now c.args.others.now)
