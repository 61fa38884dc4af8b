-- what several heads of one mail say together
use Rattle.std.specs.Prelude.{ℕ, Bool, false, not, ◌||◌, if◌then◌else◌, List, [], ◌∷◌, filter, Option, Some, None}
use Rattle.std.specs.List.{list_all, list_any, flat_map}
use Rattle.mr_mail.specs.Flag.{has_flag, flag_eq}
use Rattle.mr_mail.specs.Label.{has_label}
use Rattle.mr_mail.specs.declared.flags.Flag.{Flag}
use Rattle.mr_mail.specs.declared.flags.Flag.TheVariants.{Deleted}
use Rattle.mr_maildir.specs.Letters.{flags_where}
use Rattle.mr_maildir.specs.View.{ViewParts, view_eq, in_order, is_gone, nowhere}

-- the heads that have a say: where some mail isn't gone, those of such mail
abbrev pub with_say : Bool → List ViewParts → List ViewParts
with_say gone heads = filter (λ head. gone || not (is_gone head)) heads

abbrev pub asked : List ViewParts → List ViewParts
asked heads = with_say (list_all is_gone heads) heads

-- What stays: of what the ancestor had, what each head has; of the rest, what some head has
abbrev pub stays : Bool → (ViewParts → Bool) → List ViewParts → Bool
stays had has heads = if had then list_all has heads else list_any has heads

-- whether a label stays
abbrev pub stays_in : ViewParts → List ViewParts → List ℕ → Bool
stays_in ancestor heads label = stays (has_label ancestor.labels label) (λ head. has_label head.labels label) heads

-- whether a flag stays: that a mail is deleted has to be said by each head
abbrev pub stays_flagged : ViewParts → List ViewParts → Flag → Bool
stays_flagged ancestor heads flag = stays (flag_eq flag Deleted || has_flag ancestor.flags flag) (λ head. has_flag head.flags flag) heads

-- the heads together, of those that have a say
abbrev pub joined : ViewParts → List ViewParts → ViewParts
joined ancestor heads = record {
  labels = in_order (filter (stays_in ancestor heads) (flat_map (λ head. head.labels) heads));
  flags = flags_where (stays_flagged ancestor heads);
}

-- the heads together
abbrev pub merged_view : ViewParts → List ViewParts → ViewParts
merged_view ancestor heads = joined ancestor (asked heads)

-- the view of the newest common ancestor, if there is one: else nothing was there before
abbrev pub over : Option ViewParts → ViewParts
over None = nowhere
over (Some ancestor) = ancestor

-- whether two of the heads differ
abbrev pub differ : List ViewParts → Bool
differ [] = false
differ (head ∷ heads) = not (list_all (view_eq head) heads)
