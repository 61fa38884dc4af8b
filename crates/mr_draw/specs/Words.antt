-- what is written at the mark of a happening, and what it tells on pointing
use Rattle.std.specs.Prelude.{ℕ, ◌==◌, ◌&&◌, nat_lt, if◌then◌else◌, Bool, false, List, [], ◌∷◌, ◌++◌, codes, count_by, length, take}
use Rattle.std.specs.List.{concat, flat_map}
use Rattle.std.specs.Fmt.{decimal}
use Rattle.std.specs.Option.{option_map_or}
use Rattle.mr_version.specs.Name.{Name, name_text}
use Rattle.mr_mail.specs.Mail.{Mail}
use Rattle.mr_model.specs.declared.event.Act.{Act}
use Rattle.mr_model.specs.declared.event.Act.TheVariants as act
use Rattle.mr_world.specs.Kept.{WorldView}
use Rattle.mr_draw.specs.Happened.{Happened}
use Rattle.mr_draw.specs.Look.{event_of}
use Rattle.mr_draw.specs.declared.happening.Kind.{Kind}
use Rattle.mr_draw.specs.declared.happening.Kind.TheVariants.{Issue, TakeItem, TakeMoveOut, TakeOther, Open, Cut, Retire, Vouch, Release}
use Rattle.mr_draw.specs.declared.title.TheConstants.{MOST_BASES}

-- each version behind a space
abbrev pub spaced : List Name → List ℕ
spaced versions = flat_map (λ v. codes " " ++ name_text v) versions

-- ---- what is written

-- the first two of the versions, and whether there are more
abbrev pub first_spaced : List Name → List ℕ
first_spaced bases = if nat_lt MOST_BASES (length bases) then spaced (take MOST_BASES bases) ++ codes " .." else spaced bases

-- of an edit, what it replaces
abbrev pub origin_label : Act Mail → List ℕ
origin_label (act.Edit bases m) = codes " for" ++ first_spaced bases
origin_label other = []

-- at a version's dot: its name, and what it replaces
abbrev pub dot_label : Name → Act Mail → List ℕ
dot_label v a = name_text v ++ origin_label a

-- whether an item, or a move-out, of the stream was taken
abbrev pub is_item_of : (source stream : ℕ) → Kind → Bool
is_item_of source stream (TakeItem by number v) = (by == source) && (number == stream)
is_item_of source stream other = false

abbrev pub is_move_out_of : (source stream : ℕ) → Kind → Bool
is_move_out_of source stream (TakeMoveOut by number v) = (by == source) && (number == stream)
is_move_out_of source stream other = false

abbrev pub items_label : ℕ → List ℕ
items_label n = if n == 1 then codes "1 item" else decimal n ++ codes " items"

-- behind it, if there are any
abbrev pub move_outs_label : ℕ → List ℕ
move_outs_label n = if n == 0 then [] else (if n == 1 then codes ", 1 move-out" else codes ", " ++ decimal n ++ codes " move-outs")

-- at a sync's band: how many items and move-outs of the stream were taken
abbrev pub sync_label : List Happened → (source stream : ℕ) → List ℕ
sync_label all source stream =
    items_label (count_by (λ h. is_item_of source stream h.kind) all) ++ move_outs_label (count_by (λ h. is_move_out_of source stream h.kind) all)

-- at what comes of this act on this lane, where all this happened
abbrev pub label_as : List Happened → (lane : ℕ) → Act Mail → Kind → List ℕ
label_as all lane a (Issue v) = dot_label v a
label_as all lane a (TakeItem source stream v) = codes "+" ++ name_text v
label_as all lane a (TakeMoveOut source stream v) = codes "-" ++ name_text v
label_as all lane a (TakeOther source stream) = []
label_as all lane a (Open target stream) = sync_label all lane stream
label_as all lane a Cut = codes "cut"
label_as all lane a Retire = codes "retired"
label_as all lane a (Vouch v) = codes "vouches " ++ name_text v
label_as all lane a (Release v) = codes "lets go of " ++ name_text v

-- ---- what it tells on pointing

-- each label behind a space
abbrev pub labels_title : List (List ℕ) → List ℕ
labels_title labels = flat_map (λ l. codes " " ++ l) labels

-- the labels, the sender and the subject
abbrev pub mail_title : Mail → List ℕ
mail_title m = codes ";" ++ labels_title m.labels ++ codes "; " ++ m.from ++ codes ": " ++ m.subject

-- what a version replaces, and its message
abbrev pub origin_title : Act Mail → List ℕ
origin_title (act.Create m) = codes ": a new message" ++ mail_title m
origin_title (act.Edit bases m) = codes " replaces" ++ spaced bases ++ mail_title m
origin_title other = []

abbrev pub dot_title : Name → Act Mail → List ℕ
dot_title v a = name_text v ++ origin_title a

abbrev pub cut_title : (lane : ℕ) → Act Mail → List ℕ
cut_title lane (act.CutOut stream) = concat (codes "replica " ∷ decimal lane ∷ codes " closes its stream " ∷ decimal stream ∷ [])
cut_title lane (act.CutIn session) = concat (codes "replica " ∷ decimal lane ∷ codes " closes its session " ∷ decimal session ∷ [])
cut_title lane other = concat (codes "replica " ∷ decimal lane ∷ codes " closes a session" ∷ [])

-- of what comes of this act on this lane
abbrev pub title_as : (lane : ℕ) → Act Mail → Kind → List ℕ
title_as lane a (Issue v) = dot_title v a
title_as lane a (TakeItem source stream v) =
    concat (codes "replica " ∷ decimal lane ∷ codes " takes " ∷ name_text v ∷ codes " out of stream " ∷ decimal stream ∷ codes " of replica " ∷ decimal source ∷ [])
title_as lane a (TakeMoveOut source stream v) =
    concat (codes "replica " ∷ decimal lane ∷ codes " is told in stream " ∷ decimal stream ∷ codes " of replica " ∷ decimal source
    ∷ codes " that " ∷ name_text v ∷ codes " is none of its own" ∷ [])
title_as lane a (TakeOther source stream) =
    concat (codes "replica " ∷ decimal lane ∷ codes " takes a record out of stream " ∷ decimal stream ∷ codes " of replica " ∷ decimal source ∷ [])
title_as lane a (Open target stream) =
    concat (codes "replica " ∷ decimal target ∷ codes " asks replica " ∷ decimal lane ∷ codes ", which opens stream " ∷ decimal stream ∷ [])
title_as lane a Cut = cut_title lane a
title_as lane a Retire = concat (codes "replica " ∷ decimal lane ∷ codes " retires: it admits nothing more, but goes on telling" ∷ [])
title_as lane a (Vouch v) = concat (codes "replica " ∷ decimal lane ∷ codes " gives a receipt for " ∷ name_text v ∷ codes ", which it holds" ∷ [])
title_as lane a (Release v) = concat (codes "replica " ∷ decimal lane ∷ codes " lets go of push-outs, by a receipt for " ∷ name_text v ∷ [])

-- ---- both, of a happening in a world

module _ {K : Type 0} where
  abbrev pub label_of : WorldView K → List Happened → Happened → List ℕ
  label_of w all h = option_map_or (λ e. label_as all h.lane e.act h.kind) (event_of w h) []

  abbrev pub title_of : WorldView K → Happened → List ℕ
  title_of w h = option_map_or (λ e. title_as h.lane e.act h.kind) (event_of w h) []
