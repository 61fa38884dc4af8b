-- how the mark of a happening looks
use Rattle.std.specs.Prelude.{Bool, false, not, if◌then◌else◌, List, [], ◌∷◌, Option, slice_get}
use Rattle.std.specs.List.{list_any}
use Rattle.std.specs.Option.{option_map, option_map_or}
use Rattle.mr_version.specs.Name.{Name, name_eq}
use Rattle.mr_version.specs.Sets.{is_listed}
use Rattle.mr_mail.specs.Mail.{Mail, card_of}
use Rattle.mr_filter.specs.Filter.{ClauseParts}
use Rattle.mr_filter.specs.Meaning.{selects}
use Rattle.mr_model.specs.declared.event.Act.{Act}
use Rattle.mr_model.specs.declared.event.Act.TheVariants as act
use Rattle.mr_model.specs.declared.event.Event.{Event}
use Rattle.mr_world.specs.Kept.{WorldView, replica_at}
use Rattle.mr_draw.specs.Happened.{Happened}
use Rattle.mr_draw.specs.declared.happening.Kind.{Kind}
use Rattle.mr_draw.specs.declared.happening.Kind.TheVariants.{Issue, TakeItem, TakeMoveOut, TakeOther, Open}
use Rattle.mr_draw.specs.declared.happening.Kind.TheVariants as kind
use Rattle.mr_draw.specs.declared.mark.Look.{Look}
use Rattle.mr_draw.specs.declared.mark.Shape.{Shape}
use Rattle.mr_draw.specs.declared.mark.Shape.TheVariants.{Version, Merge, Item, MoveOut, Record, Band, Cut, Retire, Vouch, Release}

-- a shape with no ring, and not hollow
abbrev pub plain_look : Shape → Look
plain_look shape = record { shape = shape; is_contested = false; is_push_out = false }

-- the shape of what happened; a version that merges others has another
abbrev pub shape_of : Kind → Shape
shape_of (Issue v) = Version
shape_of (TakeItem source stream v) = Item
shape_of (TakeMoveOut source stream v) = MoveOut
shape_of (TakeOther source stream) = Record
shape_of (Open target stream) = Band
shape_of kind.Cut = Cut
shape_of kind.Retire = Retire
shape_of (kind.Vouch v) = Vouch
shape_of (kind.Release v) = Release

-- whether they are not all one version
abbrev pub are_several : List Name → Bool
are_several [] = false
are_several (v ∷ vs) = list_any (λ other. not (name_eq other v)) vs

-- an edit of several versions
abbrev pub is_merge : Act Mail → Bool
is_merge (act.Edit bases m) = are_several bases
is_merge other = false

-- whether the filter does not select what an act issues
abbrev pub leaves_out : List ClauseParts → Act Mail → Bool
leaves_out filter (act.Create m) = not (selects filter (card_of m))
leaves_out filter (act.Edit bases m) = not (selects filter (card_of m))
leaves_out filter other = false

module _ {K : Type 0} where
  -- the event of which a happening comes
  abbrev pub event_of : WorldView K → Happened → Option (Event Mail)
  event_of w h = option_map (λ x. x.event) (slice_get w.answers h.place)

  -- whether its replica's filter does not select what the event issues
  abbrev pub is_push_out : WorldView K → Event Mail → Bool
  is_push_out w e = option_map_or (λ s. leaves_out s.filter e.act) (replica_at w.members e.replica) false

  -- a version's dot has another shape where it merges, a ring where it was contested, and is hollow where it is a push-out
  abbrev pub dot_look : WorldView K → (contested : List Name) → Option (Event Mail) → Name → Look
  dot_look w contested event v = record {
    shape = if option_map_or (λ e. is_merge e.act) event false then Merge else Version;
    is_contested = is_listed contested v;
    is_push_out = option_map_or (λ e. is_push_out w e) event false;
  }

  abbrev pub look_as : WorldView K → (contested : List Name) → Option (Event Mail) → Kind → Look
  look_as w contested event (Issue v) = dot_look w contested event v
  look_as w contested event other = plain_look (shape_of other)

  abbrev pub look_of : WorldView K → (contested : List Name) → Happened → Look
  look_of w contested h = look_as w contested (event_of w h) h.kind
