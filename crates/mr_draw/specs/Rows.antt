-- worked rows: what the definitions give for small values
use Rattle.std.specs.Prelude.{◌≡◌, ℕ, true, false, List, [], ◌∷◌, codes, Some, None, Ok, Err, refl}
use Rattle.std.specs.Fmt.{digits}
use Rattle.std.specs.Str.{chars}
use Rattle.std.specs.List.{flat_map}
use Rattle.mr_version.specs.Name.{Name}
use Rattle.mr_mail.specs.Mail.{Mail}
use Rattle.mr_madewith.specs.Revision.{Rev}
use Rattle.mr_model.specs.History.{◌does◌}
use Rattle.mr_model.specs.declared.event.Act.{Act}
use Rattle.mr_model.specs.declared.event.Act.TheVariants as act
use Rattle.mr_model.specs.declared.event.Event.{Event}
use Rattle.mr_replica.specs.declared.event.Reply.TheVariants.{Issued, Took}
use Rattle.mr_replica.specs.declared.event.Reply.TheVariants as reply
use Rattle.mr_replica.specs.declared.refusal.Refusal.TheVariants.{LogFull}
use Rattle.mr_world.specs.Kept.{WorldView}
use Rattle.mr_world.specs.declared.answer.Answer.{Answer}
use Rattle.mr_world.specs.declared.answer.Answer.TheVariants.{Stepped, Full}
use Rattle.mr_world.specs.declared.answered.Answered.{Answered}
use Rattle.mr_draw.specs.Contested.{merged_by, rivals}
use Rattle.mr_draw.specs.Ends.{last_of_stream}
use Rattle.mr_draw.specs.Escape.{entity}
use Rattle.mr_draw.specs.Happened.{Happened}
use Rattle.mr_draw.specs.Lanes.{below}
use Rattle.mr_draw.specs.Lines.{line_at, lines_of}
use Rattle.mr_draw.specs.Look.{are_several, leaves_out, look_of, shape_of}
use Rattle.mr_draw.specs.NoteLists.{NoteLists}
use Rattle.mr_draw.specs.Happening.{dot_at, dots, happening_at, issued_versions, kind_of}
use Rattle.mr_draw.specs.Mark.{class_of, column_of, head_of, label_at, line_text, x_at, x_of, y_of}
use Rattle.mr_draw.specs.Picture.{label_among, named_from, shortened}
use Rattle.mr_draw.specs.Sheet.{fault_text, left_out_text, name_y, width_of}
use Rattle.mr_draw.specs.Sign.{other_lane_of}
use Rattle.mr_draw.specs.Words.{dot_label, dot_title, sync_label, title_as}
use Rattle.mr_draw.specs.declared.happening.Kind.TheVariants.{Issue, TakeItem, TakeMoveOut, Open, Cut, Retire, Release}
use Rattle.mr_draw.specs.declared.mark.Shape.TheVariants as shape

-- ---- texts that were given

pub escapes_markup : flat_map entity (codes "<a & \"b\">") ≡ codes "&lt;a &amp; &quot;b&quot;&gt;"
unfolding lib.Utf8.encode
escapes_markup = refl

pub escapes_quote : entity 39 ≡ codes "&#39;"
escapes_quote = refl

-- a tab becomes a space, and so does what no text of an SVG may have
pub spaces_control : flat_map entity (97 ∷ 9 ∷ 0 ∷ []) ≡ codes "a  "
unfolding lib.Utf8.encode
spaces_control = refl

-- other characters stay: here é, of two bytes
pub keeps_others : entity 233 ≡ 195 ∷ 169 ∷ []
unfolding lib.Utf8.encode
keeps_others = refl

-- ---- what happened

abbrev name : ℕ → ℕ → Name
name author counter = record { author = author; counter = counter }

abbrev answered : Event Mail → Answer → Answered
answered e a = record { event = e; answer = a }

-- one request by replica 4, one record of 0.1 out of stream 7 of replica 0, and one receipt for 1.3
abbrev notes : NoteLists
notes = record { asks = 4 ∷ []; records = TakeItem 0 7 (name 0 1) ∷ []; receipts = name 1 3 ∷ [] }

-- a refusal shows nothing, and neither does a full port
pub shows_no_refusal : kind_of notes (answered (2 does act.Retire) (Stepped (Err LogFull))) ≡ None
shows_no_refusal = refl

pub shows_no_port : kind_of notes (answered (2 does act.Retire) Full) ≡ None
shows_no_port = refl

pub shows_retirement : kind_of notes (answered (2 does act.Retire) (Stepped (Ok reply.Done))) ≡ Some Retire
shows_retirement = refl

pub shows_cut : kind_of notes (answered (2 does act.CutIn 1) (Stepped (Ok reply.Done))) ≡ Some Cut
shows_cut = refl

-- the first record was taken by replica 2
pub shows_record : happening_at notes 9 (answered (2 does act.Receive 1) (Stepped (Ok Took))) ≡ Some (record { lane = 2; kind = TakeItem 0 7 (name 0 1); place = 9 })
shows_record = refl

-- there is no second
pub shows_no_record : kind_of notes (answered (2 does act.Receive 2) (Stepped (Ok Took))) ≡ None
shows_no_record = refl

pub shows_stream : kind_of notes (answered (0 does act.Answer 1) (Stepped (Ok (reply.Streaming 7)))) ≡ Some (Open 4 7)
shows_stream = refl

pub shows_release : kind_of notes (answered (1 does act.Release 1) (Stepped (Ok reply.Done))) ≡ Some (Release (name 1 3))
shows_release = refl

-- a version is on its author's lane
pub shows_version : happening_at notes 5 (answered (2 does act.Retire) (Stepped (Ok (Issued (name 3 1))))) ≡ Some (record { lane = 3; kind = Issue (name 3 1); place = 5 })
shows_version = refl

-- dots come in order, and a refusal has none
pub issues : issued_versions (answered (3 does act.Retire) (Stepped (Ok (Issued (name 3 1)))) ∷ answered (3 does act.Retire) Full ∷ answered (0 does act.Retire) (Stepped (Ok (Issued (name 0 1)))) ∷ []) ≡ name 3 1 ∷ name 0 1 ∷ []
issues = refl

pub one_dot : dots (record { lane = 3; kind = Issue (name 3 1); place = 0 } ∷ record { lane = 3; kind = Retire; place = 1 } ∷ []) ≡ dot_at (name 3 1) ∷ []
one_dot = refl

-- ---- marks

-- an arrow comes from its source
pub comes_from_source : other_lane_of (record { lane = 2; kind = TakeItem 0 7 (name 0 1); place = 9 }) ≡ 0
comes_from_source = refl

pub cut_is_cut : shape_of Cut ≡ shape.Cut
cut_is_cut = refl

-- versions are several where one is not the first
pub two_are_several : are_several (name 0 1 ∷ name 1 1 ∷ []) ≡ true
two_are_several = refl

pub one_twice : are_several (name 0 1 ∷ name 0 1 ∷ []) ≡ false
one_twice = refl

-- a message from x with two labels
abbrev mail : Mail
mail = record { from = codes "x"; subject = codes "hi"; body = []; labels = codes "in" ∷ codes "to-do" ∷ []; flags = 0; day = 0 }

-- a filter without clauses leaves out all that is issued, and nothing else
pub leaves_out_message : leaves_out [] (act.Create mail) ≡ true
leaves_out_message = refl

pub leaves_out_nothing : leaves_out [] act.Retire ≡ false
leaves_out_nothing = refl

-- of three heads two are of one item
abbrev rev : (item version : Name) → Rev
rev item version = record { item = item; version = version; below = []; message = mail }

pub two_rivals : rivals (rev (name 0 1) (name 0 2) ∷ rev (name 0 1) (name 1 1) ∷ rev (name 2 1) (name 2 1) ∷ []) ≡ name 0 2 ∷ name 1 1 ∷ []
two_rivals = refl

-- an edit of three versions, which merges them where it issues one
abbrev edit : Act Mail
edit = act.Edit (name 0 1 ∷ name 1 1 ∷ name 2 1 ∷ []) mail

pub merges_three : merged_by (answered (0 does edit) (Stepped (Ok (Issued (name 0 2))))) ≡ name 0 1 ∷ name 1 1 ∷ name 2 1 ∷ []
merges_three = refl

pub merges_none : merged_by (answered (0 does edit) (Stepped (Err LogFull))) ≡ []
merges_none = refl

-- a merge has a shape of its own, and a ring where it was contested
abbrev world : WorldView ℕ
world = record { members = []; asks = []; records = []; receipts = []; answers = answered (0 does edit) (Stepped (Ok (Issued (name 0 2)))) ∷ [] }

pub look_of_merge : look_of world (name 0 2 ∷ []) (record { lane = 0; kind = Issue (name 0 2); place = 0 }) ≡ record { shape = shape.Merge; is_contested = true; is_push_out = false }
look_of_merge = refl

-- replica 2 takes an item and a move-out of stream 7 of replica 0, which was opened for it, and retires; replica 4 does not
abbrev shown : List Happened
shown =
    record { lane = 0; kind = Open 2 7; place = 1 } ∷ record { lane = 2; kind = TakeItem 0 7 (name 0 1); place = 3 }
    ∷ record { lane = 2; kind = TakeMoveOut 0 7 (name 0 2); place = 5 } ∷ record { lane = 2; kind = Retire; place = 6 } ∷ []

pub band_ends : last_of_stream 0 7 0 shown ≡ Some 2
band_ends = refl

-- nothing was taken of another stream
pub no_band : last_of_stream 0 8 0 shown ≡ None
no_band = refl

pub lane_retires : lines_of shown 2 ≡ line_at 2 shape.Lane 0 3 ∷ line_at 2 shape.Thin 3 4 ∷ []
lane_retires = refl

pub lane_goes_on : lines_of shown 4 ≡ line_at 4 shape.Lane 0 4 ∷ line_at 4 shape.Thin 4 4 ∷ []
lane_goes_on = refl

-- ---- what marks say

-- of three versions that were merged two are named
pub label_of_edit : dot_label (name 0 3) edit ≡ codes "0.3 for 0.1 1.1 .."
unfolding digits
label_of_edit = refl

pub label_of_sync : sync_label shown 0 7 ≡ codes "1 item, 1 move-out"
label_of_sync = refl

pub label_of_nothing : sync_label shown 0 8 ≡ codes "0 items"
unfolding digits
label_of_nothing = refl

pub title_of_new : dot_title (name 0 3) (act.Create mail) ≡ codes "0.3: a new message; in to-do; x: hi"
unfolding digits
title_of_new = refl

pub title_of_taken : title_as 2 (act.Receive 4) (TakeItem 0 7 (name 0 1)) ≡ codes "replica 2 takes 0.1 out of stream 7 of replica 0"
unfolding digits
title_of_taken = refl

-- ---- where marks stand

-- the lanes 0, 5 and 9 are in the columns 0, 1 and 2
pub third_column : column_of (0 ∷ 5 ∷ 9 ∷ []) 9 ≡ 2
third_column = refl

pub first_x : x_of (0 ∷ 5 ∷ []) 0 ≡ 60
first_x = refl

pub second_x : x_of (0 ∷ 5 ∷ []) 5 ≡ 190
second_x = refl

-- of 12 lanes each is as far from the one before it as of two; of 13 they are closer, and of 25 closer still
pub twelfth_x : x_at 12 11 ≡ 1490
twelfth_x = refl

pub closer_x : x_at 13 1 ≡ 120
closer_x = refl

pub closest_x : x_at 25 1 ≡ 84
closest_x = refl

pub second_y : y_of 1 ≡ 82
second_y = refl

pub merges_are_versions : class_of shape.Merge ≡ codes "version merge"
merges_are_versions = refl

-- an arrow from the right ends at its left
pub head_to_left : head_of true ≡ codes "m9 -3l-7 3l7 3"
head_to_left = refl

pub a_line : line_text 60 82 190 98 ≡ codes "</title><path d='M60 82H190V98H60z"
unfolding digits
a_line = refl

pub a_label : label_at 74 86 ≡ codes "'/><text x='74' y='86'>"
unfolding digits
a_label = refl

-- ---- the rest of a picture

pub three_ids : below 3 ≡ 0 ∷ 1 ∷ 2 ∷ []
three_ids = refl

-- two lanes have the least width, and three take more
pub least_width : width_of 2 ≡ 360
least_width = refl

pub three_lanes : width_of 3 ≡ 460
three_lanes = refl

-- and so wide is one of all lanes that there may be
pub widest : width_of 64 ≡ 1712
widest = refl

-- of two lanes the first has the one name that was given, and the other is called by its id
pub two_names : named_from (codes "phone" ∷ []) 0 (5 ∷ 9 ∷ []) ≡ record { lane = 5; name = codes "phone (5)" } ∷ record { lane = 9; name = codes "replica 9" } ∷ []
unfolding digits
two_names = refl

-- a long name is cut
pub whole_name : shortened (codes "phone") ≡ codes "phone"
unfolding chars lib.Utf8.encode
whole_name = refl

pub cut_name : shortened (codes "phone in the kitchen") ≡ codes "phone in the kitch.."
unfolding chars lib.Utf8.encode
cut_name = refl

-- a filter is written above 12 lanes, and not above 13
pub filter_written : label_among 12 (codes "all") ≡ codes "all"
unfolding chars lib.Utf8.encode
filter_written = refl

pub filter_left_out : label_among 13 (codes "all") ≡ []
filter_left_out = refl

-- names of few lanes are side by side, and of many the second is below the first, and the fourth beside it
pub few_names : name_y 12 1 ≡ 22
few_names = refl

pub second_name : name_y 13 1 ≡ 34
second_name = refl

pub fourth_name : name_y 13 3 ≡ 18
fourth_name = refl

-- nothing is left out, and there is no fault
pub none_left_out : left_out_text 90 0 ≡ []
none_left_out = refl

pub some_left_out : left_out_text 90 12 ≡ codes "<text class='note' x='12' y='90'>12 later events are left out</text>\n"
unfolding digits
some_left_out = refl

pub no_fault : fault_text 90 [] ≡ []
no_fault = refl
