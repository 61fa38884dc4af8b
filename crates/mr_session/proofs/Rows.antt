-- Worked rows of the definitions, computed.
use Rattle.std.proofs.Common.{◌≡◌, ℕ, true, false, List, [], ◌∷◌, map, Option, Some, None, refl}
use Rattle.mr_session.proofs.Names.{AreCut, Asked, AuthorColumn, Body, Draws, End, Held, Holdings, Know, Mode, MoveOut, Name, Piece, Rev, Sent, Session}
use Rattle.mr_session.proofs.Names.{Start, Stream, Table, after_record, claimed, column_has-empty, due, empty_table, first_fault, is_wanted, new_session}
use Rattle.mr_session.proofs.Names.{new_stream, open_at, with_changed, with_closed, with_opened}
use Rattle.mr_filter.specs.Filter.{ClauseParts}
use Rattle.mr_wire.specs.declared.frame.Mode.TheVariants.{Full, Partial}
use Rattle.mr_session.specs.Preparing.{is_copied}
use Rattle.mr_session.specs.Stream.{told}
use Rattle.mr_session.specs.declared.fault.SessionFault.TheVariants.{NotStart, OtherStream, Repeated, Gap}
use Rattle.mr_session.proofs.HeldLemmas.{has_none}
use Rattle.mr_session.proofs.CutLemmas.{cut_unique}

abbrev one : Name
one = record { author = 0; counter = 1 }

abbrev two : Name
two = record { author = 1; counter = 1 }

-- ---- how heads are cut into vectors

no_heads_in_one : AreCut [] ([] ∷ [])
no_heads_in_one = has_none [] (λ v. column_has-empty v.counter) tt

no_heads_not_in_two : ¬ AreCut [] ([] ∷ [] ∷ [])
no_heads_not_in_two cut = let same = cut_unique [] ([] ∷ [] ∷ []) ([] ∷ []) cut no_heads_in_one in absurd (cc)

-- ---- which draws need memory: what is prepared is copied, but for a Start and an End

abbrev asked : Asked
asked = record { target = 9; session = 1; filter = []; claims = [] }

abbrev nothing_held : Holdings
nothing_held = record { heads = []; push_outs = []; head_room = None; push_out_room = None }

abbrev begun : Mode → Stream
begun mode = record (new_stream asked mode []) { next = 1 }

prepared_start : is_copied (new_stream asked Full []) nothing_held ≡ false
prepared_start = refl

prepared_first_held : is_copied (begun Full) nothing_held ≡ true
prepared_first_held = refl

prepared_later_held : is_copied (record (begun Full) { held = Some ([] ∷ []) }) nothing_held ≡ true
prepared_later_held = refl

prepared_know : is_copied (record (begun Full) { held = Some []; know = (record { items = None; vector = [] }) ∷ [] }) nothing_held ≡ true
prepared_know = refl

prepared_full_end : is_copied (record (begun Full) { held = Some [] }) nothing_held ≡ false
prepared_full_end = refl

prepared_partial_end : is_copied (begun Partial) nothing_held ≡ false
prepared_partial_end = refl

-- ---- tables

abbrev opened_twice : Table Name
opened_twice = with_opened (with_opened empty_table one) two

-- a closed number is not given again
given_once_row : open_at (with_opened (with_closed opened_twice 1) two) 1 ≡ None
given_once_row = refl

changed_row : open_at (with_changed 2 (λ _. one) opened_twice) 2 ≡ Some one
changed_row = refl

others_stay_row : open_at (with_changed 2 (λ _. one) opened_twice) 1 ≡ Some one
others_stay_row = refl

-- ---- what a session takes

-- a record of a stream of replica 0
abbrev sent : (stream index : ℕ) → Body → Sent
sent stream index body = record { header = record { source = 0; stream = stream; target = 9; session = 1; index = index }; body = body }

-- a session that is bound to the stream 1, and takes the record of this index next
abbrev bound : Mode → (next : ℕ) → Session
bound mode next = record { origin = Some (record { source = 0; stream = 1; mode = mode }); next = next; held = []; know = [] }

begins_with_a_start : map (first_fault None 0) (sent 1 1 End ∷ sent 1 0 (Start Full) ∷ []) ≡ Some NotStart ∷ None ∷ []
begins_with_a_start = refl

goes_on_by_index : map (first_fault (bound Full 2).origin 2) (sent 1 1 End ∷ sent 1 2 End ∷ sent 1 3 End ∷ []) ≡ Some Repeated ∷ None ∷ Some Gap ∷ []
goes_on_by_index = refl

-- another stream comes first, at any index; a second Start is refused as any other record
other_stream_first : map (first_fault (bound Full 2).origin 2) (sent 2 0 (Start Full) ∷ sent 2 2 End ∷ sent 2 3 End ∷ sent 1 0 (Start Full) ∷ []) ≡ Some OtherStream ∷ Some OtherStream ∷ Some OtherStream ∷ Some Repeated ∷ []
other_stream_first = refl

bound_by_its_start : after_record (sent 1 0 (Start Full)) new_session ≡ bound Full 1
bound_by_its_start = refl

-- a full stream's Held and Know are kept, once, and those of a partial one are not
abbrev for_all : Piece
for_all = record { items = None; vector = [] }

kept_of_a_full_stream : after_record (sent 1 3 (Know for_all)) (after_record (sent 1 2 (Held [])) (bound Full 2)) ≡ record (bound Full 4) { held = [] ∷ []; know = for_all ∷ [] }
kept_of_a_full_stream = refl

not_kept_of_a_partial_one : after_record (sent 1 3 (Know for_all)) (after_record (sent 1 2 (Held [])) (bound Partial 2)) ≡ bound Partial 4
not_kept_of_a_partial_one = refl

-- ---- what a stream tells

abbrev name : ℕ → ℕ → Name
name author counter = record { author = author; counter = counter }

abbrev column : ℕ → ℕ → AuthorColumn
column author upto = record { author = author; column = record { upto = upto; holes = [] } }

-- a version of an item
abbrev rev : (item version : Name) → Rev
rev item version = record { item = item; version = version; below = []; message = record { from = []; subject = []; body = []; labels = []; flags = 0; day = 0 } }

-- the filters of no clause, and of one with no condition
abbrev no_message : List ClauseParts
no_message = []

abbrev all_messages : List ClauseParts
all_messages = record { all_labels = []; no_labels = []; flags_on = 0; flags_off = 0; since = 0 } ∷ []

-- what selects so, and claims 0.1 for all items, and 0.4 for the item 0.2
abbrev asking : List ClauseParts → Asked
asking filter = record { target = 9; session = 1; filter = filter; claims = (record { items = None; vector = column 0 1 ∷ [] }) ∷ (record { items = Some (name 0 2 ∷ []); vector = column 0 4 ∷ [] }) ∷ [] }

claimed_for_its_item_alone : map (λ item. claimed (asking no_message).claims item (name 0 4)) (name 0 1 ∷ name 0 2 ∷ []) ≡ false ∷ true ∷ []
claimed_for_its_item_alone = refl

-- what is selected and not known is told: 1.1, and not 0.1
wanted_if_selected : map (is_wanted (asking all_messages)) (rev (name 0 1) (name 0 1) ∷ rev (name 1 1) (name 1 1) ∷ []) ≡ false ∷ true ∷ []
wanted_if_selected = refl

-- what is not selected moves out, where the item's first version is known: not the first version itself, not of the item 1.1
wanted_if_it_moves_out : map (is_wanted (asking no_message)) (rev (name 0 1) (name 1 1) ∷ rev (name 0 3) (name 0 3) ∷ rev (name 1 1) (name 2 1) ∷ []) ≡ true ∷ false ∷ false ∷ []
wanted_if_it_moves_out = refl

-- a later version of a known item is not claimed by that
later_is_not_claimed : is_wanted (asking all_messages) (rev (name 0 1) (name 1 1)) ≡ true
later_is_not_claimed = refl

moved_out : told (asking no_message) (rev (name 0 1) (name 1 1)) ≡ MoveOut (record { item = name 0 1; version = name 1 1; below = [] })
moved_out = refl

-- heads and push-outs are walked together, from behind the version that was looked at last
abbrev walked : Option Name → Option Rev
walked past = due (asking all_messages) past (rev (name 1 2) (name 1 2) ∷ rev (name 3 1) (name 3 1) ∷ []) (rev (name 1 1) (name 1 1) ∷ rev (name 2 1) (name 2 1) ∷ [])

walked_by_version : map walked (None ∷ Some (name 1 1) ∷ Some (name 1 2) ∷ Some (name 2 1) ∷ Some (name 3 1) ∷ []) ≡ Some (rev (name 1 1) (name 1 1)) ∷ Some (rev (name 1 2) (name 1 2)) ∷ Some (rev (name 2 1) (name 2 1)) ∷ Some (rev (name 3 1) (name 3 1)) ∷ None ∷ []
walked_by_version = refl

-- of no heads one empty vector is drawn, then the fragments, then the end; a head that comes later is not told
abbrev behind_held : List Piece → Stream
behind_held know = record (new_stream asked Full know) { next = 2; held = Some [] }

first_held_of_nothing : Draws (record (begun Full) { know = for_all ∷ [] }) nothing_held (Held []) (record (begun Full) { held = Some []; know = for_all ∷ [] })
first_held_of_nothing = ([], [], no_heads_in_one, refl, refl)

fragment_behind_held : Draws (behind_held (for_all ∷ [])) (record nothing_held { heads = rev one one ∷ [] }) (Know for_all) (behind_held [])
fragment_behind_held = (refl, refl)

end_behind_fragments : Draws (behind_held []) (record nothing_held { heads = rev one one ∷ [] }) End (behind_held [])
end_behind_fragments = (refl, refl)
