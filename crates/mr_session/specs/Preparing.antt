-- for which records memory may be wanted that are prepared
use Rattle.std.specs.Prelude.{◌==◌, Bool, true, false, not, ◌&&◌, ◌||◌, is_some, List, [], ◌∷◌, Option, Some, None}
use Rattle.mr_concise.specs.declared.vector.AuthorColumn.{AuthorColumn}
use Rattle.mr_store.specs.Holdings.{Holdings}
use Rattle.mr_wire.specs.Values.{Piece}
use Rattle.mr_session.specs.Session.{is_full_mode}
use Rattle.mr_session.specs.Stream.{Stream, due}

-- whether there is no fragment
abbrev pub are_none : List Piece → Bool
are_none [] = true
are_none (f ∷ fs) = false

-- whether the record behind the Start is the End, by what is still to give of the Held records
abbrev pub ends_next : Option (List (List AuthorColumn)) → Stream → Holdings → Bool
ends_next None s h = not (is_some (due s.asked s.past h.heads h.push_outs) || is_full_mode s.mode)
ends_next (Some []) s h = are_none s.know
ends_next (Some (v ∷ vs)) s h = false

-- Whether the next record has a copy of a revision, a vector or a fragment, or gathers the heads, when it is prepared: it is
-- an Item, a MoveOut, a Held or a Know, and no Start and no End.
abbrev pub is_copied : Stream → Holdings → Bool
is_copied s h = not (s.next == 0) && not (ends_next s.held s h)
