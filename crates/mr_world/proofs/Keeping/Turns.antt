-- What holds of each open stream, and of what each gives, holds after any event.
use Rattle.std.proofs.Common.{◌≡◌, sym, subst, ◌∙◌, ℕ, ◌+◌, List, inl, inr, IsFalse, Some, arith}
use Rattle.mr_world.proofs.Names.Wire.{Body, Piece, Question, Sent}
use Rattle.mr_world.proofs.Names.Replica.{Keeps, State, StreamsTurn, asked_of, held_now, mode_for}
use Rattle.mr_world.proofs.Names.Sessions.{GivesIn, Stream, Table, is_end, new_stream, open_at, with_changed, with_closed}
use Rattle.mr_world.proofs.Names.Laws.{choice}
use Rattle.mr_world.proofs.Names.Mails.{Form}
use Rattle.mr_replica.proofs.FiveKinds.{StreamsTurn.Closed_stream, StreamsTurn.Gave_record, StreamsTurn.Opened_stream, StreamsTurn.Same_streams}
use Rattle.mr_world.proofs.Drawing.Drawn.{Drawn, drawn}
use Rattle.mr_world.proofs.Groundwork.Tables.{changed_found, closed_found, opened_found}

-- each that is open is so
abbrev pub AllOpen : {T : Type 0} → (T → Type 0) → Table T → Type 0
AllOpen {T} P table = (n : ℕ) (k : T) → open_at table n ≡ Some k → P k

module _ {K : Type 0} (form : Form K) (s : State K) (P : Stream → Type 0) (B : Body → Type 0) (old : AllOpen P s.streams)
    (draws : (k : Stream) (b : Body) (left : Stream) → P k → Drawn s k b left → B b × (IsFalse (is_end b) → P (record left { next = k.next + 1 }))) where
  -- a stream gives a record
  pub gives : (number : ℕ) (sent : Sent) (streams : Table Stream) → GivesIn s.id number s.streams (held_now s) sent streams → B sent.body × AllOpen P streams
  gives number sent streams h =
      let made = draws h.0 sent.body h.3.0 (old number h.0 h.2) (drawn s h.0 sent.body h.3.0 h.3.1) in (
        made.0,
        subst (AllOpen P) (sym h.4) (choice (AllOpen P) (is_end sent.body) (with_closed s.streams number) (with_changed number (λ _. h.1) s.streams)
            (λ ended n c e. old n c (closed_found s.streams number n c e).1)
            (λ goes_on n c e. elim (changed_found s.streams number (λ _. h.1) n c e) [ inl here ↦ subst P (sym h.3.3 ∙ here.3) (made.1 goes_on) | inr there ↦ old n c there.1 ])),
      )

  pub turns : ((ask : Question) (know : List Piece) → Keeps form (mode_for s ask) s.knowledge know → P (new_stream (asked_of ask) (mode_for s ask) know)) →
      (streams : Table Stream) → StreamsTurn form s streams → AllOpen P streams
  turns opens streams (Same_streams is) = subst (AllOpen P) (sym is) old
  turns opens streams (Opened_stream ask know keeps is) = subst (AllOpen P) (sym is) (λ n k e. elim (opened_found s.streams (new_stream (asked_of ask) (mode_for s ask) know) n k e) [
    | inl made ↦ subst P made.1 (opens ask know keeps)
    | inr found ↦ old n k found
  ])
  turns opens streams (Gave_record number sent h) = (gives number sent streams h).1
  turns opens streams (Closed_stream number is) = subst (AllOpen P) (sym is) (λ n k e. old n k (closed_found s.streams number n k e).1)
