-- A draw has one result, and looks at the held revisions alone.
use Rattle.std.proofs.Common.{◌≡◌, ◌==◌, ℕ, Bool, if◌then◌else◌, List, [], ◌∷◌, map, Option, Some, None, Result, sym, ap, subst, ◌∙◌, arith}
use Rattle.std.specs.Result.{IfOk}
use Rattle.std.proofs.lemmas.Result.{IfOk-weaker}
use Rattle.mr_session.proofs.Names.{AreCut, AuthorColumn, Body, Draws, DrawsAfterWalk, DrawsAt, DrawsFirstHeld, DrawsKnow, DrawsRest, DrawsWalk, GivesIn}
use Rattle.mr_session.proofs.Names.{Held, Holdings, IsOnlyDraw, Mode, Piece, Prepared, Rev, Sent, Stream, Table, advanced, is_end, version_of, with_changed}
use Rattle.mr_session.proofs.Names.{with_closed}
use Rattle.mr_session.proofs.CutLemmas.{cut_unique}

abbrev first_of : List (List AuthorColumn) → List AuthorColumn
first_of [] = []
first_of (v ∷ vs) = v

abbrev others_of : List (List AuthorColumn) → List (List AuthorColumn)
others_of [] = []
others_of (v ∷ vs) = vs

-- ---- a draw has one result

-- one record and one stream
abbrev AreOne : Body → Body → Stream → Stream → Type 0
AreOne a b x y = (b ≡ a) × (y ≡ x)

-- what two draws say is one
both_are : (a b body : Body) (x y s : Stream) → (a ≡ body) × (x ≡ s) → (b ≡ body) × (y ≡ s) → AreOne a b x y
both_are a b body x y s h k = (k.0 ∙ sym h.0, k.1 ∙ sym h.1)

module _ (s : Stream) (h : Holdings) (a b : Body) (x y : Stream) where
  one_first_held : DrawsFirstHeld s h a x → DrawsFirstHeld s h b y → AreOne a b x y
  one_first_held (v, vs, cut, is, new) (w, ws, cut_too, is_too, new_too) =
      let same : (w ∷ ws) ≡ (v ∷ vs) = cut_unique (map version_of h.heads) (w ∷ ws) (v ∷ vs) cut_too cut in
      let first : w ≡ v = ap first_of same in
      let others : ws ≡ vs = ap others_of same in
      (is_too ∙ ap (λ (u : List AuthorColumn). Held u) first ∙ sym is, new_too ∙ ap (λ (us : List (List AuthorColumn)). record s { held = Some us }) others ∙ sym new)

  one_after_walk : (mode : Mode) → DrawsAfterWalk mode s h a x → DrawsAfterWalk mode s h b y → AreOne a b x y
  one_after_walk mode d e = grind (arith, one_first_held, both_are)

  one_walk : (r : Option Rev) → DrawsWalk r s h a x → DrawsWalk r s h b y → AreOne a b x y
  one_walk r d e = grind (arith, both_are, one_after_walk)

  one_know : (know : List Piece) → DrawsKnow know s a x → DrawsKnow know s b y → AreOne a b x y
  one_know know d e = grind (arith, both_are)

  one_rest : (held : Option (List (List AuthorColumn))) → DrawsRest held s h a x → DrawsRest held s h b y → AreOne a b x y
  one_rest held d e = grind (arith, one_walk, one_know, both_are)

  one_at : (begins : Bool) → DrawsAt begins s h a x → DrawsAt begins s h b y → AreOne a b x y
  one_at begins d e = grind (arith, both_are, one_rest)

  pub draws_unique : Draws s h a x → Draws s h b y → (b ≡ a) × (y ≡ x)
  draws_unique d e = one_at (s.next == 0) d e

abbrev some_value : Option Stream → Stream → Stream
some_value None d = d
some_value (Some s) d = s

-- the table after a draw
abbrev table_after : Table Stream → (number : ℕ) → Sent → Stream → Table Stream
table_after table number sent left = if is_end sent.body then with_closed table number else with_changed number (λ _. left) table

pub gives_unique : (source number : ℕ) (table : Table Stream) (h : Holdings) (a b : Sent) (x y : Table Stream) → GivesIn source number table h a x → GivesIn source number table h b y → (b ≡ a) × (y ≡ x)
gives_unique source number table h a b x y k i = grind (arith, draws_unique)

-- so what was prepared is the only draw
pub only_draw : {E : Type 0} (source number : ℕ) (table : Table Stream) (h : Holdings) (prepared : Result Prepared E) → IfOk prepared (λ p. GivesIn source number table h p.record (advanced number p.onward table))
    → IfOk prepared (λ p. IsOnlyDraw source number table h p.record (advanced number p.onward table))
only_draw source number table h prepared gives =
    IfOk-weaker prepared (λ p. GivesIn source number table h p.record (advanced number p.onward table)) (λ p. IsOnlyDraw source number table h p.record (advanced number p.onward table))
    (λ p given other after given_too. gives_unique source number table h p.record other (advanced number p.onward table) after given given_too) gives

-- ---- a draw looks at the held revisions alone

module _ (s : Stream) (h g : Holdings) (body : Body) (x : Stream) (heads : h.heads ≡ g.heads) (push_outs : h.push_outs ≡ g.push_outs) where
  same_first_held : DrawsFirstHeld s h body x → DrawsFirstHeld s g body x
  same_first_held (v, vs, cut, is, new) = (v, vs, subst (λ (rs : List Rev). AreCut (map version_of rs) (v ∷ vs)) heads cut, is, new)

  same_after_walk : (mode : Mode) → DrawsAfterWalk mode s h body x → DrawsAfterWalk mode s g body x
  same_after_walk mode d = grind (arith, same_first_held)

  same_walk : (r : Option Rev) → DrawsWalk r s h body x → DrawsWalk r s g body x
  same_walk r d = grind (arith, same_after_walk)

  same_rest : (held : Option (List (List AuthorColumn))) → DrawsRest held s h body x → DrawsRest held s g body x
  same_rest held d = grind (arith, same_walk)

  same_at : (begins : Bool) → DrawsAt begins s h body x → DrawsAt begins s g body x
  same_at begins d = grind (arith, same_rest)

  pub same_draws : Draws s h body x → Draws s g body x
  same_draws d = same_at (s.next == 0) d

pub same_gives : (source number : ℕ) (table : Table Stream) (h g : Holdings) (sent : Sent) (x : Table Stream) → h.heads ≡ g.heads → h.push_outs ≡ g.push_outs → GivesIn source number table h sent x → GivesIn source number table g sent x
same_gives source number table h g sent x heads push_outs k = grind (arith, same_draws)
