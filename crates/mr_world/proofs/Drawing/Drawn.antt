-- Next: what is drawn is what the rules allow.
use Rattle.std.proofs.Common.{◌≡◌, ◌≢◌, refl, sym, ap, subst, ◌∙◌, ℕ, ◌<◌, ◌==◌, Bool, true, false, not, ◌||◌, List, [], ◌∷◌, map, ◌⊎◌, inl, inr, IsTrue, arith, eqb-true, Option, Some, None}
use Rattle.mr_world.proofs.Names.Lists.{and_from, and_parts, both_ways, eqb-false}
use Rattle.mr_world.proofs.Names.Wire.{Body, End, Full, Held, Know, Mode, Partial, Piece, Sent, Start}
use Rattle.mr_world.proofs.Names.Replica.{State, held_now}
use Rattle.mr_world.proofs.Names.Sessions.{AreCut, Draws, DrawsAfterWalk, DrawsAt, DrawsKnow, DrawsRest, DrawsWalk, Stream, claimed, due, header_of}
use Rattle.mr_world.proofs.Names.Sessions.{is_ahead, is_due, is_full_mode, is_item, is_move_out, is_wanted, told}
use Rattle.mr_world.proofs.Names.Model.{HasFullStart, HasStart, Holds, In, IsDraw, IsDue, IsNext, IsWalked, NoneDue, claims, is, is_before}
use Rattle.mr_world.proofs.Names.Model.{is_start as is_start_seen, item_of, selection, starts_full}
use Rattle.mr_world.proofs.Names.Laws.{IsIssueList, before_trans, cases, is_from, is_path, item_is_issued, not_both, not_true, or_left, or_parts}
use Rattle.mr_world.proofs.Names.Laws.{or_right}
use Rattle.mr_world.proofs.Names.Mails.{AuthorColumn, ClauseParts, Form, Name, Rev, card_of, selects, version_of}
use Rattle.mr_world.proofs.Names.World.{HoldingsAgree, IsTrueRevision, MailMoment, StreamAgrees, seen_body, seen_record, setting_of}
use Rattle.mr_filter.proofs.MeaningLemmas.{covers-sound}
use Rattle.mr_world.proofs.Drawing.Due.{lower_first, lower_none}
use Rattle.mr_world.proofs.Groundwork.Orders.{held_in, in_held, placing}
use Rattle.mr_world.proofs.Agreement.Receiving.{selected_message}
use Rattle.mr_world.proofs.Groundwork.Tools.{from_not}

-- the record of stream number k of r
abbrev pub record_of : (r number : ℕ) → Stream → Body → Sent
record_of r number k b = record { header = header_of r number k; body = b }

module _ {K : Type 0} where
  -- the cases of a draw
  pub data Drawn (s : State K) (k : Stream) (b : Body) (left : Stream) : Type 0 where
    Starts : k.next ≡ 0 → b ≡ Start k.mode → left ≡ k → Drawn s k b left
    Walks : k.next ≢ 0 → k.held ≡ None → (x : Rev) → due k.asked k.past s.heads s.push_outs ≡ Some x → b ≡ told k.asked x → left ≡ record k { past = Some x.version } → Drawn s k b left
    Shows_first : k.next ≢ 0 → k.held ≡ None → due k.asked k.past s.heads s.push_outs ≡ None → k.mode ≡ Full → (v : List AuthorColumn) → (vs : List (List AuthorColumn)) → AreCut (map version_of s.heads) (v ∷ vs) → b ≡ Held v → left ≡ record k { held = Some vs } → Drawn s k b left
    Ends_partly : k.next ≢ 0 → k.held ≡ None → due k.asked k.past s.heads s.push_outs ≡ None → k.mode ≡ Partial → b ≡ End → Drawn s k b left
    Shows_more : k.next ≢ 0 → (v : List AuthorColumn) → (vs : List (List AuthorColumn)) → k.held ≡ Some (v ∷ vs) → b ≡ Held v → left ≡ record k { held = Some vs } → Drawn s k b left
    Tells : k.next ≢ 0 → k.held ≡ Some [] → (f : Piece) → (fs : List Piece) → k.know ≡ f ∷ fs → b ≡ Know f → left ≡ record k { know = fs } → Drawn s k b left
    Ends_fully : k.next ≢ 0 → k.held ≡ Some [] → k.know ≡ [] → b ≡ End → Drawn s k b left

  pub drawn : (s : State K) (k : Stream) (b : Body) (left : Stream) → Draws k (held_now s) b left → Drawn s k b left
  drawn s k b left d = first (k.next == 0) refl d
    where
      after : k.next ≢ 0 → k.held ≡ None → due k.asked k.past s.heads s.push_outs ≡ None → (mode : Mode) → k.mode ≡ mode → DrawsAfterWalk mode k (held_now s) b left → Drawn s k b left
      after n h e Full em d = Shows_first n h e em d.0 d.1 d.2 d.3 d.4
      after n h e Partial em d = Ends_partly n h e em d.0

      walk : k.next ≢ 0 → k.held ≡ None → (o : Option Rev) → due k.asked k.past s.heads s.push_outs ≡ o → DrawsWalk o k (held_now s) b left → Drawn s k b left
      walk n h (Some x) e d = Walks n h x e d.0 d.1
      walk n h None e d = after n h e k.mode refl d

      know : k.next ≢ 0 → k.held ≡ Some [] → (fs : List Piece) → k.know ≡ fs → DrawsKnow fs k b left → Drawn s k b left
      know n h [] e d = Ends_fully n h e d.0
      know n h (f ∷ fs) e d = Tells n h f fs e d.0 d.1

      rest : k.next ≢ 0 → (o : Option (List (List AuthorColumn))) → k.held ≡ o → DrawsRest o k (held_now s) b left → Drawn s k b left
      rest n None e d = walk n e (due k.asked k.past s.heads s.push_outs) refl d
      rest n (Some []) e d = know n e k.know refl d
      rest n (Some (v ∷ vs)) e d = Shows_more n v vs e d.0 d.1

      first : (z : Bool) → (k.next == 0) ≡ z → DrawsAt z k (held_now s) b left → Drawn s k b left
      first true e d = Starts (eqb-true k.next 0 e) d.0 d.1
      first false e d = rest (eqb-false k.next 0 e) k.held refl d

module _ {K : Type 0} (form : Form K) where
  -- what the source's holdings and its stream have to do with the moment
  pub record Source (filters : ℕ → List ClauseParts) (m : MailMoment) (records : List Sent) (r opened number : ℕ) (s : State K) (k : Stream) : Type 0 where
    pub list : IsIssueList m.issues
    pub holdings : HoldingsAgree form m.issues filters r (m.holding r) (m.feed r) (m.is_retired r) s
    pub stream : StreamAgrees m.issues filters records m.given r opened number (m.ask_of r number) (m.known_at_answer r number) (m.held_at_draw r number) k

  module _ (filters : ℕ → List ClauseParts) (m : MailMoment) (records : List Sent) (r opened number : ℕ) (s : State K) (k : Stream) (a : Source filters m records r opened number s k) where
    -- it is held
    abbrev IsHeld : Rev → Type 0
    IsHeld x = In x s.heads ⊎ In x s.push_outs

    -- what is held is held as a revision
    held_revision : (v : Name) → Holds m r v → (x : Rev) × IsHeld x × (x.version ≡ v) × IsTrueRevision m.issues x
    held_revision v h = elim h [
      | inl st ↦ (let x = held_in s.heads v (a.holdings.heads.same v ∙ st) in (x.0, inl x.1, x.2, a.holdings.heads.each x.0 x.1))
      | inr out ↦ (let x = held_in s.push_outs v (a.holdings.push_outs.same v ∙ out) in (x.0, inr x.1, x.2, a.holdings.push_outs.each x.0 x.1))
    ]

    pub revision_held : (x : Rev) → IsHeld x → Holds m r x.version × IsTrueRevision m.issues x
    revision_held x i = elim i [
      | inl j ↦ (inl (sym (a.holdings.heads.same x.version) ∙ in_held s.heads x j), a.holdings.heads.each x j)
      | inr j ↦ (inr (sym (a.holdings.push_outs.same x.version) ∙ in_held s.push_outs x j), a.holdings.push_outs.each x j)
    ]

    -- the request claims and wants what it is seen to claim and want
    claims_is : (x : Rev) → IsTrueRevision m.issues x → claimed k.asked.claims x.item x.version ≡ claims a.stream.ask x.version
    claims_is x t = ap (λ (i : Name). claimed k.asked.claims i x.version) (sym t.below.of_item) ∙ a.stream.sees.shows.same x.version t.below.is_one

    creator_is : (x : Rev) → IsTrueRevision m.issues x → claimed k.asked.claims x.item x.item ≡ claims a.stream.ask (item_of m.issues x.version)
    creator_is x t = grind (arith, item_is_issued, claimed, claims, item_of)

    wants_is : (x : Rev) → IsTrueRevision m.issues x → selection (setting_of filters) m.issues a.stream.ask.target x.version ≡ is_item k.asked x
    wants_is x t = selected_message (setting_of filters) m.issues a.stream.ask.target x.version x.message t.message
        ∙ ap (λ (f : List ClauseParts). selects f (card_of x.message)) (ap filters a.stream.sees.target ∙ sym a.stream.sees.filter)

    -- a due version is held as a revision that is due
    due_to_give : (v : Name) → IsDue (setting_of filters) m r number a.stream.ask v → (x : Rev) × IsHeld x × (x.version ≡ v) × IsTrue (is_due k.asked k.past x)
    due_to_give v is_due_seen = (
      x.0,
      x.1,
      x.2,
      and_from (is_ahead k.past x.0.version) (is_wanted k.asked x.0) ahead
          (and_from (not (claimed k.asked.claims x.0.item x.0.version)) (is_item k.asked x.0 || is_move_out k.asked x.0) unclaimed of_use),
    )
      where
        x : (x : Rev) × IsHeld x × (x.version ≡ v) × IsTrueRevision m.issues x
        x = held_revision v is_due_seen.held

        ahead : IsTrue (is_ahead k.past x.0.version)
        ahead = go k.past refl
          where
            go : (o : Option Name) → k.past ≡ o → IsTrue (is_ahead o x.0.version)
            go None e = refl
            go (Some p) e = let h = a.stream.past p e in subst (λ (z : Name). IsTrue (is_before p z)) (sym x.2) (is_due_seen.ahead h.0 p h.1 h.2)

        unclaimed : IsTrue (not (claimed k.asked.claims x.0.item x.0.version))
        unclaimed = let e : claimed k.asked.claims x.0.item x.0.version ≡ false = claims_is x.0 x.3 ∙ (ap (claims a.stream.ask) x.2 ∙ is_due_seen.unclaimed) in rw e refl

        of_use : IsTrue (is_item k.asked x.0 || is_move_out k.asked x.0)
        of_use = elim is_due_seen.told [
          | inl want ↦ or_left (is_item k.asked x.0) (is_move_out k.asked x.0)
              (sym (wants_is x.0 x.3) ∙ subst (λ (z : Name). IsTrue (selection (setting_of filters) m.issues a.stream.ask.target z)) (sym x.2) want)
          | inr edit ↦ or_right (is_item k.asked x.0) (is_move_out k.asked x.0)
              (and_from (not (is x.0.item x.0.version)) (claimed k.asked.claims x.0.item x.0.item)
              (not_true (is x.0.item x.0.version) (λ t. edit.edit (ap (item_of m.issues) (sym x.2) ∙ (x.3.below.of_item ∙ (is_path x.0.item x.0.version t ∙ x.2)))))
              (creator_is x.0 x.3 ∙ subst (λ (z : Name). IsTrue (claims a.stream.ask (item_of m.issues z))) (sym x.2) edit.creator))
        ]

    -- and what is due as a revision is due
    give_is_due : (x : Rev) → IsHeld x → IsTrue (is_due k.asked k.past x) → IsDue (setting_of filters) m r number a.stream.ask x.version
    give_is_due x i give = record {
      held = (revision_held x i).0;
      unclaimed = sym (claims_is x t) ∙ from_not (claimed k.asked.claims x.item x.version) two.0;
      told = elim (or_parts (is_item k.asked x) (is_move_out k.asked x) two.1) [
        | inl want ↦ inl (wants_is x t ∙ want)
        | inr edit ↦ (let both = and_parts (not (is x.item x.version)) (claimed k.asked.claims x.item x.item) edit in inr (record {
          edit = λ e. not_both (is x.item x.version) both.0 (is_from x.item x.version (sym t.below.of_item ∙ e));
          creator = sym (creator_is x t) ∙ both.1;
        }))
      ];
      ahead = λ y w of e. (let h = a.stream.behind y w of e in let before : IsTrue (is_before h.0 x.version) = subst (λ (o : Option Name). IsTrue (is_ahead o x.version)) h.1 one.0 in
          elim (placing h.0 w) [
            | inl l ↦ absurd (h.2 l)
            | inr l ↦ elim l [ inl p ↦ subst (λ (z : Name). IsTrue (is_before z x.version)) p before | inr q ↦ before_trans w h.0 x.version q before ]
          ]);
    }
      where
        t : IsTrueRevision m.issues x
        t = (revision_held x i).1

        one : IsTrue (is_ahead k.past x.version) × IsTrue (is_wanted k.asked x)
        one = and_parts (is_ahead k.past x.version) (is_wanted k.asked x) give

        two : IsTrue (not (claimed k.asked.claims x.item x.version)) × IsTrue (is_item k.asked x || is_move_out k.asked x)
        two = and_parts (not (claimed k.asked.claims x.item x.version)) (is_item k.asked x || is_move_out k.asked x) one.1

    -- ---- the Start was given

    has_start : k.next ≢ 0 → HasStart m.given r number
    has_start n = let h = a.stream.begun n in (h.0, h.1, ap is_start_seen h.2)

    has_full_start : k.next ≢ 0 → is_full_mode k.mode ≡ true → HasFullStart m.given r number
    has_full_start n full = let h = a.stream.begun n in (h.0, h.1, ap starts_full h.2 ∙ full)

    -- the walk comes to the first that is due
    pub walked_is : (x : Rev) → k.next ≢ 0 → due k.asked k.past s.heads s.push_outs ≡ Some x → k.held ≡ None → IsWalked (setting_of filters) m r number a.stream.ask x.version × IsTrueRevision m.issues x
    walked_is x n e h = let f = lower_first (is_due k.asked k.past) s.heads s.push_outs a.holdings.heads.in_order a.holdings.push_outs.in_order x e in (
      record {
        begun = has_start n;
        walking = a.stream.walking h;
        due = give_is_due x f.among f.passes;
        none_skipped = λ v is_due_seen. (let y = due_to_give v is_due_seen in elim (f.first y.0 y.1 y.3) [
          | inl one ↦ inl (sym y.2 ∙ sym one)
          | inr later ↦ inr (subst (λ (z : Name). IsTrue (is_before x.version z)) y.2 later)
        ]);
      },
      (revision_held x f.among).1,
    )

    -- the walk is over
    pub none_due : due k.asked k.past s.heads s.push_outs ≡ None → NoneDue (setting_of filters) m r number a.stream.ask
    none_due e v is_due_seen = let y = due_to_give v is_due_seen in both_ways (is_due k.asked k.past y.0) (lower_none (is_due k.asked k.past) s.heads s.push_outs e y.0 y.1) y.3

    abbrev Allowed : Body → Type 0
    Allowed b = IsDraw (setting_of filters) m r number a.stream.ask (seen_body b)

    given_allowed : (x : Rev) → IsWalked (setting_of filters) m r number a.stream.ask x.version → IsTrueRevision m.issues x → Allowed (told k.asked x)
    given_allowed x w t = elim (cases (is_item k.asked x)) [
      | inl want ↦ rw want (w, wants_is x t ∙ want)
      | inr not_wanted ↦ rw not_wanted (w, both_ways (selection (setting_of filters) m.issues a.stream.ask.target x.version) (wants_is x t ∙ not_wanted))
    ]

    pub draw_allowed : (b : Body) (left : Stream) → Drawn s k b left → Allowed b
    draw_allowed b left (Starts n e e') = subst Allowed (sym e) (record {
      first = λ x of. (let lt : x.index < k.next = a.stream.below_next x of in absurd (omega arith));
      covers = λ full message h. covers-sound (filters r) k.asked.filter (sym a.stream.covers ∙ full) (card_of message) (subst (λ (f : List ClauseParts). IsTrue (selects f (card_of message))) (ap filters a.stream.sees.target ∙ sym a.stream.sees.filter) h);
    })
    draw_allowed b left (Walks n h x e eb e') = let w = walked_is x n e h in subst Allowed (sym eb) (given_allowed x w.0 w.1)
    draw_allowed b left (Shows_first n h e full v vs cut eb e') = subst Allowed (sym eb) (record { full = has_full_start n (ap is_full_mode full); walked = inl (none_due e) })
    draw_allowed b left (Ends_partly n h e part eb) = subst Allowed (sym eb) (record {
      begun = has_start n;
      after_held = λ full. absurd (both_ways (is_full_mode k.mode) (ap is_full_mode part) (a.stream.starts full.0 full.1 full.2));
      after_walk = λ partly. none_due e;
    })
    draw_allowed b left (Shows_more n v vs h eb e') = let begun : k.held ≢ None = (λ q. let c : Some (v ∷ vs) ≡ None = sym h ∙ q in absurd (cc)) in
        subst Allowed (sym eb) (record { full = has_full_start n (a.stream.shows_full begun); walked = inr (a.stream.showing begun) })
    draw_allowed b left (Tells n h f fs e eb e') = subst Allowed (sym eb) (a.stream.showing (λ q. let c : Some [] ≡ None = sym h ∙ q in absurd (cc)))
    draw_allowed b left (Ends_fully n h e eb) = let begun : k.held ≢ None = (λ q. let c : Some [] ≡ None = sym h ∙ q in absurd (cc)) in
        subst Allowed (sym eb) (record { begun = has_start n; after_held = λ full. a.stream.showing begun; after_walk = λ partly. absurd (partly (has_full_start n (a.stream.shows_full begun))) })

    pub next_allowed : (b : Body) (left : Stream) → Drawn s k b left → IsNext (setting_of filters) m r number (seen_record (record_of r number k b))
    next_allowed b left d = record {
      source = refl;
      stream = refl;
      ask = a.stream.ask;
      opened = a.stream.asked;
      target = sym a.stream.sees.target;
      session = sym a.stream.sees.session;
      index = a.stream.below_next;
      open_still = a.stream.no_end;
      draw = draw_allowed b left d;
    }
