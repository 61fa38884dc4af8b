-- Turns, one behind the other.
use Rattle.std.proofs.Common.{◌≡◌, ◌<◌, ◌+◌, ◌^◌, ◌++◌, ◌⊎◌, ℕ, Bool, true, false, cond, List, [], ◌∷◌, Option, Some, Result, IsSome, refl, sym, ap, subst, ◌∙◌, append_assoc, arith, inr, ⊎_elim}
use Rattle.std.proofs.lemmas.Bool.{false≢true}
use Rattle.mr_node.proofs.Names.{AreLetPass, AreWhole, CutIn, CutOut, Event, Frame, HasHungUp, IsHungUpBehind, IsHungUpLast, IsReady}
use Rattle.mr_node.proofs.Names.{IsVoiceOf, IsWhole, LinkRan, LinkView, LinkVoice, Nothing, Opened, PassesWell}
use Rattle.mr_node.proofs.Names.{Refusal, Reply, Runs, SaidInTurn, SaidTurns, Saying, Says, SaysCut, SaysWhole, Sender, Session, SpokeInTurn}
use Rattle.mr_node.proofs.Names.{Stop, Stops, Stream, Talk, Turn, Vec, WireView, append-nil, are_over, cut_of, frames_given, frames_read, letters_said}
use Rattle.mr_node.proofs.Names.{new_wire, one_if_receive, opened_behind, passes_none, receives, says-append, says_none, unread_in, with_hang_up}
use Rattle.mr_lane.specs.Post.{PostView}
use Rattle.mr_lane.specs.Tap.{TapEnd}
use Rattle.mr_threads.specs.Ends.{HasSpoken}
use Rattle.mr_threads.specs.declared.voice.Voice.{Voice}
use Rattle.mr_node.specs.declared.link_thread.LinkParts.{LinkParts}
use Rattle.mr_node.specs.declared.link_thread.LinkEnd.{LinkEnd}
use Rattle.mr_node.proofs.Talking.{receives-append, well-append, stops-append}

-- these turns were taken, each whole, by a link that had posted nothing before
pub record SaysTurns {R : Type 0} (ts : List Turn) (talk : Talk Event (Result Reply Refusal) R) (wire : WireView) (talk' : Talk Event (Result Reply Refusal) R) (wire' : WireView) (posted : ℕ) : Type 0 where
  pub said : List Saying
  pub are_whole : AreWhole ts said
  pub says : Says talk said talk'
  pub passes : PassesWell wire (frames_read said) (frames_given said) wire'
  pub counted : posted ≡ receives said

-- one turn more
pub whole-append : (ts : List Turn) (t : Turn) (xs ys : List Saying) → AreWhole ts xs → IsWhole t ys → AreWhole (ts ++ t ∷ []) (xs ++ ys)
whole-append [] t xs ys h whole = (ys, [], ap (λ l. l ++ ys) h ∙ sym (append-nil ys), whole, refl)
whole-append (u ∷ ts) t xs ys h whole = (h.0, h.1 ++ ys, ap (λ l. l ++ ys) h.2 ∙ append_assoc h.0 h.1 ys, h.3, whole-append ts t h.1 ys h.4 whole)

-- a cut posts no record
opened_cut : (o : Opened) (ys : List Saying) → letters_said ys ≡ cut_of o → receives ys ≡ 0
opened_cut Nothing [] cuts = refl
opened_cut Nothing (y ∷ ys) cuts = absurd (cc)
opened_cut (Session n) [] cuts = absurd (cc)
opened_cut (Session n) (y ∷ []) cuts = let is : y.letter ≡ CutIn n = cc in ap (λ letter. one_if_receive letter + 0) is
opened_cut (Session n) (y ∷ z ∷ ys) cuts = absurd (cc)
opened_cut (Stream n) [] cuts = absurd (cc)
opened_cut (Stream n) (y ∷ []) cuts = let is : y.letter ≡ CutOut n = cc in ap (λ letter. one_if_receive letter + 0) is
opened_cut (Stream n) (y ∷ z ∷ ys) cuts = absurd (cc)

cut_none : (over : Bool) (o : Opened) (ys : List Saying) → letters_said ys ≡ cond over [] (cut_of o) → receives ys ≡ 0
cut_none true o [] cuts = refl
cut_none true o (y ∷ ys) cuts = absurd (cc)
cut_none false o ys cuts = opened_cut o ys cuts

module _ {R : Type 0} (talk mid talk' : Talk Event (Result Reply Refusal) R) (wire between wire' : WireView) (posted posted' : ℕ) where
  pub turns_more : (ts : List Turn) (t : Turn) → SaysTurns ts talk wire mid between posted → SaysWhole t mid between posted talk' wire' posted' → SaysTurns (ts ++ t ∷ []) talk wire talk' wire' posted'
  turns_more ts t h k = record {
    said = h.said ++ k.said;
    are_whole = whole-append ts t h.said k.said h.are_whole k.whole;
    says = says-append talk mid talk' h.said k.said h.says k.says;
    passes = well-append wire between wire' h.said k.said h.passes k.passes;
    counted = let sums = receives-append h.said k.said in let a = h.counted in let b = k.counted in omega (arith, sums, a, b);
  }

  pub turns_stop : (closes : ℕ → Bool) (all ts left : List Turn) (t : Turn) (stop : Stop) → all ≡ ts ++ t ∷ left → SaysTurns ts talk wire mid between posted → SaysCut closes t stop mid between posted talk' wire' posted' → (xs : List Saying) × LinkRan closes all wire xs wire' × Says talk xs talk' × (receives xs ≡ posted')
  turns_stop closes all ts left t stop in_order h k = (
    h.said ++ (k.said ++ k.cut),
    inr (record {
      before = ts;
      turn = t;
      left = left;
      in_order = in_order;
      said_before = h.said;
      are_whole = h.are_whole;
      part = k.said;
      stop = stop;
      cut_short = k.cut_short;
      cut = k.cut;
      cuts = k.cuts;
      all = sym (append_assoc h.said k.said k.cut);
      why =
          let sums : posted' ≡ receives (h.said ++ k.said) = let a = receives-append h.said k.said in let b = h.counted in let c = k.counted in omega (arith, a, b, c) in
          subst (λ (n : ℕ). Stops (closes (n + 1)) t wire (frames_read (h.said ++ k.said)) (frames_given (h.said ++ k.said)) stop wire') sums
          (stops-append (closes (posted' + 1)) t wire between wire' h.said k.said stop h.passes k.why);
    }),
    says-append talk mid talk' h.said (k.said ++ k.cut) h.says k.says,
    let all = receives-append h.said (k.said ++ k.cut) in
        let part = receives-append k.said k.cut in
        let none = cut_none (are_over k.said) (opened_behind k.said) k.cut k.cuts in
        let b = h.counted in
        let c = k.counted in omega (arith, all, part, none, b, c),
  )

-- no turn was taken
pub turns_none : {R : Type 0} (talk : Talk Event (Result Reply Refusal) R) (wire : WireView) (posted : ℕ) → posted ≡ 0 → IsSome wire.unread → SaysTurns [] talk wire talk wire posted
turns_none talk wire posted none has = record { said = []; are_whole = refl; says = says_none talk; passes = passes_none wire has; counted = none }

module _ {R : Type 0} (talk talk' : Talk Event (Result Reply Refusal) R) (wire wire' : WireView) (posted : ℕ) where
  -- all were
  pub turns_through : (closes : ℕ → Bool) (all ts : List Turn) → ts ≡ all → SaysTurns ts talk wire talk' wire' posted → (xs : List Saying) × LinkRan closes all wire xs wire' × Says talk xs talk' × (receives xs ≡ posted)
  turns_through closes all ts are h = grind arith

abbrev pub wire_with : LinkView → Option (List ℕ) → WireView
wire_with link unread = record { link = link; unread = unread }

-- ---- a link that is hung up behind what passed

-- no turn hangs it up
stops_up : (may : Bool) (t : Turn) (old : WireView) (read given : List Frame) (why : Stop) (new : WireView) → Stops may t old read given why new → new.link.hung_up ≡ old.link.hung_up
stops_up may t old read given why new h = grind (arith, ⊎_elim)

pub ran_up : (closes : ℕ → Bool) (turns : List Turn) (old : WireView) (xs : List Saying) (new : WireView) → LinkRan closes turns old xs new → new.link.hung_up ≡ old.link.hung_up
ran_up closes turns old xs new h = grind (arith, ⊎_elim, stops_up)

abbrev flagged : LinkView → Bool → LinkView
flagged v b = record v { hung_up = b }

same_flag : (v : LinkView) (b : Bool) → v.hung_up ≡ b → flagged v b ≡ v
same_flag v b is = ap (λ (z : Bool). flagged v z) (sym is)

module _ {L : Type 0} (tells : L → LinkView) (hung_up_at : L → LinkView → Type 0) where
  -- where it may have been hung up already, it is so once more
  pub hangs_up_behind : (last : LinkView) (l k : L) → tells k ≡ with_hang_up (tells l) → hung_up_at k (tells l) → ((v : LinkView) → hung_up_at l v → hung_up_at k v)
      → (tells l ≡ last) ⊎ IsHungUpBehind tells hung_up_at last l → IsHungUpBehind tells hung_up_at last k
  hangs_up_behind last l k hangs told kept ends = grind (arith, ⊎_elim)

  -- a link that is hung up is what it was, but for that
  pub is_hung_up : (last : LinkView) (l : L) → (tells l).hung_up ≡ true → (tells l ≡ last) ⊎ IsHungUpBehind tells hung_up_at last l → tells l ≡ with_hang_up last
  is_hung_up last l up ends = grind (arith, ⊎_elim, same_flag)

  -- and was hung up behind all that passed
  pub is_hung_up_last : (old : L) (last : LinkView) (l : L) → last.hung_up ≡ (tells old).hung_up → (tells l).hung_up ≡ true → (tells l ≡ last) ⊎ IsHungUpBehind tells hung_up_at last l → IsHungUpLast tells hung_up_at old l
  is_hung_up_last old last l still up ends = grind (arith, ⊎_elim, false≢true, same_flag)

-- a link's conversation, of the parts of its voice
pub ran_as : (c d : ℕ → Bool) (ts us : List Turn) (k l : LinkView) (r : Option (List ℕ)) (new : WireView) (xs : List Saying)
    → d ≡ c → us ≡ ts → l ≡ k → r ≡ Some [] → LinkRan c ts (wire_with k r) xs new → LinkRan d us (new_wire l) xs new
ran_as c d ts us k l r new xs closes turns link reader h = grind arith

module _ {L G : Type 0} (tells : L → LinkView) (hung_up_at : L → LinkView → Type 0) (closes : G → Sender → ℕ → Bool) (has_let : G → Sender → ℕ → Type 0) (gate : G) (sender : Sender) (link : L) (turns : Vec Turn) (voice : LinkVoice L G) where
  pub voice_ready : IsVoiceOf gate sender link turns voice → (tells link).downs + 1 < 2 ^ 64 → IsReady tells voice
  voice_ready is count = record { count = subst (λ (l : L). (tells l).downs + 1 < 2 ^ 64) (sym is.link) count; reader = is.reader; held = is.held; posted = is.posted }

  -- a link's conversation, of the link and its turns
  pub voice_ran : (conversation : List Saying) (spoken : LinkVoice L G) → IsVoiceOf gate sender link turns voice → (h : Runs tells hung_up_at closes has_let voice conversation spoken)
      → LinkRan (closes gate sender) turns.items (new_wire (tells link)) conversation (wire_with h.last (unread_in spoken.wire.reader spoken.wire.held))
  voice_ran conversation spoken is h = grind (arith, ran_as)

  -- its gate has let its records pass
  pub voice_let : (conversation : List Saying) (spoken : LinkVoice L G) → IsVoiceOf gate sender link turns voice → Runs tells hung_up_at closes has_let voice conversation spoken → AreLetPass (has_let gate sender) conversation
  voice_let conversation spoken is h = grind arith

  -- it is what it was behind that, but that it was hung up
  pub voice_hung_up : (conversation : List Saying) (spoken : LinkVoice L G) (new : L) (h : Runs tells hung_up_at closes has_let voice conversation spoken) → HasHungUp tells spoken → new ≡ spoken.wire.link → tells new ≡ with_hang_up h.last
  voice_hung_up conversation spoken new h up same = ap tells same ∙ is_hung_up tells hung_up_at h.last spoken.wire.link up h.ends

  pub voice_last : (conversation : List Saying) (spoken : LinkVoice L G) (new : L) → IsVoiceOf gate sender link turns voice → Runs tells hung_up_at closes has_let voice conversation spoken → HasHungUp tells spoken → new ≡ spoken.wire.link
      → IsHungUpLast tells hung_up_at link new
  voice_last conversation spoken new is h up same =
      subst (λ (l : L). IsHungUpLast tells hung_up_at link l) (sym same)
      (is_hung_up_last tells hung_up_at link h.last spoken.wire.link
      (ran_up (closes gate sender) turns.items (new_wire (tells link)) conversation (wire_with h.last (unread_in spoken.wire.reader spoken.wire.held)) (voice_ran conversation spoken is h)) up h.ends)

-- what a link's thread comes to
pub said_turns : {L G R : Type 0} (tells : L → LinkView) (hung_up_at : L → LinkView → Type 0) (closes : G → Sender → ℕ → Bool) (has_let : G → Sender → ℕ → Type 0) (gate : G) (turns : Vec Turn) (old : LinkParts L R) (speaker : LinkVoice L G) (voice : Voice (LinkVoice L G) Event (Result Reply Refusal) R) (end : LinkEnd L R)
    → IsVoiceOf gate old.post.sender old.link turns speaker → HasSpoken (Runs tells hung_up_at closes has_let) speaker voice → HasHungUp tells voice.speaker
    → end.post ≡ voice.talk.post → end.tap ≡ voice.talk.tap → end.replies ≡ voice.talk.replies → end.link ≡ voice.speaker.wire.link → SaidTurns tells (closes gate old.post.sender) (has_let gate old.post.sender) turns.items old end
said_turns tells hung_up_at closes has_let gate turns old speaker voice end is h up post tap replies link = record {
  conversation = h.conversation;
  unread = unread_in voice.speaker.wire.reader voice.speaker.wire.held;
  last = h.spoke.last;
  ran = voice_ran tells hung_up_at closes has_let gate old.post.sender old.link turns speaker h.conversation voice.speaker is h.spoke;
  hangs_up = voice_hung_up tells hung_up_at closes has_let gate old.post.sender old.link turns speaker h.conversation voice.speaker end.link h.spoke up link;
  let_pass = voice_let tells hung_up_at closes has_let gate old.post.sender old.link turns speaker h.conversation voice.speaker is h.spoke;
  sent = ap (λ (p : PostView Event). p.sent) post ∙ h.sent;
  rest = h.rest;
  passed = ap (λ (e : TapEnd (Result Reply Refusal)). e.passed) tap ∙ h.passed;
  replies = ap (λ (v : Vec (Result Reply Refusal)). v.items) replies ∙ (h.replies ∙ sym (ap (λ (e : TapEnd (Result Reply Refusal)). e.passed) tap));
  closed = ap (λ (e : TapEnd (Result Reply Refusal)). e.closed) tap ∙ h.closed;
}

-- what it said, whether or not it took all its turns
pub said_in_turn : {L S R : Type 0} (voice : Voice S Event (Result Reply Refusal) R) (end : LinkEnd L R) → SpokeInTurn voice.talk → end.post ≡ voice.talk.post → end.tap ≡ voice.talk.tap → SaidInTurn end
said_in_turn voice end h post tap = grind arith
