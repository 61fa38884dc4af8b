-- One letter more, or one end mark.
use Rattle.std.proofs.Common.{◌≡◌, ◌<◌, ◌+◌, ℕ, List, [], ◌∷◌, ◌++◌, length, take, drop, get_or, sym, refl, ap, ◌∙◌, subst, append_assoc, add-one, arith}
use Rattle.std.proofs.Math.Seq.{take-suc}
use Rattle.mr_threads.proofs.Names.{Core, Entry, Exchange, GivesAnswer, GivesAnswers, Note, RanShort, Replays, Said, Sender, Serves, ServesPart, Serving}
use Rattle.mr_threads.proofs.Names.{ServingPart, TapEnd, TellsBoth, TellsPart, answers_heard, answers_to, append-nil, closed_feeds, closed_replies, letter_in}
use Rattle.mr_threads.proofs.Names.{letters_in, letters_with_senders, map-append, said_by, take-append-drop, with_items}
use Rattle.mr_lane.specs.declared.piece.Piece.TheVariants.{Item, End}
use Rattle.mr_threads.specs.inner.Exchange.{exchange}
use Rattle.mr_threads.specs.declared.core_parts.Replies.{Replies}
use Rattle.mr_threads.specs.declared.core_parts.Feeds.{Feeds}

-- ---- lists

-- the first of a list, and one more
pub take-more : {T : Type 0} (all : List T) (n : ℕ) (t : T) → n < length all → t ≡ get_or all n t → take (n + 1) all ≡ take n all ++ t ∷ []
take-more all n t within is = ap (λ k. take k all) (add-one n) ∙ (take-suc all n t within ∙ ap (λ u. take n all ++ u ∷ []) (sym is))

-- what is before one, it, and what is behind it
pub take-split : {T : Type 0} (all : List T) (n : ℕ) (t : T) → n < length all → t ≡ get_or all n t → all ≡ take n all ++ t ∷ drop (n + 1) all
take-split all n t within is =
    sym (take-append-drop (n + 1) all) ∙ (ap (λ l. l ++ drop (n + 1) all) (take-more all n t within is) ∙ append_assoc (take n all) (t ∷ []) (drop (n + 1) all))

-- ---- lanes

-- items after items
pub with_items-append : {T : Type 0} (e f g : TapEnd T) (xs ys : List T) → f ≡ with_items e xs → g ≡ with_items f ys → g ≡ with_items e (xs ++ ys)
with_items-append e f g xs ys h k = k ∙ (ap (λ x. with_items x ys) h ∙ ap (λ l. record e { passed = l }) (append_assoc e.passed xs ys))

pub with_items-nil : {T : Type 0} (e : TapEnd T) → e ≡ with_items e []
with_items-nil e = ap (λ l. record e { passed = l }) (sym (append-nil e.passed))

-- the letters among notes, and one note more
pub letters_in-append : {T : Type 0} (xs ys : List (Note T)) → letters_in (xs ++ ys) ≡ letters_in xs ++ letters_in ys
letters_in-append [] ys = refl
letters_in-append (x ∷ xs) ys = ap (λ l. letter_in x.sender x.piece ++ l) (letters_in-append xs ys) ∙ sym (append_assoc (letter_in x.sender x.piece) (letters_in xs) (letters_in ys))

module _ {E A : Type 0} where
  -- the conversation of one sender, and exchanges after exchanges
  pub said_by-append : (sender : Sender) (xs ys : List (Exchange E A)) → said_by sender (xs ++ ys) ≡ said_by sender xs ++ said_by sender ys
  said_by-append sender [] ys = refl
  said_by-append sender (x ∷ xs) ys = grind (arith, said_by-append sender xs ys)

  pub answers_to-append : (sender : Sender) (xs ys : List (Exchange E A)) → answers_to sender (xs ++ ys) ≡ answers_to sender xs ++ answers_to sender ys
  answers_to-append sender xs ys = ap answers_heard (said_by-append sender xs ys) ∙ map-append (λ (x : Said E A). x.answer) (said_by sender xs) (said_by sender ys)

  -- exchanges after exchanges
  pub Replays-append : {M : Type 0} (steps : M → E → A → M → Type 0) (s t u : M) (xs ys : List (Exchange E A)) → Replays steps s xs t → Replays steps t ys u → Replays steps s (xs ++ ys) u
  Replays-append steps s t u [] ys h k = subst (λ z. Replays steps z ys u) h k
  Replays-append steps s t u (x ∷ xs) ys h k = (h.0, h.1, Replays-append steps h.0 t u xs ys h.2 k)

  gives-append : {R : Type 0} (old mid new : Replies A R) (xs ys : List (Exchange E A)) → GivesAnswers old xs mid → GivesAnswers mid ys new → GivesAnswers old (xs ++ ys) new
  gives-append old mid new xs ys h k = grind (arith, with_items-append, answers_to-append)

  -- one answer is the answer of one exchange
  pub gives_one : {R : Type 0} (old new : Replies A R) (sender : Sender) (letter : E) (answer : A) → GivesAnswer old sender answer new → GivesAnswers old (exchange sender letter answer ∷ []) new
  gives_one old new sender letter answer h = grind arith

-- entries after entries
tells-append : {R : Type 0} (old mid new : Feeds R) (xs ys : List Entry) → TellsBoth old xs mid → TellsBoth mid ys new → TellsBoth old (xs ++ ys) new
tells-append old mid new xs ys h k = grind (arith, with_items-append)

-- the entries before one were told
pub told_before : {R : Type 0} (old new : Feeds R) (all : List Entry) (n : ℕ) (entry : Entry) → n < length all → entry ≡ get_or all n entry
    → new.indexer ≡ with_items old.indexer (take n all) → new.notifier ≡ with_items old.notifier (take n all) → TellsPart old all new
told_before old new all n entry within is indexer notifier = record {
  told = take n all;
  untold = entry;
  left = drop (n + 1) all;
  in_order = take-split all n entry within is;
  tells = record { indexer = indexer; notifier = notifier };
}

module _ {M E A R : Type 0} (steps : M → E → A → M → Type 0) (feed_of : M → List Entry) where
  serves-append : (old mid new : Core M E A R) (xs ys : List (Exchange E A)) → Serves steps feed_of old xs mid → Serves steps feed_of mid ys new → Serves steps feed_of old (xs ++ ys) new
  serves-append old mid new xs ys h k = record {
    replays = Replays-append steps old.machine mid.machine new.machine xs ys h.replays k.replays;
    answers = gives-append old.replies mid.replies new.replies xs ys h.answers k.answers;
    entries = h.entries ++ k.entries;
    grows = k.grows ∙ (ap (λ l. l ++ k.entries) h.grows ∙ append_assoc (feed_of old.machine) h.entries k.entries);
    tells = tells-append old.feeds mid.feeds new.feeds h.entries k.entries h.tells k.tells;
  }

  -- nothing is served as the desk has taken nothing
  pub serving_none : (core : Core M E A R) → core.desk.taken ≡ [] → Serving steps feed_of core core
  serving_none core h = grind (arith, with_items-nil, append-nil)

  -- what was served so far, at a core that differs in its desk alone
  served_at : (old core mid : Core M E A R) (xs : List (Exchange E A)) → Serves steps feed_of old xs core
      → mid.machine ≡ core.machine → mid.replies ≡ core.replies → mid.feeds ≡ core.feeds → Serves steps feed_of old xs mid
  served_at old core mid xs h same_machine same_replies same_feeds = grind arith

  -- one letter more among those that were taken
  letter_more : (core mid new : Core M E A R) (xs : List (Exchange E A)) (sender : Sender) (letter : E) (answer : A) → letters_in core.desk.taken ≡ letters_with_senders xs
      → mid.desk.taken ≡ core.desk.taken ++ record { sender = sender; piece = Item letter } ∷ [] → new.desk ≡ mid.desk
      → letters_in new.desk.taken ≡ letters_with_senders (xs ++ exchange sender letter answer ∷ [])
  letter_more core mid new xs sender letter answer h taken same_desk = grind (arith, letters_in-append, map-append)

  -- the desk took one letter more, and it was served
  pub serving_more : (old core mid new : Core M E A R) (sender : Sender) (letter : E) (answer : A) → Serving steps feed_of old core
      → mid.machine ≡ core.machine → mid.replies ≡ core.replies → mid.feeds ≡ core.feeds
      → mid.desk.taken ≡ core.desk.taken ++ record { sender = sender; piece = Item letter } ∷ [] → new.desk ≡ mid.desk
      → Serves steps feed_of mid (exchange sender letter answer ∷ []) new → Serving steps feed_of old new
  serving_more old core mid new sender letter answer h same_machine same_replies same_feeds taken same_desk one = record {
    exchanges = h.exchanges ++ exchange sender letter answer ∷ [];
    letters = letter_more core mid new h.exchanges sender letter answer h.letters taken same_desk;
    serves = serves-append old mid new h.exchanges (exchange sender letter answer ∷ []) (served_at old core mid h.exchanges h.serves same_machine same_replies same_feeds) one;
  }

  -- the same, but of what came into the feed an entry was not told
  pub serving_part : (old core mid new : Core M E A R) (sender : Sender) (letter : E) (answer : A) → Serving steps feed_of old core
      → mid.machine ≡ core.machine → mid.replies ≡ core.replies → mid.feeds ≡ core.feeds
      → mid.desk.taken ≡ core.desk.taken ++ record { sender = sender; piece = Item letter } ∷ [] → new.desk ≡ mid.desk
      → ServesPart steps feed_of mid (exchange sender letter answer ∷ []) new → ServingPart steps feed_of old new
  serving_part old core mid new sender letter answer h same_machine same_replies same_feeds taken same_desk one = record {
    before = h.exchanges;
    last = exchange sender letter answer;
    letters = letter_more core mid new h.exchanges sender letter answer h.letters taken same_desk;
    between = mid;
    served_before = served_at old core mid h.exchanges h.serves same_machine same_replies same_feeds;
    serves = one;
  }

  -- all spouts were closed behind that, and the letters that came were dropped
  pub ran_short : (old mid new : Core M E A R) (more : List (Note E)) → ServingPart steps feed_of old mid → new.machine ≡ mid.machine
      → new.replies ≡ closed_replies mid.replies → new.feeds ≡ closed_feeds mid.feeds → new.desk.taken ≡ mid.desk.taken ++ more → RanShort steps feed_of old new
  ran_short old mid new more h machine replies feeds taken = record {
    exchanges = h.before ++ h.last ∷ [];
    unanswered = letters_in more;
    letters = ap letters_in taken ∙ (letters_in-append mid.desk.taken more ∙ ap (λ l. l ++ letters_in more) h.letters);
    before = h.before;
    last = h.last;
    in_order = refl;
    between = h.between;
    served_before = h.served_before;
    served = mid;
    serves = h.serves;
    machine = machine;
    replies_closed = replies;
    feeds_closed = feeds;
  }

  -- the machine of a core that ran short was led by all letters that were answered
  pub replays_short : (old new : Core M E A R) (h : RanShort steps feed_of old new) → Replays steps old.machine h.exchanges h.served.machine
  replays_short old new h = grind (arith, Replays-append)

  -- the desk took an end mark more
  pub serving_mark : (old core new : Core M E A R) (sender : Sender) → Serving steps feed_of old core
      → new.machine ≡ core.machine → new.replies ≡ core.replies → new.feeds ≡ core.feeds
      → new.desk.taken ≡ core.desk.taken ++ record { sender = sender; piece = End } ∷ [] → Serving steps feed_of old new
  serving_mark old core new sender h same_machine same_replies same_feeds taken = grind (arith, letters_in-append, append-nil, served_at)
