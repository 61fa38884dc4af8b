-- The reply to a letter: the one that was given at once, or else the last that the commit hands out.
use Rattle.std.proofs.Common.{◌≡◌, ◌≢◌, Bool, false, List, [], ◌∷◌, ◌++◌, Option, Some, None, Ok, refl, sym, ap, subst, ◌∙◌}
use Rattle.mr_kept_node.proofs.Names.{Asked, Asks, Event, Form, IfSome, Journaled, MatchBool, Reply, SameJournal, is_some, leaving}

-- the reply was given, or it is the last of those that are held back
abbrev pub IsReplied : Option Reply → (before after : List Reply) → Reply → Type 0
IsReplied None before after reply = after ≡ before ++ reply ∷ []
IsReplied (Some given) before after reply = given ≡ reply

module _ {K D V : Type 0} (form : Form K) (old mid : Journaled K D V) (letter : Event) where
  -- a letter that was taken was admitted, and so it has a reply
  pub asked_by : (now : Option Reply) → Asks form old letter (Ok now) mid → SameJournal old mid → (reply : Reply) × Asked form old letter reply mid × IsReplied now (leaving old) (leaving mid) reply
  asked_by None h same = (
    h.1.0,
    record {
      may_keep = h.1.1.0;
      steps = h.1.1.1;
      journal = same;
      held = subst (λ (b : Bool). MatchBool b (leaving mid ≡ leaving old ++ h.1.0 ∷ []) (leaving mid ≡ leaving old)) (sym h.0) h.1.2;
    },
    h.1.2,
  )
  asked_by (Some reply) h same = (
    reply,
    record {
      may_keep = h.1.0.0;
      steps = h.1.0.1;
      journal = same;
      held = subst (λ (b : Bool). MatchBool b (leaving mid ≡ leaving old ++ reply ∷ []) (leaving mid ≡ leaving old)) (sym h.0) h.1.1;
    },
    refl,
  )

not_empty : (before : List Reply) (reply : Reply) → before ++ reply ∷ [] ≢ []
not_empty [] reply h = cc
not_empty (x ∷ xs) reply h = cc

-- where the reply wasn't given, something was handed out
pub handed : (now : Option Reply) (before after items : List Reply) (reply : Reply) → IsReplied now before after reply → items ≡ after → is_some now ≡ false → items ≢ []
handed None before after items reply is so none empty = not_empty before reply (sym (so ∙ is) ∙ empty)
handed (Some given) before after items reply is so none empty = absurd (cc)

abbrev last_of : Reply → List Reply → Reply
last_of other [] = other
last_of other (x ∷ xs) = last_of x xs

last_is : (other : Reply) (before : List Reply) (reply : Reply) → last_of other (before ++ reply ∷ []) ≡ reply
last_is other [] reply = refl
last_is other (x ∷ xs) reply = last_is x xs reply

-- what is answered is the reply
pub reply_given : (reply answer : Reply) (now : Option Reply) (before after items : List Reply) → IsReplied now before after reply → items ≡ after
    → IfSome now (λ given. answer ≡ given) → (is_some now ≡ false → (front : List Reply) × (items ≡ front ++ answer ∷ [])) → answer ≡ reply
reply_given reply answer None before after items is so some none =
    let last = none refl in
    sym (last_is answer last.0 answer) ∙ ap (last_of answer) (sym last.1 ∙ so ∙ is) ∙ last_is answer before reply
reply_given reply answer (Some given) before after items is so some none = some ∙ is
