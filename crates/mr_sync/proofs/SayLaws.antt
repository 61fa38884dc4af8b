-- frames that are said
use Rattle.std.proofs.Common.{◌≡◌, ℕ, ◌+◌, ◌<◌, List, [], ◌∷◌, ◌++◌, Option, Some, Result, Ok, Err, take, length, get_or, refl, ap, sym, ◌∙◌, append_assoc, append-nil}
use Rattle.mr_sync.proofs.Names.{FrontIs, OnOk, Reply, Vec, cons_option, filter_map, filter_map-append, joined, take_one}
use Rattle.std.proofs.lemmas.Grind.{flat_map-append}

-- one reply more
pub one_more : (f : Reply → Option (List ℕ)) (replies : List Reply) (i : ℕ) (x : Reply) (start old new : List (List ℕ)) → old ≡ start ++ filter_map f (take i replies) → i < length replies → x ≡ get_or replies i x → new ≡ old ++ filter_map f (x ∷ []) → new ≡ start ++ filter_map f (take (i + 1) replies)
one_more f replies i x start old new so_far within is put =
    put
    ∙ ap (λ (l : List (List ℕ)). l ++ filter_map f (x ∷ [])) so_far
    ∙ append_assoc start (filter_map f (take i replies)) (filter_map f (x ∷ []))
    ∙ ap (λ (l : List (List ℕ)). start ++ l) (sym (filter_map-append f (take i replies) (x ∷ [])))
    ∙ ap (λ (l : List Reply). start ++ filter_map f l) (sym (take_one replies i x within is))

-- the frame of a reply that has one
pub said_one : (f : Reply → Option (List ℕ)) (reply given : Reply) (old new : List (List ℕ)) (b frame : List ℕ) → new ≡ old ++ b ∷ [] → b ≡ frame → reply ≡ given → f given ≡ Some frame → new ≡ old ++ filter_map f (reply ∷ [])
said_one f reply given old new b frame put is same has =
    put
    ∙ ap (λ (x : List ℕ). old ++ x ∷ []) is
    ∙ sym (ap (λ (o : Option (List ℕ)). old ++ cons_option o []) (ap f same ∙ has))

-- what follows where the answer is `Ok`
pub on_ok : {X E : Type 0} {P Q : Type 0} (r : Result X E) → OnOk r P → (P → Q) → OnOk r Q
on_ok (Ok x) h f = f h
on_ok (Err e) h f = tt

-- what holds holds where the answer is `Ok`
pub so_ok : {X E : Type 0} {P : Type 0} (r : Result X E) → P → OnOk r P
so_ok (Ok x) p = p
so_ok (Err e) p = tt

-- the bytes of frames, one frame more
pub text_more : (front : List (Vec ℕ)) (f : Vec ℕ) → joined (front ++ f ∷ []) ≡ joined front ++ f.items
text_more front f = flat_map-append (λ (v : Vec ℕ). v.items) front (f ∷ []) ∙ ap (λ (l : List ℕ). joined front ++ l) (append-nil f.items)

-- one frame more
pub front_more : (old mid new : List (Vec ℕ)) (f : Vec ℕ) (bytes now : List ℕ) → FrontIs old bytes mid → mid ≡ f ∷ new → now ≡ bytes ++ f.items → FrontIs old now new
front_more old mid new f bytes now h e put = record {
  front = h.front ++ f ∷ [];
  all = h.all ∙ ap (λ (l : List (Vec ℕ)). h.front ++ l) e ∙ sym (append_assoc h.front (f ∷ []) new);
  are = put ∙ ap (λ (l : List ℕ). l ++ f.items) h.are ∙ sym (text_more h.front f);
}
