-- lists of pairs of hellos, each spelled in 88 bytes
use Rattle.std.proofs.Common.{◌≡◌, ◌≢◌, ◌<◌, ◌≤◌, ◌==◌, ◌⊎◌, ℕ, ◌+◌, Bool, true, false, inl, inr, List, [], ◌∷◌, ◌++◌, length, take, drop, Option, Some, None, refl, sym, ap, subst, ◌∙◌, append_assoc, arith}
use Rattle.mr_sync.proofs.Names.{All, AllByRecursion, AllWithin-more, AreSpelled, HasNoneBefore, Hello, Hellos, HoldsAt, IsAnswer, IsHellos, MatchOption, Ok}
use Rattle.mr_sync.proofs.Names.{Result, Vec, append-nil, drop_at, eqb-true, false≢true, flat_map, flat_map-append, get_or_default, hellos_bytes}
use Rattle.mr_sync.proofs.Names.{length-append, slice_index_or, take-append-drop, take_at, then_some, to_be_bytes, w32}
use Rattle.mr_talk.specs.Hello.{IsHello, flag, hello_bytes}
use Rattle.mr_talk.specs.declared.hello.HelloFault.{HelloFault}
use Rattle.mr_talk.proofs.HelloLaws.{one_hello}

-- one pair more
pub grow : (talks : List Hellos) (x : Hellos) (bytes rest front behind : List ℕ) → bytes ≡ flat_map hellos_bytes talks ++ rest → front ≡ take 88 rest → behind ≡ drop 88 rest → front ≡ hellos_bytes x → bytes ≡ flat_map hellos_bytes (talks ++ x ∷ []) ++ behind
grow talks x bytes rest front behind so_far is_front is_behind spelled =
    let cut : rest ≡ front ++ behind = sym (take-append-drop 88 rest) ∙ ap (λ (l : List ℕ). l ++ drop 88 rest) (sym is_front) ∙ ap (λ (l : List ℕ). front ++ l) (sym is_behind) in
    let one : flat_map hellos_bytes (talks ++ x ∷ []) ≡ flat_map hellos_bytes talks ++ hellos_bytes x =
    flat_map-append hellos_bytes talks (x ∷ []) ∙ ap (λ (l : List ℕ). flat_map hellos_bytes talks ++ l) (append-nil (hellos_bytes x)) in
    so_far ∙ ap (λ (l : List ℕ). flat_map hellos_bytes talks ++ l) (cut ∙ ap (λ (l : List ℕ). l ++ behind) spelled) ∙
    sym (append_assoc (flat_map hellos_bytes talks) (hellos_bytes x) behind) ∙ ap (λ (l : List ℕ). l ++ behind) (sym one)

pub all_more : (talks : List Hellos) (x : Hellos) → AllByRecursion IsHellos talks → IsHellos x → AllByRecursion IsHellos (talks ++ x ∷ [])
all_more [] x all is = (is, tt)
all_more (y ∷ talks) x all is = (all.0, all_more talks x all.1 is)

-- a hello has 44 bytes
pub hello_long : (h : Hello) → IsHello h → length (hello_bytes h) ≡ 44
hello_long h is =
    let ends : List ℕ = flag h.is_waiting ∷ flag h.keeps_all ∷ [] in
    let known : List ℕ = to_be_bytes w32 h.known ++ ends in
    let issued : List ℕ = to_be_bytes w32 h.issued ++ known in
    let known_long : length known ≡ 6 = length-append (to_be_bytes w32 h.known) ends in
    let issued_long : length issued ≡ 10 = length-append (to_be_bytes w32 h.issued) known ∙ ap (λ (n : ℕ). 4 + n) known_long in
    omega (arith, issued_long, length-append h.birth (h.knows ++ (h.tip ++ issued)), length-append h.knows (h.tip ++ issued), length-append h.tip issued, is.birth, is.knows, is.tip)

-- pairs that are spelled alike, with what is behind them, are alike
pair_long : (x : Hellos) → IsHellos x → length (hellos_bytes x) ≡ 88
pair_long x is = omega (arith, length-append (hello_bytes x.mine) (hello_bytes x.theirs), hello_long x.mine is.0, hello_long x.theirs is.1)

same_front : (p q x y : List ℕ) (n : ℕ) → length p ≡ n → length q ≡ n → p ++ x ≡ q ++ y → (p ≡ q) × (x ≡ y)
same_front p q x y n hp hq e = (sym (take_at p x n hp) ∙ ap (take n) e ∙ take_at q y n hq, sym (drop_at p x n hp) ∙ ap (drop n) e ∙ drop_at q y n hq)

one_pair : (x y : Hellos) → IsHellos x → IsHellos y → hellos_bytes x ≡ hellos_bytes y → x ≡ y
one_pair x y ix iy e =
    let parts = same_front (hello_bytes x.mine) (hello_bytes y.mine) (hello_bytes x.theirs) (hello_bytes y.theirs) 44 (hello_long x.mine ix.0) (hello_long y.mine iy.0) e in
    let mine : x.mine ≡ y.mine = one_hello x.mine y.mine ix.0 iy.0 parts.0 in
    let theirs : x.theirs ≡ y.theirs = one_hello x.theirs y.theirs ix.1 iy.1 parts.1 in
    ap (λ (h : Hello). record { mine = h; theirs = x.theirs }) mine ∙ ap (λ (h : Hello). record { mine = y.mine; theirs = h }) theirs

pub one_list : (xs ys : List Hellos) → AllByRecursion IsHellos xs → AllByRecursion IsHellos ys → flat_map hellos_bytes xs ≡ flat_map hellos_bytes ys → xs ≡ ys
one_list [] [] ix iy e = refl
one_list [] (y ∷ ys) ix iy e = absurd (omega (arith, ap length e, length-append (hellos_bytes y) (flat_map hellos_bytes ys), pair_long y iy.0))
one_list (x ∷ xs) [] ix iy e = absurd (omega (arith, ap length e, length-append (hellos_bytes x) (flat_map hellos_bytes xs), pair_long x ix.0))
one_list (x ∷ xs) (y ∷ ys) ix iy e =
    let parts = same_front (hellos_bytes x) (hellos_bytes y) (flat_map hellos_bytes xs) (flat_map hellos_bytes ys) 88 (pair_long x ix.0) (pair_long y iy.0) e in
    ap (λ (h : Hellos). h ∷ xs) (one_pair x y ix.0 iy.0 parts.0) ∙ ap (λ (l : List Hellos). y ∷ l) (one_list xs ys ix.1 iy.1 parts.1)

-- no pair is spelled where the second part is no hello
pub no_theirs : (bytes behind : List ℕ) (read : Result Hello HelloFault) → behind ≡ drop 44 bytes → ((h : Hello) → IsHello h → behind ≡ hello_bytes h → read ≡ Ok h) → ((h : Hello) → read ≡ Ok h → ⊥) →
    (talk : Hellos) → IsHellos talk → bytes ≡ hellos_bytes talk → ⊥
no_theirs bytes behind read is_behind whole none talk is spelled =
    none talk.theirs (whole talk.theirs is.1 (is_behind ∙ ap (drop 44) spelled ∙ drop_at (hello_bytes talk.mine) (hello_bytes talk.theirs) 44 (hello_long talk.mine is.0)))

-- a list of pairs that is spelled by what these pairs are and what is behind them begins with them
record Begins (talks written : List Hellos) (rest : List ℕ) : Type 0 where
  more : List Hellos
  written_is : written ≡ talks ++ more
  are : AllByRecursion IsHellos more
  rest_is : rest ≡ flat_map hellos_bytes more

begins : (talks written : List Hellos) (rest : List ℕ) → AllByRecursion IsHellos talks → AllByRecursion IsHellos written → flat_map hellos_bytes talks ++ rest ≡ flat_map hellos_bytes written → Begins talks written rest
begins [] written rest it iw e = record { more = written; written_is = refl; are = iw; rest_is = e }
begins (x ∷ talks) [] rest it iw e = absurd (omega (arith, ap length e, length-append (hellos_bytes x ++ flat_map hellos_bytes talks) rest, length-append (hellos_bytes x) (flat_map hellos_bytes talks), pair_long x it.0))
begins (x ∷ talks) (y ∷ written) rest it iw e =
    let parts = same_front (hellos_bytes x) (hellos_bytes y) (flat_map hellos_bytes talks ++ rest) (flat_map hellos_bytes written) 88 (pair_long x it.0) (pair_long y iw.0)
    (sym (append_assoc (hellos_bytes x) (flat_map hellos_bytes talks) rest) ∙ e) in
    let more = begins talks written rest it.1 iw.1 parts.1 in
    record { more = more.more; written_is = ap (λ (h : Hellos). h ∷ written) (sym (one_pair x y it.0 iw.0 parts.0)) ∙ ap (λ (l : List Hellos). x ∷ l) more.written_is; are = more.are; rest_is = more.rest_is }

-- no list is spelled where what is behind some pairs begins with no pair
pub no_pair : (bytes rest front : List ℕ) (talks : List Hellos) → bytes ≡ flat_map hellos_bytes talks ++ rest → AllByRecursion IsHellos talks → 88 ≤ length rest → front ≡ take 88 rest →
    ((x : Hellos) → IsHellos x → front ≡ hellos_bytes x → ⊥) → (written : List Hellos) → AreSpelled bytes written → ⊥
no_pair bytes rest front talks so_far are long is_front none written spelled = of more.more more.are more.rest_is
  where
    more : Begins talks written rest
    more = begins talks written rest are spelled.are (sym so_far ∙ spelled.spelled)

    of : (more : List Hellos) → AllByRecursion IsHellos more → rest ≡ flat_map hellos_bytes more → ⊥
    of [] all is = omega (arith, long, ap length is)
    of (x ∷ more) all is = none x all.0 (is_front ∙ ap (take 88) is ∙ take_at (hellos_bytes x) (flat_map hellos_bytes more) 88 (pair_long x all.0))

-- What was read of all bytes, or of as many pairs as there may be: these pairs where nothing is behind them, and no list else.
pub read_all : (bytes rest : List ℕ) (talks : Vec Hellos) (is_end : Bool) (found : Option (Vec Hellos)) → bytes ≡ flat_map hellos_bytes talks.items ++ rest → AllByRecursion IsHellos talks.items → length talks.items ≤ 256 →
    ((length talks.items ≡ 256) ⊎ (length rest < 88)) → is_end ≡ (length rest == 0) → found ≡ then_some is_end talks →
    MatchOption found ((written : List Hellos) → AreSpelled bytes written → ⊥) (λ talks. AreSpelled bytes talks.items)
read_all bytes rest talks true found so_far are few ends is_end found_is =
    subst (λ (r : Option (Vec Hellos)). MatchOption r ((written : List Hellos) → AreSpelled bytes written → ⊥) (λ talks. AreSpelled bytes talks.items)) (sym found_is)
    record { are = are; few = few; spelled = so_far ∙ ap (λ (l : List ℕ). flat_map hellos_bytes talks.items ++ l) (none_long rest (eqb-true (length rest) 0 (sym is_end))) ∙ append-nil (flat_map hellos_bytes talks.items) }
  where
    none_long : (l : List ℕ) → length l ≡ 0 → l ≡ []
    none_long [] is = refl
    none_long (x ∷ l) is = absurd (omega (arith, is))
read_all bytes rest talks false found so_far are few ends is_end found_is =
    subst (λ (r : Option (Vec Hellos)). MatchOption r ((written : List Hellos) → AreSpelled bytes written → ⊥) (λ talks. AreSpelled bytes talks.items)) (sym found_is)
    (λ written spelled. let more = begins talks.items written rest are spelled.are (sym so_far ∙ spelled.spelled) in of written spelled.few more.more more.written_is more.are more.rest_is ends)
  where
    of : (written : List Hellos) → length written ≤ 256 → (more : List Hellos) → written ≡ talks.items ++ more → AllByRecursion IsHellos more → rest ≡ flat_map hellos_bytes more → ((length talks.items ≡ 256) ⊎ (length rest < 88)) → ⊥
    of written few [] is all rest_is ends = false≢true (is_end ∙ ap (λ (l : List ℕ). length l == 0) rest_is)
    of written few (x ∷ more) is all rest_is (inl full) = omega (arith, few, full, ap length is, length-append talks.items (x ∷ more))
    of written few (x ∷ more) is all rest_is (inr short) = omega (arith, short, ap length rest_is, length-append (hellos_bytes x) (flat_map hellos_bytes more), pair_long x all.0)

-- what is read is what was written
pub read_same : (bytes : List ℕ) (found : Option (Vec Hellos)) → MatchOption found ((written : List Hellos) → AreSpelled bytes written → ⊥) (λ talks. AreSpelled bytes talks.items) →
    (written : List Hellos) → AreSpelled bytes written → MatchOption found ⊥ (λ talks. talks.items ≡ written)
read_same bytes None none written spelled = none written spelled
read_same bytes (Some talks) are written spelled = one_list talks.items written are.are spelled.are (sym are.spelled ∙ spelled.spelled)

-- the talk at k is the first in which the other side said this
pub said_at : (talks : List Hellos) (theirs : Hello) (k : ℕ) (talk : Hellos) → k < length talks → talk ≡ slice_index_or talks k talk → talk.theirs ≡ theirs →
    HoldsAt (λ other. other ≡ record { mine = talk.mine; theirs = theirs }) talks k
said_at talks theirs k talk lt at said = λ d. get_or_default talks k d talk lt ∙ sym at ∙ ap (λ (h : Hello). record { mine = talk.mine; theirs = h }) said

-- and if it isn't, there is none before the next
pub none_more : (talks : List Hellos) (theirs : Hello) (k : ℕ) (talk : Hellos) → k < length talks → talk ≡ slice_index_or talks k talk → HasNoneBefore talks theirs k → talk.theirs ≢ theirs → HasNoneBefore talks theirs (k + 1)
none_more talks theirs k talk lt at none other = AllWithin-more (λ talk. talk.theirs ≢ theirs) talks 0 k none
    (λ d is. other (ap (λ (t : Hellos). t.theirs) (at ∙ get_or_default talks k talk d lt) ∙ is))

-- what holds of all talks holds of the one that is answered
pub answered_so : (P : Hellos → Type 0) (talks : List Hellos) (theirs mine : Hello) → IsAnswer talks theirs (Some mine) → All P talks → P (record { mine = mine; theirs = theirs })
answered_so P talks theirs mine is all = subst P (is.3 (record { mine = mine; theirs = theirs })) (all is.0 (record { mine = mine; theirs = theirs }) is.1)
