-- The fields of a hello, and what each says of the bytes.
use Rattle.std.proofs.Common.{◌≡◌, ◌≢◌, ℕ, ◌+◌, ◌^◌, ◌<◌, ◌≤◌, Bool, true, false, List, [], ◌∷◌, ◌++◌, length, get_or, take, drop, Result, Ok, Err, refl, sym, ap, subst, ◌∙◌, append_assoc, arith}
use Rattle.mr_talk.proofs.Names.{AUTHORS, HELLO_FORMAT, HasId, IsHello, IsOfFormat, Reads, be_bytes_4, drop_at, drop_more, flag, from_be_bytes}
use Rattle.mr_talk.proofs.Names.{from_be_bytes-to_be_bytes_4, get_or-drop, hello_bytes, length-append, length-drop, length-take-le, take-append-drop, take_at}
use Rattle.mr_talk.proofs.Names.{to_be_bytes, w32}
use Rattle.mr_talk.specs.declared.hello.Hello.{Hello}
use Rattle.mr_talk.specs.declared.hello.HelloFault.{HelloFault}
use Rattle.mr_talk.specs.declared.hello.HelloFault.TheVariants.{Length, Format, Id, Waiting, KeepsAll}
use Rattle.mr_talk.proofs.MessageLaws.{IsBytes, bytes_take, bytes_drop}
use Rattle.mr_talk.specs.inner.Hello.{AreFields}

-- what the fields say of single bytes
record Tells (bytes : List ℕ) (format id waiting keeps_all : ℕ) : Type 0 where
  pub long : length bytes ≡ 44
  pub first : get_or bytes 0 0 ≡ format
  pub second : get_or bytes 1 0 ≡ id
  pub third : get_or bytes 42 0 ≡ waiting
  pub last : get_or bytes 43 0 ≡ keeps_all

behind : (p q r s t : List ℕ) → length p ≡ 28 → length q ≡ 4 → length r ≡ 4 → length s ≡ 4 → (drop 40 (p ++ (q ++ (r ++ (s ++ t)))) ≡ t) × (length (p ++ (q ++ (r ++ (s ++ t)))) ≡ 40 + length t)
behind p q r s t hp hq hr hs =
    let front : List ℕ = p ++ (q ++ (r ++ s)) in
    let whole : p ++ (q ++ (r ++ (s ++ t))) ≡ front ++ t =
    sym (append_assoc p (q ++ (r ++ s)) t ∙ ap (λ (x : List ℕ). p ++ x) (append_assoc q (r ++ s) t ∙ ap (λ (x : List ℕ). q ++ x) (append_assoc r s t))) in
    let long : length front ≡ 40 = omega (arith, length-append p (q ++ (r ++ s)), length-append q (r ++ s), length-append r s) in
    (ap (drop 40) whole ∙ drop_at front t 40 long, ap length whole ∙ length-append front t ∙ ap (λ (n : ℕ). n + length t) long)

module _ (bytes : List ℕ) (format id : ℕ) (birth knows tip : List ℕ) (issued known waiting keeps_all : ℕ) (are : AreFields bytes format id birth knows tip issued known waiting keeps_all) where
  tells : Tells bytes format id waiting keeps_all
  tells =
      let r : List ℕ = to_be_bytes w32 issued in
      let s : List ℕ = to_be_bytes w32 known in
      let ends : List ℕ = waiting ∷ keeps_all ∷ [] in
      let rest : List ℕ = birth ++ (knows ++ (tip ++ (r ++ (s ++ ends)))) in
      let front : List ℕ = birth ++ knows in
      let long : length front ≡ 28 = omega (arith, length-append birth knows, are.birth_long, are.knows_long) in
      let same : front ++ (tip ++ (r ++ (s ++ ends))) ≡ rest = append_assoc birth knows (tip ++ (r ++ (s ++ ends))) in
      let b = subst (λ (x : List ℕ). (drop 40 x ≡ ends) × (length x ≡ 42)) same (behind front tip r s ends long are.tip_long refl refl) in
      let third : get_or rest 40 0 ≡ waiting = sym (get_or-drop 40 rest 0 0) ∙ ap (λ (x : List ℕ). get_or x 0 0) b.0 in
      let last : get_or rest 41 0 ≡ keeps_all = sym (get_or-drop 40 rest 1 0) ∙ ap (λ (x : List ℕ). get_or x 1 0) b.0 in
      let here : Tells (format ∷ id ∷ rest) format id waiting keeps_all = record { long = omega (arith, b.1); first = refl; second = refl; third = third; last = last } in
      subst (λ (x : List ℕ). Tells x format id waiting keeps_all) (sym are.whole) here

  pub format_fault : format ≢ HELLO_FORMAT → Reads bytes (Err Format)
  format_fault h = (tells.long, λ e. h (sym tells.first ∙ e))

  module _ (is_format : format ≡ HELLO_FORMAT) where
    of_format : IsOfFormat bytes
    of_format = (tells.long, tells.first ∙ is_format)

    pub id_fault : AUTHORS ≤ id → Reads bytes (Err Id)
    id_fault h = (of_format, subst (λ (n : ℕ). AUTHORS ≤ n) (sym tells.second) h)

    module _ (is_id : id < AUTHORS) where
      has_id : HasId bytes
      has_id = (of_format, subst (λ (n : ℕ). n < AUTHORS) (sym tells.second) is_id)

      pub waiting_fault : 1 < waiting → Reads bytes (Err Waiting)
      waiting_fault h = (has_id, subst (λ (n : ℕ). 1 < n) (sym tells.third) h)

      module _ (has : Bool) (waits : waiting ≡ flag has) where
        flag_low : (b : Bool) → flag b ≤ 1
        flag_low false = omega arith
        flag_low true = omega arith

        low : get_or bytes 42 0 ≤ 1
        low = subst (λ (n : ℕ). n ≤ 1) (sym (tells.third ∙ waits)) (flag_low has)

        pub keeps_all_fault : 1 < keeps_all → Reads bytes (Err KeepsAll)
        keeps_all_fault h = (has_id, low, subst (λ (n : ℕ). 1 < n) (sym tells.last) h)

        pub good : (who : ℕ) → who ≡ id → (all : Bool) → keeps_all ≡ flag all →
            Reads bytes (Ok (record { id = who; birth = birth; knows = knows; tip = tip; issued = issued; known = known; is_waiting = has; keeps_all = all }))
        good who is_who all is_all =
            let in_range : who < AUTHORS = subst (λ (x : ℕ). x < AUTHORS) (sym is_who) is_id in
            let r : List ℕ = to_be_bytes w32 issued in
            let s : List ℕ = to_be_bytes w32 known in (
              record { id = in_range; birth = are.birth_long; knows = are.knows_long; tip = are.tip_long; issued = are.issued_in; known = are.known_in },
              are.whole ∙
                  ap (λ (x : ℕ). x ∷ id ∷ (birth ++ (knows ++ (tip ++ (r ++ (s ++ (waiting ∷ keeps_all ∷ []))))))) is_format ∙
                  ap (λ (x : ℕ). HELLO_FORMAT ∷ x ∷ (birth ++ (knows ++ (tip ++ (r ++ (s ++ (waiting ∷ keeps_all ∷ []))))))) (sym is_who) ∙
                  ap (λ (x : ℕ). HELLO_FORMAT ∷ who ∷ (birth ++ (knows ++ (tip ++ (r ++ (s ++ (x ∷ keeps_all ∷ []))))))) waits ∙
                  ap (λ (x : ℕ). HELLO_FORMAT ∷ who ∷ (birth ++ (knows ++ (tip ++ (r ++ (s ++ (flag has ∷ x ∷ []))))))) is_all,
            )

-- ---- what is written is read

-- the fields of a hello's spelling
written : (h : Hello) → IsHello h → AreFields (hello_bytes h) HELLO_FORMAT h.id h.birth h.knows h.tip h.issued h.known (flag h.is_waiting) (flag h.keeps_all)
written h is = record { whole = refl; birth_long = is.birth; knows_long = is.knows; tip_long = is.tip; issued_in = is.issued; known_in = is.known }

-- lists of one length that begin equal lists are equal, and so is what follows
same_front : (p q x y : List ℕ) (n : ℕ) → length p ≡ n → length q ≡ n → p ++ x ≡ q ++ y → (p ≡ q) × (x ≡ y)
same_front p q x y n hp hq e = (sym (take_at p x n hp) ∙ ap (take n) e ∙ take_at q y n hq, sym (drop_at p x n hp) ∙ ap (drop n) e ∙ drop_at q y n hq)

same_number : (m n : ℕ) → m < 2 ^ 32 → n < 2 ^ 32 → to_be_bytes w32 m ≡ to_be_bytes w32 n → m ≡ n
same_number m n fm fn e = sym (from_be_bytes-to_be_bytes_4 m fm) ∙ ap (from_be_bytes w32) e ∙ from_be_bytes-to_be_bytes_4 n fn

same_flag : (a b : Bool) → flag a ≡ flag b → a ≡ b
same_flag true true e = refl
same_flag false false e = refl
same_flag true false e = absurd (omega (arith, e))
same_flag false true e = absurd (omega (arith, e))

same_ends : (a b c d : ℕ) → ◌≡◌ {A = List ℕ} (a ∷ b ∷ []) (c ∷ d ∷ []) → (a ≡ c) × (b ≡ d)
same_ends a b c d e = (ap (λ (x : List ℕ). get_or x 0 0) e, ap (λ (x : List ℕ). get_or x 1 0) e)

abbrev made : ℕ → List ℕ → List ℕ → List ℕ → ℕ → ℕ → Bool → Bool → Hello
made id birth knows tip issued known waiting all = record { id = id; birth = birth; knows = knows; tip = tip; issued = issued; known = known; is_waiting = waiting; keeps_all = all }

joined : (a b : Hello) → a.id ≡ b.id → a.birth ≡ b.birth → a.knows ≡ b.knows → a.tip ≡ b.tip → a.issued ≡ b.issued → a.known ≡ b.known → a.is_waiting ≡ b.is_waiting → a.keeps_all ≡ b.keeps_all → a ≡ b
joined a b e1 e2 e3 e4 e5 e6 e7 e8 =
    ap (λ (x : ℕ). made x a.birth a.knows a.tip a.issued a.known a.is_waiting a.keeps_all) e1 ∙
    ap (λ (x : List ℕ). made b.id x a.knows a.tip a.issued a.known a.is_waiting a.keeps_all) e2 ∙
    ap (λ (x : List ℕ). made b.id b.birth x a.tip a.issued a.known a.is_waiting a.keeps_all) e3 ∙
    ap (λ (x : List ℕ). made b.id b.birth b.knows x a.issued a.known a.is_waiting a.keeps_all) e4 ∙
    ap (λ (x : ℕ). made b.id b.birth b.knows b.tip x a.known a.is_waiting a.keeps_all) e5 ∙
    ap (λ (x : ℕ). made b.id b.birth b.knows b.tip b.issued x a.is_waiting a.keeps_all) e6 ∙
    ap (λ (x : Bool). made b.id b.birth b.knows b.tip b.issued b.known x a.keeps_all) e7 ∙
    ap (λ (x : Bool). made b.id b.birth b.knows b.tip b.issued b.known b.is_waiting x) e8

-- hellos of one spelling are one
pub one_hello : (g h : Hello) → IsHello g → IsHello h → hello_bytes g ≡ hello_bytes h → g ≡ h
one_hello g h ig ih e =
    let ids : g.id ≡ h.id = ap (λ (x : List ℕ). get_or x 1 0) e in
    let r1 = same_front g.birth h.birth _ _ 16 ig.birth ih.birth (ap (drop 2) e) in
    let r2 = same_front g.knows h.knows _ _ 12 ig.knows ih.knows r1.1 in
    let tips = same_front g.tip h.tip _ _ 4 ig.tip ih.tip r2.1 in
    let r3 = same_front (to_be_bytes w32 g.issued) (to_be_bytes w32 h.issued) _ _ 4 refl refl tips.1 in
    let r4 = same_front (to_be_bytes w32 g.known) (to_be_bytes w32 h.known) _ _ 4 refl refl r3.1 in
    let r5 = same_ends (flag g.is_waiting) (flag g.keeps_all) (flag h.is_waiting) (flag h.keeps_all) r4.1 in
    let issued : g.issued ≡ h.issued = same_number g.issued h.issued ig.issued ih.issued r3.0 in
    let known : g.known ≡ h.known = same_number g.known h.known ig.known ih.known r4.0 in
    let waiting : g.is_waiting ≡ h.is_waiting = same_flag g.is_waiting h.is_waiting r5.0 in
    let all : g.keeps_all ≡ h.keeps_all = same_flag g.keeps_all h.keeps_all r5.1 in
    joined g h ids r1.0 r2.0 tips.0 issued known waiting all

pub reads_whole : (bytes : List ℕ) (r : Result Hello HelloFault) → Reads bytes r → (h : Hello) → IsHello h → bytes ≡ hello_bytes h → r ≡ Ok h
reads_whole bytes (Ok g) e h is w = ap (λ (x : Hello). Ok x) (one_hello g h e.0 is (sym e.1 ∙ w))
reads_whole bytes (Err fault) e h is w =
    let t : Tells bytes HELLO_FORMAT h.id (flag h.is_waiting) (flag h.keeps_all) =
    subst (λ (x : List ℕ). Tells x HELLO_FORMAT h.id (flag h.is_waiting) (flag h.keeps_all)) (sym w)
    (tells (hello_bytes h) HELLO_FORMAT h.id h.birth h.knows h.tip h.issued h.known (flag h.is_waiting) (flag h.keeps_all) (written h is)) in
    absurd (never fault t e is.id (low h.is_waiting) (low h.keeps_all))
  where
    low : (b : Bool) → flag b ≤ 1
    low false = omega arith
    low true = omega arith

    never : (f : HelloFault) {i p a : ℕ} → Tells bytes HELLO_FORMAT i p a → Reads bytes (Err f) → i < AUTHORS → p ≤ 1 → a ≤ 1 → ⊥
    never Length t e' hi hp ha = e' t.long
    never Format t e' hi hp ha = e'.1 t.first
    never Id t e' hi hp ha = omega (arith, e'.1, t.second)
    never Waiting t e' hi hp ha = omega (arith, e'.1, t.third)
    never KeepsAll t e' hi hp ha = omega (arith, e'.2, t.last)

-- ---- the fields of so many bytes

piece : (n : ℕ) (s front back : List ℕ) → front ≡ take n s → back ≡ drop n s → s ≡ front ++ back
piece n s f b p q = sym (take-append-drop n s) ∙ ap (λ (x : List ℕ). x ++ drop n s) (sym p) ∙ ap (λ (x : List ℕ). f ++ x) (sym q)

two : (xs : List ℕ) → length xs ≡ 2 → xs ≡ get_or xs 0 0 ∷ get_or xs 1 0 ∷ []
two [] h = absurd (omega arith)
two (a ∷ []) h = absurd (omega arith)
two (a ∷ b ∷ []) h = refl
two (a ∷ b ∷ c ∷ xs) h = absurd (omega arith)

pub split_fields : (bytes rest0 birth rest1 knows rest tip rest2 issued rest3 known rest4 : List ℕ) (m n : ℕ) → IsBytes bytes → length bytes ≡ 44 → rest0 ≡ drop 2 bytes → birth ≡ take 16 rest0 → rest1 ≡ drop 16 rest0 → knows ≡ take 12 rest1 → rest ≡ drop 12 rest1 → tip ≡ take 4 rest → rest2 ≡ drop 4 rest →
    issued ≡ take 4 rest2 → rest3 ≡ drop 4 rest2 → known ≡ take 4 rest3 → rest4 ≡ drop 4 rest3 → m ≡ from_be_bytes w32 issued → n ≡ from_be_bytes w32 known → m < 2 ^ 32 → n < 2 ^ 32 →
    AreFields bytes (get_or bytes 0 0) (get_or bytes 1 0) birth knows tip m n (get_or rest4 0 0) (get_or rest4 1 0)
split_fields bytes rest0 birth rest1 knows rest tip rest2 issued rest3 known rest4 m n are long e0 b1 e1 b2 e b e2 b3 e3 b4 e4 hm hn fm fn =
    let l0 : length rest0 ≡ 42 = omega (arith, ap length e0, length-drop 2 bytes) in
    let l1 : length rest1 ≡ 26 = omega (arith, ap length e1, length-drop 16 rest0) in
    let l : length rest ≡ 14 = omega (arith, ap length e, length-drop 12 rest1) in
    let l2 : length rest2 ≡ 10 = omega (arith, ap length e2, length-drop 4 rest) in
    let l3 : length rest3 ≡ 6 = omega (arith, ap length e3, length-drop 4 rest2) in
    let l4 : length rest4 ≡ 2 = omega (arith, ap length e4, length-drop 4 rest3) in
    let head : bytes ≡ get_or bytes 0 0 ∷ get_or bytes 1 0 ∷ drop 2 bytes =
    drop_more bytes 0 0 (omega arith) ∙ ap (λ (x : List ℕ). get_or bytes 0 0 ∷ x) (drop_more bytes 1 0 (omega arith)) in
    let a0 : IsBytes rest0 = subst IsBytes (sym e0) (bytes_drop 2 bytes are) in
    let a1 : IsBytes rest1 = subst IsBytes (sym e1) (bytes_drop 16 rest0 a0) in
    let a : IsBytes rest = subst IsBytes (sym e) (bytes_drop 12 rest1 a1) in
    let a2 : IsBytes rest2 = subst IsBytes (sym e2) (bytes_drop 4 rest a) in
    let a3 : IsBytes rest3 = subst IsBytes (sym e3) (bytes_drop 4 rest2 a2) in
    let first : to_be_bytes w32 m ≡ issued = be_bytes_4 issued m (ap length b3 ∙ length-take-le 4 rest2 (omega arith)) (subst IsBytes (sym b3) (bytes_take 4 rest2 a2)) hm in
    let second : to_be_bytes w32 n ≡ known = be_bytes_4 known n (ap length b4 ∙ length-take-le 4 rest3 (omega arith)) (subst IsBytes (sym b4) (bytes_take 4 rest3 a3)) hn in
    let s0 : rest0 ≡ birth ++ rest1 = piece 16 rest0 birth rest1 b1 e1 in
    let s1 : rest1 ≡ knows ++ rest = piece 12 rest1 knows rest b2 e in
    let s : rest ≡ tip ++ rest2 = piece 4 rest tip rest2 b e2 in
    let s2 : rest2 ≡ to_be_bytes w32 m ++ rest3 = piece 4 rest2 issued rest3 b3 e3 ∙ ap (λ (x : List ℕ). x ++ rest3) (sym first) in
    let s3 : rest3 ≡ to_be_bytes w32 n ++ rest4 = piece 4 rest3 known rest4 b4 e4 ∙ ap (λ (x : List ℕ). x ++ rest4) (sym second) in
    let s4 : rest4 ≡ get_or rest4 0 0 ∷ get_or rest4 1 0 ∷ [] = two rest4 l4 in
    let tail : rest0 ≡ birth ++ (knows ++ (tip ++ (to_be_bytes w32 m ++ (to_be_bytes w32 n ++ (get_or rest4 0 0 ∷ get_or rest4 1 0 ∷ []))))) =
    s0 ∙ ap (λ (x : List ℕ). birth ++ x) (s1 ∙ ap (λ (x : List ℕ). knows ++ x) (s ∙ ap (λ (x : List ℕ). tip ++ x) (s2 ∙ ap (λ (x : List ℕ). to_be_bytes w32 m ++ x) (s3 ∙ ap (λ (x : List ℕ). to_be_bytes w32 n ++ x) s4)))) in
    record {
      whole = head ∙ ap (λ (x : List ℕ). get_or bytes 0 0 ∷ get_or bytes 1 0 ∷ x) (sym e0 ∙ tail);
      birth_long = ap length b1 ∙ length-take-le 16 rest0 (omega arith);
      knows_long = ap length b2 ∙ length-take-le 12 rest1 (omega arith);
      tip_long = ap length b ∙ length-take-le 4 rest (omega arith);
      issued_in = fm;
      known_in = fn;
    }
