-- records that are packed
use Rattle.std.proofs.Common.{◌≡◌, ℕ, ◌+◌, ◌*◌, ◌≤◌, List, [], ◌∷◌, ◌++◌, length, refl, ap, sym, subst, ◌∙◌, append_assoc, arith, length-append}
use Rattle.mr_sync.proofs.Names.{MAX_FRAMES_BYTES, MAX_PACKED_BYTES, PacksFront, PacksSoFar, Unpacks, Vec, joined}
use Rattle.mr_talk.proofs.PackedLaws.{unpacks_none, unpacks_on}
use Rattle.mr_sync.proofs.SayLaws.{text_more}

-- no frame yet
pub packs_none : (old : List (Vec ℕ)) (before : List ℕ) → PacksSoFar old before [] old before MAX_PACKED_BYTES
packs_none old before = record { front = []; all = refl; are = unpacks_none before; few = omega arith; short = omega arith }

-- one frame more
pub packs_more : (old mid new : List (Vec ℕ)) (f : Vec ℕ) (before last after bytes packed now text : List ℕ) (room left : ℕ) → PacksSoFar old before bytes mid last room → mid ≡ f ∷ new → text ≡ f.items → Unpacks last packed text after →
    length packed ≤ length text + 6 → now ≡ bytes ++ packed → length f.items + 6 ≤ room → left + (length f.items + 6) ≡ room → PacksSoFar old before now new after left
packs_more old mid new f before last after bytes packed now text room left h e is more short put fits left_is =
    let all = text_more h.front f in
    let both : Unpacks before (bytes ++ packed) (joined h.front ++ f.items) after =
    unpacks_on before bytes (joined h.front) last packed f.items after h.are (subst (λ (l : List ℕ). Unpacks last packed l after) is more) in
    record {
      front = h.front ++ f ∷ [];
      all = h.all ∙ ap (λ (l : List (Vec ℕ)). h.front ++ l) e ∙ sym (append_assoc h.front (f ∷ []) new);
      are = subst (λ (l : List ℕ). Unpacks before l (joined (h.front ++ f ∷ [])) after) (sym put) (subst (λ (l : List ℕ). Unpacks before (bytes ++ packed) l after) (sym all) both);
      few = omega (arith, h.few, ap length all, length-append (joined h.front) f.items, length-append h.front (f ∷ []), left_is);
      short = omega (arith, h.short, ap length put, length-append bytes packed, short, ap length is, left_is);
    }
