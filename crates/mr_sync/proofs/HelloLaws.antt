-- first bytes of digests, and why the end of a turn isn't told
use Rattle.std.proofs.Common.{◌≡◌, ℕ, List, ◌++◌, length, take, refl, sym, ap, subst, ◌∙◌}
use Rattle.mr_sync.proofs.Names.{IsEndFault, IsUnfinished, MayEnd, Normal, SyncFault, fault_of_form, take-append_seam}
use Rattle.mr_forms.specs.declared.fault.FormFault.{FormFault}
use Rattle.mr_forms.specs.declared.fault.FormFault.TheVariants as form
use Rattle.mr_talk.specs.declared.turn.Turn.{Turn}
use Rattle.mr_sync.specs.declared.talk.Talk.{Talk}
use Rattle.mr_sync.specs.inner.Hello.{IsUntold}

-- sixteen bytes before others are their first sixteen
pub short_again : (xs knows rest : List ℕ) → xs ≡ knows → length knows ≡ 16 → take 16 (xs ++ rest) ≡ knows
short_again xs knows rest is long =
    ap (λ (l : List ℕ). take 16 (l ++ rest)) is ∙ subst (λ (n : ℕ). take n (knows ++ rest) ≡ knows) long (take-append_seam knows rest)

-- why the end of a turn isn't told
pub end_untold : (turn : Turn) (talk : Talk) (k : Normal) (e : FormFault) → MayEnd turn talk → IsUntold k e → IsEndFault turn talk k (fault_of_form e)
end_untold turn talk k form.OutOfMemory may is = may
end_untold turn talk k form.TooManyHoles may is = (may, refl, is)
end_untold turn talk k form.TooManyItems may is = absurd is

pub end_unfinished : (turn : Turn) (talk : Talk) (k : Normal) (fault : SyncFault) → IsUnfinished turn talk fault → IsEndFault turn talk k fault
end_unfinished turn talk k fault is = subst (IsEndFault turn talk k) (sym is.fault_is) (record { fault_is = refl; last = is.last; unfinished = is.unfinished })
