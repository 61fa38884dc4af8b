use Rattle.std.proofs.Common.{refl, ◌≢◌}
use Rattle.mr_script.specs.declared.sync_line.SyncEnd.TheVariants.{Finished}
use Rattle.mr_script.proofs.Cuts.{event_then, closes_cut}
use Rattle.mr_script.proofs.Following.{ends_at}
use Rattle.mr_script.proofs.sync.close.Goals as goal
use Rattle.mr_script.proofs.sync.close.Goals.{in-Finished, in_default, then-not-matches+in_ok-let_happen+in_ok-let_happen-2, else-not-matches}

pub returns-in_err-let_happen : goal.returns-in_err-let_happen
returns-in_err-let_happen g c =
    let other : c.args.end ≢ Finished = elim c.match-matches.branch [ in-Finished w ↦ let is = w.matches-is in let isnt = c.if-not-matches.true in absurd (cc) | in_default w ↦ w.in_default.not-Finished ] in
    closes_cut g.K.Knowledge.form c.args.sync.now c.args.session c.args.stream c.args.counts c.args.end _ _ _ other
    (ends_at _ _ _ c.from_residual.result c.from_residual.ensures.1 (rw c.by.ensures at c.in_err-let_happen.ensures))

pub returns-in_err-let_happen-2 : goal.returns-in_err-let_happen-2
returns-in_err-let_happen-2 g c =
    let other : c.args.end ≢ Finished = elim c.match-matches.branch [ in-Finished w ↦ let is = w.matches-is in let isnt = c.if-not-matches.true in absurd (cc) | in_default w ↦ w.in_default.not-Finished ] in
    closes_cut g.K.Knowledge.form c.args.sync.now c.args.session c.args.stream c.args.counts c.args.end _ _ _ other
    (event_then g.K.Knowledge.form _ (rw c.by.ensures at c.in_ok-let_happen.ensures)
    (ends_at _ _ _ c.from_residual-in_err-let_happen-2.result c.from_residual-in_err-let_happen-2.ensures.1 (rw c.by-then-not-matches.ensures at c.in_err-let_happen-2.ensures)))

pub returns : goal.returns
returns g c = elim c.if-not-matches.branch [
  | then-not-matches+in_ok-let_happen+in_ok-let_happen-2 w ↦
      (let other : c.args.end ≢ Finished = elim c.match-matches.branch [ in-Finished v ↦ let is = v.matches-is in let isnt = w.if-not-matches.true in absurd (cc) | in_default v ↦ v.in_default.not-Finished ] in
      closes_cut g.K.Knowledge.form c.args.sync.now c.args.session c.args.stream c.args.counts c.args.end _ _ _ other
      (rw w.world-is (event_then g.K.Knowledge.form _ (rw w.by.ensures at w.in_ok-let_happen.ensures) (event_then g.K.Knowledge.form _ (rw w.by-then-not-matches.ensures at w.in_ok-let_happen-2.ensures) (refl, refl)))))
  | else-not-matches w ↦
      elim c.match-matches.branch [
        | in-Finished v ↦ rw (v.in-Finished.is, w.world-is) (refl, refl)
        | in_default v ↦ let is = v.matches-is in let isnt = w.if-not-matches.false in absurd (cc)
      ]
]
