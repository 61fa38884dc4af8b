use Rattle.std.proofs.Common.{◌<◌, ℕ, None, sym, ◌∙◌, arith}
use Rattle.mr_folder.proofs.Names.{IsUnheld, false≢true, slice_index, stored_path}
use Rattle.mr_folder.proofs.StoreSteps.{at_path}
use Rattle.mr_folder.proofs.SweepLemmas.{sweeps_still, sweeps_go}
use Rattle.mr_folder.proofs.sweeping.let_go.Goals as goal

pub returns-then-is_held-clause-gone : goal.returns-then-is_held-clause-gone
returns-then-is_held-clause-gone g c = λ told unheld. absurd (unheld (c.is_held.ensures.0 c.if-is_held.true))

pub returns-then-is_held-clause-only : goal.returns-then-is_held-clause-only
returns-then-is_held-clause-only g c = λ told. sweeps_still _ _ (g.met.F.FileTree.only_now _)

pub returns-in_err-path-clause-only : goal.returns-in_err-path-clause-only
returns-in_err-path-clause-only g c = λ told. sweeps_still _ _ (g.met.F.FileTree.only_now _)

pub returns-in_err-remove-clause-only : goal.returns-in_err-remove-clause-only
returns-in_err-remove-clause-only g c = λ told.
    let fits : (i : ℕ) → slice_index c.args.digest.now i < 256 = λ i. (let f = c.fits-digest i in omega arith) in
    let unheld : IsUnheld c.args.held.now c.in_ok-path.path = record {
      digest = c.args.digest.now;
      is = record { bytes = fits; long = c.told-digest };
      unheld = λ among. false≢true (sym c.if-is_held.false ∙ c.is_held.ensures.1 among);
      path_is = c.in_ok-path.ensures;
    } in
    sweeps_go c.args.held.now c.in_ok-path.path unheld (g.met.F.FileTree.only_now _) (c.remove.ensures.files told) (c.remove.ensures.crash told) (c.remove.ensures.time told)

pub returns-clause-gone : goal.returns-clause-gone
returns-clause-gone g c = λ told unheld. at_path (g.F.FileTree.seen c.remove.new.self) c.in_ok-path.path (stored_path c.args.digest.now) None c.in_ok-path.ensures (c.in_ok-remove.ensures.gone told)

pub returns-clause-only : goal.returns-clause-only
returns-clause-only g c = λ told.
    let fits : (i : ℕ) → slice_index c.args.digest.now i < 256 = λ i. (let f = c.fits-digest i in omega arith) in
    let unheld : IsUnheld c.args.held.now c.in_ok-path.path = record {
      digest = c.args.digest.now;
      is = record { bytes = fits; long = c.told-digest };
      unheld = λ among. false≢true (sym c.if-is_held.false ∙ c.is_held.ensures.1 among);
      path_is = c.in_ok-path.ensures;
    } in
    sweeps_go c.args.held.now c.in_ok-path.path unheld (g.met.F.FileTree.only_now _) (c.remove.ensures.files told) (c.remove.ensures.crash told) (c.remove.ensures.time told)
