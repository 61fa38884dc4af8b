use Rattle.std.proofs.Common.{Contains, sym, subst}
use Rattle.mr_folder.specs.Inside.{stored_path}
use Rattle.mr_folder.proofs.KeepLemmas.{swept_keeps}
use Rattle.mr_folder.proofs.Moments.{sound_untouched}
use Rattle.mr_folder.proofs.SweepLemmas.{sweeps_untouched, sweeps_on, sweeps_sound, all_swept}
use Rattle.mr_folder.proofs.sweeping.sweep.Goals as goal

pub returns-in_err-stored-clause-only : goal.returns-in_err-stored-clause-only
returns-in_err-stored-clause-only g c = λ told. sweeps_untouched c.args.held.now (c.stored.ensures.untouched told)

pub returns-in_err-stored-clause-sound : goal.returns-in_err-stored-clause-sound
returns-in_err-stored-clause-sound g c = λ told sound. sound_untouched (c.stored.ensures.untouched told) sound

pub returns-in_err-let_go_all-clause-only : goal.returns-in_err-let_go_all-clause-only
returns-in_err-let_go_all-clause-only g c = λ told. sweeps_on c.args.held.now (sweeps_untouched c.args.held.now (c.stored.ensures.untouched told)) (c.let_go_all.ensures.only told)

pub returns-in_err-let_go_all-clause-sound : goal.returns-in_err-let_go_all-clause-sound
returns-in_err-let_go_all-clause-sound g c = λ told sound. sweeps_sound c.args.held.now (sweeps_on c.args.held.now (sweeps_untouched c.args.held.now (c.stored.ensures.untouched told)) (c.let_go_all.ensures.only told)) sound

pub returns-clause-swept : goal.returns-clause-swept
returns-clause-swept g c = λ told digest is unheld.
    all_swept c.args.held.now (stored_path digest) (g.F.FileTree.seen c.args.files.now) (g.F.FileTree.seen c.stored.new.files) (g.F.FileTree.seen c.let_go_all.new.files)
    (λ there. c.in_ok-let_go_all.ensures.gone told digest (subst (λ l. Contains l digest) (sym c.deref.ensures.value) ((c.in_ok-stored.ensures.digests told digest is).1 there)) unheld)
    ((c.stored.ensures.untouched told).same) ((c.let_go_all.ensures.only told).files)

pub returns-clause-only : goal.returns-clause-only
returns-clause-only g c = λ told. sweeps_on c.args.held.now (sweeps_untouched c.args.held.now (c.stored.ensures.untouched told)) (c.let_go_all.ensures.only told)

pub returns-clause-sound : goal.returns-clause-sound
returns-clause-sound g c = λ told sound. sweeps_sound c.args.held.now (sweeps_on c.args.held.now (sweeps_untouched c.args.held.now (c.stored.ensures.untouched told)) (c.let_go_all.ensures.only told)) sound

pub returns-in_err-stored-clause-held : goal.returns-in_err-stored-clause-held
returns-in_err-stored-clause-held g c = λ told digest is on. swept_keeps c.args.held.now digest is.bytes on (sweeps_untouched c.args.held.now (c.stored.ensures.untouched told))

pub returns-in_err-let_go_all-clause-held : goal.returns-in_err-let_go_all-clause-held
returns-in_err-let_go_all-clause-held g c = λ told digest is on. swept_keeps c.args.held.now digest is.bytes on (sweeps_on c.args.held.now (sweeps_untouched c.args.held.now (c.stored.ensures.untouched told)) (c.let_go_all.ensures.only told))

pub returns-clause-held : goal.returns-clause-held
returns-clause-held g c = λ told digest is on. swept_keeps c.args.held.now digest is.bytes on (sweeps_on c.args.held.now (sweeps_untouched c.args.held.now (c.stored.ensures.untouched told)) (c.let_go_all.ensures.only told))
