use Rattle.std.proofs.Common.{◌≡◌, [], ◌∷◌, length, length-append, refl, sym, ap, ◌∙◌, subst, arith}
use Rattle.mr_folder.specs.Quiet.{Between}
use Rattle.mr_folder.proofs.QuietLemmas.{no_times, one_more_time}
use Rattle.mr_folder.proofs.listing.times.Goals as goal

pub loop-folder-init : goal.loop-folder-init
loop-folder-init g c = record {
  times = λ told. no_times (g.F.Folders.past c.args.folders.now) (g.F.Folders.moment c.args.folders.now) (g.F.Folders.moment c.args.folders.now) c.new-times.result.items c.new-times.ensures.items;
  later = λ told. omega arith;
  same = λ told. refl;
  count = ap length c.new-times.ensures.items;
}

pub loop-folder-preserved : goal.loop-folder-preserved
loop-folder-preserved g c = record {
  times = λ told.
      let inv = c.loop-folder.invariant in
      let one = subst (λ p. Between (g.F.Folders.moment c.loop-folder.folders) (g.F.Folders.moment c.time.new.self) (λ m. c.in_ok-time.time ≡ p.time m c.loop-folder.folder)) (inv.same told) (c.in_ok-time.ensures.told told) in
      let here = subst (λ n. Between (g.F.Folders.moment c.loop-folder.folders) (g.F.Folders.moment c.time.new.self) (λ m. c.in_ok-time.time ≡ (g.F.Folders.past c.args.folders.now).time m n)) (sym inv.count) one in
      one_more_time (g.F.Folders.past c.args.folders.now) (g.F.Folders.moment c.args.folders.now) (g.F.Folders.moment c.loop-folder.folders) (g.F.Folders.moment c.time.new.self) c.loop-folder.times.items c.push.new.values.items c.in_ok-time.time (inv.later told) (c.time.ensures.later told) (inv.times told) here c.in_ok-push.ensures;
  later = λ told. let before = c.loop-folder.invariant.later told in let here = c.time.ensures.later told in omega arith;
  same = λ told. c.time.ensures.same told ∙ c.loop-folder.invariant.same told;
  count = omega (arith, ap length c.in_ok-push.ensures, length-append c.loop-folder.times.items (c.in_ok-time.time ∷ []), c.loop-folder.invariant.count);
}
