use Rattle.std.proofs.Common.{◌≡◌, [], ◌∷◌, length, length-append, refl, sym, ap, ◌∙◌, subst, arith}
use Rattle.mr_folder.proofs.Names.{IsStill, map, string_bytes, texts}
use Rattle.mr_folder.proofs.QuietLemmas.{no_names, one_more_folder, texts-push, length-texts}
use Rattle.mr_folder.proofs.listing.names.Goals as goal

pub loop-folder-init : goal.loop-folder-init
loop-folder-init g c = record {
  names = λ told. no_names (g.F.Folders.past c.args.folders.now) (g.F.Folders.moment c.args.folders.now) (g.F.Folders.moment c.args.folders.now) (texts c.new-names.result.items) (ap texts c.new-names.ensures.items);
  later = λ told. omega arith;
  same = λ told. refl;
  count = ap length c.new-names.ensures.items;
}

pub loop-folder-preserved : goal.loop-folder-preserved
loop-folder-preserved g c = record {
  names = λ told.
      let inv = c.loop-folder.invariant in
      let one = subst (λ p. IsStill p c.loop-folder.folder (g.F.Folders.moment c.loop-folder.folders) (g.F.Folders.moment c.names.new.self) → map (λ s. string_bytes s) c.in_ok-own.own.items ≡ p.names (g.F.Folders.moment c.loop-folder.folders) c.loop-folder.folder) (inv.same told) (c.in_ok-own.ensures.told told) in
      let here = subst (λ n. IsStill (g.F.Folders.past c.args.folders.now) n (g.F.Folders.moment c.loop-folder.folders) (g.F.Folders.moment c.names.new.self) → map (λ s. string_bytes s) c.in_ok-own.own.items ≡ (g.F.Folders.past c.args.folders.now).names (g.F.Folders.moment c.loop-folder.folders) n) (sym (length-texts c.loop-folder.names.items ∙ inv.count)) one in
      one_more_folder (g.F.Folders.past c.args.folders.now) (g.F.Folders.moment c.args.folders.now) (g.F.Folders.moment c.loop-folder.folders) (g.F.Folders.moment c.names.new.self) (texts c.loop-folder.names.items) (texts c.push.new.values.items) (map (λ s. string_bytes s) c.in_ok-own.own.items) (inv.later told) (c.names.ensures.later told) (inv.names told) here (ap texts c.in_ok-push.ensures ∙ texts-push c.loop-folder.names.items c.in_ok-own.own);
  later = λ told. let before = c.loop-folder.invariant.later told in let here = c.names.ensures.later told in omega arith;
  same = λ told. c.names.ensures.same told ∙ c.loop-folder.invariant.same told;
  count = omega (arith, ap length c.in_ok-push.ensures, length-append c.loop-folder.names.items (c.in_ok-own.own ∷ []), c.loop-folder.invariant.count);
}
