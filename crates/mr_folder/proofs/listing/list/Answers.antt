use Rattle.std.proofs.Common.{◌≡◌, length, sym, ◌∙◌, subst, arith}
use Rattle.mr_folder.proofs.Names.{AreNames, AreTimes, bytes_decides, texts}
use Rattle.mr_folder.proofs.QuietLemmas.{same_times, snapshot, length-texts}
use Rattle.mr_folder.proofs.listing.list.Goals as goal

pub returns-clause-snapshot : goal.returns-clause-snapshot
returns-clause-snapshot g c = λ told quiet.
    let past = g.F.Folders.past c.args.folders.now in
    let o = g.F.Folders.moment c.args.folders.now in
    let m = g.F.Folders.moment c.times.new.folders in
    let n = g.F.Folders.moment c.names.new.folders in
    let e = g.F.Folders.moment c.times-2.new.folders in
    let listed = texts c.in_ok-names.names.items in
    let same : c.in_ok-before.before.items ≡ c.in_ok-after.after.items = (bytes_decides c.in_ok-before.before.items c.in_ok-after.after.items).0 (sym c.are_same-is_quiet.ensures ∙ quiet) in
    let between = subst (λ p. AreNames p m n listed) (c.times.ensures.same told) (c.in_ok-names.ensures.names told) in
    let last = subst (λ p. AreTimes p n e c.in_ok-after.after.items) (c.names.ensures.same told ∙ c.times.ensures.same told) (c.in_ok-after.ensures.times told) in
    let long : length listed ≡ length c.in_ok-before.before.items = length-texts c.in_ok-names.names.items ∙ (c.in_ok-names.ensures.count ∙ sym c.in_ok-before.ensures.count) in
    let first_later = c.times.ensures.later told in
    let names_later = c.names.ensures.later told in
    let last_later = c.times-2.ensures.later told in
    record {
      moment = m;
      no_sooner = first_later;
      no_later = omega (arith, names_later, last_later);
      holds = snapshot past (g.met.F.Folders.tells_changes c.args.folders.now told) o m n e c.in_ok-before.before.items c.in_ok-after.after.items listed same long (c.in_ok-before.ensures.times told) between last;
    }

pub returns-clause-quiet : goal.returns-clause-quiet
returns-clause-quiet g c = λ told one.
    let past = g.F.Folders.past c.args.folders.now in
    let o = g.F.Folders.moment c.args.folders.now in
    let m = g.F.Folders.moment c.times.new.folders in
    let n = g.F.Folders.moment c.names.new.folders in
    let e = g.F.Folders.moment c.times-2.new.folders in
    let last = subst (λ p. AreTimes p n e c.in_ok-after.after.items) (c.names.ensures.same told ∙ c.times.ensures.same told) (c.in_ok-after.ensures.times told) in
    let first_later = c.times.ensures.later told in
    let names_later = c.names.ensures.later told in
    let last_later = c.times-2.ensures.later told in
    c.are_same-is_quiet.ensures ∙ (bytes_decides c.in_ok-before.before.items c.in_ok-after.after.items).1
    (same_times past c.args.count o m n e c.in_ok-before.before.items c.in_ok-after.after.items one c.in_ok-before.ensures.count c.in_ok-after.ensures.count
    (omega (arith, first_later, names_later)) (omega (arith, names_later, last_later)) (c.in_ok-before.ensures.times told) last)
