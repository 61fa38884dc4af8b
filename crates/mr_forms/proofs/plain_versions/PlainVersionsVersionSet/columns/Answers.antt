use Rattle.std.proofs.Common.{All}
use Rattle.mr_forms.proofs.Names.{All-head, EndsBelow, deref, in_runs, is_listed, name_cmp, name_eq, rest_more, sorted_tail}
use Rattle.mr_forms.proofs.SetLemmas.{passes_on, name_eq-symmetric}
use Rattle.mr_forms.proofs.ColumnLemmas.{ends_below-rest}
use Rattle.mr_forms.proofs.plain_versions.PlainVersionsVersionSet.columns.Goals as goal

pub add_version-requires : goal.add_version-requires
add_version-requires c =
    let left = rest_more deref c.loop-version.version-iterator c.next.new.self c.next.result c.in-Some.version c.in-Some.is c.next.ensures.steps in
    All-head (λ v. All (EndsBelow v) c.loop-version.runs.items) c.in-Some.version.now c.next.new.self (rw left at c.loop-version.invariant.ahead)

pub loop-version-preserved : goal.loop-version-preserved
loop-version-preserved c =
    let left = rest_more deref c.loop-version.version-iterator c.next.new.self c.next.result c.in-Some.version c.in-Some.is c.next.ensures.steps in
    let sorted = rw left at c.loop-version.invariant.sorted in
    let gains = c.in_ok-add_version.ensures.ok in
    record {
      have = λ v. passes_on _ (in_runs c.loop-version.runs.items v) (is_listed c.next.new.self v) _ (name_eq c.in-Some.version.now v) (name_eq v c.in-Some.version.now)
          (gains.have v) (name_eq-symmetric v c.in-Some.version.now) (rw left at (c.loop-version.invariant.have v));
      apart = gains.apart c.loop-version.invariant.apart;
      ahead = ends_below-rest c.in-Some.version.now c.next.new.self c.add_version.new.runs.items sorted gains.up_to;
      sorted = sorted_tail name_cmp c.in-Some.version.now c.next.new.self sorted;
    }
