use Rattle.std.proofs.Common.{◌≡◌, ◌<◌, ◌^◌, ◌++◌, ◌∷◌, [], ℕ, List, length, ap, ◌∙◌, arith, rules, append_assoc}
use Rattle.mr_journal.proofs.Names.{contents, map-append, nat_tests}
use Rattle.mr_journal.proofs.BatchLemmas.{all_push}
use Rattle.mr_journal.proofs.ReadLemmas.{body_behind, body_begins, split_one}
use Rattle.mr_journal.proofs.read.split_body.Goals as goal

pub returns-in_default : goal.returns-in_default
returns-in_default c = λ entries are is.
    let some : 0 < length c.loop-rest.rest.now = grind (arith, nat_tests) in
    let left = c.loop-rest.invariant.left entries are is in
    let first = body_begins left.0 c.loop-rest.rest.now left.2 some left.1 in
    c.in_default.ensures.none first.0 first.1 first.2 first.3

pub loop-rest-preserved : goal.loop-rest-preserved
loop-rest-preserved c =
    let done = c.loop-rest.invariant.done in
    let entry = c.in-Some.entry.now in
    let split = c.in-Some.ensures.split in
    let kept : c.in_ok-to_vec.field-0.items ≡ entry = search rules in
    let joined : contents c.push.new.self.items ≡ contents c.args.entries.now.items ++ (done.0 ++ entry ∷ []) =
    ap contents c.in_ok-push.ensures.items ∙ map-append (λ v. v.items) c.loop-rest.entries.items (c.in_ok-to_vec.field-0 ∷ [])
    ∙ ap (λ (l : List (List ℕ)). l ++ c.in_ok-to_vec.field-0.items ∷ []) done.3
    ∙ ap (λ (e : List ℕ). (contents c.args.entries.now.items ++ done.0) ++ e ∷ []) kept
    ∙ append_assoc (contents c.args.entries.now.items) done.0 (entry ∷ []) in
    record {
      done = (done.0 ++ entry ∷ [], all_push (λ (e : List ℕ). length e < 2 ^ 32) done.0 entry done.1 split.1, split_one c.args.bytes.now c.loop-rest.rest.now entry c.in-Some.behind.now done.0 done.2 split.0, joined);
      left = λ more are is.
          let left = c.loop-rest.invariant.left more are is in
          body_behind left.0 c.loop-rest.rest.now entry c.in-Some.behind.now left.1 left.2 split.0 split.1;
    }
