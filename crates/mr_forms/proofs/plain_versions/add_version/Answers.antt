use Rattle.std.proofs.Common.{◌∙◌, [], ◌++◌, ap, sym, arith}
use Rattle.mr_forms.proofs.Names.{false≢true, nil_from_length}
use Rattle.mr_forms.proofs.ColumnLemmas.{gains_first, gains_in_last, gains_after_last}
use Rattle.mr_forms.proofs.plain_versions.add_version.Goals.{in-Some+then-is_before, in-Some+else-is_before+in_ok-push, in_default}
use Rattle.mr_forms.proofs.plain_versions.add_version.Goals as goal

pub returns-clause-ok : goal.returns-clause-ok
returns-clause-ok c = elim c.match-pop.branch [
  | in-Some+then-is_before w ↦
      let new = rw w.runs-is at c.in_ok-push-2.ensures.items in
      gains_in_last c.args.runs.now.items c.push-2.new.self.items c.pop.new.self.items c.args.version w.in-Some.last _ w.in-Some.ensures.items new
      c.author.ensures w.first-is c.counter.ensures.is (w.is_before.ensures.0 w.if-is_before.true) c.requires
  | in-Some+else-is_before+in_ok-push w ↦
      let new = rw (w.runs-is, w.in_ok-push.ensures.items) at c.in_ok-push-2.ensures.items in
      gains_after_last c.args.runs.now.items c.push-2.new.self.items c.pop.new.self.items c.args.version w.in-Some.last _ w.in-Some.ensures.items new
      c.author.ensures (w.first-is ∙ c.counter-first.ensures.is) c.counter.ensures.is (λ next. false≢true (sym w.if-is_before.false ∙ w.is_before.ensures.1 next)) c.requires
  | in_default w ↦
      let nothing = nil_from_length c.pop.new.self.items (omega (arith, w.in_default.ensures.cases.1)) in
      let new = rw (w.runs-is, nothing) at c.in_ok-push-2.ensures.items in
      gains_first c.args.runs.now.items c.push-2.new.self.items c.args.version _ (w.in_default.ensures.items ∙ ap (λ runs. runs ++ []) nothing) new c.author.ensures (w.first-is ∙ c.counter-first.ensures.is) c.counter.ensures.is
]
