use Rattle.std.proofs.Common.{rules, refl, sym, ap, ◌≡◌, ◌∙◌, ◌++◌, ◌∷◌, [], append_assoc}
use Rattle.mr_threads.proofs.Names.{HaltsAmong, Said, SaysInPart, into_iter_items, letters_said, map-append}
use Rattle.std.proofs.lemmas.Result.{err_from_is_err_and}
use Rattle.mr_threads.specs.Exchange.{said}
use Rattle.mr_threads.proofs.Saying.{says_none, says-append, part_behind, holds_on_err}
use Rattle.mr_threads.proofs.talk.Talk.say_all.Goals as goal

pub loop-letter-init : goal.loop-letter-init
loop-letter-init g c = record {
  ahead = c.into_iter-letter-iterator.ensures.into_iter_gives.0;
  said = ([], refl, says_none c.args.self.now);
  lanes = record { post = refl; sender = refl; tap = refl };
}

pub say-requires : goal.say-requires
say-requires g c = ap (λ p. p.finished) c.loop-letter.invariant.said.2.post ∙ c.requires

pub loop-letter-preserved : goal.loop-letter-preserved
loop-letter-preserved g c =
    let h = c.loop-letter.invariant.said in
    let k = c.in_ok-say.ensures.ok in
    let steps : into_iter_items c.loop-letter.letter-iterator ≡ c.in-Some.letter ∷ into_iter_items c.next.new.self = c.in-Some.ensures.steps.0 in
    record {
      ahead = append_assoc c.loop-letter.yielded (c.in-Some.letter ∷ []) _ ∙ rw (← steps) c.loop-letter.invariant.ahead;
      said = (
        h.0 ++ said c.in-Some.letter k.0 ∷ [],
        map-append (λ (x : Said g.row.E.Denot g.row.A.Denot). x.letter) h.0 (said c.in-Some.letter k.0 ∷ []) ∙ ap (λ l. l ++ c.in-Some.letter ∷ []) h.1,
        says-append c.args.self.now c.loop-letter.self c.say.new.self h.0 (said c.in-Some.letter k.0 ∷ []) h.2 k.1,
      );
      lanes = search rules;
    }

pub returns-in_err-say-clause-in_turn : goal.returns-in_err-say-clause-in_turn
returns-in_err-say-clause-in_turn g c =
    let h = c.loop-letter.invariant.said in
    holds_on_err c.from_residual.result (SaysInPart c.args.self.now c.say.new.self) (part_behind c.args.self.now c.loop-letter.self c.say.new.self h.0 h.2 c.in_err-say.ensures.in_turn)

pub returns-in_err-say-clause-err : goal.returns-in_err-say-clause-err
returns-in_err-say-clause-err g c =
    let h = c.loop-letter.invariant.said in
    let steps : into_iter_items c.loop-letter.letter-iterator ≡ c.in-Some.letter ∷ into_iter_items c.next.new.self = c.in-Some.ensures.steps.0 in
    let halts : HaltsAmong c.args.self.now c.args.letters.items c.in_err-say.field-0.0 c.say.new.self = record {
      answered = h.0;
      letter = c.in-Some.letter;
      left = into_iter_items c.next.new.self;
      in_order = sym c.loop-letter.invariant.ahead ∙ (ap (λ l. l ++ into_iter_items c.loop-letter.letter-iterator) (sym h.1) ∙ ap (λ l. letters_said h.0 ++ l) steps);
      between = c.loop-letter.self;
      says = h.2;
      halts = c.in_err-say.ensures.err;
    } in
    let p = err_from_is_err_and c.from_residual.result c.from_residual.ensures.1 in
    rw (p.1, p.2) halts
