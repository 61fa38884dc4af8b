use Rattle.std.proofs.Common.{◌≡◌, ◌∙◌, length, Some, Ok, Err, refl, sym, ap, subst}
use Rattle.mr_kept_node.proofs.Names.{Goes, KeptMachine, OutOfMemory, Reply, State}
use Rattle.mr_kept_node.proofs.Replying.{asked_by, handed, reply_given}
use Rattle.mr_kept_node.proofs.Taking.{declined, no_fault, stopped, taken, takes_none, takes_one}
use Rattle.mr_kept_node.proofs.machine.KeptMachineMachineEventAnswer.take.Goals as goal

pub returns-then-is_some : goal.returns-then-is_some
returns-then-is_some g c = takes_none g.K.Knowledge.form g.D.Device c.args.self.now.fault c.args.self.now c.args.letter (sym c.is_some.ensures ∙ c.if-is_some.true)

pub returns-in-Err : goal.returns-in-Err
returns-in-Err g c =
    let m = c.args.self.now in
    let n : KeptMachine _ _ _ = record { journaled = c.ask.new.self; fault = m.fault; told = m.told } in
    let none = sym c.is_some.ensures ∙ c.if-is_some.false in
    let turned = c.in-Err.ensures.asked in
    takes_one g.K.Knowledge.form g.D.Device m.fault m n c.args.letter (Err c.refusal_of.result) none
    (declined g.K.Knowledge.form g.D.Device m n c.args.letter c.in-Err.fault c.refusal_of.result c.refusal_of.ensures (record { answered = turned.0; journal = c.ask.ensures.journal; leaving_is = turned.1 }) (no_fault m.fault none) refl)

pub reply_of-requires : goal.reply_of-requires
reply_of-requires g c =
    let asked = asked_by g.K.Knowledge.form c.args.self.now.journaled c.ask.new.self c.args.letter c.in-Ok.now c.in-Ok.ensures.asked c.ask.ensures.journal in
    handed c.in-Ok.now _ _ _ asked.0 asked.2 c.in-Ok-commit.ensures.committed.handed_out

pub returns-in-Ok-commit : goal.returns-in-Ok-commit
returns-in-Ok-commit g c =
    let m = c.args.self.now in
    let n : KeptMachine _ _ _ = record { journaled = c.commit.new.self; fault = m.fault; told = length c.feed.result.now } in
    let mid = c.ask.new.self in
    let asked = asked_by g.K.Knowledge.form m.journaled mid c.args.letter c.in-Ok.now c.in-Ok.ensures.asked c.ask.ensures.journal in
    let e = c.in-Ok-commit.ensures in
    let done = e.committed in
    let none = sym c.is_some.ensures ∙ c.if-is_some.false in
    let reply_is : c.reply_of.result ≡ asked.0 = reply_given asked.0 c.reply_of.result c.in-Ok.now _ _ _ asked.2 done.handed_out c.reply_of.ensures.at_once c.reply_of.ensures.last in
    takes_one g.K.Knowledge.form g.D.Device m.fault m n c.args.letter (Ok c.reply_of.result) none
    (subst (λ (r : Reply). Goes g.K.Knowledge.form g.D.Device m c.args.letter (Ok r) n) (sym reply_is)
    (taken g.K.Knowledge.form g.D.Device m n c.args.letter asked.0 mid asked.1 e.replica e.head e.leaves.any_moment e.leaves.left done.none_waits.0 done.none_waits.3 (no_fault m.fault none)
    (ap length (c.feed.ensures.all ∙ ap (λ (s : State _). s.feed) c.replica.ensures.is)) done.kept))

pub returns-in-Err-commit : goal.returns-in-Err-commit
returns-in-Err-commit g c =
    let m = c.args.self.now in
    let n : KeptMachine _ _ _ = record { journaled = c.commit.new.self; fault = Some c.in-Err-commit.fault; told = m.told } in
    let mid = c.ask.new.self in
    let asked = asked_by g.K.Knowledge.form m.journaled mid c.args.letter c.in-Ok.now c.in-Ok.ensures.asked c.ask.ensures.journal in
    let e = c.in-Err-commit.ensures in
    let un = e.uncommitted in
    takes_one g.K.Knowledge.form g.D.Device m.fault m n c.args.letter (Err OutOfMemory) (sym c.is_some.ensures ∙ c.if-is_some.false)
    (stopped g.K.Knowledge.form g.D.Device m n c.args.letter asked.0 mid asked.1 e.replica e.head e.leaves.any_moment e.leaves.left c.in-Err-commit.fault refl refl un.why un.back un.unchanged un.cause)
