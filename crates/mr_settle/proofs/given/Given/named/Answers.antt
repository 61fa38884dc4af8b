use Rattle.mr_settle.proofs.Names.{given_by, option_copied}
use Rattle.mr_settle.proofs.NamedLemmas.{named_receive, named_answer, named_release}
use Rattle.mr_settle.proofs.given.Given.named.Goals as goal

pub returns-in-Receive : goal.returns-in-Receive
returns-in-Receive c =
    named_receive (given_by c.args.self.now) c.args.event.now (option_copied c.args.frame) c.requires c.number_of-number.result c.map.result c.in-Receive.field-0 c.in-Receive.is c.number_of-number.ensures c.map.ensures.cases

pub returns-in-Answer : goal.returns-in-Answer
returns-in-Answer c =
    named_answer (given_by c.args.self.now) c.args.event.now (option_copied c.args.frame) c.requires c.number_of-number-in-Answer.result c.map-in-Answer.result c.in-Answer.field-0 c.in-Answer.is c.number_of-number-in-Answer.ensures c.map-in-Answer.ensures.cases

pub returns-in-Release : goal.returns-in-Release
returns-in-Release c =
    named_release (given_by c.args.self.now) c.args.event.now (option_copied c.args.frame) c.requires c.number_of-number-in-Release.result c.map-in-Release.result c.in-Release.field-0 c.in-Release.is c.number_of-number-in-Release.ensures c.map-in-Release.ensures.cases
