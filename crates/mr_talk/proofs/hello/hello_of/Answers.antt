use Rattle.std.proofs.Common.{◌≡◌, ◌<◌, rules}
use Rattle.mr_talk.proofs.Names.{AUTHORS, HELLO_FORMAT}
use Rattle.mr_talk.proofs.HelloLaws.{good}
use Rattle.mr_talk.proofs.hello.hello_of.Goals as goal

pub returns : goal.returns
returns c = λ bytes are.
    let f = c.args.fields.now in
    let format : f.format ≡ HELLO_FORMAT = search rules in
    let same : c.in-Ok.id ≡ f.id = search rules in
    let id : f.id < AUTHORS = search rules in
    good bytes f.format f.id f.birth.now f.knows.now f.tip.now f.issued f.known f.waiting f.keeps_all are format id c.in-Some.is_waiting c.in-Some.ensures c.in-Ok.id same c.in-Some-flag_of.keeps_all c.in-Some-flag_of.ensures
