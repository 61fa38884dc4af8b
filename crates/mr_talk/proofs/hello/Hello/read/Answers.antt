use Rattle.mr_talk.proofs.HelloLaws.{reads_whole}
use Rattle.mr_talk.proofs.hello.Hello.read.Goals as goal

pub returns-clause-whole : goal.returns-clause-whole
returns-clause-whole c = reads_whole c.args.bytes.now c.parse.result c.parse.ensures
