use Rattle.std.proofs.lemmas.Option.{IfSome_then}
use Rattle.mr_program.proofs.DrawLemmas.{ends_picture}
use Rattle.mr_program.proofs.draw.end_picture.Goals as goal

pub returns : goal.returns
returns g c =
    let leaves = rw c.new-interpreter.ensures at c.run_script_in.ensures in
    IfSome_then _ leaves (λ script left. ends_picture g.K.Knowledge.form _ script _ _ _ _ _ _ left c.ending_of_run-ending.ensures c.picture-picture.result c.picture-picture.ensures c.print_picture.ensures)
