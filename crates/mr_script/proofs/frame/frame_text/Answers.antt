use Rattle.std.proofs.Common.{ℕ, Option, ap}
use Rattle.std.specs.Prelude.{option_map}
use Rattle.mr_script.proofs.Names.{Global, bytes_of}
use Rattle.std.specs.declared.vec.Vec.{Vec}
use Rattle.mr_script.proofs.Telling.{found_tells, none_tells}
use Rattle.mr_script.proofs.frame.frame_text.Goals as goal

pub returns-in-Some : goal.returns-in-Some
returns-in-Some c =
    found_tells (bytes_of c.args.word.now) _ c.in-Some.bytes.items c.as_slice.result.now c.found_text.result c.in_ok-bytes.ensures
    (ap (λ (o : Option (Vec ℕ Global)). option_map (λ (v : Vec ℕ Global). v.items) o) c.in-Some.is) c.as_slice.ensures.value c.found_text.ensures

pub returns-in_ok-from_str-in-None : goal.returns-in_ok-from_str-in-None
returns-in_ok-from_str-in-None c =
    none_tells (bytes_of c.args.word.now) _ _ c.in_ok-bytes.ensures
    (ap (λ (o : Option (Vec ℕ Global)). option_map (λ (v : Vec ℕ Global). v.items) o) c.in-None.is) c.in_ok-from_str-in-None.ensures.ok
