-- Worked examples that the definitions of a frame's lines have to meet.
use Rattle.std.proofs.Common.{true, false, refl}
use Rattle.mr_script.proofs.Names.{Tells, bytes_of, codes}
use Rattle.std.specs.Fmt.{digits}
use Rattle.mr_wire.specs.Reading.{run_at}
use Rattle.hex.proofs.OnLiterals.{hex_on_literals}

start : Tells (bytes_of (codes "0000001b 01 01 0000 0000000000000001 0001 0000000000000001 00000000 01")) (codes "start source 0 stream 1 target 1 session 1 index 0 full\n") false
unfolding hex_on_literals digits run_at
start = (codes "start source 0 stream 1 target 1 session 1 index 0 full\n", refl, refl, refl)

lacks_a_digit : Tells (bytes_of (codes "0000001")) (codes "not hex\n") true
unfolding hex_on_literals digits run_at
lacks_a_digit = (refl, refl)

nothing : Tells (bytes_of (codes "  ")) (codes "refused 1 Truncated\n") true
unfolding hex_on_literals digits run_at
nothing = (refl, refl)

receipt : Tells (bytes_of (codes "00000012020700000001000000010001000000010000ff")) (codes "receipt giver 0 version 1.1 of 1.1\nrest 1\n") false
unfolding hex_on_literals digits run_at
receipt = (codes "receipt giver 0 version 1.1 of 1.1\n", refl, refl, refl)

held : Tells (bytes_of (codes "00000024 01 04 0000 0000000000000001 0001 0000000000000001 00000002 0001 0000 00000001 0000")) (codes "held source 0 stream 1 target 1 session 1 index 2 0:1\n") false
unfolding hex_on_literals digits run_at
held = (codes "held source 0 stream 1 target 1 session 1 index 2 0:1\n", refl, refl, refl)
