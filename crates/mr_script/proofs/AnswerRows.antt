-- Worked examples that the definitions of answers' lines have to meet.
use Rattle.std.proofs.Common.{◌≡◌, refl, [], ◌∷◌, None, Ok, Err}
use Rattle.mr_script.proofs.Names.{Dropped, Finished, Name, Refused, Stepped, TookEntry, answer_text, bytes_text, codes, gave_text, sync_text}
use Rattle.std.specs.Fmt.{digits}
use Rattle.hex.specs.Hex.{encode_with}
use lib.Utf8.{encode}
use Rattle.mr_replica.specs.declared.event.Reply.TheVariants.{Asked}
use Rattle.mr_replica.specs.declared.refusal.Refusal.TheVariants.{NotHeld, LogFull}
use Rattle.mr_wire.specs.declared.frame.Body.TheVariants.{Start, MoveOut, Held, Know, End}
use Rattle.mr_wire.specs.declared.frame.Mode.TheVariants.{Full}
use Rattle.mr_script.specs.declared.answer.PoolSizes.{PoolSizes}
use Rattle.mr_command.specs.declared.pool.Pool.TheVariants.{Records}

-- one request, five records and two receipts
abbrev sizes : PoolSizes
sizes = record { asks = 1; records = 5; receipts = 2 }

abbrev name : Name
name = record { author = 0; counter = 12 }

asked : answer_text sizes (Stepped (Ok (Asked (record { target = 1; session = 7; filter = []; fragments = [] })))) ≡ codes "asked Q1 session 7\n"
unfolding digits
asked = refl

refused : answer_text sizes (Stepped (Err (NotHeld name))) ≡ codes "refused 3 NotHeld 0.12\n"
unfolding digits
refused = refl

took : answer_text sizes (TookEntry (Dropped name name)) ≡ codes "took -0.12\n"
unfolding digits
took = refl

starts : gave_text 1 (Start Full) ≡ codes "gave P1 start full\n"
unfolding digits
starts = refl

moves_out : gave_text 2 (MoveOut (record { item = record { author = 3; counter = 4 }; version = name; below = [] })) ≡ codes "gave P2 moveout 0.12\n"
unfolding digits
moves_out = refl

holds_none : gave_text 3 (Held []) ≡ codes "gave P3 held -\n"
unfolding digits
holds_none = refl

knows : gave_text 4 (Know (record { items = None; vector = [] })) ≡ codes "gave P4 know all -\n"
unfolding digits
knows = refl

ends : gave_text 5 End ≡ codes "gave P5 end\n"
unfolding digits
ends = refl

bytes : bytes_text Records 5 (0 ∷ 26 ∷ 255 ∷ []) ≡ codes "bytes P5: 001aff\n"
unfolding digits encode_with encode
bytes = refl

synced : sync_text (record { target = 1; source = 0; most = None }) (record { items = 2; move_outs = 1 }) Finished ≡ codes "sync 1 from 0: items 2 moveouts 1 finished\n"
unfolding digits
synced = refl

refused_sync : sync_text (record { target = 1; source = 1; most = None }) (record { items = 0; move_outs = 0 }) (Refused LogFull) ≡ codes "sync 1 from 1: items 0 moveouts 0 refused 8 LogFull\n"
unfolding digits
refused_sync = refl
