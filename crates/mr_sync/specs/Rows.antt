-- worked rows: what the definitions give for small values
use Rattle.std.specs.Prelude.{◌≡◌, ℕ, [], ◌∷◌, replicate, true, false, None, Some, Ok, Err, option_map, refl}
use Rattle.std.specs.BTreeMap.{BTreeMap, is_at}
use Rattle.std.specs.Map.{lookup}
use Rattle.std.specs.Ordering.{nat_cmp}
use Rattle.mr_compare.specs.declared.note.Meeting.{Meeting}
use Rattle.std.proofs.Common.{ap, inl, inr, lit<, lit≤}
use Rattle.mr_mail.specs.Mail.{Mail}
use Rattle.mr_lookup.specs.Told.{message_at, own_name}
use Rattle.mr_filter.specs.Filter.{clause_with}
use Rattle.mr_replica.specs.declared.event.Reply.TheVariants.{Took}
use Rattle.mr_kept.specs.declared.fault.KeptFault.TheVariants.{Refused, Failed}
use Rattle.mr_replica.specs.declared.refusal.Refusal.TheVariants.{NotPushedOut}
use Rattle.mr_talk.specs.declared.kind.Kind.TheVariants.{Piece}
use Rattle.mr_talk.specs.declared.turn.Turn.TheVariants.{CallerSettles, CalledCloses}
use Rattle.mr_wire.specs.declared.fault.WireFault.TheVariants.{Truncated}
use Rattle.mr_sync.specs.declared.fault.SyncFault.TheVariants.{OutOfMemory, Kept, Frame, BadList, PeerWentOn}
use Rattle.mr_sync.specs.Asking.{IsNoRequestOf}
use Rattle.mr_sync.specs.Files.{GoesWith}
use Rattle.mr_sync.specs.Taken.{with_waiting}
use Rattle.mr_sync.specs.inner.Taken.{was_there}
use Rattle.mr_sync.specs.inner.Asking.{last_asked}
use Rattle.mr_sync.specs.Ending.{is_last}
use Rattle.mr_sync.specs.Fault.{sync_fault_number}
use Rattle.mr_sync.specs.Hello.{is_free, keeps_all, met_at, met_by}
use Rattle.mr_sync.specs.Lists.{push_out_bytes}
use Rattle.mr_sync.specs.Marks.{AgreesWith, IsMarkOf, mark_bytes, message_short}
use Rattle.mr_sync.specs.inner.Marks.{IsMarkFault}
use Rattle.mr_sync.specs.inner.Said.{receipt_frames, record_frames}

-- a push-out takes twelve bytes, the highest of each number first
pub push_out_spelled : push_out_bytes (record { item = record { author = 1; counter = 2 }; version = record { author = 63; counter = 1000000 } }) ≡ 0 ∷ 1 ∷ 0 ∷ 0 ∷ 0 ∷ 2 ∷ 0 ∷ 63 ∷ 0 ∷ 15 ∷ 66 ∷ 64 ∷ []
push_out_spelled = refl

-- a filter keeps all mail where one of its clauses has no condition
pub all_keeps_all : keeps_all (clause_with [] [] 1 0 0 ∷ clause_with [] [] 0 0 0 ∷ []) ≡ true
all_keeps_all = refl

pub none_keeps_not_all : keeps_all [] ≡ false
none_keeps_not_all = refl

pub a_day_is_a_condition : is_free (clause_with [] [] 0 0 1) ≡ false
a_day_is_a_condition = refl

-- the sixth and the seventh turn are the last ones
pub fifth_is_not_last : is_last CallerSettles ≡ false
fifth_is_not_last = refl

pub sixth_is_last : is_last CalledCloses ≡ true
sixth_is_last = refl

-- a reply that is no record, no receipt and no request is not said
pub taking_is_not_said : record_frames (Took ∷ []) ≡ []
taking_is_not_said = refl

pub taking_is_no_receipt : receipt_frames (Took ∷ []) ≡ []
taking_is_no_receipt = refl

pub taking_asks_nothing : last_asked (Took ∷ []) ≡ None
taking_asks_nothing = refl

-- numbers of faults, from the first to the last
pub first_number : sync_fault_number OutOfMemory ≡ 0
first_number = refl

pub last_number : sync_fault_number (PeerWentOn 7) ≡ 20
last_number = refl

-- a mark's counter comes first, the highest byte of it before the others
pub mark_spelled : mark_bytes (record { counter = 258; short = replicate 16 7 }) ≡ 0 ∷ 0 ∷ 1 ∷ 2 ∷ replicate 16 7
mark_spelled = refl

-- where nothing is told of an author, the mark is of none
pub nothing_marked : IsMarkOf [] 3 (record { counter = 0; short = replicate 16 0 })
nothing_marked = inl (record { none = λ version of_author. refl; counter_is = refl; short_is = refl })

-- replica 5 agrees with a mark of its first version by the message that its log tells of that
pub first_agrees : (m : Mail) → AgreesWith 5 ((own_name 5 1, m) ∷ []) (record { counter = 1; short = message_short m })
first_agrees m = inr (record {
  message = m;
  own = record { is_version = record { author_in = lit< tt; counter_from = lit≤ tt; counter_to = lit≤ tt }; is_told = refl };
  short_is = refl;
})

-- of its second it tells none
pub second_untold : (m : Mail) → message_at ((own_name 5 1, m) ∷ []) (own_name 5 2) ≡ None
second_untold m = refl

-- nineteen bytes have no room for a mark
pub mark_too_short : IsMarkFault 5 [] (replicate 19 0) BadList
mark_too_short = lit< tt

-- no bytes are no request, since a frame goes on behind them
pub nothing_asks_nothing : IsNoRequestOf 5 [] (Frame Truncated)
nothing_asks_nothing = refl

-- where no file comes, a piece of one has no place
pub no_piece_of_none : GoesWith Piece [] None None → ⊥
no_piece_of_none goes = goes

-- of two versions of one item the last waits
pub last_waits : with_waiting [] (record { item = own_name 3 1; version = own_name 3 1 } ∷ record { item = own_name 3 1; version = own_name 4 1 } ∷ []) ≡ (own_name 3 1, own_name 4 1) ∷ []
last_waits = refl

-- a receipt that was for nothing is no fault
pub for_nothing : was_there (Err (Refused NotPushedOut)) ≡ Ok false
for_nothing = refl

pub not_kept : was_there (Err Failed) ≡ Err (Kept Failed)
not_kept = refl

-- where replica 5 alone was met, it is remembered of 5, and nothing of 6
pub five_was_met : (meetings : BTreeMap ℕ Meeting) (m : Meeting) → meetings.entries ≡ (5, m) ∷ [] → met_at meetings 5 ≡ Some (met_by m)
five_was_met meetings m only = ap (λ es. option_map met_by (lookup (is_at (nat_cmp 5)) es)) only

pub six_was_not_met : (meetings : BTreeMap ℕ Meeting) (m : Meeting) → meetings.entries ≡ (5, m) ∷ [] → met_at meetings 6 ≡ None
six_was_not_met meetings m only = ap (λ es. option_map met_by (lookup (is_at (nat_cmp 6)) es)) only
