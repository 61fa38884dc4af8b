-- worked rows: what the definitions give for small values
use Rattle.std.specs.Prelude.{◌≡◌, ℕ, List, [], ◌∷◌, ◌++◌, refl, codes}
use Rattle.std.proofs.Common.{inl, inr, ⊎_elim, zero, suc, ◌<◌, arith}
use Rattle.sha2.specs.Sha256.{sha256}
use Rattle.mr_journal.specs.declared.fault.JournalFault.TheVariants.{OutOfMemory, Damaged, OtherFormat, TooLarge}
use Rattle.mr_journal.specs.Device.{Cut, IsOldOrWritten, Torn, overwritten}
use Rattle.mr_journal.specs.Fault.{fault_number}
use Rattle.mr_journal.specs.Format.{AreBatches, IsDamagedAt, Stands, batch, body, entry_bytes, head}

-- ---- spelling

-- the head of this format, and of the one behind it
pub head_row : head 1 ≡ 74 ∷ 105 ∷ 109 ∷ 101 ∷ 116 ∷ 115 ∷ 97 ∷ 108 ∷ 0 ∷ 1 ∷ []
head_row = refl

pub other_head_row : head 258 ≡ codes "Jimetsal" ++ 1 ∷ 2 ∷ []
other_head_row = refl

-- an entry of two bytes, and one of none
pub entry_row : entry_bytes (codes "hi") ≡ 0 ∷ 0 ∷ 0 ∷ 2 ∷ 104 ∷ 105 ∷ []
entry_row = refl

pub empty_entry_row : entry_bytes [] ≡ 0 ∷ 0 ∷ 0 ∷ 0 ∷ []
empty_entry_row = refl

-- both, one after the other
abbrev two : List (List ℕ)
two = codes "hi" ∷ [] ∷ []

pub body_row : body two ≡ 0 ∷ 0 ∷ 0 ∷ 2 ∷ 104 ∷ 105 ∷ 0 ∷ 0 ∷ 0 ∷ 0 ∷ []
body_row = refl

-- their batch: an open gate, the length ten, the digest, and the body
pub batch_row : batch two ≡ 1 ∷ 0 ∷ 0 ∷ 0 ∷ 0 ∷ 0 ∷ 0 ∷ 0 ∷ 10 ∷ (sha256 (body two) ++ body two)
batch_row = refl

-- ---- writes and cuts

-- two bytes over the last one, and one behind it
pub overwritten_row : overwritten (1 ∷ 2 ∷ 3 ∷ []) 2 (8 ∷ 9 ∷ []) ≡ 1 ∷ 2 ∷ 8 ∷ 9 ∷ []
overwritten_row = refl

pub inside_row : overwritten (1 ∷ 2 ∷ 3 ∷ []) 1 (9 ∷ []) ≡ 1 ∷ 9 ∷ 3 ∷ []
inside_row = refl

-- two bytes over the last one and behind it, torn: the last byte is the new one, and behind it stands anything
pub torn_row : Torn 2 (8 ∷ 9 ∷ []) (1 ∷ 2 ∷ 3 ∷ []) (1 ∷ 2 ∷ 8 ∷ 7 ∷ [])
torn_row = record { no_shorter = omega arith; no_longer = omega arith; each = torn_each }
  where
    torn_each : (i : ℕ) → i < 3 → IsOldOrWritten 2 (8 ∷ 9 ∷ []) (1 ∷ 2 ∷ 3 ∷ []) (1 ∷ 2 ∷ 8 ∷ 7 ∷ []) i
    torn_each zero lt = inl refl
    torn_each (suc zero) lt = inl refl
    torn_each (suc (suc zero)) lt = inr (omega arith, omega arith, refl)
    torn_each (suc (suc (suc i))) lt = absurd (omega arith)

-- no byte before the place changes
pub torn_elsewhere_row : Torn 2 (8 ∷ 9 ∷ []) (1 ∷ 2 ∷ 3 ∷ []) (1 ∷ 5 ∷ 3 ∷ []) → ⊥
torn_elsewhere_row torn = ⊎_elim (λ old. omega (arith, old)) (λ written. omega (arith, written.0)) (torn.each 1 (omega arith))

-- a cut that a crash broke off leaves some length between
pub cut_row : Cut 1 (1 ∷ 2 ∷ 3 ∷ []) (1 ∷ 2 ∷ [])
cut_row = record { no_shorter = omega arith; front = refl }

-- ---- what stands for entries

-- a head and a closed gate stand for no entries, whatever is behind the gate
none_yet : AreBatches [] (head 1)
none_yet = record { batches = []; each = tt; front_is = refl; entries_are = refl }

pub empty_row : (left : List ℕ) → Stands [] (head 1 ++ (0 ∷ left))
empty_row left = inl (record { front = head 1; left = left; batches = none_yet; file_is = refl })

-- so do no bytes, one byte, and a head whose first byte is not yet there
pub no_bytes_row : Stands [] []
no_bytes_row = inr (refl, inl (omega arith))

pub one_byte_row : Stands [] (7 ∷ [])
one_byte_row = inr (refl, inl (omega arith))

pub begun_row : Stands [] (0 ∷ 105 ∷ 109 ∷ [])
begun_row = inr (refl, inr (105 ∷ 109 ∷ [], refl, omega arith))

-- a head with no gate behind it is damaged there, and so is one with a gate of another value
pub no_gate_row : IsDamagedAt 10 (head 1)
no_gate_row = record { front = head 1; rest = []; entries = []; batches = none_yet; file_is = refl; place_is = refl; no_gate = λ left e. cc; no_batch = λ more left is e. cc }

pub other_gate_row : IsDamagedAt 10 (head 1 ++ (2 ∷ []))
other_gate_row =
    record { front = head 1; rest = 2 ∷ []; entries = []; batches = none_yet; file_is = refl; place_is = refl; no_gate = λ left e. cc; no_batch = λ more left is e. cc }

-- ---- numbers of faults

pub memory_row : fault_number OutOfMemory ≡ 0
memory_row = refl

pub format_row : fault_number (OtherFormat 2) ≡ 3
format_row = refl

pub damaged_row : fault_number (Damaged 10) ≡ 4
damaged_row = refl

pub large_row : fault_number TooLarge ≡ 5
large_row = refl
