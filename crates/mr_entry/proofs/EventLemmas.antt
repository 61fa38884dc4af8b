-- An edit is read from its parts, how many bytes it takes, and what a length leaves.
use Rattle.std.proofs.Common.{◌≡◌, ◌≤◌, ◌<◌, ◌^◌, ◌+◌, ◌*◌, ℕ, List, ◌++◌, length, drop, Option, Some, None, refl, sym, ap, ◌∙◌, append_assoc, arith}
use Rattle.mr_entry.proofs.Names.{Event, IfSome, IsSomeAnd, Mail, MatchOption, Name, Reader, Stands, as_at, bytes_at, drop_at, edit_at, event_at, event_parts}
use Rattle.mr_entry.proofs.Names.{flat_map, length-append, message_at, message_bytes, name_bytes, number_at, reads_bytes, reads_u32, u32, versions_at, w32}
use Rattle.std.specs.Global.{Vec}
use Rattle.mr_wire.proofs.BodyLemmas.{stands_as}
use Rattle.mr_wire.proofs.LengthLemmas.{length_of_names}
use Rattle.mr_replica.specs.declared.event.Event.TheVariants.{Edit}

kept_edit : (e : Option Event) (versions : Option (Vec Name)) (message : Option Mail) (bases : List Name) (mail : Mail) → IfSome versions (λ v. v.items ≡ bases) → IfSome message (λ m. m ≡ mail) →
    IfSome e (λ e. IsSomeAnd versions (λ v. IsSomeAnd message (λ m. e ≡ Edit v.items m))) → IfSome e (λ e. e ≡ Edit bases mail)
kept_edit None versions message bases mail is_v is_m made = tt
kept_edit (Some e) None message bases mail is_v is_m made = absurd made
kept_edit (Some e) (Some v) None bases mail is_v is_m made = absurd made
kept_edit (Some e) (Some v) (Some m) bases mail is_v is_m made = made ∙ rw (is_v, is_m) refl

-- an edit
pub stands_edit : (old r1 new : List ℕ) (versions : Option (Vec Name)) (message : Option Mail) (e : Option Event) → Stands (λ (v : Vec Name). v.items) versions_at old versions r1 (λ _. Unit {0}) → Stands (λ (m : Mail). m) message_at r1 message new (λ _. Unit {0}) →
    IfSome e (λ e. IsSomeAnd versions (λ v. IsSomeAnd message (λ m. e ≡ Edit v.items m))) → Stands (λ (e : Event). e) edit_at old e new (λ _. Unit {0})
stands_edit old r1 new versions message e s t made = record { part = Edit s.part t.part; stands = rw (s.stands, t.stands) refl; is_part = kept_edit e versions message s.part t.part s.is_part t.is_part made; told = tt }

-- an event of this kind is one part seen as an event
pub stands_kind : {X : Type 0} {at : Reader X} {old new : List ℕ} {kept : Option X} {Note : X → Type 0} {kind n : ℕ} (to : X → Event) (made : Option Event) → kind ≡ n → ((bytes : List ℕ) → as_at to at bytes ≡ event_at n bytes) →
    Stands (λ (x : X). x) at old kept new Note → MatchOption kept (made ≡ None) (λ k. IsSomeAnd made (λ y. y ≡ to k)) → Stands (λ (e : Event). e) (event_at kind) old made new (λ _. Unit {0})
stands_kind {X} {at} {old} to made is same s h =
    let t = stands_as to made s h in
    record { part = t.part; stands = ap (λ (k : ℕ). event_at k old) is ∙ sym (same old) ∙ t.stands; is_part = t.is_part; told = tt }

-- ---- lengths

pub length_of_edit : (bases : List Name) (message : Mail) → length (event_parts (Edit bases message)) ≡ 4 + 6 * length bases + length (message_bytes message)
length_of_edit bases message =
    omega (arith, length_of_names bases, length-append (u32 (length bases)) (flat_map name_bytes bases ++ message_bytes message), length-append (flat_map name_bytes bases) (message_bytes message))

-- an event that is short enough has few bases
pub few_bases : (bases : List Name) (message : Mail) → length (event_parts (Edit bases message)) ≤ 8388606 → length bases < 2 ^ 32
few_bases bases message h = omega (arith, h, length_of_edit bases message)

-- what is left behind a length and so many bytes
pub left_behind : (old behind rest new : List ℕ) (n : ℕ) → number_at w32 old ≡ Some (n, behind) → bytes_at n behind ≡ Some (rest, new) → new ≡ drop (length rest + 4) old
left_behind old behind rest new n len found =
    let t = reads_u32.takes old n behind len in
    let v = (reads_bytes n).takes behind rest new found in
    let text : List ℕ = u32 n ++ rest in
    let whole : old ≡ text ++ new = t.0 ∙ ap (λ (z : List ℕ). u32 n ++ z) v.0 ∙ sym (append_assoc (u32 n) rest new) in
    sym (ap (drop (length rest + 4)) whole ∙ drop_at text new (length rest + 4) (omega (arith, length-append (u32 n) rest)))
