-- What is read of an event respells the bytes that it took, and what is spelled is read again.
use Rattle.std.proofs.Common.{◌≡◌, ℕ, ◌+◌, ◌<◌, ◌≤◌, ◌^◌, cond, eqb, leb, List, [], ◌∷◌, ◌++◌, length, take, Option, Some, None, Ok, Err, refl, sym, ap, subst, ◌∙◌, append_assoc, arith}
use Rattle.mr_entry.proofs.Names.{AllByRecursion, Event, IsEvent, IsFrame, IsItem, Mail, Name, Reads, RunFits, SpellsEvent, append-nil, as_again, bind_some}
use Rattle.mr_entry.proofs.Names.{eqb-true, event_at, event_decoded, event_kind, event_parts, flat_map, frame_again, frame_kind_at, frame_takes, framed_at}
use Rattle.mr_entry.proofs.Names.{framed_bytes, kind_and_parts, length-append, message_bytes, name_bytes, number_at, reads_ask, reads_counted, reads_like}
use Rattle.mr_entry.proofs.Names.{reads_name, reads_receipt, reads_run, reads_then, reads_u32, reads_u64, reads_u8, rest_bytes, rest_faults, some_is, test_ok}
use Rattle.mr_entry.proofs.Names.{u32, value_again, value_takes, versions_at, w8, whole_event, whole_found, ◌>>=◌}
use Rattle.mr_wire.specs.declared.decoding.TheConstants.{MAX_REST_BYTES}
use Rattle.mr_wire.specs.declared.kind.Kind.{Kind}
use Rattle.mr_wire.specs.declared.kind.Kind.TheVariants as frame_kind
use Rattle.mr_wire.specs.Kinds.{kind_byte as frame_kind_byte, kind_of_byte}
use Rattle.mr_wire.specs.FrameParts.{frame_at}
use Rattle.mr_wire.specs.FrameSpelling as frames
use Rattle.mr_wire.proofs.MessageLemmas.{reads_message}
use Rattle.mr_wire.proofs.DecodeLaws.{byte_is}
use Rattle.mr_replica.specs.declared.event.Event.TheVariants as event
use Rattle.mr_entry.specs.declared.event.fault.EventFault.TheVariants.{BadForm, BadKind, BadBody}
use Rattle.mr_entry.proofs.CodecLaws.{IsCodec, Takes, byte_alone, by_kind, takes_of}

-- ---- versions

-- a version is read alike wherever it stands
abbrev pub same_place : ℕ → Name → ℕ
same_place _ _ = 0

abbrev ItemFits : ℕ → Name → Type 0
ItemFits _ v = IsItem v

are_items : (xs : List Name) → RunFits ItemFits same_place 0 xs → AllByRecursion IsItem xs
are_items [] h = tt
are_items (x ∷ xs) h = (h.0, are_items xs h.1)

items_fit : (xs : List Name) → AllByRecursion IsItem xs → RunFits ItemFits same_place 0 xs
items_fit [] h = tt
items_fit (x ∷ xs) h = (h.0, items_fit xs h.1)

reads_versions : Reads (λ (xs : List Name). (length xs < 2 ^ 32) × AllByRecursion IsItem xs) (λ xs. u32 (length xs) ++ flat_map name_bytes xs) versions_at
reads_versions =
    reads_like (λ (xs : List Name). (length xs < 2 ^ 32) × AllByRecursion IsItem xs) (λ xs. u32 (length xs) ++ flat_map name_bytes xs)
    (reads_counted length reads_u32 (λ n. reads_run {fits = ItemFits} same_place (λ _. reads_name) 0 n))
    (λ xs h. (h.0, are_items xs h.1)) (λ xs h. (h.0, items_fit xs h.1)) (λ xs. refl)

-- ---- frames behind the byte of their kind

-- a kind's byte is one of which it is the kind
is_byte_of : (k : Kind) → (frame_kind_byte k < 256) × (kind_of_byte 2 (frame_kind_byte k) ≡ Some k)
is_byte_of frame_kind.Ask = (omega arith, refl)
is_byte_of k = (omega arith, refl)

kind_again : (k : Kind) (rest : List ℕ) → frame_kind_at (frame_kind_byte k ∷ rest) ≡ Some (k, rest)
kind_again k rest =
    let b = is_byte_of k in
    ap (λ (z : List ℕ). frame_kind_at (z ++ rest)) (sym (byte_alone (frame_kind_byte k) b.0)) ∙ rw (reads_u8.again (frame_kind_byte k) rest b.0, b.1) refl

kind_takes : (bytes : List ℕ) (k : Kind) (rest : List ℕ) → frame_kind_at bytes ≡ Some (k, rest) → bytes ≡ frame_kind_byte k ∷ rest
kind_takes bytes k rest e =
    let a = bind_some (number_at w8 bytes) (λ byte. kind_of_byte 2 byte.0 >>= λ x. Some (x, byte.1)) (k, rest) e in
    let b = bind_some (kind_of_byte 2 a.0.0) (λ x. Some (x, a.0.1)) (k, rest) a.2 in
    let is : (b.0, a.0.1) ≡ (k, rest) = some_is (b.0, a.0.1) (k, rest) b.2 in
    let t = reads_u8.takes bytes a.0.0 a.0.1 a.1 in
    t.0 ∙ ap (λ (z : List ℕ). z ++ a.0.1) (byte_alone a.0.0 t.1) ∙ ap (λ (n : ℕ). n ∷ a.0.1) (byte_is 2 a.0.0 b.0 b.1) ∙ ap (λ (p : Kind × List ℕ). frame_kind_byte p.0 ∷ p.1) is

reads_framed : Reads IsFrame framed_bytes framed_at
reads_framed = record {
  takes = λ bytes f rest e.
      let a = bind_some (frame_kind_at bytes) (λ k. frame_at k.0 k.1) (f, rest) e in
      let t = frame_takes a.0.0 a.0.1 f rest a.2 in
      let head = kind_takes bytes a.0.0 a.0.1 a.1 in
      (head ∙ ap (λ (z : List ℕ). frame_kind_byte a.0.0 ∷ z) t.parts ∙ ap (λ (k : Kind). frame_kind_byte k ∷ (frames.part_bytes f ++ rest)) (sym t.kind_is), t.in_grammar);
  again = λ f rest h. ap (λ (o : Option (Kind × List ℕ)). o >>= λ k. frame_at k.0 k.1) (kind_again (frames.kind_of f) (frames.part_bytes f ++ rest)) ∙ frame_again f rest h;
}

-- ---- what stands behind a kind

abbrev edit_of : List Name × Mail → Event
edit_of p = event.Edit p.0 p.1

edit_parts : (p : List Name × Mail) → (u32 (length p.0) ++ flat_map name_bytes p.0) ++ message_bytes p.1 ≡ event_parts (edit_of p)
edit_parts p = append_assoc (u32 (length p.0)) (flat_map name_bytes p.0) (message_bytes p.1)

module _ (kind : ℕ) (bytes : List ℕ) (e : Event) (rest : List ℕ) where
  abbrev Tells : ℕ → Type 0
  Tells k = Takes event_kind event_parts IsEvent k bytes e rest

  -- an event without parts
  alone : (x : Event) → event_parts x ≡ [] → IsEvent x → ◌≡◌ {A = Option (Event × List ℕ)} (Some (x, bytes)) (Some (e, rest)) → Tells (event_kind x)
  alone x nothing fits h =
      subst (λ (p : Event × List ℕ). Takes event_kind event_parts IsEvent (event_kind x) bytes p.0 p.1) (some_is (x, bytes) (e, rest) h)
      (record { parts = ap (λ (z : List ℕ). z ++ bytes) (sym nothing); kind_is = refl; in_grammar = fits })

  none : ◌≡◌ {A = Option (Event × List ℕ)} None (Some (e, rest)) → Tells kind
  none h = absurd cc

  event_takes : event_at kind bytes ≡ Some (e, rest) → Tells kind
  event_takes =
      by_kind Tells kind 0 _ _ _ (takes_of event_kind event_parts IsEvent event.Create 0 reads_message (λ x. refl) (λ x. refl) (λ x h. h) bytes e rest)
      (by_kind Tells kind 1 _ _ _ (takes_of event_kind event_parts IsEvent edit_of 1 (reads_then reads_versions (λ _. reads_message)) edit_parts (λ x. refl) (λ x h. (h.0.0, h.0.1, h.1)) bytes e rest)
      (by_kind Tells kind 2 _ _ _ (alone event.Retire refl tt)
      (by_kind Tells kind 3 _ _ _ (alone event.Pull refl tt)
      (by_kind Tells kind 4 _ _ _ (takes_of event_kind event_parts IsEvent event.Receive 4 reads_framed (λ x. refl) (λ x. refl) (λ x h. h) bytes e rest)
      (by_kind Tells kind 5 _ _ _ (takes_of event_kind event_parts IsEvent event.CutIn 5 reads_u64 (λ x. refl) (λ x. refl) (λ x h. h) bytes e rest)
      (by_kind Tells kind 6 _ _ _ (takes_of event_kind event_parts IsEvent event.Answer 6 reads_ask (λ x. refl) (λ x. refl) (λ x h. h) bytes e rest)
      (by_kind Tells kind 7 _ _ _ (takes_of event_kind event_parts IsEvent event.Next 7 reads_u64 (λ x. refl) (λ x. refl) (λ x h. h) bytes e rest)
      (by_kind Tells kind 8 _ _ _ (takes_of event_kind event_parts IsEvent event.CutOut 8 reads_u64 (λ x. refl) (λ x. refl) (λ x h. h) bytes e rest)
      (by_kind Tells kind 9 _ _ _ (takes_of event_kind event_parts IsEvent event.Vouch 9 reads_name (λ x. refl) (λ x. refl) (λ x h. h) bytes e rest)
      (by_kind Tells kind 10 _ _ _ (takes_of event_kind event_parts IsEvent event.Release 10 reads_receipt (λ x. refl) (λ x. refl) (λ x h. h) bytes e rest) none))))))))))

event_again : (e : Event) (rest : List ℕ) → IsEvent e → event_at (event_kind e) (event_parts e ++ rest) ≡ Some (e, rest)
event_again (event.Create message) rest h = as_again event.Create reads_message message rest h
event_again (event.Edit bases message) rest h =
    ap (event_at 1) (ap (λ (z : List ℕ). z ++ rest) (sym (edit_parts (bases, message)))) ∙ as_again edit_of (reads_then reads_versions (λ _. reads_message)) (bases, message) rest ((h.0, h.1), h.2)
event_again event.Retire rest h = refl
event_again event.Pull rest h = refl
event_again (event.Receive f) rest h = as_again event.Receive reads_framed f rest h
event_again (event.CutIn session) rest h = as_again event.CutIn reads_u64 session rest h
event_again (event.Answer q) rest h = as_again event.Answer reads_ask q rest h
event_again (event.Next stream) rest h = as_again event.Next reads_u64 stream rest h
event_again (event.CutOut stream) rest h = as_again event.CutOut reads_u64 stream rest h
event_again (event.Vouch version) rest h = as_again event.Vouch reads_name version rest h
event_again (event.Release r) rest h = as_again event.Release reads_receipt r rest h

-- ---- events behind their length

head_takes : (rest : List ℕ) (kind : ℕ) (parts : List ℕ) → kind_and_parts rest ≡ Ok (kind, parts) → rest ≡ 1 ∷ kind ∷ parts
head_takes [] kind parts e = absurd cc
head_takes (form ∷ []) kind parts e = absurd cc
head_takes (form ∷ byte ∷ more) kind parts e =
    let a = test_ok (eqb form 1) (cond (leb byte 10) (Ok (byte, more)) (Err BadKind)) BadForm (kind, parts) e in
    let b = test_ok (leb byte 10) (Ok (byte, more)) BadKind (kind, parts) a.1 in
    let is : (byte, more) ≡ (kind, parts) = cc in
    ap (λ (n : ℕ). n ∷ byte ∷ more) (eqb-true form 1 a.0) ∙ ap (λ (p : ℕ × List ℕ). 1 ∷ p.0 ∷ p.1) is

head_again : (e : Event) → kind_and_parts (rest_bytes e) ≡ Ok (event_kind e, event_parts e)
head_again event.Retire = refl
head_again e = refl

whole_again : (e : Event) → IsEvent e → whole_event (event_kind e) (event_parts e) ≡ Some e
whole_again e h =
    let read : event_at (event_kind e) (event_parts e) ≡ Some (e, []) = ap (event_at (event_kind e)) (sym (append-nil (event_parts e))) ∙ event_again e [] h in
    rw read refl

pub event_codec : IsCodec SpellsEvent event_decoded
event_codec = record {
  takes = λ bytes e n h.
      let v = value_takes rest_faults BadBody kind_and_parts whole_event bytes e n h in
      let t = event_takes v.kind v.parts e [] (whole_found (event_at v.kind) v.parts e v.found) in
      let parts_are : v.parts ≡ event_parts e = t.parts ∙ append-nil (event_parts e) in
      let rest_is : v.rest ≡ rest_bytes e = head_takes v.rest v.kind v.parts v.headed ∙ ap (λ (z : List ℕ). 1 ∷ v.kind ∷ z) parts_are ∙ ap (λ (k : ℕ). 1 ∷ k ∷ event_parts e) (sym t.kind_is) in
      let spelled : SpellsEvent e (take n bytes) = record {
        in_grammar = t.in_grammar;
        few = subst (λ (z : List ℕ). length z ≤ MAX_REST_BYTES) rest_is v.few;
        written = v.written ∙ ap (λ (z : List ℕ). u32 (length z) ++ z) rest_is;
      } in
      (spelled, v.within);
  again = λ e text more s.
      let rest = rest_bytes e in
      let len : length rest + 4 ≡ length text = omega (arith, ap length s.written, length-append (u32 (length rest)) rest) in
      ap (λ (z : List ℕ). event_decoded (z ++ more)) s.written
      ∙ value_again rest_faults BadBody kind_and_parts whole_event rest more (event_kind e) (event_parts e) e (omega arith) s.few (head_again e) (whole_again e s.in_grammar)
      ∙ ap (λ (n : ℕ). Ok (e, n)) len;
}

pub event_spelled_once : (e : Event) (a b : List ℕ) → SpellsEvent e a → SpellsEvent e b → a ≡ b
event_spelled_once e a b s t = s.written ∙ sym t.written
