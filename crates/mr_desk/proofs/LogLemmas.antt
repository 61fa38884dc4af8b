-- a log is read event by event
use Rattle.std.proofs.Common.{◌≡◌, ◌++◌, ◌∷◌, [], ℕ, List, take, drop, All, refl, sym, ap, ◌∙◌, append_assoc}
use Rattle.mr_desk.proofs.Names.{flat_map, flat_map_more, take-append-drop}
use Rattle.std.proofs.lemmas.List.Elements.{All-push}
use Rattle.mr_entry.specs.Grammar.{SpellsEvent}
use Rattle.mr_entry.specs.Spelling.{event_bytes}
use Rattle.mr_replica.specs.declared.event.Event.{Event}
use Rattle.mr_desk.specs.Log.{HasBytes}

-- The bytes are those of the events so far, and the rest.
pub record ReadSoFar (bytes : List ℕ) (events : List Event) (rest : List ℕ) : Type 0 where
  pub each : All HasBytes events
  pub all : bytes ≡ flat_map event_bytes events ++ rest

-- an event that is spelled has its bytes
has_bytes : (e : Event) (text : List ℕ) → SpellsEvent e text → HasBytes e
has_bytes e text s = record { in_grammar = s.in_grammar; few = s.few; written = refl }

-- one event more
pub log-more : (bytes rest : List ℕ) (events : List Event) (e : Event) (used : ℕ) → ReadSoFar bytes events rest → SpellsEvent e (take used rest) → ReadSoFar bytes (events ++ e ∷ []) (drop used rest)
log-more bytes rest events e used so_far s =
    let split : rest ≡ event_bytes e ++ drop used rest = sym (take-append-drop used rest) ∙ ap (λ t. t ++ drop used rest) s.written in
    record {
      each = All-push HasBytes events e so_far.each (has_bytes e (take used rest) s);
      all = so_far.all ∙ ap (λ r. flat_map event_bytes events ++ r) split ∙ sym (append_assoc (flat_map event_bytes events) (event_bytes e) (drop used rest)) ∙ ap (λ t. t ++ drop used rest) (flat_map_more event_bytes [] events e);
    }
