-- what is wrong with bytes that are no entry, or no entry that belongs where it stands
use Rattle.std.proofs.Common.{◌≡◌, inr, Result, Err, ℕ, ◌+◌, ◌<◌, ◌≤◌, List, ◌∷◌, ◌++◌, length, take, drop, get_or, arith, sym, ap, subst, ◌∙◌, length-drop}
use Rattle.mr_kept.proofs.Names.{ClauseParts, Entry, Event, Form, Global, HeadParts, IsLonger, IsNoLog, IsNoReplay, IsOfPlace, IsRefused, IsReplayFault}
use Rattle.mr_kept.proofs.Names.{IsWrong, MAX_EVENTS, NoteParts, OpenFault, Option, Spells, StopsAt, Vec, contents, drop_more, entry_bytes}
use Rattle.mr_kept.proofs.Names.{events_of, issued_after, length-map, length-take-le, take-append-drop, ◌≢◌}
use Rattle.mr_replica.specs.declared.replica.replay.ReplayFault.{ReplayFault}
use Rattle.mr_replica.specs.declared.replica.replay.ReplayFault.TheVariants as replay
use Rattle.mr_kept.specs.declared.fault.OpenFault.TheVariants as fault
use Rattle.mr_kept.proofs.EntryLemmas.{GatheredSoFar, contents_append}
use Rattle.mr_kept.proofs.OpenLemmas.{IsHeaded}

-- what was read is only the front of the bytes
pub is_longer : (bytes : List ℕ) (found : Entry) (used : ℕ) → Spells found (take used bytes) → used ≤ length bytes → used ≢ length bytes → IsLonger bytes
is_longer bytes found used spells within other = record {
  found = found;
  front = take used bytes;
  left = drop used bytes;
  spells = spells;
  text_is = sym (take-append-drop used bytes);
  some = λ none. other (omega (arith, within, ap length none, length-drop used bytes));
}

wrong_as : (place at issued n count m : ℕ) (text : List ℕ) (why : OpenFault) → place ≡ at → issued ≡ n → count ≡ m → IsWrong place issued count text why → IsWrong at n m text why
wrong_as place at issued n count m text why at_is n_is m_is wrong = grind arith

-- the text that comes next is wrong
pub stops_at : (entries : List (Vec ℕ Global)) (i place : ℕ) (bytes : Vec ℕ Global) (events : List Event) (issued : ℕ) (notes : List NoteParts) (why : OpenFault) → GatheredSoFar (contents (take i entries)) events issued notes
    → i < length entries → bytes ≡ get_or entries i bytes → place ≡ i + 1 → IsWrong place issued (length events) bytes.items why → StopsAt (contents entries) why
stops_at entries i place bytes events issued notes why so_far within is place_is wrong =
    let front : List (Vec ℕ Global) = take i entries in
    let behind : List (Vec ℕ Global) = drop (i + 1) entries in
    let list : List Entry = so_far.list in
    let all : entries ≡ front ++ bytes ∷ behind =
    sym (take-append-drop i entries) ∙ ap (λ (l : List (Vec ℕ Global)). front ++ l) (drop_more entries i bytes within ∙ ap (λ (y : Vec ℕ Global). y ∷ behind) (sym is)) in
    let count : length list ≡ i =
    sym (length-map list entry_bytes) ∙ ap length (sym so_far.spelled.written) ∙ length-map front (λ (v : Vec ℕ Global). v.items) ∙ length-take-le i entries (omega (arith, within)) in
    record {
      before = list;
      text = bytes.items;
      left = contents behind;
      all = ap contents all ∙ contents_append front (bytes ∷ behind) ∙ ap (λ (l : List (List ℕ)). l ++ bytes.items ∷ contents behind) so_far.spelled.written;
      in_grammar = so_far.spelled.in_grammar;
      order = record { belong = so_far.belong; few = subst (λ (l : List Event). length l ≤ MAX_EVENTS + 1) (sym so_far.events_told) so_far.few };
      wrong = wrong_as place (length list + 1) issued (issued_after 0 (events_of list)) (length events) (length (events_of list)) bytes.items why (omega (arith, place_is, count))
          (so_far.issued_is ∙ ap (issued_after 0) (sym so_far.events_told)) (ap length (sym so_far.events_told)) wrong;
    }

module _ {K : Type 0} (form : Form K) where
  -- what is refused behind a head and its filter
  pub refused_log : {texts rest : List (List ℕ)} {head : HeadParts} {filter : List ClauseParts} → IsHeaded texts rest head filter → (mark : List ℕ) (birth : Option (List ℕ)) (why : OpenFault) → IsOfPlace head mark birth → IsNoLog form head filter rest why
      → IsRefused form texts mark birth why
  refused_log {head = head} {filter} headed mark birth why place wrong = subst (λ (l : List (List ℕ)). IsRefused form l mark birth why) (sym headed.first) (inr (head, headed.spells, inr (place, inr (filter, headed.reads, wrong))))

  -- why the events make no replica
  pub no_replay : {S : Type 0} (head : HeadParts) (filter : List ClauseParts) (events given : List Event) (id limit : ℕ) (why : ReplayFault) → id ≡ head.id → limit ≡ head.event_limit → events ≡ given
      → (◌≡◌ {A = Result S ReplayFault} (Err why) (Err replay.BadLimit) → ¬ ((1 ≤ limit) × (limit ≤ MAX_EVENTS))) → IsReplayFault form id filter limit given why → IsNoReplay form head filter events (fault.Replay why)
  no_replay head filter events given id limit why id_is limit_is same bad h = grind arith
