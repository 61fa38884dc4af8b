-- What one event comes to: what the code finds and does is what the definitions say.
use Rattle.std.proofs.Common.{◌≡◌, ◌==◌, ◌++◌, ℕ, Bool, true, false, cond, List, [], ◌∷◌, Option, Some, None, Result, Ok, Err, refl, sym, ap, subst, ◌∙◌, arith}
use Rattle.mr_world.proofs.Names.Lists.{append-nil, is_none, position, slice_set}
use Rattle.std.specs.Prelude.{All}
use Rattle.std.proofs.lemmas.List.Elements.{All-nil, All-cons, All-append}
use Rattle.mr_world.proofs.Names.Wire.{Question, Receipt, Sent}
use Rattle.mr_world.proofs.Names.Replica.{Event as ReplicaEvent, Reply, State, step_setting}
use Rattle.mr_world.proofs.Names.Model.{Event, Indexer, Notifier, Subscriber}
use Rattle.mr_world.proofs.Names.Mails.{Form, Mail}
use Rattle.mr_world.proofs.Names.World.{Answer, AreFrames, Does, Finds, Fulfils, Gains, GainsBy, Given, GivenLists, Happens, HasMore, IsAskFrame}
use Rattle.mr_world.proofs.Names.World.{IsGivenBy, IsReceiptFrame, IsRecordFrame, KeepsFrames, Leads, Meets, MemberView, NoSuchFrame, NoSuchReplica}
use Rattle.mr_world.proofs.Names.World.{OutOfMemory, PoolList, Port, Stepped, StepsTo, Task, WorldFault, WorldView, answered, asked_of, port_of}
use Rattle.mr_world.proofs.Names.World.{questions_in, receipts_in, sents_in, stop_fault, with_given, with_port, world_view}
use Rattle.mr_replica.specs.declared.event.Reply.TheVariants as reply
use Rattle.mr_world.specs.declared.answered.Answered.{Answered}
use Rattle.mr_world.specs.declared.pools.Given.TheVariants as given
use Rattle.mr_world.specs.declared.task.Task.TheVariants as task
use Rattle.mr_world.proofs.Running.MemberPlaces.{IsPlace, not_found, becomes, goes_back}
use Rattle.mr_world.proofs.Running.Pools.{asks, one_more, receipts, records}

module _ {K : Type 0} where
  -- where there is the replica, why the world stops depends on the frame
  stops : (ms : List (MemberView K)) (place : ℕ) (m : MemberView K) (p : PoolList) (xs : List Answered) (e : Event Mail) (b : Bool) → IsPlace ms e.replica place m → is_none (asked_of p e.act) ≡ b
      → stop_fault (world_view ms p xs) e ≡ cond b (Some NoSuchFrame) None
  stops ms place m p xs e b pl h = rw (pl.found, h) refl

-- ---- frames stay frames

pub kept_frames : (p q : PoolList) → KeepsFrames p q → AreFrames p → AreFrames q
kept_frames p q h all = record {
  asks = subst (λ (frames : List (List ℕ)). All IsAskFrame frames) (sym h.asks) all.asks;
  records = subst (λ (frames : List (List ℕ)). All IsRecordFrame frames) (sym h.records) all.records;
  receipts = subst (λ (frames : List (List ℕ)). All IsReceiptFrame frames) (sym h.receipts) all.receipts;
}

more_frames : (p q : PoolList) (asks records receipts : List (List ℕ)) → HasMore p q asks records receipts → AreFrames p → All IsAskFrame asks → All IsRecordFrame records → All IsReceiptFrame receipts → AreFrames q
more_frames p q asks records receipts h all a b c = record {
  asks = subst (λ (frames : List (List ℕ)). All IsAskFrame frames) (sym h.asks) (All-append IsAskFrame p.asks.frames asks all.asks a);
  records = subst (λ (frames : List (List ℕ)). All IsRecordFrame frames) (sym h.records) (All-append IsRecordFrame p.records.frames records all.records b);
  receipts = subst (λ (frames : List (List ℕ)). All IsReceiptFrame frames) (sym h.receipts) (All-append IsReceiptFrame p.receipts.frames receipts all.receipts c);
}

given_frames : (p q : PoolList) (told : Reply) (g : Given) → IsGivenBy told g → Gains p g q → AreFrames p → AreFrames q
given_frames p q (reply.Asked x) (given.Ask bytes) is h all = more_frames p q (bytes.items ∷ []) [] [] h all (All-cons IsAskFrame bytes.items [] (x, is) (All-nil IsAskFrame)) (All-nil IsRecordFrame) (All-nil IsReceiptFrame)
given_frames p q (reply.Asked x) g is h all = absurd is
given_frames p q (reply.Gave x) (given.Record bytes) is h all = more_frames p q [] (bytes.items ∷ []) [] h all (All-nil IsAskFrame) (All-cons IsRecordFrame bytes.items [] (x, is) (All-nil IsRecordFrame)) (All-nil IsReceiptFrame)
given_frames p q (reply.Gave x) g is h all = absurd is
given_frames p q (reply.Vouched x) (given.Receipt bytes) is h all = more_frames p q [] [] (bytes.items ∷ []) h all (All-nil IsAskFrame) (All-nil IsRecordFrame) (All-cons IsReceiptFrame bytes.items [] (x, is) (All-nil IsReceiptFrame))
given_frames p q (reply.Vouched x) g is h all = absurd is
given_frames p q told g is h all = kept_frames p q (subst (λ (g : Given). Gains p g q) is h) all

gained_frames : (p q : PoolList) (answer : Answer) → GainsBy p answer q → AreFrames p → AreFrames q
gained_frames p q (Stepped (Ok told)) h all = given_frames p q told h.0 h.1 h.2 all
gained_frames p q answer h all = kept_frames p q h all

-- ---- what frames are comes into the pools

-- what the frames of pools are
abbrev lists : PoolList → GivenLists
lists p = record { asks = questions_in p.asks.frames; records = sents_in p.records.frames; receipts = receipts_in p.receipts.frames }

same_lists : (p p' : PoolList) → KeepsFrames p p' → lists p' ≡ lists p
same_lists p p' h = λ i. record { asks = questions_in (h.asks i); records = sents_in (h.records i); receipts = receipts_in (h.receipts i) }

gathers : (p p' : PoolList) (qs : List Question) (xs : List Sent) (ys : List Receipt) → questions_in p'.asks.frames ≡ qs → sents_in p'.records.frames ≡ xs → receipts_in p'.receipts.frames ≡ ys
    → lists p' ≡ record { asks = qs; records = xs; receipts = ys }
gathers p p' qs xs ys a b c = λ i. record { asks = a i; records = b i; receipts = c i }

gained_reply : (p p' : PoolList) (told : Reply) (g : Given) → IsGivenBy told g → Gains p g p' → lists p' ≡ with_given (lists p) (Stepped (Ok told))
gained_reply p p' (reply.Asked x) (given.Ask bytes) is h = gathers p p' _ _ _
    (ap questions_in h.asks ∙ one_more asks p.asks.frames x bytes.items is) (ap sents_in (h.records ∙ append-nil p.records.frames)) (ap receipts_in (h.receipts ∙ append-nil p.receipts.frames))
gained_reply p p' (reply.Asked x) g is h = absurd is
gained_reply p p' (reply.Gave x) (given.Record bytes) is h = gathers p p' _ _ _
    (ap questions_in (h.asks ∙ append-nil p.asks.frames)) (ap sents_in h.records ∙ one_more records p.records.frames x bytes.items is) (ap receipts_in (h.receipts ∙ append-nil p.receipts.frames))
gained_reply p p' (reply.Gave x) g is h = absurd is
gained_reply p p' (reply.Vouched x) (given.Receipt bytes) is h = gathers p p' _ _ _
    (ap questions_in (h.asks ∙ append-nil p.asks.frames)) (ap sents_in (h.records ∙ append-nil p.records.frames)) (ap receipts_in h.receipts ∙ one_more receipts p.receipts.frames x bytes.items is)
gained_reply p p' (reply.Vouched x) g is h = absurd is
gained_reply p p' told g is h = grind (arith, gathers, questions_in, asks, one_more, sents_in, records, append-nil, receipts_in, receipts, same_lists)

-- the pools gain what was given
gained : (p p' : PoolList) (answer : Answer) → GainsBy p answer p' → lists p' ≡ with_given (lists p) answer
gained p p' (Stepped (Ok told)) h = gained_reply p p' told h.0 h.1 h.2
gained p p' answer h = grind (arith, gained_reply, same_lists)

module _ {K : Type 0} where
  -- the same frames are the same requests, records and receipts
  same_view : (ms : List (MemberView K)) (p p' : PoolList) (xs : List Answered) → KeepsFrames p p' → world_view ms p' xs ≡ world_view ms p xs
  same_view ms p p' xs h = λ i. record { members = ms; asks = questions_in (h.asks i); records = sents_in (h.records i); receipts = receipts_in (h.receipts i); answers = xs }

module _ {K : Type 0} (form : Form K) where
  -- whatever comes of a task, the pools have frames of their kinds
  pub fulfilled_frames : (m m' : MemberView K) (o p q : PoolList) (t : Task) (result : Result Answer WorldFault) → KeepsFrames o p → Fulfils (Does form t) m p result m' q → AreFrames o → AreFrames q
  fulfilled_frames m m' o p q t (Ok answer) same h all = gained_frames p q answer h.1 (kept_frames o p same all)
  fulfilled_frames m m' o p q t (Err OutOfMemory) same h all = kept_frames p q h.1 (kept_frames o p same all)
  fulfilled_frames m m' o p q t (Err NoSuchReplica) same h all = absurd h
  fulfilled_frames m m' o p q t (Err NoSuchFrame) same h all = absurd h

  -- ---- ids

  port_id : (m : MemberView K) (u : Subscriber) (port : Port) → (with_port m u port).replica.id ≡ m.replica.id
  port_id m u port = grind arith

  stepped_id : (s s' : State K) (e : ReplicaEvent) (answer : Answer) → StepsTo form e s answer s' → s'.id ≡ s.id
  stepped_id s s' e (Stepped answer) h = (step_setting form s s' e answer h.1).id
  stepped_id s s' e answer h = grind (arith, step_setting)

  done_id : (m m' : MemberView K) (t : Task) (answer : Answer) → Does form t m answer m' → m'.replica.id ≡ m.replica.id
  done_id m m' t answer h = grind (arith, stepped_id, port_id, port_of)

  -- ---- what one event comes to

  -- there is no such replica
  pub no_such_replica : (ms : List (MemberView K)) (p : PoolList) (xs : List Answered) (e : Event Mail) → position (λ m. m.replica.id == e.replica) ms ≡ None
      → Meets form (world_view ms p xs) e (Err NoSuchReplica) (world_view ms p xs)
  no_such_replica ms p xs e h = let none = not_found ms e.replica h in (rw none refl, refl)

  module _ (ms : List (MemberView K)) (place : ℕ) (m : MemberView K) (p : PoolList) (xs : List Answered) (e : Event Mail) (pl : IsPlace ms e.replica place m) where
    -- there is no such frame, or no memory for a task
    pub no_task : (fault : WorldFault) → Finds (asked_of p e.act) (Err fault) → Meets form (world_view ms p xs) e (Err fault) (world_view ms p xs)
    no_task fault h = grind (arith, stops, is_none)

    module _ (q : PoolList) (t : Task) (same : KeepsFrames p q) (is : asked_of p e.act ≡ Some t) where
      -- nothing stops the world but want of memory
      fine : stop_fault (world_view ms p xs) e ≡ None
      fine = stops ms place m p xs e false pl (ap (λ (o : Option Task). is_none o) is)

      -- there is no memory for places
      pub no_places : Meets form (world_view ms p xs) e (Err OutOfMemory) (world_view ms q xs)
      no_places = (fine, same_view ms p q xs same)

      -- the task was done
      pub happens : (m' : MemberView K) (p' : PoolList) (xs' : List Answered) (answer : Answer) → Fulfils (Does form t) m q (Ok answer) m' p' → xs' ≡ xs ++ answered e answer ∷ []
          → Happens form (world_view ms p xs) e answer (world_view (slice_set ms place m') p' xs')
      happens m' p' xs' answer h noted = record {
        task = t;
        old = m;
        new = m';
        asks = is;
        does = h.0;
        becomes = becomes ms e.replica place m m' pl (done_id m m' t answer h.0);
        gives = gained q p' answer h.1 ∙ ap (λ (lists : GivenLists). with_given lists answer) (same_lists p q same);
        notes = noted;
      }

      -- it could not be done
      pub not_done : (m' : MemberView K) (p' : PoolList) (fault : WorldFault) → Fulfils (Does form t) m q (Err fault) m' p' → Meets form (world_view ms p xs) e (Err fault) (world_view (slice_set ms place m') p' xs)
      not_done m' p' fault h = grind (arith, fine, world_view, slice_set, goes_back, same_view)

  -- ---- runs

  -- one event more
  pub leads_more : (w mid w' : WorldView K) (es : List (Event Mail)) (e : Event Mail) (answer : Answer) → Leads form w es mid → Happens form mid e answer w' → Leads form w (es ++ e ∷ []) w'
  leads_more w mid w' [] e answer h k = (w', (answer, subst (λ (v : WorldView K). Happens form v e answer w') h k), refl)
  leads_more w mid w' (x ∷ es) e answer h k = (h.0, h.1, leads_more h.0 mid w' es e answer h.2 k)
