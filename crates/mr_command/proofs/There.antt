-- what a command that was read names is there
use Rattle.std.proofs.Common.{◌≡◌, ◌≤◌, ◌&&◌, ℕ, Bool, true, false, not, nat_le, List, [], ◌∷◌, Result, Ok, Err, IsTrue, IsFalse, IfOk, codes, refl, arith}
use Rattle.mr_command.proofs.Names.{Asks, Both, LineFault, Pool, Reading, Receipts, Records, Scene, choose, ends, fails, gives, gives_if, goes_on, happens}
use Rattle.mr_command.proofs.Names.{nat_tests, reads_alone, reads_command, reads_event, reads_named, reads_question, reads_sync, reads_two, reads_words}
use Rattle.mr_command.proofs.Names.{text_eq, words, ◌andthen◌}
use Rattle.mr_feed.specs.declared.port.TheConstants.{MAX_CAPACITY}
use Rattle.mr_replica.specs.declared.replica.TheConstants.{MAX_EVENTS}
use Rattle.mr_mail.specs.Mail.{Mail}
use Rattle.mr_model.specs.History.{◌does◌}
use Rattle.mr_model.specs.declared.event.Act.{Act}
use Rattle.mr_model.specs.declared.event.Act.TheVariants.{Create, Edit, Retire, Pull, Answer, Next, Receive, DeliverPart, CutIn, CutOut, Offer, Take, Close, Vouch, Release}
use Rattle.mr_model.specs.declared.event.Event.{Event}
use Rattle.mr_world.specs.declared.spec.Spec.{Spec}
use Rattle.mr_command.specs.declared.command.Command.{Command}
use Rattle.mr_command.specs.declared.command.Command.TheVariants.{AddReplica, Happen, Sync, Ask}
use Rattle.mr_command.specs.declared.command.Sync.{Sync as Session}
use Rattle.mr_command.specs.declared.command.Question.{Question}
use Rattle.mr_command.specs.declared.command.Question.TheVariants.{Heads, PushOuts, Conflicts, Know, Feed, Log, Show, Bytes, Index, Unseen}
use Rattle.mr_command.specs.declared.fault.LineFault.TheVariants.{LateReplica, UnknownCommand}
use Rattle.mr_command.specs.Event.{reads_create, reads_edit, reads_part}
use Rattle.mr_command.specs.Named.{reads_replica, reads_new_id, reads_frame}
use Rattle.mr_command.specs.Number.{reads_up_to}
use Rattle.mr_command.specs.Opening.{SpecParts, reads_spec, reads_opening}
use Rattle.mr_command.specs.Question.{reads_text, reads_bytes, reads_index}
use Rattle.mr_command.specs.There.{IsNew, MayHappen, has_frame_of, has_subject_of, IsThere}

-- what was read in two steps
steps : {X Y : Type 0} {First : Reading X} {Next : X → Reading Y} {r : Result Y LineFault} (y : Y) → r ≡ Ok y → Both First Next r → (x : X) × First (Ok x) × Next x (Ok y)
steps y is (goes_on {x = x} first next) = (x, first, rw is at next)
steps y is (ends first) = cc

step : {X Y : Type 0} {First : Reading X} {Next : X → Reading Y} {y : Y} → Both First Next (Ok y) → (x : X) × First (Ok x) × Next x (Ok y)
step {y = y} both = steps y refl both

-- what was given has passed the test
passed : {X : Type 0} (b : Bool) (fault : LineFault) (x y : X) → gives_if b fault x (Ok y) → (b ≡ true) × (y ≡ x)
passed true fault x y is = (refl, cc)
passed false fault x y is = cc

-- what was chosen is so in both cases
chosen : {X P : Type 0} (b : Bool) (first second : Reading X) (r : Result X LineFault) → (first r → P) → (second r → P) → choose b first second r → P
chosen true first second r f g reads = f reads
chosen false first second r f g reads = g reads

-- what was named and then tested has passed the test
tested : {X : Type 0} {Names : Reading X} (test : X → Bool) (fault : LineFault) (x : X) → (Names andthen λ y. gives_if (test y) fault y) (Ok x) → test x ≡ true
tested test fault x reads =
    let (named, names, given) = step reads in
    let (holds, is) = passed (test named) fault named x given in
    rw is holds

module _ (scene : Scene) where
  replica-there : (word : List ℕ) (id : ℕ) → reads_replica scene word (Ok id) → IsTrue (scene.has_replica id)
  replica-there word id reads = tested scene.has_replica _ id reads

  frame-there : (pool : Pool) (word : List ℕ) (n : ℕ) → reads_frame scene pool word (Ok n) → IsTrue (scene.has_frame pool n)
  frame-there pool word n reads = tested (scene.has_frame pool) _ n reads

  new-other : (word : List ℕ) (id : ℕ) → reads_new_id scene word (Ok id) → IsFalse (scene.has_replica id)
  new-other word id reads =
      let new = tested (λ y. not (scene.has_replica y)) _ id reads in
      grind (arith, new)

  alone-there : (args : List (List ℕ)) (id : ℕ) → reads_alone scene args (Ok id) → IsTrue (scene.has_replica id)
  alone-there args id reads =
      let (word, took, read) = step reads in
      replica-there word id read

  -- of two words, the first named a replica that is there, and the second was read
  two-there : {X : Type 0} (Reads : List ℕ → Reading X) (args : List (List ℕ)) (x : ℕ × X) → reads_two scene Reads args (Ok x) → (word : List ℕ) × IsTrue (scene.has_replica x.0) × Reads word (Ok x.1)
  two-there Reads args x reads =
      let (ws, took, a) = step reads in
      let (id, found, b) = step a in
      let (y, read, gave) = step b in
      let same : x ≡ (id, y) = cc in
      rw same (ws.1, replica-there ws.0 id found, read)

  -- what was read and made into a command
  made-there : {X : Type 0} (Reads : Reading X) (make : X → Command) → ((x : X) → Reads (Ok x) → IsThere scene (make x)) → (command : Command) → (Reads andthen λ x. gives (make x)) (Ok command) → IsThere scene command
  made-there Reads make there command reads =
      let (x, read, gave) = step reads in
      let same : command ≡ make x = cc in
      rw same (there x read)

  -- events
  create-there : (args : List (List ℕ)) (e : Event Mail) → reads_create scene args (Ok e) → MayHappen scene e
  create-there [] e reads = cc
  create-there (replica ∷ args) e reads =
      let (parts, took, a) = step reads in
      let (id, read, b) = step a in
      let (message, made, is) = step b in
      let same : e ≡ (id does Create message) = cc in
      rw same (record { replica = replica-there replica id read; frame = refl })

  edit-there : (args : List (List ℕ)) (e : Event Mail) → reads_edit scene args (Ok e) → MayHappen scene e
  edit-there [] e reads = cc
  edit-there (replica ∷ []) e reads = cc
  edit-there (replica ∷ bases ∷ args) e reads =
      let (parts, took, a) = step reads in
      let (id, read, b) = step a in
      let (versions, joined, c) = step b in
      let (message, made, is) = step c in
      let same : e ≡ (id does Edit versions message) = cc in
      rw same (record { replica = replica-there replica id read; frame = refl })

  part-there : (args : List (List ℕ)) (e : Event Mail) → reads_part scene args (Ok e) → MayHappen scene e
  part-there args e reads =
      let (ws, took, a) = step reads in
      let (id, read, b) = step a in
      let (n, found, c) = step b in
      let (count, spells, is) = step c in
      let same : e ≡ (id does DeliverPart n count) = cc in
      rw same (record { replica = replica-there ws.0 id read; frame = frame-there Records ws.1 n found })

  -- an act of a replica, for which no frame is wanted
  alone-happens : (act : Act Mail) → has_frame_of scene act ≡ true → (args : List (List ℕ)) (command : Command) → (reads_alone scene args andthen λ id. happens (id does act)) (Ok command) → IsThere scene command
  alone-happens act frame args = made-there _ (λ id. Happen (id does act)) (λ id reads. record { replica = alone-there args id reads; frame = frame })

  -- an act of a replica that the second word tells, with the frame that it wants
  two-happens : {X : Type 0} (Reads : List ℕ → Reading X) (act : X → Act Mail) → ((word : List ℕ) (x : X) → Reads word (Ok x) → IsTrue (has_frame_of scene (act x))) → (args : List (List ℕ)) (command : Command) → (reads_two scene Reads args andthen λ (id, x). happens (id does act x)) (Ok command) → IsThere scene command
  two-happens Reads act frame args = made-there _ (λ (id, x). Happen (id does act x)) (λ x reads.
      let (word, there, read) = two-there Reads args x reads in
      record { replica = there; frame = frame word x.1 read })

  -- questions
  bytes-there : (args : List (List ℕ)) (q : Question) → reads_bytes scene args (Ok q) → IsTrue (has_subject_of scene q)
  bytes-there args q reads =
      let (word, took, a) = step reads in
      let (pool, begins, b) = step a in
      let (n, found, is) = step b in
      let same : q ≡ Bytes pool n = cc in
      rw same (frame-there pool word n found)

  index-there : (args : List (List ℕ)) (q : Question) → reads_index scene args (Ok q) → IsTrue (has_subject_of scene q)
  index-there args q reads =
      let (x, read, gave) = step reads in
      let same : q ≡ Index x.0 x.1 = cc in
      rw same (two-there reads_text args x read).1

  -- new replicas, and whole sessions
  up_to-between : (most : ℕ) (outside : LineFault) (word : List ℕ) (n : ℕ) → reads_up_to most outside word (Ok n) → (1 ≤ n) × (n ≤ most)
  up_to-between most outside word n reads =
      let within = tested (λ y. nat_le 1 y && nat_le y most) outside n reads in
      (grind (arith, nat_tests, within), grind (arith, nat_tests, within))

  spec-there : (p : SpecParts) (spec : Spec) → IsTrue scene.is_opening → reads_spec scene p (Ok spec) → IsNew scene spec
  spec-there p spec early reads =
      let (id, new, a) = step reads in
      let (limit, counted, b) = step a in
      let (capacity, sized, c) = step b in
      let (filter, read, is) = step c in
      let same : spec ≡ record { id = id; filter = filter; event_limit = limit; port_capacity = capacity } = cc in
      let events = up_to-between MAX_EVENTS _ p.limit limit counted in
      let places = up_to-between MAX_CAPACITY _ p.capacity capacity sized in
      rw same (record { opening = early; other = new-other p.id id new; some_events = events.0; few_events = events.1; some_places = places.0; few_places = places.1 })

  early-there : (p : SpecParts) (spec : Spec) (early : Bool) → scene.is_opening ≡ early → choose early (reads_spec scene p) (fails LateReplica) (Ok spec) → IsNew scene spec
  early-there p spec true is reads = spec-there p spec is reads
  early-there p spec false is reads = cc

  opening-there : (args : List (List ℕ)) (spec : Spec) → reads_opening scene args (Ok spec) → IsNew scene spec
  opening-there args spec reads =
      let (p, took, a) = step reads in
      early-there p spec scene.is_opening refl a

  sync-there : (args : List (List ℕ)) (s : Session) → reads_sync scene args (Ok s) → IsTrue (scene.has_replica s.target) × IsTrue (scene.has_replica s.source)
  sync-there args s reads =
      let (ws, took, a) = step reads in
      let (target, first, b) = step a in
      let (source, second, c) = step b in
      let (most, third, is) = step c in
      let same : s ≡ record { target = target; source = source; most = most } = cc in
      rw same (replica-there ws.0 target first, replica-there ws.1 source second)

  unknown-there : (command : Command) → fails UnknownCommand (Ok command) → IsThere scene command
  unknown-there command is = cc

  question-there : (name : List ℕ) (args : List (List ℕ)) (command : Command) → reads_question scene name args (Ok command) → IsThere scene command
  question-there name args command =
      chosen (text_eq name (codes "heads")) _ _ _ (made-there _ (λ id. Ask (Heads id)) (alone-there args) command) (
      chosen (text_eq name (codes "pushouts")) _ _ _ (made-there _ (λ id. Ask (PushOuts id)) (alone-there args) command) (
      chosen (text_eq name (codes "conflicts")) _ _ _ (made-there _ (λ id. Ask (Conflicts id)) (alone-there args) command) (
      chosen (text_eq name (codes "know")) _ _ _ (made-there _ (λ id. Ask (Know id)) (alone-there args) command) (
      chosen (text_eq name (codes "feed")) _ _ _ (made-there _ (λ id. Ask (Feed id)) (alone-there args) command) (
      chosen (text_eq name (codes "log")) _ _ _ (made-there _ (λ id. Ask (Log id)) (alone-there args) command) (
      chosen (text_eq name (codes "show")) _ _ _ (made-there _ (λ (id, v). Ask (Show id v)) (λ x reads. (two-there _ args x reads).1) command) (
      chosen (text_eq name (codes "bytes")) _ _ _ (made-there _ (λ q. Ask q) (bytes-there args) command) (
      chosen (text_eq name (codes "index")) _ _ _ (made-there _ (λ q. Ask q) (index-there args) command) (
      chosen (text_eq name (codes "unseen")) _ _ _ (made-there _ (λ id. Ask (Unseen id)) (alone-there args) command) (
      unknown-there command))))))))))

  event-there : (name : List ℕ) (args : List (List ℕ)) (command : Command) → reads_event scene name args (Ok command) → IsThere scene command
  event-there name args command =
      chosen (text_eq name (codes "retire")) _ _ _ (alone-happens Retire refl args command) (
      chosen (text_eq name (codes "pull")) _ _ _ (alone-happens Pull refl args command) (
      chosen (text_eq name (codes "answer")) _ _ _ (two-happens _ (λ n. Answer n) (frame-there Asks) args command) (
      chosen (text_eq name (codes "next")) _ _ _ (two-happens _ (λ n. Next n) (λ word x read. refl) args command) (
      chosen (text_eq name (codes "receive")) _ _ _ (two-happens _ (λ n. Receive n) (frame-there Records) args command) (
      chosen (text_eq name (codes "part")) _ _ _ (made-there _ (λ e. Happen e) (part-there args) command) (
      chosen (text_eq name (codes "cutin")) _ _ _ (two-happens _ (λ x. CutIn x) (λ word x read. refl) args command) (
      chosen (text_eq name (codes "cutout")) _ _ _ (two-happens _ (λ x. CutOut x) (λ word x read. refl) args command) (
      chosen (text_eq name (codes "offer")) _ _ _ (two-happens _ (λ x. Offer x) (λ word x read. refl) args command) (
      chosen (text_eq name (codes "take")) _ _ _ (two-happens _ (λ x. Take x) (λ word x read. refl) args command) (
      chosen (text_eq name (codes "close")) _ _ _ (two-happens _ (λ x. Close x) (λ word x read. refl) args command) (
      chosen (text_eq name (codes "vouch")) _ _ _ (two-happens _ (λ x. Vouch x) (λ word x read. refl) args command) (
      chosen (text_eq name (codes "release")) _ _ _ (two-happens _ (λ n. Release n) (frame-there Receipts) args command) (
      question-there name args command)))))))))))))

  named-there : (name : List ℕ) (args : List (List ℕ)) (command : Command) → reads_named scene name args (Ok command) → IsThere scene command
  named-there name args command =
      chosen (text_eq name (codes "replica")) _ _ _ (made-there _ (λ spec. AddReplica spec) (opening-there args) command) (
      chosen (text_eq name (codes "create")) _ _ _ (made-there _ (λ e. Happen e) (create-there args) command) (
      chosen (text_eq name (codes "edit")) _ _ _ (made-there _ (λ e. Happen e) (edit-there args) command) (
      chosen (text_eq name (codes "sync")) _ _ _ (made-there _ (λ s. Sync s) (sync-there args) command) (
      event-there name args command))))

  words-there : (ws : List (List ℕ)) (command : Command) → reads_words scene ws (Ok command) → IsThere scene command
  words-there [] command reads = cc
  words-there (name ∷ args) command reads = named-there name args command reads

  pub command-there : (line : List ℕ) (r : Result Command LineFault) → reads_command scene line r → IfOk r (IsThere scene)
  command-there line (Ok command) reads = words-there (words line) command reads
  command-there line (Err fault) reads = tt
