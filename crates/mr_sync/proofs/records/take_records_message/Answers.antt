use Rattle.std.proofs.Common.{ℕ, IsTrue, List, ap, refl, subst, sym, ◌∙◌}
use Rattle.std.specs.BTreeSet.{BTreeSet}
use Rattle.mr_sync.specs.Named.{HasOrListsOf}
use Rattle.mr_sync.specs.Taken.{AllStay}
use Rattle.mr_sync.proofs.Names.{All, Frame, Normal, State, TakesRecordOf, replica_of}
use Rattle.mr_sync.proofs.GrowLaws.{grows_not, grows_so, grows_unmet, takes_named}
use Rattle.mr_sync.proofs.SayLaws.{so_ok}
use Rattle.mr_sync.proofs.records.take_records_message.Goals as goal

pub returns-in_err-source-clause-grows : goal.returns-in_err-source-clause-grows
returns-in_err-source-clause-grows g c = grows_unmet TakesRecordOf c.args.talk.now.theirs (replica_of c.args.kept.now).log c.in_err-source.ensures.1

pub returns-in_err-frames-clause-grows : goal.returns-in_err-frames-clause-grows
returns-in_err-frames-clause-grows g c = grows_so TakesRecordOf c.args.talk.now.theirs c.in_ok-source.source _ _ _ c.in_ok-source.ensures (grows_not (TakesRecordOf c.in_ok-source.source) _ _ refl) refl

pub returns-in_err-note_lacking-clause-grows : goal.returns-in_err-note_lacking-clause-grows
returns-in_err-note_lacking-clause-grows g c = grows_so TakesRecordOf c.args.talk.now.theirs c.in_ok-source.source _ _ _ c.in_ok-source.ensures (grows_not (TakesRecordOf c.in_ok-source.source) _ _ refl) refl

pub returns-in_err-take_records-clause-grows : goal.returns-in_err-take_records-clause-grows
returns-in_err-take_records-clause-grows g c = grows_so TakesRecordOf c.args.talk.now.theirs c.in_ok-source.source _ _ _ c.in_ok-source.ensures c.take_records.ensures.grows refl

pub returns-clause-taken : goal.returns-clause-taken
returns-clause-taken g c =
    let read = c.in_ok-frames.ensures in
    let lists = ap (λ (s : BTreeSet (List ℕ)). s.keys) (c.keep_much.ensures.lacking ∙ c.take_records.ensures.lacking ∙ c.note_bytes.ensures.lacking) in
    let named = λ (told : IsTrue g.F.FileTree.is_told). subst (λ (l : List (List ℕ)). All (HasOrListsOf (g.F.FileTree.seen c.note_lacking.new.files) l) c.in_ok-frames.frames.items) (sym lists)
    (subst (λ (fs : List Frame). All (HasOrListsOf (g.F.FileTree.seen c.note_lacking.new.files) c.note_lacking.new.lacking.keys) fs) c.deref.ensures.value (c.in_ok-note_lacking.ensures.named told)) in
    so_ok c.keep_much.result
    (takes_named g.F.FileTree.is_told (g.F.FileTree.seen c.note_lacking.new.files) c.keep_much.new.talk.arriving.lacking.keys c.args.talk.now.theirs c.in_ok-source.source c.args.talk.now.arriving.last c.args.bytes.now read.0 _ c.keep_much.new.talk.arriving.last c.in_ok-frames.frames.items
    (replica_of c.args.kept.now) (replica_of c.take_records.new.kept) (replica_of c.keep_much.new.kept) c.in_ok-source.ensures read.1 read.2 c.take_records.ensures.grows c.in_ok-take_records.ensures.all
    (c.keep_much.ensures.last ∙ c.take_records.ensures.last ∙ c.note_bytes.ensures.last) c.keep_much.ensures.replica named)

pub returns-clause-stay : goal.returns-clause-stay
returns-clause-stay g c =
    let lists = ap (λ (s : BTreeSet (List ℕ)). s.keys) (c.keep_much.ensures.lacking ∙ c.take_records.ensures.lacking ∙ c.note_bytes.ensures.lacking) in
    so_ok c.keep_much.result (subst (λ (l : List (List ℕ)). AllStay c.args.talk.now.arriving.lacking.keys l) (sym lists) c.in_ok-note_lacking.ensures.stay)

pub returns-clause-grows : goal.returns-clause-grows
returns-clause-grows g c =
    grows_so TakesRecordOf c.args.talk.now.theirs c.in_ok-source.source _ _ _ c.in_ok-source.ensures c.take_records.ensures.grows (ap (λ (s : State Normal). s.log) c.keep_much.ensures.replica)
