-- The dots of a history are the versions that were issued. Each answer shows a dot exactly where it issued a version:
-- all else that it may show is another kind, and what it shows to take a record is one too.
use Rattle.std.proofs.Common.{◌≡◌, ℕ, zero, suc, ◌+◌, ◌-◌, ◌==◌, ◌∙◌, ap, cond, Bool, true, false, List, [], ◌∷◌, Option, Some, None, Ok, refl, map}
use Rattle.std.specs.Prelude.{slice_get}
use Rattle.mr_draw.proofs.Names.{Answered, Dot, Happened, Name, NoteLists, cons_option, dot_as, dot_at, dots, filter_map, happenings_from, happenings_of}
use Rattle.mr_draw.proofs.Names.{issued_in, issued_versions, kind_of_answer, kind_of_done, kind_of_opened, kind_of_taken, lane_of, option_map}
use Rattle.mr_mail.specs.Mail.{Mail}
use Rattle.mr_model.specs.declared.event.Act.{Act}
use Rattle.mr_model.specs.declared.event.Act.TheVariants as act
use Rattle.mr_replica.specs.declared.event.Reply.TheVariants as reply
use Rattle.mr_wire.specs.declared.frame.Body.{Body}
use Rattle.mr_wire.specs.declared.frame.Body.TheVariants as body
use Rattle.mr_world.specs.Pool.{at_number}
use Rattle.mr_world.specs.declared.answer.Answer.{Answer}
use Rattle.mr_world.specs.declared.answer.Answer.TheVariants.{Stepped}
use Rattle.mr_draw.specs.Notes.{gave_by, gave_in, notes_of, taking_as}
use Rattle.mr_draw.specs.declared.happening.Kind.{Kind}
use Rattle.mr_draw.specs.declared.happening.Kind.TheVariants.{Open, Release}

-- the dot of what this replica's event shows
abbrev dotted : ℕ → Option Kind → Option Dot
dotted by None = None
dotted by (Some kind) = dot_as (lane_of by kind) kind

-- ---- what shows no dot

body-dotless : (by : ℕ) (source stream : ℕ) (b : Body) → dotted by (Some (taking_as source stream b)) ≡ None
body-dotless by source stream (body.Start mode) = refl
body-dotless by source stream b = refl

gave-dotless : (by : ℕ) (a : Answer) → dotted by (gave_in a) ≡ None
gave-dotless by (Stepped (Ok (reply.Gave sent))) = body-dotless by sent.header.source sent.header.stream sent.body
gave-dotless by a = refl

one-dotless : (by : ℕ) (o : Option Kind) (kinds : List Kind) (i : ℕ) → dotted by o ≡ None → ((j : ℕ) → dotted by (slice_get kinds j) ≡ None) → dotted by (slice_get (cons_option o kinds) i) ≡ None
one-dotless by None kinds i h others = others i
one-dotless by (Some kind) kinds zero h others = h
one-dotless by (Some kind) kinds (suc i) h others = others i

records-dotless : (by : ℕ) (xs : List Answered) (i : ℕ) → dotted by (slice_get (filter_map gave_by xs) i) ≡ None
records-dotless by [] i = refl
records-dotless by (x ∷ xs) i = one-dotless by (gave_by x) (filter_map gave_by xs) i (gave-dotless by x.answer) (records-dotless by xs)

record-dotless : (by : ℕ) (xs : List Answered) (n : ℕ) → dotted by (at_number (filter_map gave_by xs) n) ≡ None
record-dotless by xs n =
    let cases : (b : Bool) → dotted by (cond b None (slice_get (filter_map gave_by xs) (n - 1))) ≡ None = λ b.
    elim b as (λ b. dotted by (cond b None (slice_get (filter_map gave_by xs) (n - 1))) ≡ None) [ true ↦ refl | false ↦ records-dotless by xs (n - 1) ] in
    cases (n == 0)

taken-dotless : (xs : List Answered) (by : ℕ) (a : Act Mail) → dotted by (kind_of_taken (notes_of xs) a) ≡ None
taken-dotless xs by (act.Receive n) = record-dotless by xs n
taken-dotless xs by (act.DeliverPart n bytes) = record-dotless by xs n
taken-dotless xs by a = refl

release-dotless : (by : ℕ) (o : Option Name) → dotted by (option_map (λ v. Release v) o) ≡ None
release-dotless by None = refl
release-dotless by (Some v) = refl

done-dotless : (notes : NoteLists) (by : ℕ) (a : Act Mail) → dotted by (kind_of_done notes a) ≡ None
done-dotless notes by (act.Release n) = release-dotless by (at_number notes.receipts n)
done-dotless notes by a = refl

open-dotless : (by : ℕ) (stream : ℕ) (o : Option ℕ) → dotted by (option_map (λ target. Open target stream) o) ≡ None
open-dotless by stream None = refl
open-dotless by stream (Some target) = refl

opened-dotless : (notes : NoteLists) (by : ℕ) (a : Act Mail) (stream : ℕ) → dotted by (kind_of_opened notes a stream) ≡ None
opened-dotless notes by (act.Answer n) stream = open-dotless by stream (at_number notes.asks n)
opened-dotless notes by a stream = refl

-- ---- all that shows one

dotted-answer : (xs : List Answered) (by : ℕ) (a : Act Mail) (answer : Answer) → dotted by (kind_of_answer (notes_of xs) a answer) ≡ option_map dot_at (issued_in answer)
dotted-answer xs by a (Stepped (Ok reply.Done)) = done-dotless (notes_of xs) by a
dotted-answer xs by a (Stepped (Ok (reply.Streaming stream))) = opened-dotless (notes_of xs) by a stream
dotted-answer xs by a (Stepped (Ok reply.Took)) = taken-dotless xs by a
dotted-answer xs by a (Stepped (Ok reply.Known)) = taken-dotless xs by a
dotted-answer xs by a (Stepped (Ok reply.Finished)) = taken-dotless xs by a
dotted-answer xs by a answer = refl

dots-shown : (by : ℕ) (n : ℕ) (o : Option Kind) (hs : List Happened) → dots (cons_option (option_map (λ kind. record { lane = lane_of by kind; kind = kind; place = n }) o) hs) ≡ cons_option (dotted by o) (dots hs)
dots-shown by n None hs = refl
dots-shown by n (Some kind) hs = refl

map-shown : (o : Option Name) (vs : List Name) → cons_option (option_map dot_at o) (map dot_at vs) ≡ map dot_at (cons_option o vs)
map-shown None vs = refl
map-shown (Some v) vs = refl

dots-from : (all : List Answered) (n : ℕ) (xs : List Answered) → dots (happenings_from (notes_of all) n xs) ≡ map dot_at (issued_versions xs)
dots-from all n [] = refl
dots-from all n (x ∷ xs) =
    dots-shown x.event.replica n (kind_of_answer (notes_of all) x.event.act x.answer) (happenings_from (notes_of all) (n + 1) xs)
    ∙ ap (λ o. cons_option o (dots (happenings_from (notes_of all) (n + 1) xs))) (dotted-answer all x.event.replica x.event.act x.answer)
    ∙ ap (λ ds. cons_option (option_map dot_at (issued_in x.answer)) ds) (dots-from all (n + 1) xs)
    ∙ map-shown (issued_in x.answer) (issued_versions xs)

-- the dots are the versions that were issued, each on its author's lane
pub draws_each_version : (answers : List Answered) → dots (happenings_of answers) ≡ map dot_at (issued_versions answers)
draws_each_version answers = dots-from answers 0 answers
