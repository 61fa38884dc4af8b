use Rattle.std.proofs.Common.{ℕ, List, ◌++◌, ◌∷◌, [], ap, subst, ◌∙◌}
use Rattle.std.specs.BTreeMap.{IsFromIterResult}
use Rattle.std.specs.Global.{Vec}
use Rattle.std.specs.Option.{option_copied}
use Rattle.std.proofs.lemmas.Result.{IfOk-weaker}
use Rattle.mr_mail.specs.Label.{text_cmp}
use Rattle.mr_maildir.specs.File.{FileParts}
use Rattle.mr_maildir.specs.View.{ViewParts}
use Rattle.mr_scan.specs.Seen.{seen_view}
use Rattle.mr_fold.proofs.SeeingLemmas.{SeenSoFar, all_seen, seen_more}
use Rattle.mr_fold.proofs.sides.seen_views.Goals as goal

pub loop-digest-preserved : goal.loop-digest-preserved
loop-digest-preserved c =
    let left = option_copied c.left_view.result in
    seen_more c.args.scan.now.mails.entries c.loop-digest.digest-iterator c.next.new.self c.loop-digest.views.items c.push.new.self.items c.in-Some.digest.now c.in-Some.files.now left c.in-Some.ensures.steps
    (c.in_ok-push.ensures.items ∙ ap (λ (view : ViewParts). c.loop-digest.views.items ++ (c.in-Some.digest.now, view) ∷ []) (c.in_ok-view.ensures ∙ ap (seen_view left) c.deref.ensures.value)) c.loop-digest.invariant

pub returns : goal.returns
returns c =
    let all = c.args.scan.now.mails.entries in
    let views = c.loop-digest.views.items in
    let far = subst (λ (rest : List (List ℕ × Vec FileParts)). SeenSoFar all rest views) c.in-None.ensures.steps.0 c.loop-digest.invariant in
    IfOk-weaker c.by_digest.result (IsFromIterResult text_cmp views) _ (λ table made. all_seen c.args.scan.now.mails views table c.len.ensures.ordered far made) c.by_digest.ensures
