use Rattle.std.proofs.Common.{◌++◌, ℕ, List, ap, sym, ◌∙◌}
use Rattle.std.proofs.lemmas.Iterator.Adapters.{YieldsList-from_vec}
use Rattle.std.proofs.lemmas.Iterator.Consumers.{YieldsList-end}
use Rattle.mr_compare.proofs.Names.{ViewParts, cards_told, map-id, news_told, stayed_views, text_cmp, values_at, values_of}
use Rattle.mr_compare.proofs.JoiningLemmas.{left_all, left_more}
use Rattle.mr_compare.proofs.mails_left.left_mails.Goals as goal

pub loop-digest-preserved : goal.loop-digest-preserved
loop-digest-preserved c =
    let views : List ℕ → List ViewParts = λ digest. values_at text_cmp c.in_ok-cards.cards.entries digest ++ stayed_views c.args.left.now.changed.entries (values_at text_cmp c.args.items.now.entries digest) in
    left_more views c.loop-digest.mails.entries c.remove-known.new.self.entries c.insert.new.self.entries c.loop-digest.yielded (c.in-Some.digest, c.in-Some.came) c.remove-known.result c.in_ok-mail.mail
    c.remove-known.ensures.value c.in_ok-mail.ensures c.remove-known.ensures.updates.0 c.in_ok-insert.ensures.updates.0 c.loop-digest.invariant

pub returns : goal.returns
returns c = λ digest.
    let left = c.args.left.now in
    let digests = c.args.digests.now.entries in
    let news = c.in_ok-news.news in
    let gives = c.into_iter-digest-iterator.ensures.into_iter_gives in
    let end = YieldsList-end (YieldsList-from_vec {s = c.into_iter-digest-iterator.result} news.items gives.0 (gives.1 ∙ news.ok.0)) c.loop-digest.yielded c.loop-digest.digest-iterator c.loop-digest.yielded_by c.next.result c.next.new.self c.in-None.is c.next.ensures.steps in
    c.loop-digest.invariant digest
    ∙ left_all (values_at text_cmp c.in_ok-cards.cards.entries digest) (values_of text_cmp digest (cards_told left.cards.entries digests)) (stayed_views left.changed.entries (values_at text_cmp c.args.items.now.entries digest)) c.loop-digest.yielded (news_told left.changed.entries digests) digest
    (c.in_ok-cards.ensures digest ∙ ap (values_of text_cmp digest) c.in_ok-all_cards.ensures)
    (sym (map-id c.loop-digest.yielded) ∙ end.0 ∙ c.in_ok-news.ensures)
