use Rattle.std.proofs.Common.{◌≡◌, ◌∙◌, None, ap, sym}
use Rattle.mr_store.proofs.Names.{to_list, versions_of}
use Rattle.mr_store.proofs.IndexLemmas.{items_of_list}
use Rattle.mr_store.proofs.ListedLemmas.{listed_is, unlisted_alone, firsts_are_all}
use Rattle.mr_store.proofs.revision_list.RevisionList.versions_of.Goals as goal

pub returns-in-Some : goal.returns-in-Some
returns-in-Some c =
    let item = c.args.item in
    let vs = versions_of item c.self.inside.revisions.items in
    let listed = sym (c.self.invariant.indexed item) ∙ ap items_of_list (sym c.in-Some.ensures.value) in
    rw (← c.self.view_is) (c.deref.ensures.value ∙ listed_is c.self.inside.room item vs c.in-Some.versions.now.items listed)

pub returns-in-None : goal.returns-in-None
returns-in-None c =
    let item = c.args.item in
    let vs = versions_of item c.self.inside.revisions.items in
    let unlisted : to_list c.self.inside.room item vs ≡ None = sym (c.self.invariant.indexed item) ∙ ap items_of_list (sym c.in-None.ensures.value) in
    rw (← c.self.view_is) ((rw c.as_slice.ensures at c.first_of.ensures) ∙ firsts_are_all item vs (unlisted_alone c.self.inside.room item vs unlisted))
