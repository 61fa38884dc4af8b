use Rattle.std.proofs.Common.{inl, inr, refl, subst, sym}
use Rattle.mr_kept.proofs.Names.{HeadParts, IsOfPlace}
use Rattle.mr_kept.proofs.OpenLemmas.{moments_alike, moments_open, reopens}
use Rattle.mr_kept.proofs.WholeLemmas.{comes_back, has_alike, has_open, opens}
use Rattle.mr_kept.proofs.journaled.Journaled.open.Goals as goal

pub returns-in-Err-clause-any_moment : goal.returns-in-Err-clause-any_moment
returns-in-Err-clause-any_moment g c = λ told. moments_alike g.D.Device.may_leave (g.D.Device.seen c.args.device) _ _ (c.in-Err.ensures.any_moment told)

pub returns-in-Err-of_entries-clause-any_moment : goal.returns-in-Err-of_entries-clause-any_moment
returns-in-Err-of_entries-clause-any_moment g c = λ told.
    rw c.in-Err-of_entries.ensures.device (moments_alike g.D.Device.may_leave (g.D.Device.seen c.args.device) _ _ (c.in-Ok.ensures.any_moment told))

pub close-requires : goal.close-requires
close-requires g c = record { waits = c.in-Ok-of_entries.ensures.none_waits }

pub returns-in-Ok-close-clause-reopens : goal.returns-in-Ok-close-clause-reopens
returns-in-Ok-close-clause-reopens g c = λ told.
    let opened = c.in-Ok.ensures.opened told in
    let read = c.in-Ok-of_entries.ensures.read opened.0 in
    reopens read (g.D.Device.seen c.args.device) opened.1 c.in-Ok-close.are_closed c.close.new.self c.close.ensures.head (c.in-Ok-close.ensures.kept told _ read.kept)

pub returns-in-Ok-close-clause-closed : goal.returns-in-Ok-close-clause-closed
returns-in-Ok-close-clause-closed g c = c.in-Ok-close.ensures.closed

pub returns-in-Ok-close-clause-place : goal.returns-in-Ok-close-clause-place
returns-in-Ok-close-clause-place g c = subst (λ (h : HeadParts). IsOfPlace h c.args.mark.now c.args.birth) (sym c.close.ensures.head) c.in-Ok-of_entries.ensures.place

pub returns-in-Ok-close-clause-none_waits : goal.returns-in-Ok-close-clause-none_waits
returns-in-Ok-close-clause-none_waits g c = (c.in-Ok-close.ensures.none_waits, c.in-Ok-close.ensures.leaving)

pub returns-in-Ok-close-clause-any_moment : goal.returns-in-Ok-close-clause-any_moment
returns-in-Ok-close-clause-any_moment g c = λ told.
    let opened = c.in-Ok.ensures.opened told in
    let read = c.in-Ok-of_entries.ensures.read opened.0 in
    moments_open read (g.D.Device.seen c.args.device) opened.1 c.in-Ok.opened.0 _ _ c.in-Ok-of_entries.ensures.journal (c.in-Ok.ensures.any_moment told) (c.close.ensures.any_moment told _ read.kept)

pub returns-in-Err-close-clause-any_moment : goal.returns-in-Err-close-clause-any_moment
returns-in-Err-close-clause-any_moment g c = λ told.
    let opened = c.in-Ok.ensures.opened told in
    let read = c.in-Ok-of_entries.ensures.read opened.0 in
    rw c.into_device.ensures
    (moments_open read (g.D.Device.seen c.args.device) opened.1 c.in-Ok.opened.0 _ _ c.in-Ok-of_entries.ensures.journal (c.in-Ok.ensures.any_moment told) (c.close.ensures.any_moment told _ read.kept))

-- ---- why it isn't opened, and that a journal that a replica left is

pub returns-in-Err-clause-fault : goal.returns-in-Err-clause-fault
returns-in-Err-clause-fault g c = λ told. inl (c.in-Err.fault, refl, c.in-Err.ensures.reason told)

pub returns-in-Err-clause-whole : goal.returns-in-Err-clause-whole
returns-in-Err-clause-whole g c = λ told head s notes left place.
    opens g.K.Knowledge.form g.met.K.Knowledge.by_meaning (g.D.Device.seen c.args.device) head s notes left c.args.mark.now c.args.birth _ place (returns-in-Err-clause-fault g c told)

pub returns-in-Err-of_entries-clause-fault : goal.returns-in-Err-of_entries-clause-fault
returns-in-Err-of_entries-clause-fault g c = λ told. inr (_, (c.in-Ok.ensures.opened told).1, inl c.in-Err-of_entries.ensures.fault)

pub returns-in-Err-of_entries-clause-whole : goal.returns-in-Err-of_entries-clause-whole
returns-in-Err-of_entries-clause-whole g c = λ told head s notes left place.
    opens g.K.Knowledge.form g.met.K.Knowledge.by_meaning (g.D.Device.seen c.args.device) head s notes left c.args.mark.now c.args.birth _ place (returns-in-Err-of_entries-clause-fault g c told)

pub returns-in-Err-close-clause-fault : goal.returns-in-Err-close-clause-fault
returns-in-Err-close-clause-fault g c = λ told.
    let opened = c.in-Ok.ensures.opened told in
    let read = c.in-Ok-of_entries.ensures.read opened.0 in
    inr (_, opened.1, inr (_, _, _, _, _, c.in-Err-close.fault, read.replayed, c.in-Ok-of_entries.ensures.place, refl))

pub returns-in-Err-close-clause-whole : goal.returns-in-Err-close-clause-whole
returns-in-Err-close-clause-whole g c = λ told head s notes left place. tt

pub returns-in-Ok-close-clause-whole : goal.returns-in-Ok-close-clause-whole
returns-in-Ok-close-clause-whole g c = λ told head s notes left place.
    comes_back g.K.Knowledge.form g.met.K.Knowledge.by_meaning (g.D.Device.seen c.args.device) head s notes left g.D.Device.seen g.D.Device.may_leave c.in-Ok-close.are_closed c.in-Ok-of_entries.found.1.items c.close.new.self
    (returns-in-Ok-close-clause-reopens g c told)

-- ---- what a crash leaves has the log of a replica

pub returns-in-Err-clause-left : goal.returns-in-Err-clause-left
returns-in-Err-clause-left g c = λ told head s notes left.
    has_alike g.K.Knowledge.form g.met.K.Knowledge.by_meaning (g.D.Device.seen c.args.device) head s notes left g.D.Device.may_leave _ _ (c.in-Err.ensures.any_moment told)

pub returns-in-Err-of_entries-clause-left : goal.returns-in-Err-of_entries-clause-left
returns-in-Err-of_entries-clause-left g c = λ told head s notes left.
    rw c.in-Err-of_entries.ensures.device
    (has_alike g.K.Knowledge.form g.met.K.Knowledge.by_meaning (g.D.Device.seen c.args.device) head s notes left g.D.Device.may_leave _ _ (c.in-Ok.ensures.any_moment told))

pub returns-in-Ok-close-clause-left : goal.returns-in-Ok-close-clause-left
returns-in-Ok-close-clause-left g c = λ told head s notes left.
    let opened = c.in-Ok.ensures.opened told in
    let read = c.in-Ok-of_entries.ensures.read opened.0 in
    has_open g.K.Knowledge.form g.met.K.Knowledge.by_meaning (g.D.Device.seen c.args.device) head s notes left read opened.1 c.in-Ok.opened.0 _ _ c.in-Ok-of_entries.ensures.journal
    (c.in-Ok.ensures.any_moment told) (c.close.ensures.left told _ read.kept)

pub returns-in-Err-close-clause-left : goal.returns-in-Err-close-clause-left
returns-in-Err-close-clause-left g c = λ told head s notes left.
    let opened = c.in-Ok.ensures.opened told in
    let read = c.in-Ok-of_entries.ensures.read opened.0 in
    rw c.into_device.ensures
    (has_open g.K.Knowledge.form g.met.K.Knowledge.by_meaning (g.D.Device.seen c.args.device) head s notes left read opened.1 c.in-Ok.opened.0 _ _ c.in-Ok-of_entries.ensures.journal
    (c.in-Ok.ensures.any_moment told) (c.close.ensures.left told _ read.kept))
