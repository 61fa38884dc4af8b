-- the heads of an item, and what they say
use Rattle.std.proofs.Common.{◌≡◌, List, Option, None, Result, Err, ◌∙◌, sym, ap, subst}
use Rattle.mr_desk.proofs.Names.{BadLength, BytesBehind, Entry, Event, Failed, Fault, Filter, IsMergeIn, IsMergeOf, IsTogether, Merge, Message, Name}
use Rattle.mr_desk.proofs.Names.{NoConflict, Normal, NotText, Open, OtherDevice, OtherFrame, OutOfMemory, Peer, Reads, Refused, Replay, Rev, State, TooLarge}
use Rattle.mr_desk.proofs.Names.{Unsettled, Version, VersionFault, VersionNumbers, Wire, edit_fault_over, last_under, merge_fault, merge_fault_in, named_by}
use Rattle.mr_desk.proofs.Names.{option_map, said_by, unmerged, version_fault, ◌orelse◌}
use Rattle.mr_mail.specs.Mail.{Mail, MailCard}
use Rattle.mr_replica.specs.declared.event.Event.{Event as ReplicaEvent}

-- one fault is read of two things alike
pub unread-same : {X Y : Type 0} (a b : Option Fault) (P : X → Type 0) (Q : Y → Type 0) (f : Fault) → a ≡ b → Reads (Unit {0}) a P (Err f) → Reads (Unit {0}) b Q (Err f)
unread-same a b P Q OutOfMemory e is = tt
unread-same a b P Q NotText e is = sym e ∙ is
unread-same a b P Q BytesBehind e is = sym e ∙ is
unread-same a b P Q OtherFrame e is = sym e ∙ is
unread-same a b P Q Unsettled e is = sym e ∙ is
unread-same a b P Q Failed e is = sym e ∙ is
unread-same a b P Q OtherDevice e is = sym e ∙ is
unread-same a b P Q TooLarge e is = sym e ∙ is
unread-same a b P Q BadLength e is = sym e ∙ is
unread-same a b P Q NoConflict e is = sym e ∙ is
unread-same a b P Q (Open f) e is = sym e ∙ is
unread-same a b P Q (Merge f) e is = sym e ∙ is
unread-same a b P Q (Peer f) e is = sym e ∙ is
unread-same a b P Q (Version f) e is = sym e ∙ is
unread-same a b P Q (Message f) e is = sym e ∙ is
unread-same a b P Q (Filter f) e is = sym e ∙ is
unread-same a b P Q (Wire f) e is = sym e ∙ is
unread-same a b P Q (Event f) e is = sym e ∙ is
unread-same a b P Q (Replay f) e is = sym e ∙ is
unread-same a b P Q (Refused f) e is = sym e ∙ is

-- the fault of what heads say is theirs
pub unmerged-over : (heads : List Rev) (feed : List Entry) (card : Option MailCard) (messages : List Mail) → card ≡ last_under heads feed → messages ≡ said_by heads → unmerged card messages ≡ edit_fault_over heads feed
unmerged-over heads feed card messages came said = ap (λ c. unmerged c messages) came ∙ ap (λ ms. unmerged (last_under heads feed) ms) said

-- and so is the message that they are
pub together-over : (heads : List Rev) (feed : List Entry) (card : Option MailCard) (messages : List Mail) (mail : Mail) → card ≡ last_under heads feed → messages ≡ said_by heads → IsTogether card messages mail → IsTogether (last_under heads feed) (said_by heads) mail
together-over heads feed card messages mail came said is = subst (λ ms. IsTogether (last_under heads feed) ms mail) said (subst (λ c. IsTogether c messages mail) came is)

-- what is read of an item's name is read of its numbers
pub merge-named : (s : State Normal) (item : VersionNumbers) (heads : List Rev) (feed : List Entry) (named : Name) (r : Result ReplicaEvent Fault) → version_fault item ≡ None → named ≡ named_by item → heads ≡ s.heads → feed ≡ s.feed → Reads (Unit {0}) (merge_fault heads feed named) (IsMergeOf heads feed named) r → Reads (Unit {0}) (merge_fault_in s item) (IsMergeIn s item) r
merge-named s item heads feed named r none is of_heads of_feed reads =
    let by_heads = subst (λ (hs : List Rev). Reads (Unit {0}) (merge_fault hs feed named) (IsMergeOf hs feed named) r) of_heads reads in
    let by_feed = subst (λ (es : List Entry). Reads (Unit {0}) (merge_fault s.heads es named) (IsMergeOf s.heads es named) r) of_feed by_heads in
    let by_name = subst (λ (n : Name). Reads (Unit {0}) (merge_fault s.heads s.feed n) (IsMergeOf s.heads s.feed n) r) is by_feed in
    subst (λ (f : Option VersionFault). Reads (Unit {0}) (option_map Version f orelse merge_fault s.heads s.feed (named_by item)) (IsMergeIn s item) r) (sym none) by_name
