-- what the threads of a node come to
use Rattle.std.specs.Prelude.{◌≡◌, ℕ, ◌++◌, None, List}
use Rattle.mr_mail.specs.Mail.{MailCard}
use Rattle.mr_model.specs.Headline.{Cards}
use Rattle.mr_feed.specs.declared.entry.Entry.{Entry}
use Rattle.mr_subs.specs.Subscriber.{ShowsFold}
use Rattle.mr_lane.specs.declared.note.Sender.TheVariants.{User, FirstLink, SecondLink}
use Rattle.mr_threads.specs.Exchange.{Said, Exchange, said_by, answers_heard, Replays}
use Rattle.mr_threads.specs.declared.roles.Roles.{Roles}
use Rattle.mr_threads.specs.declared.roles.Spoken.{Spoken}
use Rattle.mr_threads.specs.declared.roles.Heard.{Heard}
use Rattle.mr_threads.specs.declared.roles.RolesEnd.{RolesEnd}
use Rattle.mr_threads.specs.declared.roles.RolesFault.{RolesFault}
use Rattle.mr_threads.specs.declared.roles.RolesFault.TheVariants.{OutOfMemory, NoCapacity}

-- the speaker had this conversation, and has all answers of it
pub record HadConversation {S E A : Type 0} (speaks : S → List (Said E A) → S → Type 0) (old : S) (conversation : List (Said E A)) (new : Spoken S A) : Type 0 where
  pub spoke : speaks old conversation new.speaker
  pub replies : new.replies.items ≡ answers_heard conversation

-- the subscriber took just these entries, and shows their fold
pub record TookEntries {F : Type 0} (shows : F → Cards MailCard → Type 0) (entries : List Entry) (new : Heard F) : Type 0 where
  pub taken : new.taken.items ≡ entries
  pub applied : ShowsFold shows new.subscriber.fold entries
  pub none_kept : new.subscriber.kept ≡ None

-- There is one list of exchanges, which leads the machine from where it was to where it is. Each speaker had its part of it for its conversation, and both subscribers took what came into the feed.
pub record RolesRan {M E A S P Q F G : Type 0} (steps : M → E → A → M → Type 0) (feed_of : M → List Entry) (user_speaks : S → List (Said E A) → S → Type 0) (first_speaks : P → List (Said E A) → P → Type 0) (second_speaks : Q → List (Said E A) → Q → Type 0) (index : F → Cards MailCard → Type 0) (notice : G → Cards MailCard → Type 0) (roles : Roles M S P Q) (end : RolesEnd M A S P Q F G) : Type 0 where
  pub exchanges : List (Exchange E A)
  pub replays : Replays steps roles.machine exchanges end.machine
  pub user : HadConversation user_speaks roles.user (said_by User exchanges) end.user
  pub first_link : HadConversation first_speaks roles.first_link (said_by FirstLink exchanges) end.first_link
  pub second_link : HadConversation second_speaks roles.second_link (said_by SecondLink exchanges) end.second_link
  pub entries : List Entry
  pub grows : feed_of end.machine ≡ feed_of roles.machine ++ entries
  pub indexer : TookEntries index entries end.indexer
  pub notifier : TookEntries notice entries end.notifier

-- the number of a fault
abbrev pub roles_number : {M S P Q : Type 0} → RolesFault M S P Q → ℕ
roles_number OutOfMemory = 0
roles_number (NoCapacity roles) = 1
