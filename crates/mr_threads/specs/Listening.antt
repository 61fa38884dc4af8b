-- what a subscriber's thread comes to
use Rattle.std.specs.Prelude.{◌≡◌, None, List}
use Rattle.mr_mail.specs.Mail.{MailCard}
use Rattle.mr_model.specs.Headline.{Cards}
use Rattle.mr_feed.specs.declared.entry.Entry.{Entry}
use Rattle.mr_subs.specs.Subscriber.{ShowsFold}
use Rattle.mr_threads.specs.declared.listener.Listener.{Listener}

module _ {F R : Type 0} (shows : F → Cards MailCard → Type 0) where
  -- these entries were taken, kept in a list, and applied
  pub record HasHeard (entries : List Entry) (l : Listener F R) : Type 0 where
    pub passed : l.tap.passed ≡ entries
    pub taken : l.taken.items ≡ entries
    pub applied : ShowsFold shows l.subscriber.fold entries
    pub none_kept : l.subscriber.kept ≡ None
