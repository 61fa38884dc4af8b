-- for how many mails what is done
use Rattle.std.specs.Prelude.{ℕ, Bool, true, false, List, count_by}
use Rattle.mr_maildir.specs.declared.act.Act.{Act}
use Rattle.mr_maildir.specs.declared.act.Act.TheVariants.{Create, Edit, Delete, Follow, Remove}
use Rattle.mr_compare.specs.declared.compare.MailAct.{MailAct}

abbrev pub creates : Act → Bool
creates Create = true
creates _ = false

abbrev pub edits : Act → Bool
edits (Edit view) = true
edits _ = false

abbrev pub deletes : Act → Bool
deletes Delete = true
deletes _ = false

abbrev pub follows : Act → Bool
follows Follow = true
follows _ = false

abbrev pub removes : Act → Bool
removes Remove = true
removes _ = false

-- how many of the acts pass the test
abbrev pub count_of : (Act → Bool) → List MailAct → ℕ
count_of test acts = count_by (λ (mail : MailAct). test mail.act) acts
