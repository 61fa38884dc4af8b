-- what one sender hears once it has said all
use Rattle.std.specs.Prelude.{◌≡◌, ◌++◌, List}
use Rattle.mr_threads.specs.declared.talk.Talk.{Talk}

module _ {E A R : Type 0} where
  -- the rest of the replies was taken, and kept
  pub record HearsOut (old new : Talk E A R) : Type 0 where
    pub rest : List A
    pub passed : new.tap.passed ≡ old.tap.passed ++ rest
    pub replies : new.replies.items ≡ old.replies.items ++ rest
