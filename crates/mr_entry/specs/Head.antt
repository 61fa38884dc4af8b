-- a head as contracts see it
use Rattle.std.specs.Prelude.{◌≡◌, ◌<◌, ◌^◌, ℕ, List, length}
use Rattle.std.specs.Str.{IsUtf8}

-- the replica's id, its event limit, what tells the journal from others, and the filter's text
pub record HeadParts : Type 0 where
  pub id : ℕ
  pub event_limit : ℕ
  pub birth : List ℕ
  pub mark : List ℕ
  pub filter : List ℕ

-- what each head keeps
pub record IsHead (h : HeadParts) : Type 0 where
  pub id_in : h.id < 64
  pub limit_in : h.event_limit < 2 ^ 32
  pub birth_in : length h.birth ≡ 16
  pub mark_in : length h.mark ≡ 32
  pub text : IsUtf8 h.filter
