-- worked rows
use Rattle.std.specs.Prelude.{◌≡◌, ℕ, List, [], ◌∷◌, Option, None, Some, codes, refl}
use Rattle.std.proofs.Common.{inl, inr}
use Rattle.hex.specs.Hex.{encode_with}
use Rattle.sha2.specs.Sha256.{sha256}
use Rattle.mr_folder.specs.Fault.{store_fault_number}
use Rattle.mr_folder.specs.Inside.{joined, first_part, own_folder, draft_path, stored_path, mail_path}
use Rattle.mr_folder.specs.Quiet.{KeepTimes}
use Rattle.mr_folder.specs.Store.{GetsMail, HasMail, KeepsMail, SameOr}
use Rattle.mr_folder.specs.Tree.{KeepsAt, Tree}
use Rattle.mr_folder.specs.declared.path.Part.TheVariants.{Cur, New}
use Rattle.mr_folder.specs.declared.store.StoreFault.TheVariants.{OutOfMemory, Failed}

-- parts stand with `/` between them
pub joined_one : joined (codes "a") [] ≡ codes "a"
joined_one = refl

pub joined_three : joined (codes "a") (codes "bc" ∷ codes "d" ∷ []) ≡ codes "a/bc/d"
joined_three = refl

-- the first part ends at the first `/`
pub first_of_one : first_part (codes "abc") ≡ codes "abc"
first_of_one = refl

pub first_of_three : first_part (codes "a/bc/d") ≡ codes "a"
first_of_three = refl

pub first_of_draft : first_part draft_path ≡ own_folder
first_of_draft = refl

-- a mail in the Maildir itself, and in a folder of it
pub mail_in_inbox : mail_path [] New (codes "1.host") ≡ codes "new/1.host"
mail_in_inbox = refl

pub mail_in_folder : mail_path (codes "Archive/2024") Cur (codes "1.host:2,S") ≡ codes "Archive/2024/cur/1.host:2,S"
mail_in_folder = refl

-- a mail's place in the store has its digest's digits in lower case
pub stored_digits : stored_path (0 ∷ 171 ∷ 255 ∷ []) ≡ codes ".mailfold/files/00abff"
unfolding encode_with
stored_digits = refl

-- a place is as it was, or has the bytes
pub same_place : SameOr (codes "a") (7 ∷ []) (λ _. Some []) (λ _. Some [])
same_place = inl refl

pub new_place : SameOr (codes "a") (7 ∷ []) (λ _. Some []) (λ _. Some (7 ∷ []))
new_place = inr refl

-- a store in which each place has this byte
abbrev sevens : Tree
sevens path = Some (7 ∷ [])

has_seven : HasMail (sha256 (7 ∷ [])) sevens
has_seven = record { bytes = 7 ∷ []; stored = refl; digest_is = refl }

-- a mail that is there stays, one that isn't comes, and one that is there isn't replaced by others
pub was_there : GetsMail (sha256 (7 ∷ [])) (7 ∷ []) sevens sevens
was_there = inl (has_seven, refl)

pub comes : GetsMail (sha256 (7 ∷ [])) (7 ∷ []) (λ path. None) sevens
comes = inr (λ mail. no_bytes mail.bytes mail.stored, refl)
  where
    no_bytes : (bytes : List ℕ) → ◌≡◌ {A = Option (List ℕ)} None (Some bytes) → ⊥
    no_bytes bytes e = absurd cc

-- of files that each crash leaves as they are: a mail that goes isn't kept, and at a place where nothing was something else isn't
pub goes : KeepsMail {F = Tree} (λ t. t) (λ t c. c ≡ t) (λ t. 0) (λ t since c. c ≡ t) (sha256 (7 ∷ [])) sevens (λ path. None) → ⊥
goes keeps = no_bytes (keeps.same has_seven)
  where
    no_bytes : ◌≡◌ {A = Option (List ℕ)} None (Some (7 ∷ [])) → ⊥
    no_bytes e = absurd cc

pub appears : KeepsAt {F = Tree} (λ t. t) (λ t c. c ≡ t) (λ t. 0) (λ t since c. c ≡ t) (codes "a") (λ path. None) sevens → ⊥
appears keeps = some_bytes keeps.same
  where
    some_bytes : ◌≡◌ {A = Option (List ℕ)} (Some (7 ∷ [])) None → ⊥
    some_bytes e = absurd cc

-- two folders, of which each keeps a time of its own
pub own_times : KeepTimes (record { names = λ moment folder. []; time = λ moment folder. folder }) 2 5 9
own_times = λ folder k within from to. refl

-- the numbers of faults
pub memory_is_0 : store_fault_number OutOfMemory ≡ 0
memory_is_0 = refl

pub failed_is_1 : store_fault_number Failed ≡ 1
failed_is_1 = refl
