-- What is told of a word, by what its digits gave.
use Rattle.std.proofs.Common.{◌≡◌, refl, ℕ, true, List, length, Option, Some, None, Result, Ok, Err, IfOk, string_bytes}
use Rattle.mr_script.proofs.Names.{GivesBytes, Tells, TellsFound, codes}
use Rattle.hex.specs.declared.error.FromHexError.{FromHexError}
use Rattle.mr_wire.specs.Decoding.{decoded}
use Rattle.mr_script.specs.declared.frame.FrameText.{FrameText}

-- the bytes that were found are told
pub found_tells : {E : Type 0} (spelled : Result (List ℕ) FromHexError) (found : Option (List ℕ)) (bytes read : List ℕ) (r : Result FrameText E) → GivesBytes spelled found → found ≡ Some bytes → read ≡ bytes
    → IfOk r (λ text. TellsFound (decoded read) (length read) (string_bytes text.lines) text.is_fault) → IfOk r (λ text. Tells spelled (string_bytes text.lines) text.is_fault)
found_tells (Ok given) found bytes read (Ok text) gives is same tells =
    let all : read ≡ given = cc in
    rw all at tells
found_tells (Err fault) found bytes read (Ok text) gives is same tells = cc
found_tells spelled found bytes read (Err e) gives is same tells = tt

-- none were found
pub none_tells : (spelled : Result (List ℕ) FromHexError) (found : Option (List ℕ)) (lines : List ℕ) → GivesBytes spelled found → found ≡ None → lines ≡ codes "not hex\n" → Tells spelled lines true
none_tells (Ok given) found lines gives is told = cc
none_tells (Err e) found lines gives is told = (told, refl)
