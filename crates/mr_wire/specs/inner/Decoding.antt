-- a whole frame as it is read
use Rattle.std.specs.Prelude.{◌≡◌, ℕ, List, Option, Some, None, IfSome}
use Rattle.mr_wire.specs.declared.frame.Frame.{Frame}
use Rattle.mr_wire.specs.declared.kind.Kind.{Kind}
use Rattle.mr_wire.specs.Decoding.{whole_frame}

-- The frame that the bytes are is kept, or not; or they are none.
abbrev pub FindsWhole : Kind → List ℕ → Option (Option Frame) → Type 0
FindsWhole kind parts None = whole_frame kind parts ≡ None
FindsWhole kind parts (Some kept) = (f : Frame) × (whole_frame kind parts ≡ Some f) × IfSome kept (λ k. k ≡ f)
