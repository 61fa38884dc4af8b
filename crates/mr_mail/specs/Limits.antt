-- the limits, as numbers: contracts name them
use Rattle.std.specs.Prelude.{◌≡◌, refl}
use Rattle.mr_mail.specs.declared.message.TheConstants.{MAX_FROM_BYTES, MAX_SUBJECT_BYTES, MAX_BODY_BYTES}
use Rattle.mr_mail.specs.declared.label.TheConstants.{MAX_LABELS, MAX_LABEL_BYTES}

pub senders : MAX_FROM_BYTES ≡ 254
senders = refl

pub subjects : MAX_SUBJECT_BYTES ≡ 998
subjects = refl

pub bodies : MAX_BODY_BYTES ≡ 65536
bodies = refl

pub labels : MAX_LABELS ≡ 16
labels = refl

pub label_bytes : MAX_LABEL_BYTES ≡ 32
label_bytes = refl
