-- Names for proofs: of other crates, and of this crate's definitions.
pub use Rattle.mr_journal.specs.Device.{Cut, IsOldOrWritten, IsUntouched, LeavesOnly, Only, Passes, Rests, Torn, overwritten}
pub use Rattle.mr_journal.specs.Format.{AreBatches, AreEntries, Fits, IsBatch, IsDamagedAt, IsNew, StandAlike, Stands, batch, body, contents, entry_bytes}
pub use Rattle.mr_journal.specs.Format.{head, sealed, u16, u32, u64}
pub use Rattle.mr_journal.specs.Reading.{IsReason}
pub use Rattle.mr_journal.specs.declared.fault.JournalFault.{JournalFault}
pub use Rattle.mr_journal.specs.declared.fault.JournalFault.TheVariants.{Damaged, Failed, NotAJournal, OtherFormat, OutOfMemory, TooLarge}
pub use Rattle.mr_journal.specs.inner.Device.{IsStaged}
pub use Rattle.mr_journal.specs.inner.Format.{IsRead, framed}
pub use Rattle.mr_journal.specs.inner.Reading.{IsExamined, IsFound, IsHeadOf, IsNothing, IsSplit}
pub use Rattle.sha2.specs.Sha256.{digest_bytes, sha256}
pub use Rattle.std.proofs.lemmas.Bool.{cases_lt, false≢true, not-false, not-true}
pub use Rattle.std.proofs.lemmas.Bool.Decides.{nat_tests, not_from_Decides}
pub use Rattle.std.proofs.lemmas.List.{append-nil, append_cancel_left, drop-append-le, drop-drop, drop_all, drop_at, drop_more, ext_get_or, get_or-drop}
pub use Rattle.std.proofs.lemmas.List.{get_or-take, get_or_past, length-take-le, map-append, take_all, take_at, take_min}
pub use Rattle.std.proofs.lemmas.List.Concat.{flat_map-append}
pub use Rattle.std.proofs.lemmas.Nat.{be_bytes_2, be_bytes_4, be_bytes_8, from_be_bytes-to_be_bytes_2, from_be_bytes-to_be_bytes_4}
pub use Rattle.std.proofs.lemmas.Nat.{from_be_bytes-to_be_bytes_8}
pub use Rattle.std.proofs.lemmas.Result.{err_from_is_err_and}
pub use Rattle.std.specs.Int.{from_be_bytes, to_be_bytes, w16, w32, w64}
pub use Rattle.std.specs.List.{AllByRecursion, flat_map, slice_index}
pub use Rattle.std.specs.declared.alloc.Global.{Global}
