-- Names for proofs: lists, tests and what may be there.
pub use Rattle.std.proofs.lemmas.Bool.{and_from, and_parts, both_ways, eqb-false, le-ltb, leb-false, leb-true, lt-ltb, ltb-false, ltb-true}
pub use Rattle.std.proofs.lemmas.List.{append-nil, length-map, length-reverse, length_push, map-set, reverse-append, reverse-reverse, set-get_or}
pub use Rattle.std.proofs.lemmas.List.{take_all}
pub use Rattle.std.specs.List.{All, AllByRecursion, AllZip, filter_map, list_any, position, position_or_len, slice_get}
pub use Rattle.std.specs.Option.{IfSome, option_map, option_map_or}
pub use Rattle.std.specs.Prelude.{Contains, Err, IsFalse, IsTrue, Ok, Result, find, is_none, is_some, nat_lt, reverse, slice_set, ⊤, ◌↔◌}
