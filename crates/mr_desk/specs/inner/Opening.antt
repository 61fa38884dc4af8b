-- a filter as it is read
use Rattle.std.specs.Prelude.{◌≡◌, ℕ, true, false, List, Result, Ok, Err}
use Rattle.std.specs.Str.{is_utf8}
use Rattle.mr_filter.specs.Filter.{ClauseParts}
use Rattle.mr_filter.specs.Fault.{IsFaultOf}
use Rattle.mr_desk.specs.declared.fault.Fault.{Fault}
use Rattle.mr_desk.specs.declared.fault.Fault.TheVariants as fault
use Rattle.mr_desk.specs.Opening.{MeansFilter}

-- the filter that bytes mean, or why they mean none; memory is wanting only where there is no other fault
abbrev pub ReadsFilter : List ℕ → Result (List ClauseParts) Fault → Type 0
ReadsFilter text (Ok filter) = MeansFilter text filter
ReadsFilter text (Err fault.OutOfMemory) = is_utf8 text ≡ true
ReadsFilter text (Err fault.NotText) = is_utf8 text ≡ false
ReadsFilter text (Err (fault.Filter f)) = (is_utf8 text ≡ true) × IsFaultOf text f
ReadsFilter text (Err f) = ⊥
