use Rattle.std.proofs.Common.{◌≡◌, ◌||◌, take}
use Rattle.mr_forms.proofs.Names.{contains, eq_by_cmp, list_any, taken_back}
use Rattle.mr_forms.proofs.additions.add_all.Given as goal

-- the keys so far are in, and those that were added lead back
abbrev pub invariant-loop-key : goal.invariant-loop-key
invariant-loop-key g l = record {
  have : (k : g.row.K.Denot) → contains g.K.Ord.cmp l.set k ≡ (list_any (eq_by_cmp g.K.Ord.cmp k) (take l.key-index l.keys) || contains g.K.Ord.cmp l.fn.set k);
  lead_back : taken_back g.K.Ord.cmp l.added.items l.set.keys ≡ l.fn.set.keys;
}
