use Rattle.std.proofs.Common.{◌≡◌, drop}
use Rattle.std.specs.List.{list_all}
use Rattle.sched_records.specs.Forms.{has_atom_form}
use Rattle.sched_records.proofs.form.all_have.Given as goal

abbrev pub invariant-loop-atom : goal.invariant-loop-atom
invariant-loop-atom l = list_all (has_atom_form l.form) (drop l.atom-index l.atoms) ≡ list_all (has_atom_form l.form) l.atoms
