-- The first illness of a table: of its first record that has one, the first check that finds it.
use Rattle.std.specs.Prelude.{ℕ, ◌+◌, List, [], ◌∷◌, ◌++◌, Some, None, if◌then◌else◌}
use Rattle.std.specs.List.{list_any}
use Rattle.std.specs.declared.option.Option.{Option}
use Rattle.sched_resolve.specs.declared.entry.Entry.{Entry}
use Rattle.sched_resolve.specs.declared.entry.Resource.{Resource}
use Rattle.sched_checks.specs.Checks.{is_model, two_models, unknown_name, no_units, group_of_group, list_lengths, zero_micro_ops, out_of_range, in_order_model, move_elimination, two_files, file_too_small, two_writes, two_advances, two_queues, use_cannot_be_met}
use Rattle.sched_checks.specs.Resources.{resources_of}
use Rattle.sched_checks.specs.declared.illness.IllKind.{IllKind}
use Rattle.sched_checks.specs.declared.illness.IllKind.TheVariants as ill
use Rattle.sched_checks.specs.declared.illness.TableIllness.{TableIllness}

-- the illness of a record that stands behind these, in a table of these resources
abbrev pub ill_kind : List Resource → List Entry → Entry → Option IllKind
ill_kind rs earlier e =
    if two_models earlier e then Some ill.TwoModels else
    if unknown_name e then Some ill.UnknownName else
    if no_units e then Some ill.NoUnits else
    if group_of_group rs e then Some ill.GroupOfGroup else
    if list_lengths e then Some ill.ListLengths else
    if zero_micro_ops e then Some ill.ZeroMicroOps else
    if out_of_range earlier e then Some ill.OutOfRange else
    if in_order_model e then Some ill.InOrderModel else
    if move_elimination e then Some ill.MoveElimination else
    if two_files earlier e then Some ill.TwoFilesOneRegister else
    if file_too_small e then Some ill.FileTooSmall else
    if two_writes earlier e then Some ill.TwoWrites else
    if two_advances e then Some ill.TwoAdvances else
    if two_queues earlier e then Some ill.TwoQueues else
    if use_cannot_be_met rs e then Some ill.UseCannotBeMet else None

abbrev pub or_later : ℕ → Option IllKind → Option TableIllness → Option TableIllness
or_later number (Some kind) later = Some (record { number = number; kind = kind })
or_later number None later = later

-- the first illness from a record on, whose number this is
abbrev pub illness_from : List Resource → ℕ → List Entry → List Entry → Option TableIllness
illness_from rs number earlier [] = None
illness_from rs number earlier (e ∷ es) = or_later number (ill_kind rs earlier e) (illness_from rs (number + 1) (earlier ++ e ∷ []) es)

abbrev pub illness_of : List Entry → Option TableIllness
illness_of es = if list_any is_model es then illness_from (resources_of es) 1 [] es else Some (record { number = 0; kind = ill.NoModel })
