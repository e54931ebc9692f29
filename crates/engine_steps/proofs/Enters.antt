-- The parts as the next row dispatches.
use Rattle.std.proofs.Common.{◌≡◌, ℕ, ◌+◌, ◌-◌, ◌<◌, ◌≤◌, List, [], ◌∷◌, ◌++◌, length, set, arith, sym, ◌∙◌, ap, subst, refl, Bool, true, false, append-nil}
use Rattle.std.specs.Prelude.{nat_lt, if◌then◌else◌}
use Rattle.std.proofs.lemmas.Bool.Decides.{nat_tests}
use Rattle.cycle_rules.specs.Row.{Input, times, uops_of}
use Rattle.cycle_rules.specs.Dispatch.{fits_group, fits_reorder, fits_registers, fits_buffers}
use Rattle.cycle_rules.specs.declared.times.Times.{Times}
use Rattle.circular_buffer.specs.Buffer.{Buffer, buffer}
use Rattle.dispatch_unit.specs.Group.{has_place}
use Rattle.reorder_buffer.specs.Rob.{has_room as has_room_in_buffer}
use Rattle.reorder_buffer.specs.declared.rob.RobEntry.{RobEntry}
use Rattle.reg_files.specs.Files.{has_room as has_room_in_files}
use Rattle.issue_queues.specs.Waiting.{has_entries}
use Rattle.issue_queues.proofs.Flight.{entries-same}
use Rattle.mem_queues.specs.Order.{is_plain, with_issue}
use Rattle.engine_state.specs.State.{never, now, at, IsWritten, IsState}
use Rattle.engine_state.specs.Flight.{IsFlow, window}
use Rattle.engine_state.specs.Parts.{dispatched_row, entry_of, write_of}
use Rattle.engine_state.specs.Writes.{IsDispatched, IsIssuedWith}
use Rattle.engine_state.proofs.State.{times_set_same}
use Rattle.engine_state.proofs.Ties.{group_tie, reorder_tie, registers_tie}
use Rattle.engine_steps.specs.Flight.{none_ready, waiting, accesses}
use Rattle.engine_steps.proofs.Steps.{issue_set, issue_ahead}
use Rattle.engine_steps.proofs.Waiting.{waiting_next}
use Rattle.engine_steps.proofs.Accesses.{accesses_issue, accesses_stay}

-- What the parts tell is what the rules ask

pub group_told : (g : Input) (c front head w cycle uops : ℕ) (begins : Bool) (xs : List Times) → IsFlow g xs front head → w ≡ g.machine.limits.width → cycle ≡ c → uops ≡ uops_of g head → begins ≡ (g.row head).begins_group
    → has_place w cycle (window (dispatched_row g xs) 0 head) uops begins ≡ fits_group g (now g c xs) head c
group_told g c front head w cycle uops begins xs flow a b d e = rw (a, b, d, e) (group_tie g c front head xs flow)

pub rob_told : (g : Input) (c front head uops : ℕ) (rob : Buffer RobEntry) (xs : List Times) → IsState g (at g c 2 head) xs → IsFlow g xs front head → head < g.rows
    → rob ≡ buffer (window (entry_of g) front (head - front)) g.machine.limits.reorder → uops ≡ uops_of g head → has_room_in_buffer rob uops ≡ fits_reorder g (now g c xs) head c
rob_told g c front head uops rob xs s flow lt is same = rw (is, same) (reorder_tie g c front head xs s flow lt)

pub files_told : (g : Input) (c front head rd : ℕ) (xs : List Times) → IsState g (at g c 2 head) xs → IsFlow g xs front head → head < g.rows → rd ≡ (g.row head).rd
    → has_room_in_files g.machine (window (write_of g) front (head - front)) rd ≡ fits_registers g (now g c xs) head c
files_told g c front head rd xs s flow lt same = rw same (registers_tie g c front head xs s flow lt)

pub buffers_told : (g : Input) (c front head : ℕ) (xs : List Times) → front ≤ head → ((k : ℕ) → k < front → (now g c xs k).issue ≤ c) → has_entries g.machine (waiting g c xs front head) (g.row head).uses ≡ fits_buffers g (now g c xs) head c
buffers_told g c front head xs order issued =
    let last : front + (head - front) ≡ head = omega arith in
    subst (λ k. has_entries g.machine (waiting g c xs front head) (g.row k).uses ≡ fits_buffers g (now g c xs) k c) last (entries-same g (now g c xs) none_ready c front (head - front) issued)

-- the issue of the row that dispatched, as it is read

issue_after : (g : Input) (c head : ℕ) (xs : List Times) (v : Times) → head < g.rows → length xs ≡ g.rows → IsWritten (g.row head) (times (set xs head v) head) → (times xs head).issue ≡ never → c < never
    → (b : Bool) → IsIssuedWith g xs head c v b → (now g c (set xs head v) head).issue ≡ (if b then c else c + 1)
issue_after g c head xs v lt long kept none low true h = issue_set g c head xs v lt long kept h.0 low
issue_after g c head xs v lt long kept none low false h = issue_ahead g c head (set xs head v) lt kept (ap (λ t. t.issue) (times_set_same xs head v (omega (arith, lt, long))) ∙ h.0 ∙ none)

-- the row waits, where it does not issue at once
pub enters_waiting : (g : Input) (c front head : ℕ) (xs : List Times) (v : Times) → front ≤ head → head < g.rows → length xs ≡ g.rows → IsWritten (g.row head) (times (set xs head v) head) → (times xs head).issue ≡ never → c < never → IsDispatched g xs head c v
    → (if (g.row head).reserved then waiting g c xs front head else waiting g c xs front head ++ record { row = head; uses = (g.row head).uses; ready = false } ∷ []) ≡ waiting g c (set xs head v) front (head + 1)
enters_waiting g c front head xs v order lt long kept none low w = go (g.row head).reserved (issue_after g c head xs v lt long kept none low (g.row head).reserved w.issue)
  where
    go : (b : Bool) → (now g c (set xs head v) head).issue ≡ (if b then c else c + 1) → (if b then waiting g c xs front head else waiting g c xs front head ++ record { row = head; uses = (g.row head).uses; ready = false } ∷ []) ≡ waiting g c (set xs head v) front (head + 1)
    go true is = (let test : nat_lt c (now g c (set xs head v) head).issue ≡ false = grind (arith, nat_tests, is) in
        sym (append-nil (waiting g c xs front head)) ∙ sym (waiting_next g c front head xs v order lt ∙ rw test refl))
    go false is = (let test : nat_lt c (now g c (set xs head v) head).issue ≡ true = grind (arith, nat_tests, is) in
        sym (waiting_next g c front head xs v order lt ∙ rw test refl))

-- and stands among those that access memory
pub enters_accesses : (g : Input) (c front head : ℕ) (xs : List Times) (v : Times) → front ≤ head → head < g.rows → length xs ≡ g.rows → IsWritten (g.row head) (times (set xs head v) head) → (times xs head).issue ≡ never → c < (now g c xs head).issue → c < never → IsDispatched g xs head c v
    → (if (g.row head).reserved then (if is_plain (g.row head).kind then accesses g c xs front (head + 1) else with_issue head v.complete (accesses g c xs front (head + 1))) else accesses g c xs front (head + 1)) ≡ accesses g c (set xs head v) front (head + 1)
enters_accesses g c front head xs v order lt long kept none late low w = go (g.row head).reserved w.issue (issue_after g c head xs v lt long kept none low (g.row head).reserved w.issue)
  where
    go : (b : Bool) → IsIssuedWith g xs head c v b → (now g c (set xs head v) head).issue ≡ (if b then c else c + 1)
        → (if b then (if is_plain (g.row head).kind then accesses g c xs front (head + 1) else with_issue head v.complete (accesses g c xs front (head + 1))) else accesses g c xs front (head + 1)) ≡ accesses g c (set xs head v) front (head + 1)
    go true h is = accesses_issue g c front (head + 1) head v.complete xs v (omega (arith, order)) (omega (arith, lt)) (omega (arith, is)) (ap (λ n. n + (g.row head).latency) is ∙ sym h.1)
    go false h is = accesses_stay g c front head xs v order lt late (omega (arith, is))
