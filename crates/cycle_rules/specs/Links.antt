-- Where the values that an instruction reads come from: the youngest older row that writes a register stands as many rows back in each iteration.
use Rattle.std.specs.Prelude.{◌≡◌, ℕ, ◌+◌, ◌-◌, ◌%◌, ◌<◌, ◌≤◌, List, length, nat_lt, nat_eq, slice_index_or, Option, Some, None, if◌then◌else◌}
use Rattle.machine_model.specs.Meaning.{MachineMeaning}
use Rattle.cycle_rules.specs.Row.{Row, Input, input, no_row, lead, advance_of}
use Rattle.cycle_rules.specs.Issue.{producer}
use Rattle.cycle_rules.specs.Still.{no_source}
use Rattle.cycle_rules.specs.declared.bound.Source.{Source}
use Rattle.cycle_rules.specs.declared.links.Link.{Link}
use Rattle.cycle_rules.specs.declared.links.Links.{Links}

-- the row that a link of row j names, if there is one
abbrev pub named : ℕ → Link → Option ℕ
named j link = if nat_eq link.back 0 then None else if nat_lt j link.back then None else Some (j - link.back)

-- a link of row j names the row that makes the value of a read, and tells how long after its issue the value can be read; for register 0 it names none
pub record IsLink (g : Input) (j : ℕ) (s : Source) (link : Link) : Type 0 where
  pub row : named j link ≡ (if nat_eq s.reg 0 then None else producer g j s.reg)
  pub lead : (k : ℕ) → named j link ≡ Some k → link.lead ≡ lead (g.row k).latency (advance_of g.machine s.read (g.row k).write)

-- links of row j do so for its reads; that of a read that is not there names no row
pub record AreLinks (g : Input) (j : ℕ) (links : Links) : Type 0 where
  pub few : length (g.row j).reads ≤ 2
  pub first : 0 < length (g.row j).reads → IsLink g j (slice_index_or (g.row j).reads 0 no_source) links.first
  pub no_first : length (g.row j).reads ≤ 0 → links.first.back ≡ 0
  pub second : 1 < length (g.row j).reads → IsLink g j (slice_index_or (g.row j).reads 1 no_source) links.second
  pub no_second : length (g.row j).reads ≤ 1 → links.second.back ≡ 0

abbrev pub no_link : Link
no_link = record { back = 0; lead = 0 }

abbrev pub no_links : Links
no_links = record { first = no_link; second = no_link }

-- those of the first n places of a body do so for the rows of each iteration
abbrev pub AllLinks : MachineMeaning → List Row → ℕ → List Links → Type 0
AllLinks m body n links = (p : ℕ) → p < n → (iterations j : ℕ) → j % length body ≡ p → AreLinks (input m body iterations) j (slice_index_or links p no_links)

-- links name rows that stand no further back than so many
pub record IsWithin (n : ℕ) (links : Links) : Type 0 where
  pub first : links.first.back ≤ n
  pub second : links.second.back ≤ n

-- the register that the row at a place of the body writes
abbrev pub rd_at : List Row → ℕ → ℕ
rd_at body q = (slice_index_or body q no_row).rd

-- so many rows before place p of the body, repeated, a register was written last; 0 where no row writes it
pub record IsBack (body : List Row) (p r back : ℕ) : Type 0 where
  pub within : back ≤ length body
  pub writes : (back ≡ 0 → ⊥) → rd_at body ((p + length body - back) % length body) ≡ r
  pub last : (e : ℕ) → 1 ≤ e → e ≤ length body → ((back ≡ 0 → ⊥) → e < back) → rd_at body ((p + length body - e) % length body) ≡ r → ⊥

-- of the first n rows of the body, repeated, row x - 1 is the last that writes a register; x is 0 where no row writes it
pub record IsLast (body : List Row) (n r x : ℕ) : Type 0 where
  pub within : x ≤ n
  pub writes : (x ≡ 0 → ⊥) → rd_at body ((x - 1) % length body) ≡ r
  pub last : (k : ℕ) → x ≤ k → k < n → rd_at body (k % length body) ≡ r → ⊥

-- so it is kept of each register
pub record AreLast (body : List Row) (n : ℕ) (last : List ℕ) : Type 0 where
  pub size : length last ≡ 32
  pub each : (r : ℕ) → r < 32 → IsLast body n r (slice_index_or last r 0)
