-- A list of phases: its length, and then as many octets.
use Rattle.std.specs.Prelude.{◌≡◌, ℕ, ◌-◌, ◌≤◌, List, ◌++◌, length, take, drop, replicate}
use Rattle.tables.specs.declared.columns.Column.{Column}
use Rattle.tables.specs.declared.columns.Kind.TheVariants.{Number}
use Rattle.tables.specs.Columns.{col}
use Rattle.values.specs.declared.phases.PhaseList.{PhaseList}
use Rattle.values.specs.Reading.{Reading, then, held, EachOf, each_octets}
use Rattle.values.specs.Numbers.{number, numbers, Allowed, Fits, octets}

-- a length is at most 16
abbrev pub length_column : Column
length_column = col 1 0 16 Number

-- a length, and as many octets of the list's column
abbrev pub listing : Column → Reading (ℕ × List ℕ)
listing c = then (number length_column) (λ n. numbers (replicate n c))

-- a list holds its length and its octets; the places past them hold 0
abbrev pub listed : PhaseList → ℕ × List ℕ
listed l = (l.len, take l.len l.phases)

abbrev pub Padded : PhaseList → Type 0
Padded l = (length l.phases ≡ 16) × (drop l.len l.phases ≡ replicate (16 - l.len) 0)

abbrev pub phases : Column → Reading PhaseList
phases c = held listed Padded (listing c)

-- the lists that a row may have, those that octets can show, and what they are written as
abbrev pub ListAllowed : Column → PhaseList → Type 0
ListAllowed c l = (Allowed length_column l.len × EachOf Allowed (replicate l.len c) (take l.len l.phases)) × Padded l

abbrev pub ListFits : Column → PhaseList → Type 0
ListFits c l = (l.len ≤ 16) × EachOf Fits (replicate l.len c) (take l.len l.phases)

abbrev pub list_octets : Column → PhaseList → List ℕ
list_octets c l = octets length_column l.len ++ each_octets octets (replicate l.len c) (take l.len l.phases)
