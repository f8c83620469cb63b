-- The forty-seven columns, family by family: width in octets, least, greatest, kind.
use Rattle.std.specs.Prelude.{ℕ, List, [], ◌∷◌}
use Rattle.tables.specs.declared.columns.Column.{Column}
use Rattle.tables.specs.declared.columns.Kind.{Kind}
use Rattle.tables.specs.declared.columns.Kind.TheVariants.{Number, DetectorOptions, ActionPattern, PhaseList}

abbrev pub col : ℕ → ℕ → ℕ → Kind → Column
col w l g k = record { width = w; least = l; greatest = g; kind = k }

-- what stands past the last column
abbrev pub none : Column
none = col 0 0 0 Number

abbrev pub columns : List Column
columns =
    -- Phase
    col 1 0 255 Number ∷  -- 1 walk
    col 1 0 255 Number ∷  -- 2 pedestrian clear
    col 1 0 255 Number ∷  -- 3 minimum green
    col 1 0 255 Number ∷  -- 4 passage
    col 1 0 255 Number ∷  -- 5 maximum 1
    col 1 0 255 Number ∷  -- 6 maximum 2
    col 1 0 255 Number ∷  -- 7 yellow change
    col 1 0 255 Number ∷  -- 8 red clear
    col 1 0 255 Number ∷  -- 9 red revert
    col 1 0 255 Number ∷  -- 10 added initial
    col 1 0 255 Number ∷  -- 11 maximum initial
    col 1 0 255 Number ∷  -- 12 time before reduction
    col 1 0 255 Number ∷  -- 13 cars before reduction
    col 1 0 255 Number ∷  -- 14 time to reduce
    col 1 0 255 Number ∷  -- 15 reduce by
    col 1 0 255 Number ∷  -- 16 minimum gap
    col 1 0 255 Number ∷  -- 17 dynamic maximum limit
    col 1 0 255 Number ∷  -- 18 dynamic maximum step
    col 1 1 6 Number ∷  -- 19 startup
    col 2 0 65535 Number ∷  -- 20 options
    col 1 0 4 Number ∷  -- 21 ring
    col 1 1 16 PhaseList ∷  -- 22 concurrency
    -- Vehicle detector
    col 1 0 255 DetectorOptions ∷  -- 1 options
    col 1 0 16 Number ∷  -- 2 call phase
    col 1 0 16 Number ∷  -- 3 switch phase
    col 2 0 65535 Number ∷  -- 4 delay
    col 1 0 255 Number ∷  -- 5 extend
    col 1 0 255 Number ∷  -- 6 queue limit
    col 1 0 255 Number ∷  -- 7 no activity
    col 1 0 255 Number ∷  -- 8 maximum presence
    col 1 0 255 Number ∷  -- 9 erratic counts
    col 1 0 255 Number ∷  -- 10 fail time
    -- Pedestrian detector
    col 1 0 16 Number ∷  -- 1 call phase
    col 1 0 255 Number ∷  -- 2 no activity
    col 1 0 255 Number ∷  -- 3 maximum presence
    col 1 0 255 Number ∷  -- 4 erratic counts
    -- Pattern
    col 1 0 255 Number ∷  -- 1 cycle
    col 1 0 255 Number ∷  -- 2 offset
    col 1 0 16 Number ∷  -- 3 split number
    col 1 0 4 Number ∷  -- 4 sequence number
    -- Split
    col 1 0 255 Number ∷  -- 1 time
    col 1 1 7 Number ∷  -- 2 mode
    col 1 0 1 Number ∷  -- 3 coordinated
    -- Time base action
    col 1 0 32 ActionPattern ∷  -- 1 pattern
    col 1 0 15 Number ∷  -- 2 auxiliary function
    col 1 0 255 Number ∷  -- 3 special function
    -- Sequence
    col 1 1 16 PhaseList ∷  -- 1 phase list
    []
