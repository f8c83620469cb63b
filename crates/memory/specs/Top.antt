use Rattle.std.specs.Prelude.{ℕ, ◌+◌, ◌-◌, ◌/◌, ◌%◌, Bool, false, cond, ◌==◌, nat_lt}

-- The cells of the whole table, and the octets that hold them packed.
abbrev pub cell_count : ℕ
cell_count = 2544

abbrev pub packed_length : ℕ
packed_length = 2624

-- Which cells are wide. The cells 0 to 607 are 16 phase rows of 38 cells, and the 20th of a row is the phase
-- options; 608 to 1247 are 64 vehicle detector rows of 10 cells, and the 4th of a row is the delay. No other is wide.
unfoldable pub wide : ℕ → Bool
wide n = cond (nat_lt n 608) (n % 38 == 19) (cond (nat_lt n 1248) ((n - 608) % 10 == 3) false)

-- The top of the cell n: the largest value that it takes.
unfoldable pub top_of : ℕ → ℕ
top_of n = cond (wide n) 65535 255

-- How many cells below the cell n are wide: one for each phase row and each detector row whose wide cell is passed,
-- 16 and 64 in all.
unfoldable pub wides_below : ℕ → ℕ
wides_below n = cond (nat_lt n 608) ((n + 18) / 38) (cond (nat_lt n 1248) (16 + (n - 608 + 6) / 10) 80)

-- The octet at which the cell n begins: one for each cell below it, and one more for each wide one.
unfoldable pub octet_of : ℕ → ℕ
octet_of n = n + wides_below n

-- How many octets the cell n takes.
unfoldable pub width_of : ℕ → ℕ
width_of n = cond (wide n) 2 1
