use Rattle.std.specs.Prelude.{◌≡◌, ℕ, ◌+◌, ◌*◌, ◌/◌, ◌%◌, ◌<◌, cond, List, [], map, length, ◌==◌, slice_index}
use Rattle.std.specs.List.{range_with_len}
use Rattle.memory.specs.Top.{cell_count, packed_length, top_of, wide, octet_of}

-- The list of f 0, f 1, .. f (n - 1).
unfoldable pub list_by : (ℕ → ℕ) → ℕ → List ℕ
list_by f n = map f (range_with_len 0 n)

-- One word holds one cell: a wide cell is its word, a narrow one the low octet of its word.
unfoldable pub word_cell : List ℕ → ℕ → ℕ
word_cell ws n = slice_index ws n % (top_of n + 1)

unfoldable pub word_cells : List ℕ → List ℕ
word_cells ws = list_by (word_cell ws) (length ws)

-- What a word holds besides its cell: the high octet over a narrow cell, 0 over a wide one.
unfoldable pub word_highs : List ℕ → List ℕ
word_highs ws = list_by (λ n. slice_index ws n / (top_of n + 1)) (length ws)

-- One octet holds a narrow cell; two, the high one first, hold a wide one.
unfoldable pub packed_cell : List ℕ → ℕ → ℕ
packed_cell os n =
    cond (wide n)
    (slice_index os (octet_of n) % 256 * 256 + slice_index os (octet_of n + 1) % 256)
    (slice_index os (octet_of n) % 256)

-- Octets of the one right length hold the cells of the whole table; of any other length, none.
unfoldable pub packed_cells : List ℕ → List ℕ
packed_cells os = list_by (packed_cell os) (cond (length os == packed_length) cell_count 0)

-- The octets that are no cell's: none at the right length, else all.
unfoldable pub packed_spare : List ℕ → List ℕ
packed_spare os = cond (length os == packed_length) [] os

-- Words are known by their cells and what they hold besides.
abbrev pub WordsDetermined : Type 0
WordsDetermined = (ws vs : List ℕ) → word_cells ws ≡ word_cells vs → word_highs ws ≡ word_highs vs → ws ≡ vs

-- Octets are known by their cells and those that are no cell's.
abbrev pub OctetsDetermined : Type 0
OctetsDetermined =
    (os ps : List ℕ)
    → ((k : ℕ) → slice_index os k < 256)
    → ((k : ℕ) → slice_index ps k < 256)
    → packed_cells os ≡ packed_cells ps
    → packed_spare os ≡ packed_spare ps
    → os ≡ ps
