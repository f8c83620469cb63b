-- A request of items: a count n of 1 to 32, then n items. The body is what follows the operation's octet.
use Rattle.std.specs.Prelude.{◌≡◌, ℕ, ◌+◌, ◌*◌, ◌<◌, ◌≤◌, ◌⊎◌, List, [], length, slice_index, slice_index_or}
use Rattle.tables.specs.declared.address.Address.{Address}
use Rattle.tables.specs.Places.{address_from}
use Rattle.transfers.specs.declared.refusal.Refusal.{Refusal}
use Rattle.transfers.specs.declared.refusal.Refusal.TheVariants.{ItemCount, Missing, Over}

abbrev pub most_items : ℕ
most_items = 32

-- the count
abbrev pub count_in : List ℕ → ℕ
count_in body = slice_index body 0

-- the count is there and in its range
pub record Counted (body : List ℕ) : Type 0 where
  pub some : 1 ≤ length body
  pub least : 1 ≤ count_in body
  pub most : count_in body ≤ most_items

-- and so are just the octets of that many items of this size
pub record Whole (size : ℕ) (body : List ℕ) : Type 0 where
  pub counted : Counted body
  pub octets : length body ≡ 1 + count_in body * size

-- how a request fails to be such: no count, a count out of range, octets missing, octets over
pub data Miscounted (size : ℕ) (body : List ℕ) (e : Refusal) : Type 0 where
  no_count : length body ≡ 0 → e ≡ Missing 1 → Miscounted size body e
  out_of_range : 1 ≤ length body → (count_in body < 1) ⊎ (most_items < count_in body) → e ≡ ItemCount → Miscounted size body e
  missing : Counted body → length body < 1 + count_in body * size → e ≡ Missing (1 + length body) → Miscounted size body e
  over : Counted body → 1 + count_in body * size < length body → e ≡ Over (2 + count_in body * size) → Miscounted size body e

-- the number that two octets are, the high one first
abbrev pub number_from : List ℕ → ℕ
number_from os = slice_index os 0 * 256 + slice_index os 1

-- the k-th address of the items
abbrev pub address_at : List ℕ → ℕ → Address
address_at body k =
    record {
      id = slice_index body (1 + 4 * k);
      column = slice_index body (1 + 4 * k + 1);
      first = slice_index body (1 + 4 * k + 2);
      second = slice_index body (1 + 4 * k + 3);
    }

-- these are the addresses that a request's items begin with
abbrev pub Addresses : List ℕ → List (List ℕ) → Type 0
Addresses body xs = (k : ℕ) → k < length xs → address_from (slice_index_or xs k []) ≡ address_at body k

-- the offset of its first octet in the request
abbrev pub address_place : ℕ → ℕ
address_place k = 2 + 4 * k

-- the k-th value of a set of n items: two octets, the high one first, behind the n addresses
abbrev pub sent_at : List ℕ → ℕ → ℕ → ℕ
sent_at body n k = slice_index body (1 + 4 * n + 2 * k) * 256 + slice_index body (1 + 4 * n + 2 * k + 1)

-- the offset of its first octet in the request
abbrev pub value_place : ℕ → ℕ → ℕ
value_place n k = 2 + 4 * n + 2 * k
