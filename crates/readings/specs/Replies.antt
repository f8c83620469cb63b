-- The replies of a unit, and what a reading says of the octets that it was made from.
use Rattle.std.specs.Prelude.{◌≡◌, ℕ, ◌/◌, ◌%◌, ◌<◌, List, [], ◌∷◌, length, vec_items, ◌≢◌}
use Rattle.transfers.specs.Gets.{two_octets}
use Rattle.readings.specs.declared.Fault.{Fault}
use Rattle.readings.specs.declared.Reading.{Reading}
use Rattle.readings.specs.declared.Reading.TheVariants.{Done, Numbers, Block, Refused, Unclear}

-- accepted, with nothing to tell
abbrev pub done_reply : List ℕ
done_reply = 0 ∷ []

-- accepted: 0, how many numbers, and two octets each
abbrev pub numbers_reply : List ℕ → List ℕ
numbers_reply vs = 0 ∷ length vs ∷ two_octets vs

-- accepted: 0, and a block, which begins with the data type 0 and the family's data ID
abbrev pub block_reply : ℕ → List ℕ → List ℕ
block_reply id rest = 0 ∷ 0 ∷ id ∷ rest

-- refused: number, layer and a two-octet place
abbrev pub fault_reply : Fault → List ℕ
fault_reply f = f.number ∷ f.layer ∷ f.place / 256 ∷ f.place % 256 ∷ []

-- the octets are what the reading tells; an unclear one are those of no reply
abbrev pub Says : List ℕ → Reading → Type 0
Says octets Done = octets ≡ done_reply
Says octets (Numbers v) = octets ≡ numbers_reply (vec_items v)
Says octets (Block id) = (rest : List ℕ) × (octets ≡ block_reply id rest)
Says octets (Refused f) = (0 < f.number) × (octets ≡ fault_reply f)
Says octets Unclear =
    (octets ≢ done_reply) × ((vs : List ℕ) → octets ≢ numbers_reply vs) × ((id : ℕ) (rest : List ℕ) → octets ≢ block_reply id rest) × ((f : Fault) → 0 < f.number → octets ≢ fault_reply f)
