-- Every refusal's number, layer and place, and the octets of its reply.
use Rattle.std.specs.Prelude.{ℕ, ◌/◌, ◌%◌, Bool, true, false, List, [], ◌∷◌}
use Rattle.transfers.specs.declared.refusal.Refusal.{Refusal}
use Rattle.transfers.specs.declared.refusal.Refusal.TheVariants.{MemoryCount, Room, EmptyRequest, UnknownOperation, Mode, ItemCount, Missing, Over, NoNumber, NotAllowed, NotInTable, CountDiffers}

abbrev pub number_of : Refusal → ℕ
number_of MemoryCount = 9
number_of Room = 1
number_of EmptyRequest = 6
number_of UnknownOperation = 6
number_of Mode = 5
number_of ItemCount = 6
number_of (Missing n) = 6
number_of (Over n) = 6
number_of (NoNumber n) = 2
number_of (NotAllowed n) = 3
number_of (NotInTable n) = 2
number_of (CountDiffers n) = 6

abbrev pub layer_of : Refusal → ℕ
layer_of MemoryCount = 0
layer_of Room = 0
layer_of EmptyRequest = 1
layer_of UnknownOperation = 1
layer_of Mode = 2
layer_of ItemCount = 1
layer_of (Missing n) = 1
layer_of (Over n) = 1
layer_of (NoNumber n) = 4
layer_of (NotAllowed n) = 4
layer_of (NotInTable n) = 3
layer_of (CountDiffers n) = 3

abbrev pub place_of : Refusal → ℕ
place_of MemoryCount = 0
place_of Room = 0
place_of EmptyRequest = 0
place_of UnknownOperation = 0
place_of Mode = 0
place_of ItemCount = 1
place_of (Missing n) = n
place_of (Over n) = n
place_of (NoNumber n) = n
place_of (NotAllowed n) = n
place_of (NotInTable n) = n
place_of (CountDiffers n) = n

-- the two refusals that leave reply memory alone
abbrev pub unanswered : Refusal → Bool
unanswered MemoryCount = true
unanswered Room = true
unanswered EmptyRequest = false
unanswered UnknownOperation = false
unanswered Mode = false
unanswered ItemCount = false
unanswered (Missing n) = false
unanswered (Over n) = false
unanswered (NoNumber n) = false
unanswered (NotAllowed n) = false
unanswered (NotInTable n) = false
unanswered (CountDiffers n) = false

-- the reply of a refusal: number, layer and a two-octet place
abbrev pub refusal_octets : Refusal → List ℕ
refusal_octets r = number_of r ∷ layer_of r ∷ place_of r / 256 ∷ place_of r % 256 ∷ []
