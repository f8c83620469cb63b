use Rattle.std.specs.Prelude.{ℕ, List, length, take}
use Rattle.lists.specs.declared.list.BoundedList.{BoundedList}

-- the items of a list: the first `len` of its slots
abbrev pub items : {T : Type 0} → BoundedList T → List T
items b = take b.len b.slots.now

-- how many items it can hold
abbrev pub room : {T : Type 0} → BoundedList T → ℕ
room b = length b.slots.now
