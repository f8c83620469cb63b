-- The number and the layer of each cause of a refusal.
use Rattle.std.specs.Prelude.{ℕ}
use Rattle.readings.specs.declared.cause.Cause.{Cause}
use Rattle.readings.specs.declared.cause.Cause.TheVariants.{Octets, Mode, Header, Count, Address, Value}

abbrev pub cause_number : Cause → ℕ
cause_number Octets = 6
cause_number Mode = 5
cause_number Header = 2
cause_number Count = 6
cause_number Address = 2
cause_number Value = 3

abbrev pub cause_layer : Cause → ℕ
cause_layer Octets = 1
cause_layer Mode = 2
cause_layer Header = 3
cause_layer Count = 3
cause_layer Address = 4
cause_layer Value = 4
