-- How the code keeps parameters.
use Rattle.std.specs.Prelude.{ℕ, List, map}
use Rattle.domain_svcb.specs.declared.short.ShortValue.{ShortValue}
use Rattle.domain_svcb.specs.{Values.Parameter, declared.parameters.Parameters.Parameters}

-- a key and its value
abbrev pub parameter_of : ℕ × ShortValue → Parameter
parameter_of entry = record { key = entry.0; value = entry.1.octets.items }

-- the parameters, in the order of their keys
abbrev pub gathered : Parameters → List Parameter
gathered parameters = map parameter_of parameters.map.entries
