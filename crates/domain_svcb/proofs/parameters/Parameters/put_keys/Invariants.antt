use Rattle.std.proofs.Common.{◌≡◌, ◌++◌, map}
use Rattle.std.specs.List.{concat}
use Rattle.domain_svcb.specs.{Values.mandatory_octets, Gathered.{gathered, parameter_of}}
use Rattle.domain_svcb.proofs.parameters.Parameters.put_keys.Given as goal

abbrev pub invariant-loop-key : goal.invariant-loop-key
invariant-loop-key l =
    l.out.items ++ concat (map mandatory_octets (map parameter_of l.key-iterator))
    ≡ l.initial.out.items ++ concat (map mandatory_octets (gathered l.fn.self))
