use Rattle.std.proofs.Common.{◌≡◌, ◌++◌, map}
use Rattle.domain_svcb.specs.{Strings.Grows, Parameters.parameters_octets, Gathered.{gathered, parameter_of}}
use Rattle.domain_svcb.proofs.parameters.Parameters.put_all.Given as goal

abbrev pub invariant-loop-key : goal.invariant-loop-key
invariant-loop-key l = record {
  whole : l.out.items ++ parameters_octets (map parameter_of l.key-iterator)
      ≡ l.initial.out.items ++ parameters_octets (gathered l.fn.self);
  grown : Grows l.initial.out.items l.out.items;
}
