use Rattle.std.proofs.Common.{take, drop, sym, refl}
use Rattle.std.proofs.lemmas.List.{take-append-drop}
use Rattle.domain_types.proofs.data.begins_with.Goals as goal

pub returns-in-Some : goal.returns-in-Some
returns-in-Some c =
    let octets = c.args.octets.now in
    let len = c.in-Some._len in
    (λ yes. (take len octets, drop len octets, sym (take-append-drop len octets), c.in-Some.ensures.some.1), λ is. refl)

pub returns-in-None : goal.returns-in-None
returns-in-None c = (λ no. absurd (cc), λ is. absurd (c.in-None.ensures.none is.0 is.1 is.2 is.3))
