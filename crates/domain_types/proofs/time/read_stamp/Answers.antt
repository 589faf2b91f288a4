use Rattle.std.proofs.Common.{ap, ◌%◌, ◌≡◌, true, rules}
use Rattle.domain_types.specs.Times.{as_date}
use Rattle.domain_types.proofs.TimeLemmas.{no_date, no_stamp}
use Rattle.domain_types.proofs.time.read_stamp.Goals as goal

pub returns-in_default-read_date-clause-none : goal.returns-in_default-read_date-clause-none
returns-in_default-read_date-clause-none c = λ n. no_stamp c.args.text.now n c.in_default.ensures.none
    (λ d spelled is. c.in_default-read_date.ensures.none d spelled)

pub returns-then-not-is_date-clause-none : goal.returns-then-not-is_date-clause-none
returns-then-not-is_date-clause-none c = λ n. no_stamp c.args.text.now n c.in_default.ensures.none
    (λ d. no_date c.args.text.now c.in-Some-read_date.date d c.in-Some-read_date.ensures.some
    (λ is. let yes = c.is_date.ensures.1 is in cc))

pub returns-clause-some : goal.returns-clause-some
returns-clause-some c =
    let yes : c.is_date.result ≡ true = search rules in
    let date = c.in-Some-read_date in
    as_date c.args.text.now date.date _ date.ensures.some (c.is_date.ensures.0 yes) (ap (λ n. n % 4294967296) c.seconds_to.ensures)
