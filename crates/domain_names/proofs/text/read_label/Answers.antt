use Rattle.std.proofs.{Common.{◌≡◌, ◌<◌, None, arith}, lemmas.Grind.common_steps}
use Rattle.domain_names.proofs.TextLemmas.{spelling_plain, no_label_by_plain}
use Rattle.domain_names.proofs.text.read_label.Goals as goal

pub returns-in_err-ok-clause-none : goal.returns-in_err-ok-clause-none
returns-in_err-ok-clause-none c =
    let long : 63 < c.plain_len-plain.result = grind (arith, common_steps) in
    let is : c.from_residual.result ≡ None = grind (arith, common_steps) in
    rw is (no_label_by_plain c.args.text.now c.plain_len-plain.result c.plain_len-plain.ensures.within c.plain_len-plain.ensures.plain long)

pub loop-octet-init : goal.loop-octet-init
loop-octet-init c =
    let plain = c.plain_len-plain.ensures in
    grind (arith, common_steps, (spelling_plain c.args.text.now c.plain_len-plain.result plain.within plain.plain))
