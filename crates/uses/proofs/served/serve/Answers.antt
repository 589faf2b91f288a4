use Rattle.std.proofs.Common.{subst}
use Rattle.domain_dnssec.specs.{ZoneData.{minimum_of, rtype_of}, Zone.zone_of, Chain.IsChain}
use Rattle.uses.proofs.served.serve.Goals as goal

-- the records are in order, and the chain is that of their zone
pub returns : goal.returns
returns c = λ leaves.
    let L = zone_of (λ name. name) rtype_of minimum_of c.args.zone.now in
    c.deny_nsec-denial.ensures.zone L c.args.config.now (record {
      leaves_out = c.chains_leave_out_names_below_dname.ensures.chosen L c.args.apex.now c.args.config.now.occlude_below_dname leaves;
      order = c.owners_never_descend.ensures c.args.zone.now (c.owner_rrs.ensures.in_order c.requires);
      chain = subst (λ rs. IsChain (zone_of (λ name. name) rtype_of minimum_of rs) c.args.apex.now c.args.config.now c.in_ok-chain.chain)
          c.owner_rrs.ensures.records c.in_ok-chain.ensures.chain;
    })
