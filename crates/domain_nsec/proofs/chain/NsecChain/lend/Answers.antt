use Rattle.std.proofs.{Common.{[], ◌+◌, get_or, ap, ◌∙◌, arith}, lemmas.Grind.common_steps}
use Rattle.domain_nsec.{specs.Chain.as_link, proofs.ChainLemmas.{links_counted, link_borrowed}}
use Rattle.domain_nsec.proofs.chain.NsecChain.lend.Goals as goal

pub returns-then-place-len-clause-none : goal.returns-then-place-len-clause-none
returns-then-place-len-clause-none g c = grind (arith, common_steps, links_counted)

pub returns-clause-some : goal.returns-clause-some
returns-clause-some g c d =
    ap (as_link (λ n. n)) c.new.ensures
    ∙ (λ i. record {
      owner = c.as_parsed-owner.ensures i;
      next = (c.new-nsec.ensures i).next_name;
      class = c.self.inside.soa.class;
      ttl = c.chain_ttl.ensures i;
      bits = (c.new-nsec.ensures i).types;
    })
    ∙ link_borrowed _ _ _ _ _ d _ _ _
    c.self.invariant (omega arith) c.index.ensures (c.in_ok-types.ensures.some [])
    (c.owner_or_apex-next.ensures ∙ ap (λ ns. get_or ns (c.args.place + 1) (g.N.ToName.labels c.self.inside.apex.now)) c.deref.ensures.value)
    ∙ ap (λ links. get_or links c.args.place d) c.self.view_is
