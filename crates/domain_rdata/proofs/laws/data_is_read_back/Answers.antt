use Rattle.std.{proofs.{Common.{arith, ◌<◌, refl, rules}, lemmas.Grind.common_steps}, specs.List.All}
use Rattle.domain_names.proofs.TextLemmas.{name_is_valid}
use Rattle.domain_rdata.{specs.Scan.own, proofs.ScanLemmas.{ns_text, soa_back, rrsig_back, nsec_first, unknown_back}}
use Rattle.domain_rdata.proofs.laws.data_is_read_back.Goals as goal

pub returns-in-Ns : goal.returns-in-Ns
returns-in-Ns g c = rw c.in-Ns.is (λ exact. ns_text g.O.Octets.octets g.N.ToName.labels c.in-Ns.data c.ns_reads_back.ensures)

pub returns-in-Soa : goal.returns-in-Soa
returns-in-Soa g c = rw c.in-Soa.is (λ exact. soa_back g.O.Octets.octets g.N.ToName.labels c.in-Soa.data c.soa_reads_back.ensures)

pub returns-in-Rrsig : goal.returns-in-Rrsig
returns-in-Rrsig g c = grind (arith, common_steps, (rrsig_back g.O.Octets.octets g.N.ToName.labels c.in-Rrsig.data _ c.rrsig_reads_back.ensures))

pub returns-in-Nsec : goal.returns-in-Nsec
returns-in-Nsec g c =
    let first = c.nsec_reads_back.ensures.types.1 in
    rw c.in-Nsec.is (λ exact. own (nsec_first g.O.Octets.octets g.N.ToName.labels _ _
    (name_is_valid first.token _ first.holds)) (refl, c.nsec_reads_back.ensures.same exact))

pub returns-in-Unknown : goal.returns-in-Unknown
returns-in-Unknown g c =
    let small : All (λ octet. octet < 256) (g.O.Octets.octets c.in-Unknown.data.«data») = search rules in
    rw c.in-Unknown.is (λ exact. unknown_back _ _ _ small exact)
