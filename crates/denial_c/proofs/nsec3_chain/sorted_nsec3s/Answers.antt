use Rattle.std.proofs.{Common.{◌≡◌, refl}}
use Rattle.domain_nsec3.specs.View.{config_of}
use Rattle.domain_sha1.specs.Iterated.{sha1_answer}
use Rattle.denial_c.{specs.Chains.hashing_fault, proofs.AmongLemmas.hashing_faulty}
use Rattle.denial_c.proofs.nsec3_chain.sorted_nsec3s.Goals as goal

pub returns-in-Err-Nsec3HashingError-clause-err : goal.returns-in-Err-Nsec3HashingError-clause-err
returns-in-Err-Nsec3HashingError-clause-err c =
    let w = c.in-Err-Nsec3HashingError in
    let told : hashing_fault w.error ≡ c.hashing_fault.result = (let is = w.error-is in let told = c.hashing_fault.ensures in cc) in
    rw (← told) (hashing_faulty c.args.config.now.nsec3param_ttl_mode c.args.class c.args.octets.now c.args.sorted.now c.args.apex.now
    (config_of sha1_answer c.args.config.now) _ refl c.requires.sha1 w.error (rw (w.field-0-is, c.new_from_owned-records.ensures) at w.ensures.fault))
