-- How configurations and NSEC3 records are seen, and NSEC3 records as text.
use Rattle.std.specs.{Prelude.{ℕ, List, [], ◌∷◌, map, ◌++◌, codes}, Fmt.decimal}
use Rattle.domain_octets.specs.Octets.{Octets}
use Rattle.domain_record.specs.declared.record.Record.{Record}
use Rattle.domain_chain_rdata.specs.{declared.{nsec3.Nsec3.Nsec3, nsec3param.Nsec3param.Nsec3param}, Text.nsec3_text}
use Rattle.domain_names.specs.{Name.Name, Text.name_text}
use Rattle.domain_nsec3.specs.Chain.{HashedLink, ParamRecord, ChainConfig, Hash, HashAnswer, Parameters}
use Rattle.domain_nsec3.specs.declared.config.GenerateNsec3Config.{GenerateNsec3Config}
use Rattle.domain_base.specs.{Numbers.{class_text, type_text}, Types.nsec3}

-- ---- How configurations, and records of NSEC3 and NSEC3PARAM data, are seen.

-- the result of a hasher for octets, an algorithm, iterations and a salt
abbrev pub HasherAnswer : Type 0
HasherAnswer = Octets → ℕ → ℕ → Octets → HashAnswer

abbrev pub parameters_of : {O : Type 0} → Nsec3param O → Parameters
parameters_of p =
    record { algorithm = p.hash_algorithm; iterations = p.iterations; salt = p.salt }

abbrev pub parameters_in : {O : Type 0} → Nsec3 O → Parameters
parameters_in d =
    record { algorithm = d.hash_algorithm; iterations = d.iterations; salt = d.salt }

-- a hasher with these parameters
abbrev pub hash_by : HasherAnswer → Parameters → Hash
hash_by answer p octets = answer octets p.algorithm p.iterations p.salt

abbrev pub config_of : {O S : Type 0} → HasherAnswer → GenerateNsec3Config O S → ChainConfig
config_of answer config =
    record {
      hash = hash_by answer (parameters_of config.params);
      parameters = parameters_of config.params;
      flags = config.params.flags;
      exclude_unsigned = config.opt_out_exclude_owner_names_of_unsigned_delegations;
      assume_dnskeys_will_be_added = config.assume_dnskeys_will_be_added;
      occlude_below_dname = config.occlude_below_dname;
    }

-- the link of NSEC3 data with this owner, class and TTL
abbrev pub link_with : {O : Type 0} → Name → ℕ → ℕ → Nsec3 O → HashedLink
link_with owner class ttl d =
    record {
      owner = owner;
      next = d.next_owner;
      class = class;
      ttl = ttl;
      parameters = parameters_in d;
      flags = d.flags;
      bits = d.types;
    }

abbrev pub as_hashed_link : {O N : Type 0} → (N → Name) → Record N (Nsec3 O) → HashedLink
as_hashed_link labels r = link_with (labels r.owner) r.class r.ttl r.«data»

abbrev pub hashed_links_of : {O N : Type 0} → (N → Name) → List (Record N (Nsec3 O))
    → List HashedLink
hashed_links_of labels = map (as_hashed_link labels)

abbrev pub as_param_record : {O N : Type 0} → (N → Name) → Record N (Nsec3param O) → ParamRecord
as_param_record labels r =
    record {
      owner = labels r.owner;
      class = r.class;
      ttl = r.ttl;
      parameters = parameters_of r.«data»;
      flags = r.«data».flags;
    }

-- ---- NSEC3 records as text.

-- ---- NSEC3 records as text.
abbrev pub link_text : HashedLink → Octets
link_text k =
    let p = k.parameters in
    (name_text k.owner ++ codes ".") ++ (codes " " ++ (decimal k.ttl ++ (codes " "
    ++ (class_text k.class ++ (codes " " ++ (type_text nsec3 ++ (codes " "
    ++ nsec3_text ((((p.algorithm, (k.flags, p.iterations)), p.salt), k.next), k.bits))))))))

-- the apex after the text of a hash, with a dot before it and at its end; the root is one dot
abbrev pub apex_text : Name → Octets
apex_text [] = codes "."
apex_text (label ∷ above) = codes "." ++ (name_text (label ∷ above) ++ codes ".")

-- the text that the records of one chain share between their hash and their data
abbrev pub shared_text : Name → ℕ → Octets
shared_text a ttl = apex_text a ++ (codes " " ++ (decimal ttl ++ codes " IN NSEC3 "))

-- the text of a record up to its data
abbrev pub text_before_data : Name → ℕ → Octets
text_before_data owner ttl =
    (name_text owner ++ codes ".") ++ (codes " " ++ (decimal ttl ++ codes " IN NSEC3 "))
