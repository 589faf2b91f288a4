-- The printed form of a reply.
use Rattle.std.specs.{Prelude.{ℕ, List, ◌++◌, codes}, List.flat_map, Fmt.decimal}
use Rattle.domain_octets.specs.Octets.{Octets}
use Rattle.domain_names.specs.{Text.name_text, Name.Name}
use Rattle.domain_base.specs.{Numbers.{class_text, type_text}, Types.{nsec, nsec3, nsec3param}}
use Rattle.domain_bitmap.specs.{Blocks.types_of, Text.types_text}
use Rattle.domain_record.specs.declared.record.Record.{Record}
use Rattle.domain_chain_rdata.specs.Text.{nsec3_text, nsec3param_text}
use Rattle.domain_borrowed.specs.Data.{hash_values, param_values}
use Rattle.domain_nsec.specs.Chain.{Link}
use Rattle.domain_nsec3.specs.Chain.{ChainRecords, HashedLink, ParamRecord}
use Rattle.denial_program.specs.{Check.verdict_text, declared.answer.Reply.{Reply, TheVariants.{Nsecs, Nsec3s, Verdict}}}
use Rattle.denial_program.specs.declared.answer.ParamFlags.{ParamFlags, TheVariants.{OfChain, Zero}}

-- the owner with its last dot, the TTL, the class, the type and the presentation format of the data
abbrev pub record_line : {D : Type 0} → ℕ → (D → Octets) → Record Name D → Octets
record_line rtype data_text r =
    (name_text r.owner ++ codes ".") ++ (codes " " ++ (decimal r.ttl ++ (codes " "
    ++ (class_text r.class ++ (codes " " ++ (type_text rtype
    ++ (codes " " ++ data_text r.«data»)))))))

-- the record of a link, with the next name, its last dot, and the types
abbrev pub nsec_line : Link → Octets
nsec_line k =
    record_line nsec (λ d. (name_text d.next ++ codes ". ") ++ types_text (types_of d.bits))
    (record { owner = k.owner; class = k.class; ttl = k.ttl; «data» = k })

-- the record of a link, with algorithm, flags, iterations, salt, next hash and types
abbrev pub nsec3_line : HashedLink → Octets
nsec3_line k =
    record_line nsec3 nsec3_text
    (record { owner = k.owner; class = k.class; ttl = k.ttl; «data» = hash_values k })

-- algorithm, flags, iterations and salt
abbrev pub nsec3param_line : ParamRecord → Octets
nsec3param_line k =
    record_line nsec3param nsec3param_text
    (record { owner = k.owner; class = k.class; ttl = k.ttl; «data» = param_values k })

abbrev pub lines_of : {T : Type 0} → (T → Octets) → List T → Octets
lines_of text = flat_map (λ item. text item ++ codes "\n")

-- the NSEC3PARAM record that a zone publishes: the same with flags 0 (RFC 5155, section 4.1.2)
abbrev pub with_zero_flags : ParamRecord → ParamRecord
with_zero_flags r =
    record {
      owner = r.owner;
      class = r.class;
      ttl = r.ttl;
      parameters = r.parameters;
      flags = 0;
    }

-- the record with flags as chosen
abbrev pub param_with : ParamFlags → ParamRecord → ParamRecord
param_with OfChain r = r
param_with Zero r = with_zero_flags r

-- a line for each record of an NSEC3 chain, and one for its NSEC3PARAM record
abbrev pub nsec3s_text : ParamFlags → ChainRecords → Octets
nsec3s_text flags made =
    lines_of nsec3_line made.links ++ (nsec3param_line (param_with flags made.param) ++ codes "\n")

-- a line for each record of a chain, or one line with a verdict
abbrev pub reply_text : ParamFlags → Reply → Octets
reply_text flags (Nsecs links) = lines_of nsec_line links
reply_text flags (Nsec3s made) = nsec3s_text flags made
reply_text flags (Verdict name verdict) = verdict_text name verdict ++ codes "\n"
