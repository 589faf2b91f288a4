-- The reply to a command over the records that were read, in any order.
use Rattle.std.specs.Prelude.{◌≡◌, ◌⊎◌, true, false, List, None, Some}
use Rattle.domain_octets.specs.Octets.{Octets}
use Rattle.domain_names.specs.Name.{Name, Tokens}
use Rattle.domain_records.specs.Order.{IsOneClass}
use Rattle.domain_groups.specs.declared.error.SigningError.{SigningError}
use Rattle.domain_groups.specs.declared.error.SigningError.TheVariants as signing_error
use Rattle.domain_nsec.specs.Chain.{usual_config}
use Rattle.domain_nsec3.specs.{Chain.ChainConfig, View.{HasherAnswer, hash_by, parameters_of}, declared.config.Nsec3ParamTtlMode.TheVariants.Soa}
use Rattle.domain_borrowed.specs.Data.{RawRecord}
use Rattle.domain_any_order.specs.{AnyOrder.{AreMixed, Sorts, IsChainOf, HasNoChain, IsHashedChainOf, HasNoHashedChain}, RawRecords.raw_view}
use Rattle.domain_any_order.specs.declared.error.ChainError.{ChainError}
use Rattle.domain_any_order.specs.declared.error.ChainError.TheVariants as chain_error
use Rattle.denial_program.specs.{Check.{HasNoNsec3Verdict, IsNsec3Verdict, IsNsecVerdict}, Command.{Asks, Params}, Run.HoldsOfInput}
use Rattle.denial_program.specs.declared.answer.Reply.{Reply}
use Rattle.denial_program.specs.declared.{answer.Reply.TheVariants.{Nsecs, Nsec3s}, command.Command.{Command, TheVariants.{Chain, CheckNsec, CheckNsec3}}}
use Rattle.denial_program.specs.{declared.fault.DenialFault.{DenialFault, TheVariants.{Unprepared, MixedClasses, Signing, OutOfMemory}}, Fault.prepare_error}

-- sorted is the sorted set of the records, by owner, class, type and octets
abbrev pub SortsRaw : List RawRecord → List RawRecord → Type 0
SortsRaw = Sorts raw_view

-- the reason why the records are not sorted: they are of several classes, or they are of one class
-- and there was no memory to prepare them
abbrev pub IsUnsorted : List RawRecord → DenialFault → Type 0
IsUnsorted given fault = ((fault ≡ MixedClasses) × AreMixed given)
    ⊎ ((fault ≡ Unprepared prepare_error) × IsOneClass given)

-- a fault of a zone as the program reports it; out of memory for a chain is a fault of its own
abbrev pub fault_of_zone : SigningError → DenialFault
fault_of_zone signing_error.OutOfMemory = OutOfMemory
fault_of_zone e = Signing e

-- the reply is a chain with this property
pub record IsReplyOf {K : Type 0} (reply : K → Reply) (is_such : K → Type 0) (answer : Reply)
    : Type 0 where
  pub made : K
  pub is : answer ≡ reply made
  pub chain : is_such made

-- there is no chain, for this reason
abbrev pub IsNoChainFault : (ChainError → Type 0) → DenialFault → Type 0
IsNoChainFault is_why MixedClasses = is_why chain_error.MixedClasses
IsNoChainFault is_why (Signing e) = is_why (chain_error.Signing e)
IsNoChainFault is_why OutOfMemory = is_why chain_error.OutOfMemory
IsNoChainFault is_why _ = ⊥

-- the reply is the NSEC chain of the records, with the configuration of `GenerateNsecConfig::new`;
-- there is none
abbrev pub IsNsecs : List RawRecord → Name → Reply → Type 0
IsNsecs given apex = IsReplyOf Nsecs (IsChainOf raw_view given apex usual_config)

abbrev pub HasNoNsecs : List RawRecord → Name → DenialFault → Type 0
HasNoNsecs given apex = IsNoChainFault (HasNoChain raw_view given apex usual_config)

-- the configuration of an NSEC3 chain with these parameters: that of `GenerateNsec3Config::new`
abbrev pub usual_nsec3_config : HasherAnswer → Params → ChainConfig
usual_nsec3_config answer p =
    record {
      hash = hash_by answer (parameters_of p);
      parameters = parameters_of p;
      flags = p.flags;
      exclude_unsigned = true;
      assume_dnskeys_will_be_added = true;
      occlude_below_dname = false;
    }

-- the reply is the NSEC3 chain of the records with this hasher, and its NSEC3PARAM record; there is
-- none
abbrev pub IsNsec3s : HasherAnswer → List RawRecord → Name → Params → Reply → Type 0
IsNsec3s answers given apex p =
    IsReplyOf Nsec3s (λ made. IsHashedChainOf raw_view given apex
    (usual_nsec3_config answers p) Soa made.links made.param)

abbrev pub HasNoNsec3s : HasherAnswer → List RawRecord → Name → Params → DenialFault → Type 0
HasNoNsec3s answers given apex p =
    IsNoChainFault (HasNoHashedChain raw_view given apex (usual_nsec3_config answers p))

abbrev pub IsAnswer : HasherAnswer → Command → List RawRecord → Reply → Type 0
IsAnswer answers (Chain apex None) given answer = IsNsecs given apex answer
IsAnswer answers (Chain apex (Some p)) given answer = IsNsec3s answers given apex p answer
IsAnswer answers (CheckNsec q) given answer = IsNsecVerdict given q answer
IsAnswer answers (CheckNsec3 q) given answer = IsNsec3Verdict answers given q answer

-- there was no memory to prepare the records; or there is no reply, for this reason
abbrev pub IsUnmade : (DenialFault → Type 0) → DenialFault → Type 0
IsUnmade has_none fault = (fault ≡ Unprepared prepare_error) ⊎ has_none fault

-- the reason why there is no reply
abbrev pub HasNoAnswer : HasherAnswer → Command → List RawRecord → DenialFault → Type 0
HasNoAnswer answers (Chain apex None) given fault = HasNoNsecs given apex fault
HasNoAnswer answers (Chain apex (Some p)) given fault = HasNoNsec3s answers given apex p fault
HasNoAnswer answers (CheckNsec q) given fault = fault ≡ OutOfMemory
HasNoAnswer answers (CheckNsec3 q) given fault = HasNoNsec3Verdict answers given q fault

-- the arguments are a command, the lines give records, and this is the reply over them; there is
-- none over them, for this reason
abbrev pub Answers : HasherAnswer → Tokens → List Octets → Reply → Type 0
Answers answers words lines answer =
    HoldsOfInput Asks (λ command given. IsAnswer answers command given answer) words lines

abbrev pub GivesNoAnswer : HasherAnswer → Tokens → List Octets → DenialFault → Type 0
GivesNoAnswer answers words lines fault =
    HoldsOfInput Asks (λ command given. HasNoAnswer answers command given fault) words lines
