use Rattle.std.proofs.Common.{List, IfNone, subst}
use Rattle.domain_base.specs.Numbers.{Named}
use Rattle.domain_octets.specs.Octets.{Octets}
use Rattle.domain_types.specs.Mnemonics.{ByteOrMnemonic, ShortOrMnemonic}
use Rattle.domain_types.proofs.spell.spell_plain.Goals as goal

pub returns-in-Number8-clause-none : goal.returns-in-Number8-clause-none
returns-in-Number8-clause-none c = rw c.in-Number8.is c.spell_byte.ensures.none

pub returns-in-Number16-clause-none : goal.returns-in-Number16-clause-none
returns-in-Number16-clause-none c = rw c.in-Number16.is c.spell_short.ensures.none

pub returns-in-Number32-clause-none : goal.returns-in-Number32-clause-none
returns-in-Number32-clause-none c = rw c.in-Number32.is c.spell_long.ensures.none

pub returns-in-RecordType-clause-none : goal.returns-in-RecordType-clause-none
returns-in-RecordType-clause-none c = rw c.in-RecordType.is c.spell_type.ensures.none

pub returns-in-Ipv6-clause-none : goal.returns-in-Ipv6-clause-none
returns-in-Ipv6-clause-none c = rw c.in-Ipv6.is c.spell_ipv6.ensures.none

pub returns-in-CharacterString-clause-none : goal.returns-in-CharacterString-clause-none
returns-in-CharacterString-clause-none c = rw c.in-CharacterString.is c.spell_string.ensures.none

pub returns-in-Period-clause-none : goal.returns-in-Period-clause-none
returns-in-Period-clause-none c = rw c.in-Period.is c.spell_period.ensures.none

pub returns-in-Salt-clause-none : goal.returns-in-Salt-clause-none
returns-in-Salt-clause-none c = rw c.in-Salt.is c.spell_salt.ensures.none

pub returns-in-HashedOwner-clause-none : goal.returns-in-HashedOwner-clause-none
returns-in-HashedOwner-clause-none c = rw c.in-HashedOwner.is c.spell_hash.ensures.none

pub returns-in-Time-clause-none : goal.returns-in-Time-clause-none
returns-in-Time-clause-none c = rw c.in-Time.is c.spell_time.ensures.none

pub returns-in-Algorithm-clause-none : goal.returns-in-Algorithm-clause-none
returns-in-Algorithm-clause-none c =
    let text = c.args.text.now in
    let Refuses = λ (table : List Named). IfNone c.spell_byte_or_mnemonic.result ((octets : Octets) → ByteOrMnemonic table text octets → ⊥) in
    rw c.in-Algorithm.is (subst Refuses c.algorithms.ensures c.spell_byte_or_mnemonic.ensures.none)

pub returns-in-Scheme-clause-none : goal.returns-in-Scheme-clause-none
returns-in-Scheme-clause-none c =
    let text = c.args.text.now in
    let Refuses = λ (table : List Named). IfNone c.spell_byte_or_mnemonic-in-Scheme.result ((octets : Octets) → ByteOrMnemonic table text octets → ⊥) in
    rw c.in-Scheme.is (subst Refuses c.schemes.ensures c.spell_byte_or_mnemonic-in-Scheme.ensures.none)

pub returns-in-CertificateType-clause-none : goal.returns-in-CertificateType-clause-none
returns-in-CertificateType-clause-none c =
    let text = c.args.text.now in
    let Refuses = λ (table : List Named). IfNone c.spell_short_or_mnemonic.result ((octets : Octets) → ShortOrMnemonic table text octets → ⊥) in
    rw c.in-CertificateType.is (subst Refuses c.certificates.ensures c.spell_short_or_mnemonic.ensures.none)

pub returns-in-Locator64-clause-none : goal.returns-in-Locator64-clause-none
returns-in-Locator64-clause-none c = rw c.in-Locator64.is c.spell_locator.ensures.none

pub returns-in-Eui48-clause-none : goal.returns-in-Eui48-clause-none
returns-in-Eui48-clause-none c = rw c.in-Eui48.is c.spell_eui.ensures.none

pub returns-in-Eui64-clause-none : goal.returns-in-Eui64-clause-none
returns-in-Eui64-clause-none c = rw c.in-Eui64.is c.spell_eui-in-Eui64.ensures.none

pub returns-in-Flag-clause-none : goal.returns-in-Flag-clause-none
returns-in-Flag-clause-none c = rw c.in-Flag.is c.spell_limited.ensures.none

pub returns-in-GatewayType-clause-none : goal.returns-in-GatewayType-clause-none
returns-in-GatewayType-clause-none c = rw c.in-GatewayType.is c.spell_limited-in-GatewayType.ensures.none

pub returns-in-Prefix-clause-none : goal.returns-in-Prefix-clause-none
returns-in-Prefix-clause-none c = rw c.in-Prefix.is c.spell_prefix.ensures.none
