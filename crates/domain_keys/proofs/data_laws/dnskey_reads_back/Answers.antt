use Rattle.std.proofs.Common.{refl}
use Rattle.domain_codecs.{specs.declared.codec.Codec.TheVariants.Base64, proofs.{CodecBackLemmas.base64_back, CodecLemmas.base64_plain}}
use Rattle.domain_fields.proofs.ScanLemmas.{fields_entry_line}
use Rattle.domain_keys.specs.Keys.{three_numbers}
use Rattle.domain_keys.proofs.data_laws.dnskey_reads_back.Goals as goal

pub returns : goal.returns
returns g c =
    let known = c.fields-fields.ensures in
    let text = fields_entry_line three_numbers Base64 _ _ c.args.value.now.octets refl (known.fits.0, (known.fits.1.0, known.fits.1.1.0))
    (base64_plain _) (base64_back _ known.fits.1.1.1.1) in
    record { spelled = text; fits = known.limit }
