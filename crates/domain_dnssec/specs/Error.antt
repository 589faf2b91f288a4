-- How the errors of the library convert to that of a program: their kind, without their texts.
use Rattle.domain_names.specs.declared.error.{NameError.NameError, ScanError.ScanError}
use Rattle.domain_names.specs.declared.error.NameError.TheVariants as name_error
use Rattle.domain_names.specs.declared.error.ScanError.TheVariants as scan_error
use Rattle.domain_bitmap.specs.declared.{error.RtypeBitmapError.RtypeBitmapError, salt.Nsec3SaltFromStrError.Nsec3SaltFromStrError}
use Rattle.domain_bitmap.specs.declared.error.RtypeBitmapError.TheVariants as bitmap_error
use Rattle.domain_bitmap.specs.declared.salt.Nsec3SaltFromStrError.TheVariants as salt_error
use Rattle.domain_message.specs.declared.{error.MessageError.MessageError, line.LineError.LineError}
use Rattle.domain_message.specs.declared.error.MessageError.TheVariants as message_error
use Rattle.domain_message.specs.declared.line.LineError.TheVariants as line_error
use Rattle.domain_codecs.specs.declared.codec.DecodeError.{DecodeError}
use Rattle.domain_codecs.specs.declared.codec.DecodeError.TheVariants as decode_error
use Rattle.domain_octets.specs.declared.error.{AppendError.AppendError, ParseError.ParseError}
use Rattle.domain_octets.specs.declared.error.AppendError.TheVariants as append_error
use Rattle.domain_octets.specs.declared.error.ParseError.TheVariants as parse_error
use Rattle.domain_records.specs.declared.error.InsertError.{InsertError}
use Rattle.domain_groups.specs.declared.error.SigningError.{SigningError}
use Rattle.domain_records.specs.declared.error.InsertError.TheVariants as insert_error
use Rattle.domain_groups.specs.declared.error.SigningError.TheVariants as signing_error
use Rattle.domain_hasher.specs.declared.{error.Nsec3HashError.Nsec3HashError, hasher.HasherError.HasherError}
use Rattle.domain_hasher.specs.declared.error.Nsec3HashError.TheVariants as hash_error
use Rattle.domain_hasher.specs.declared.hasher.HasherError.TheVariants as hasher_error
use Rattle.domain_any_order.specs.declared.error.ChainError.{ChainError}
use Rattle.domain_dnssec.specs.declared.error.Error.{Error}
use Rattle.domain_any_order.specs.declared.error.ChainError.TheVariants as chain_error
use Rattle.domain_dnssec.specs.declared.error.Error.TheVariants as variant

abbrev pub of_scanning : ScanError → Error
of_scanning scan_error.EndOfEntry = variant.EndOfEntry
of_scanning (scan_error.Custom text) = variant.Text
of_scanning scan_error.ShortBuf = variant.ShortBuf
of_scanning scan_error.OutOfMemory = variant.OutOfMemory

abbrev pub of_parsing : ParseError → Error
of_parsing parse_error.ShortInput = variant.ShortInput
of_parsing (parse_error.Form text) = variant.Form

abbrev pub of_append : AppendError → Error
of_append append_error.ShortBuf = variant.ShortBuf
of_append append_error.OutOfMemory = variant.OutOfMemory

abbrev pub of_signing : SigningError → Error
of_signing signing_error.OutOfMemory = variant.OutOfMemory
of_signing error = variant.Signing error

abbrev pub of_hashing : Nsec3HashError → Error
of_hashing hash_error.OutOfMemory = variant.OutOfMemory
of_hashing error = variant.Signing (signing_error.Nsec3HashingError error)

abbrev pub of_chain : ChainError → Error
of_chain chain_error.MixedClasses = variant.MixedClasses
of_chain (chain_error.Sort error) = variant.OutOfMemory
of_chain (chain_error.Signing error) = of_signing error
of_chain chain_error.OutOfMemory = variant.OutOfMemory

abbrev pub of_name : NameError → Error
of_name name_error.ShortInput = variant.ShortInput
of_name name_error.BadLabel = variant.Form
of_name name_error.LongName = variant.Form

abbrev pub of_bitmap : RtypeBitmapError → Error
of_bitmap bitmap_error.ShortInput = variant.ShortInput
of_bitmap bitmap_error.BadRtypeBitmap = variant.Form

abbrev pub of_decoding : DecodeError → Error
of_decoding (decode_error.IllegalChar c) = variant.Text
of_decoding decode_error.ShortInput = variant.Text
of_decoding decode_error.ShortBuf = variant.ShortBuf
of_decoding decode_error.OutOfMemory = variant.OutOfMemory

abbrev pub of_salt : Nsec3SaltFromStrError → Error
of_salt (salt_error.DecodeError error) = of_decoding error
of_salt (salt_error.Nsec3SaltError error) = variant.LongSalt

abbrev pub of_hasher : HasherError → Error
of_hasher (hasher_error.Refused n) =
    variant.Signing (signing_error.Nsec3HashingError (hash_error.Hasher n))
of_hasher hasher_error.OutOfMemory = variant.OutOfMemory

abbrev pub of_insert : {N D : Type 0} → InsertError N D → Error
of_insert (insert_error.Present r) = variant.Present
of_insert (insert_error.OutOfMemory r) = variant.OutOfMemory

abbrev pub of_message : MessageError → Error
of_message message_error.ShortInput = variant.ShortInput
of_message message_error.BadLabelType = variant.Form
of_message message_error.ForwardPointer = variant.Form
of_message message_error.LongName = variant.Form
of_message message_error.DataLength = variant.Form
of_message message_error.IllegalData = variant.Form
of_message message_error.ShortBuf = variant.ShortBuf
of_message message_error.OutOfMemory = variant.OutOfMemory

abbrev pub of_line : LineError → Error
of_line line_error.NoEntry = variant.EndOfEntry
of_line (line_error.Owner error) = of_scanning error
of_line (line_error.Ttl error) = of_scanning error
of_line (line_error.Class error) = of_scanning error
of_line (line_error.Rtype error) = of_scanning error
of_line (line_error.RecordData error) = of_scanning error
of_line line_error.Trailing = variant.Text
of_line line_error.OutOfMemory = variant.OutOfMemory
