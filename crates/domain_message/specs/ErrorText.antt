-- what errors say
use Rattle.std.specs.Prelude.{codes, ◌++◌}
use Rattle.domain_octets.specs.Octets.{Octets}
use Rattle.domain_names.specs.Text.{scan_error_text}
use Rattle.domain_message.specs.declared.error.MessageError.{MessageError, TheVariants.{ShortInput, BadLabelType, ForwardPointer, LongName, DataLength}}
use Rattle.domain_message.specs.declared.{error.MessageError.TheVariants.{IllegalData, ShortBuf, OutOfMemory}, line.LineError.LineError}
use Rattle.domain_message.specs.declared.line.LineError.TheVariants as line_error

abbrev pub message_error_text : MessageError → Octets
message_error_text ShortInput = codes "unexpected end of input"
message_error_text BadLabelType = codes "bad label type"
message_error_text ForwardPointer = codes "compression pointer leads forward"
message_error_text LongName = codes "long domain name"
message_error_text DataLength = codes "wrong length of record data"
message_error_text IllegalData = codes "illegal record data"
message_error_text ShortBuf = codes "buffer size exceeded"
message_error_text OutOfMemory = codes "out of memory"

abbrev pub line_error_text : LineError → Octets
line_error_text line_error.NoEntry = codes "no entry"
line_error_text (line_error.Owner e) = codes "owner: " ++ scan_error_text e
line_error_text (line_error.Ttl e) = codes "TTL: " ++ scan_error_text e
line_error_text (line_error.Class e) = codes "class: " ++ scan_error_text e
line_error_text (line_error.Rtype e) = codes "type: " ++ scan_error_text e
line_error_text (line_error.RecordData e) = codes "data: " ++ scan_error_text e
line_error_text line_error.Trailing = codes "trailing tokens"
line_error_text line_error.OutOfMemory = codes "out of memory"
