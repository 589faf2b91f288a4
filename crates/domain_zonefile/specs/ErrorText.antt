-- The texts of errors.
use Rattle.std.specs.Prelude.{codes}
use Rattle.domain_octets.specs.Octets.{Octets}
use Rattle.domain_zonefile.specs.declared.error.SyntaxError.{SyntaxError, TheVariants.{BadEscape, UnclosedQuote, MisplacedQuote, NoSeparator}}
use Rattle.domain_zonefile.specs.declared.error.SyntaxError.TheVariants.{StrayReturn, Nul, UnclosedBracket, StrayBracket}

abbrev pub syntax_error_text : SyntaxError → Octets
syntax_error_text BadEscape = codes "bad escape: expected three digits up to 255 or a character"
syntax_error_text UnclosedQuote = codes "quote is not closed on this line"
syntax_error_text MisplacedQuote = codes "quote within an unquoted token"
syntax_error_text NoSeparator = codes "no blank after a quoted value"
syntax_error_text StrayReturn = codes "carriage return within a line"
syntax_error_text Nul = codes "zero octet"
syntax_error_text UnclosedBracket = codes "bracket is never closed"
syntax_error_text StrayBracket = codes "closing bracket without an opening one"
