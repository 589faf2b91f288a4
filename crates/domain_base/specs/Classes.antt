-- The number of the class that definitions use (RFC 1035, section 3.2.4).
use Rattle.std.specs.Prelude.{ℕ}

-- the Internet
abbrev pub in_class : ℕ
in_class = 1
