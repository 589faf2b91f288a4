-- The numbers of the types of records that definitions use (RFC 1035, section 3.2.2, and the
-- documents that added to it). Numbers.antt has all types that have a name.
use Rattle.std.specs.Prelude.{ℕ, List}

-- types of records, each as its number
abbrev pub Rtypes : Type 0
Rtypes = List ℕ

abbrev pub a : ℕ
a = 1

abbrev pub ns : ℕ
ns = 2

abbrev pub cname : ℕ
cname = 5

abbrev pub soa : ℕ
soa = 6

abbrev pub ptr : ℕ
ptr = 12

abbrev pub mx : ℕ
mx = 15

abbrev pub txt : ℕ
txt = 16

abbrev pub aaaa : ℕ
aaaa = 28

abbrev pub srv : ℕ
srv = 33

abbrev pub dname : ℕ
dname = 39

abbrev pub ds : ℕ
ds = 43

abbrev pub rrsig : ℕ
rrsig = 46

abbrev pub nsec : ℕ
nsec = 47

abbrev pub dnskey : ℕ
dnskey = 48

abbrev pub nsec3 : ℕ
nsec3 = 50

abbrev pub nsec3param : ℕ
nsec3param = 51
