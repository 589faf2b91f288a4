-- The records of a chain that a response needs, by its answer.
use Rattle.std.specs.Prelude.{ℕ, Bool, true, false, Option, Some, None}
use Rattle.domain_answer.specs.declared.{answer.Answer.Answer, needs.Needs.Needs}
use Rattle.domain_answer.specs.declared.answer.Answer.TheVariants as answers
use Rattle.domain_answer.specs.declared.needs.Needs.TheVariants as needs

-- the number of labels of the closest encloser, if the answer is about a name that does not
-- exist, so that the wildcard below the closest encloser matters
abbrev pub wildcard_count : Answer → Option ℕ
wildcard_count (answers.Wildcard n) = Some n
wildcard_count (answers.WildcardAlias n) = Some n
wildcard_count (answers.WildcardNoData n) = Some n
wildcard_count (answers.NameError n) = Some n
wildcard_count (answers.NoCloserName n) = Some n
wildcard_count (answers.MayBeUnsigned n) = Some n
wildcard_count _ = None

-- the records of the name that a response needs (RFC 4035, section 3.1.3; RFC 5155, section 7.2)
abbrev pub needs_of : Answer → Needs
needs_of (answers.Referral n) = needs.Cut
needs_of answers.AtParent = needs.Own
needs_of answers.NoDs = needs.Own
needs_of answers.NxName = needs.Own
needs_of answers.NoData = needs.Own
needs_of (answers.Wildcard n) = needs.Closer
needs_of (answers.WildcardAlias n) = needs.Closer
needs_of (answers.WildcardNoData n) = needs.Both
needs_of (answers.NameError n) = needs.Both
needs_of (answers.MayBeUnsigned n) = needs.Both
needs_of (answers.NoCloserName n) = needs.Both
needs_of _ = needs.Nothing

-- whether the response also needs the record of the wildcard
abbrev pub needs_wildcard_record : Answer → Bool
needs_wildcard_record (answers.WildcardNoData n) = true
needs_wildcard_record (answers.NameError n) = true
needs_wildcard_record (answers.MayBeUnsigned n) = true
needs_wildcard_record _ = false
