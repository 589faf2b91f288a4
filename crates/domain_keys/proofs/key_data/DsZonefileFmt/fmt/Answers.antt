use Rattle.domain_keys.proofs.key_data.DsZonefileFmt.fmt.Goals as goal

pub returns : goal.returns
returns g c =
    simp (c.key_tag-key_tag.ensures, c.algorithm-algorithm.ensures, c.digest_type-digest_type.ensures, c.as_slice.ensures, c.digest.ensures) at c.write.ensures
