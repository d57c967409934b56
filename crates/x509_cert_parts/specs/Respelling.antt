-- The encoding of the dates of a validity under a profile (RFC 5280 4.1.2.5): UTCTime before 2050
-- and GeneralizedTime from 2050 on, or the encoding that they were decoded from.
use Rattle.std.specs.Prelude.{Bool, true, false, nat_lt, if◌then◌else◌}
use Rattle.std.proofs.Common.{inl, inr}
use Rattle.x509_cert_parts.specs.Grammar.{PlainTime, PlainValidity, not_before, not_after}

-- UTCTime before 2050, and GeneralizedTime from 2050 on.
abbrev pub respelled : PlainTime → PlainTime
respelled (inl c) = inl c
respelled (inr c) = if nat_lt 2049 c.year then inr c else inl c

-- The date as a profile encodes it: re-encoded or unchanged.
abbrev pub spelled_by : Bool → PlainTime → PlainTime
spelled_by true t = respelled t
spelled_by false t = t

-- The validity as a profile encodes its dates.
abbrev pub validity_by : Bool → PlainValidity → PlainValidity
validity_by r v = (spelled_by r (not_before v), (spelled_by r (not_after v), tt))

-- A GeneralizedTime before 2050.
abbrev pub is_early_generalized : PlainTime → Bool
is_early_generalized (inl c) = false
is_early_generalized (inr c) = if nat_lt 2049 c.year then false else true
