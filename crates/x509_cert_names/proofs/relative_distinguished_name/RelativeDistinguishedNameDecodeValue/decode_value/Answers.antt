-- Goals of `relative_distinguished_name::RelativeDistinguishedNameDecodeValue::decode_value` that
-- the checker doesn't prove by itself.
use Rattle.std.proofs.Common.{[], ◌∷◌, refl, ◌≡◌, ℕ, zero, suc, ◌<◌, ◌≤◌, List, length, take, drop, Ok, sym, ap, ◌∙◌, arith, append-nil, le-ltb}
use Rattle.x509_cert_names.specs.Pairs.{pair_plain}
use Rattle.x509_cert_names.proofs.SameOctets.{rising_distinct}
use Rattle.der_core.specs.Oid.Bound.{Bound}
use Rattle.der_core.specs.Grammar.{read_body, read_content_by, value_at, whole}
use Rattle.der_core.specs.Octets.{◌>>=◌}
use Rattle.der_core.specs.Shapes.{nested, rising, octets_of, body_octets, Spells, IsBody}
use Rattle.der_core.specs.EncodingRulesTypes.EncodingRules.{EncodingRules}
use Rattle.der_core.specs.TagTypes.Tag.{Tag}
use Rattle.der_core.proofs.Complete.{complete_body}
use Rattle.x509_cert_names.specs.Names.{type_and_value, TypeAndValue}
use Rattle.x509_cert_names.proofs.relative_distinguished_name.RelativeDistinguishedNameDecodeValue.decode_value.Goals as goal

-- Decoding a set with one attribute.
content_read : (rules : EncodingRules) (t : Tag) (room : ℕ) (v : TypeAndValue) (w : List ℕ) → 1 < room → Spells (type_and_value Bound) v w
    → read_content_by rules (nested (rising (type_and_value Bound))) t room w ≡ Ok (v ∷ [], [])
unfolding body_octets octets_of IsBody
content_read rules t zero v w l s = absurd (omega arith)
content_read rules t (suc zero) v w l s = absurd (omega arith)
content_read rules t (suc (suc room)) v w l s =
    let octets : w ≡ body_octets (rising (type_and_value Bound)) (v ∷ []) = s.octets ∙ sym (append-nil (octets_of (type_and_value Bound) v)) in
    let body : read_body (rising (type_and_value Bound)) (suc room) w ≡ Ok (v ∷ [], []) =
    ap (read_body (rising (type_and_value Bound)) (suc room)) octets ∙ complete_body (rising (type_and_value Bound)) (suc room) (v ∷ []) refl refl ((s.valid, tt), tt) in
    ap (λ x. x >>= whole) body

alone_read : (rules : EncodingRules) (t : Tag) (room n : ℕ) (v : TypeAndValue) (w : List ℕ) → 1 < room → n ≤ length w → Spells (type_and_value Bound) v (take n w)
    → value_at (read_content_by rules (nested (rising (type_and_value Bound))) t room) n w ≡ Ok (v ∷ [], drop n w)
unfolding value_at
alone_read rules t room n v w l within s = rw (le-ltb (length w) n within, content_read rules t room v (take n w) l s) refl

pub invariant_of-result : goal.invariant_of-result
invariant_of-result g c = rw c.one.ensures (rising_distinct (c.in-Some.one ∷ []) tt, tt)

pub invariant_of-result-2 : goal.invariant_of-result-2
invariant_of-result-2 g c = rw c.of.ensures (rising_distinct c.in_ok-values.values.items c.in_ok-values.ensures.rising, c.in_ok-values.ensures.ascend)

pub returns-in-Some : goal.returns-in-Some
returns-in-Some g c =
    let alone = c.in-Some.ensures in
    let state = g.R.Reader.state c.args.reader.now in
    let read = alone_read state.source.encoding c.args.header.tag state.room c.args.header.length.value (pair_plain c.in-Some.one) state.rest alone.levels alone.within alone.spelled in
    rw (c.skip.ensures, c.one.ensures) (read, refl, alone.ready, (c.args.header.length.value, refl))
