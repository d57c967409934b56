-- Goals of `Bundle::get`: the entry at an index has the bytes of its certificate.
use Rattle.std.proofs.Common.{◌≡◌, ℕ, ◌+◌, ◌-◌, ◌<◌, List, length, get_or, take, drop, Some, slice_get, sym, ap, ◌∙◌, arith}
use Rattle.std.proofs.lemmas.Option.{slice_get-get_or, slice_get-map}
use Rattle.std.specs.Option.{option_map}
use Rattle.x509_cert_certificates.specs.Oid.Bound.{Bound}
use Rattle.x509_cert_certificates.specs.Certificates.{PlainCertificate, certificate_octets}
use Rattle.x509_cert_certificates.specs.Certificates.{signed_length}
use Rattle.cert_desk_bundle.specs.declared.located.Located.{Located}
use Rattle.cert_desk_bundle.specs.Chains.{offset_at}
use Rattle.cert_desk_bundle.specs.Locations.{plain_of, certificates_of, IsPlacedAt}
use Rattle.cert_desk_bundle.specs.Streams.{Kept}
use Rattle.cert_desk_bundle.proofs.LocationLaws.{signed_in, signed_within}
use Rattle.cert_desk_bundle.proofs.bundle.Bundle.get.Goals as goal
use Rattle.cert_desk_bundle.proofs.bundle.Bundle.get.Goals.{In-Some}

there : (c : In-Some) → slice_get c.self.inside.located.items c.args.place ≡ Some c.in-Some.located.now
there c =
    let items = c.self.inside.located.items in
    let l = c.in-Some.located.now in
    let within : c.args.place < length items = rw c.deref.ensures.value at c.in-Some.ensures.lookup.3.0 in
    let item : l ≡ get_or items c.args.place l = rw c.deref.ensures.value at c.in-Some.ensures.lookup.1 in
    slice_get-get_or items c.args.place l within ∙ ap (λ (x : Located). Some x) (sym item)

placed : (c : In-Some) → IsPlacedAt (offset_at Bound (certificates_of c.self.inside.located.items) c.args.place) (certificate_octets Bound (plain_of c.in-Some.located.now)) c.in-Some.located.now
placed c = c.self.invariant.kept.places c.args.place c.in-Some.located.now (there c)

pub overflow_add-result : goal.overflow_add-result
overflow_add-result c =
    let p = placed (goal.at.overflow_add-result c).In-Some in
    omega (arith, signed_within Bound (plain_of c.in-Some.located.now), p.header, p.signed, ap length p.octets_are, ap length c.deref-3.ensures.value, c.deref-3.type_inv)

pub slice_bounds-result-end : goal.slice_bounds-result-end
slice_bounds-result-end c =
    let p = placed (goal.at.slice_bounds-result-end c).In-Some in
    omega (arith, signed_within Bound (plain_of c.in-Some.located.now), p.header, p.signed, ap length p.octets_are, ap length c.deref-3.ensures.value)

pub returns-clause-entry : goal.returns-clause-entry
returns-clause-entry c =
    let i = (goal.at.returns-clause-entry c).In-Some in
    let p = placed i in
    let l = c.in-Some.located.now in
    let items = c.self.inside.located.items in
    let kept : c.args.self.now.certificates ≡ certificates_of items = ap (λ (k : Kept). k.certificates) (sym c.self.view_is) in
    let own : c.deref-3.result.now ≡ certificate_octets Bound (plain_of l) = c.deref-3.ensures.value ∙ p.octets_are in
    let count : l.header + l.signed - l.header ≡ l.signed = omega arith in
    record {
      valid = p.spelled.valid;
      certificate = ap (λ (cs : List PlainCertificate). slice_get cs c.args.place) kept ∙ slice_get-map plain_of items c.args.place ∙ ap (option_map plain_of) (there i);
      octets = c.deref-2.ensures.value ∙ p.octets_are;
      signed = ap (λ (n : ℕ). take n (drop l.header c.deref-3.result.now)) count
          ∙ ap (λ (x : List ℕ). take l.signed (drop l.header x)) own
          ∙ ap (λ (n : ℕ). take n (drop l.header (certificate_octets Bound (plain_of l)))) p.signed
          ∙ ap (λ (n : ℕ). take (signed_length Bound (plain_of l)) (drop n (certificate_octets Bound (plain_of l)))) p.header
          ∙ signed_in Bound (plain_of l);
      offset = p.offset_is ∙ ap (λ (cs : List PlainCertificate). offset_at Bound cs c.args.place) (sym kept);
    }
