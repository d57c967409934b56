-- Laws about the steps of a bundle, which consumes bytes after its last certificate.
use Rattle.std.proofs.Common.{◌≡◌, ℕ, ◌+◌, ◌^◌, ◌<◌, List, [], ◌∷◌, ◌++◌, length, take, drop, Some, None, refl, sym, ap, subst, ◌∙◌, arith, inl, inr, append_assoc, length-append}
use Rattle.std.proofs.lemmas.List.{take_all, take-append-drop}
use Rattle.std.specs.Global.{Vec}
use Rattle.x509_cert_certificates.specs.Oid.Bound.{Bound}
use Rattle.x509_cert_certificates.specs.Certificates.{PlainCertificate, raw_certificate}
use Rattle.x509_cert_certificates.specs.Certificates.{raw_certificate_fields, certificate_octets}
use Rattle.cert_desk_bundle.specs.declared.bundle.Bundle.TheInside.{Inside}
use Rattle.cert_desk_bundle.specs.declared.fault_kind.FaultKind.TheVariants as kinds
use Rattle.cert_desk_bundle.specs.declared.located.Located.{Located}
use Rattle.cert_desk_bundle.specs.declared.rest.Rest.{Rest}
use Rattle.cert_desk_bundle.specs.declared.standing.Standing.{Standing}
use Rattle.cert_desk_bundle.specs.declared.standing.Standing.TheVariants as standings
use Rattle.cert_desk_bundle.specs.Chains.{Stands, joined}
use Rattle.cert_desk_bundle.specs.Faults.{IsFault}
use Rattle.cert_desk_bundle.specs.Headers.{IsUnfinished}
use Rattle.cert_desk_bundle.specs.Locations.{plain_of, certificates_of, kept_of, IsPlacedAt, IsUnread, IsKept}
use Rattle.cert_desk_bundle.specs.Rests.{IsTaken}
use Rattle.cert_desk_bundle.specs.Steps.{Advances, TakesFront, StopsBy, Stops}
use Rattle.cert_desk_bundle.proofs.FaultStays.{IsFault-stays}
use Rattle.cert_desk_bundle.proofs.LocationLaws.{certificates-more}
use Rattle.cert_desk_bundle.proofs.Readings.{Advances-none, advances-left, advances-whole, Feeding}
use Rattle.cert_desk_bundle.proofs.Scans.{awaits_unfinished}
use Rattle.cert_desk_bundle.proofs.WholeValues.{whole_malformed}

-- A certificate that was completed may be in a chain.
pub stands_kept : (limit offset : ℕ) (old new : Rest) (piece : List ℕ) (count : ℕ) (octets : Vec ℕ) → IsTaken limit offset old new piece count (Some octets) → (l : Located) → IsPlacedAt offset octets.items l → Stands Bound limit (plain_of l)
stands_kept limit offset old new piece count octets t l p =
    let s = t.completed in
    let w = s.has_whole in
    record { valid = p.spelled.valid; within = omega (arith, ap length (sym s.octets_are ∙ p.spelled.octets), w.len_is, w.within) }

-- A certificate that was completed ends before 2^64 bytes.
pub ends_below : (limit offset : ℕ) (old new : Rest) (piece : List ℕ) (count : ℕ) (octets : Vec ℕ) → IsTaken limit offset old new piece count (Some octets) → offset + length octets.items < 2 ^ 64
ends_below limit offset old new piece count octets t =
    let s = t.completed in
    let w = s.has_whole in
    omega (arith, ap length s.octets_are, w.len_is, w.fits)

module _ (b : Inside) (i : IsKept b) where
  -- The number of bytes that a bundle keeps is bounded.
  fits_from : (octets : List ℕ) (wanted : ℕ) → length octets < wanted → b.end + wanted < 2 ^ 64 + 6 → length (joined Bound (certificates_of b.located.items) ++ octets) < 2 ^ 64 + 5
  fits_from octets wanted short fits = omega (arith, i.kept.end_is, length-append (joined Bound (certificates_of b.located.items)) octets)

  pub feeding-start : (piece : List ℕ) → b.standing ≡ standings.Open → Feeding Bound (kept_of b) piece piece (kept_of b)
  feeding-start piece opened = record {
    was_open = opened;
    front = [];
    whole = refl;
    advances = Advances-none Bound (kept_of b) opened (fits_from b.rest.octets.items b.rest.wanted i.awaits.short i.awaits.fits);
  }

  module _ (opened : b.standing ≡ standings.Open) (piece : List ℕ) (new : Rest) (count : ℕ) where
    -- No certificate is complete.
    pub takes_left : IsTaken b.limit b.end b.rest new piece count None → TakesFront Bound (kept_of b) (record (kept_of b) { rest = new.octets.items }) piece count
    takes_left t =
        let front = take count piece in
        let left = t.completed in
        let unfinished : IsUnfinished (raw_certificate Bound) b.limit (length (joined Bound (certificates_of b.located.items))) (b.rest.octets.items ++ front) =
        rw (← i.kept.end_is) (awaits_unfinished b.limit b.end (b.rest.octets.items ++ front) new.wanted left.awaits (raw_certificate_fields Bound)) in
        record {
          some = t.some;
          within = t.within;
          advances = advances-left Bound (kept_of b) (record (kept_of b) { rest = new.octets.items }) front opened unfinished
              (rw append_assoc (fits_from (b.rest.octets.items ++ front) new.wanted left.awaits.short left.awaits.fits)) (ap (λ (x : List ℕ). record (kept_of b) { rest = x }) left.kept);
        }

    -- No certificate is complete after the whole piece.
    pub takes_all : count ≡ length piece → IsTaken b.limit b.end b.rest new piece count None → Advances Bound (kept_of b) (record (kept_of b) { rest = new.octets.items }) piece
    takes_all whole t =
        let all : take count piece ≡ piece = take_all count piece (omega (arith, whole)) in
        subst (λ (x : List ℕ). Advances Bound (kept_of b) (record (kept_of b) { rest = new.octets.items }) x) all (takes_left t).advances

    -- A certificate is complete.
    module _ (octets : Vec ℕ) (t : IsTaken b.limit b.end b.rest new piece count (Some octets)) where
      pub takes_certificate : (l : Located) (items : List Located) → IsPlacedAt b.end octets.items l → items ≡ b.located.items ++ l ∷ []
          → TakesFront Bound (kept_of b) (record (kept_of b) { certificates = certificates_of items; rest = new.octets.items }) piece count
      takes_certificate l items p pushed =
          let s = t.completed in
          let w = s.has_whole in
          let len : length octets.items ≡ length (b.rest.octets.items ++ take count piece) = ap length s.octets_are in
          let e = i.kept.end_is in
          let own : b.rest.octets.items ++ take count piece ≡ certificate_octets Bound (plain_of l) = sym s.octets_are ∙ p.spelled.octets in
          let stands = stands_kept b.limit b.end b.rest new piece count octets t l p in
          let certificates : certificates_of items ≡ certificates_of b.located.items ++ plain_of l ∷ [] = ap certificates_of pushed ∙ certificates-more b.limit b.end b.located.items i.kept octets.items l p in
          record {
            some = t.some;
            within = t.within;
            advances = advances-whole Bound (kept_of b) (record (kept_of b) { certificates = certificates_of items; rest = new.octets.items }) (take count piece) opened (plain_of l) own
                (omega (arith, w.len_is, w.fits, e)) stands
                (ap (λ (cs : List PlainCertificate). record (kept_of b) { certificates = cs; rest = new.octets.items }) certificates
                ∙ ap (λ (x : List ℕ). record (kept_of b) { certificates = certificates_of b.located.items ++ plain_of l ∷ []; rest = x }) s.none);
          }

      why_unread : (standing : Standing) → IsUnread octets.items standing → StopsBy Bound (kept_of b) (b.rest.octets.items ++ piece) standing
      why_unread standing (inl memory) = rw memory tt
      why_unread standing (inr (malformed, none)) =
          let s = t.completed in
          let front = b.rest.octets.items ++ take count piece in
          let len : take (length front) front ≡ octets.items = take_all (length front) front (omega arith) ∙ sym s.octets_are in
          let fault : IsFault (raw_certificate Bound) b.limit b.end kinds.Malformed front =
          whole_malformed (raw_certificate_fields Bound) b.limit b.end front (length front) s.has_whole (λ c spelled. none c (rw len at spelled)) in
          let stays : IsFault (raw_certificate Bound) b.limit b.end kinds.Malformed (front ++ drop count piece) =
          IsFault-stays (raw_certificate_fields Bound) b.limit b.end front (drop count piece) kinds.Malformed (λ e. cc) fault in
          let whole : front ++ drop count piece ≡ b.rest.octets.items ++ piece =
          append_assoc b.rest.octets.items (take count piece) (drop count piece) ∙ ap (λ (x : List ℕ). b.rest.octets.items ++ x) (take-append-drop count piece) in
          rw malformed ((λ e. cc), rw (← i.kept.end_is, ← whole) stays)

      pub stops_unread : (standing : Standing) → IsUnread octets.items standing → Stops Bound (kept_of b) (record (kept_of b) { rest = new.octets.items }) (b.rest.octets.items ++ piece) standing
      stops_unread standing u = record { limit = refl; certificates = refl; why = why_unread standing u }
