-- Laws about a trust anchor within a file.
use Rattle.std.proofs.Common.{◌≡◌, ℕ, List, drop, Result, Ok, Err, subst, sym}
use Rattle.std.specs.Prelude.{IfOk, IfErr}
use Rattle.x509_cert_anchors.specs.Anchors.{PlainAnchor as PlainChoice}
use Rattle.cert_desk_checking.specs.declared.anchor.Anchor.{Anchor}
use Rattle.cert_desk_checking.specs.declared.anchor_fault.AnchorFault.{AnchorFault}
use Rattle.cert_desk_checking.specs.declared.anchor_fault.AnchorFault.TheVariants as faults
use Rattle.cert_desk_checking.specs.declared.anchors_error.AnchorsError.{AnchorsError}
use Rattle.cert_desk_checking.specs.declared.anchors_error.AnchorsError.TheVariants as errors
use Rattle.cert_desk_checking.specs.Anchors.{anchor_plain, given_by}
use Rattle.cert_desk_checking.specs.AnchorFiles.{raw_choice, IsFaulty}
use Rattle.cert_desk_checking.specs.AnchorReading.{UngivenFor, IsUngiven, GivesNone}
use Rattle.cert_desk_checking.specs.Files.{GivesAt, StandsAt}
use Rattle.cert_desk_rules.specs.DeskBundle.Series.{BeginsWith}

module _ (octets : List ℕ) (start end : ℕ) (c : PlainChoice) (s : StandsAt raw_choice octets start end c) where
  begins : BeginsWith raw_choice c (drop start octets)
  begins = record { valid = s.valid; more = drop end octets; whole = s.whole }

  -- The trust anchor can't be used.
  ungiven : (fault : AnchorFault) → UngivenFor c fault → IsFaulty fault (drop start octets)
  ungiven faults.Malformed h = absurd h
  ungiven faults.NoName h = record { value = c; begins = begins; refused = h }
  ungiven faults.PathControls h = record { value = c; begins = begins; refused = h }

  gives_none : (error : AnchorsError) → IsUngiven c start error → GivesNone octets start error
  gives_none (errors.BadAnchors offset fault) h = (h.0, ungiven fault h.1)
  gives_none errors.Device h = absurd h
  gives_none errors.OutOfMemory h = tt

  pub given_there : (r : Result (Anchor × ℕ) AnchorsError)
      → IfOk r (λ p. given_by c ≡ Ok (anchor_plain p.0)) → IfOk r (λ p. p.1 ≡ end) → IfErr r (IsUngiven c start)
      → IfOk r (λ p. GivesAt raw_choice given_by octets start p.1 (anchor_plain p.0)) × IfErr r (GivesNone octets start)
  given_there (Ok p) given ends none =
      (subst (λ (n : ℕ). GivesAt raw_choice given_by octets start n (anchor_plain p.0)) (sym ends) (record { value = c; stands = s; given = given }), tt)
  given_there (Err error) given ends none = (tt, gives_none error none)
