-- The results of a call that looks for an extension.
use Rattle.std.proofs.Common.{◌≡◌, ◌⊎◌, inl, inr, ℕ, List, Option, is_some, true, false, refl, sym, ap, ◌∙◌}
use Rattle.cert_tool_describe.specs.Oid.Bound.{Bound}
use Rattle.cert_tool_describe.specs.Der.Shapes.{Spells}
use Rattle.cert_tool_describe.specs.CertParts.Grammar.{PlainExtension}
use Rattle.cert_tool_describe.specs.CertCertificates.Certificates.{PlainCertificate, extensions_of, raw_certificate}
use Rattle.cert_desk_listing.specs.DeskIo.declared.exit_status.ExitStatus.{ExitStatus}
use Rattle.cert_desk_listing.specs.DeskIo.declared.exit_status.ExitStatus.TheVariants as statuses
use Rattle.cert_desk_listing.specs.DeskIo.Statuses.{code_of}
use Rattle.cert_desk_answers.specs.DeskRules.Returned.{IsExact, IsExactWithMemory}
use Rattle.cert_desk_answers.specs.DeskRules.Rooms.{IsLack}
use Rattle.cert_desk_answers.proofs.DeskRules.Returning.{is_exact}
use Rattle.cert_desk_answers.specs.DeskRules.Identifiers.{IsNoIdentifier, SpellsIdentifier}
use Rattle.cert_desk_c.specs.Values.{IsExtensionStatus, IsNoCertificate, first_extension}
use Rattle.cert_desk_c.proofs.Told.{one_identifier, one_spelled}

module _ (octets identifier : List ℕ) where
  abbrev IsSo : ExitStatus → Type 0
  IsSo = IsExtensionStatus octets identifier

  pub no_identifier : (n : ℕ) → n ≡ code_of statuses.Arguments → IsNoIdentifier identifier → IsExact IsSo n
  no_identifier n e none = is_exact IsSo statuses.Arguments n e none only
    where
      only : (other : ExitStatus) → IsSo other → other ≡ statuses.Arguments
      only statuses.Done h = absurd (none h.0 h.1)
      only statuses.Faulty h = absurd (none h.0.0 h.0.1)
      only statuses.Empty h = absurd (none h.0 h.1)
      only statuses.Arguments h = refl
      only _ h = absurd h

  module _ (arcs : List ℕ) (p : SpellsIdentifier identifier arcs) where
    pub no_certificate : (status : ExitStatus) (n : ℕ) → n ≡ code_of status → IsLack (IsNoCertificate octets) status → IsExactWithMemory IsSo n
    no_certificate status n e (inr memory) = inr (e ∙ ap code_of memory)
    no_certificate status n e (inl none) = inl (is_exact IsSo statuses.Faulty n (e ∙ ap code_of none.0) ((arcs, p), none.1) only)
      where
        only : (other : ExitStatus) → IsSo other → other ≡ statuses.Faulty
        only statuses.Done h = absurd (none.1 h.2.0 h.2.1)
        only statuses.Faulty h = refl
        only statuses.Empty h = absurd (none.1 h.2.0 h.2.1)
        only statuses.Arguments h = absurd (h arcs p)
        only _ h = absurd h

    module _ (c : PlainCertificate) (q : Spells (raw_certificate Bound) c octets) where
      abbrev first : Option PlainExtension
      first = first_extension arcs (extensions_of c)

      same : (others : List ℕ) (d : PlainCertificate) → SpellsIdentifier identifier others → Spells (raw_certificate Bound) d octets → is_some (first_extension others (extensions_of d)) ≡ is_some first
      same others d r s =
          ap (λ (xs : List ℕ). is_some (first_extension xs (extensions_of d))) (one_identifier identifier others arcs r p)
          ∙ ap (λ (x : PlainCertificate). is_some (first_extension arcs (extensions_of x))) (one_spelled (raw_certificate Bound) refl refl d c octets s q)

      pub extended : (n : ℕ) → n ≡ code_of statuses.Done → is_some first ≡ true → IsExact IsSo n
      extended n e some = is_exact IsSo statuses.Done n e (arcs, p, (c, q, some)) only
        where
          only : (other : ExitStatus) → IsSo other → other ≡ statuses.Done
          only statuses.Done h = refl
          only statuses.Faulty h = absurd (h.1 c q)
          only statuses.Empty h = let clash = sym h.2.2 ∙ same h.0 h.2.0 h.1 h.2.1 ∙ some in absurd cc
          only statuses.Arguments h = absurd (h arcs p)
          only _ h = absurd h

      pub unextended : (n : ℕ) → n ≡ code_of statuses.Empty → is_some first ≡ false → IsExact IsSo n
      unextended n e none = is_exact IsSo statuses.Empty n e (arcs, p, (c, q, none)) only
        where
          only : (other : ExitStatus) → IsSo other → other ≡ statuses.Empty
          only statuses.Done h = let clash = sym h.2.2 ∙ same h.0 h.2.0 h.1 h.2.1 ∙ none in absurd cc
          only statuses.Faulty h = absurd (h.1 c q)
          only statuses.Empty h = refl
          only statuses.Arguments h = absurd (h arcs p)
          only _ h = absurd h
