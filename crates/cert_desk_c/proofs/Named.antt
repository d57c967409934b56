-- The results of a call on the text of a name.
use Rattle.std.proofs.Common.{◌≡◌, ◌≢◌, ◌⊎◌, inl, inr, ℕ, List, [], Ok, Err, IsUtf8, Result, refl, sym, ap, subst, ◌∙◌}
use Rattle.cert_tool_describe.specs.Oid.Bound.{Bound}
use Rattle.cert_tool_describe.specs.Der.ErrorTypes.ErrorKind.{ErrorKind}
use Rattle.cert_tool_describe.specs.Der.ErrorTypes.ErrorKind.TheVariants.{OutOfMemory}
use Rattle.cert_tool_describe.specs.Der.Grammar.{plain_list}
use Rattle.cert_tool_describe.specs.Der.Writing.{Out, write}
use Rattle.cert_desk_listing.specs.DeskIo.declared.exit_status.ExitStatus.{ExitStatus}
use Rattle.cert_desk_answers.specs.DeskRules.Rooms.{IsLack}
use Rattle.cert_desk_answers.proofs.Judged.{ok_is}
use Rattle.cert_tool_describe.specs.CertNames.declared.attribute_type_and_value.AttributeTypeAndValue.{AttributeTypeAndValue}
use Rattle.cert_tool_describe.specs.CertNames.Names.{PlainName, name}
use Rattle.cert_tool_describe.specs.CertNames.NameTexts.{ReadsEncoding, ReadsName}
use Rattle.cert_tool_describe.specs.CertNames.Pairs.{relative_plain}
use Rattle.cert_tool_describe.specs.CertNames.PlainTexts.{SpellsName}
use Rattle.cert_tool_describe.proofs.CertNames.OneName.{one_spelled, spelled_stands}
use Rattle.cert_desk_c.specs.Values.{IsEncodedName, IsNoNameText, written_octets}

module _ (text : List ℕ) where
  -- The result of encoding the name of a text.
  abbrev Writes : PlainName → Result Out ErrorKind → Type 0
  Writes n r = write (name Bound) n (written_octets []) ≡ r

  one_written : (n m : PlainName) (r s : Result Out ErrorKind) → SpellsName Bound text n → SpellsName Bound text m → Writes n r → Writes m s → r ≡ s
  one_written n m r s p q e f = sym e ∙ subst (λ (x : PlainName). Writes x s) (one_spelled Bound text m n q p) f

  pub one_encoding : (octets other : List ℕ) → IsEncodedName text octets → IsEncodedName text other → other ≡ octets
  one_encoding octets other p q =
      ap (λ (o : Out). o.written) (ok_is Out ErrorKind (written_octets other) (written_octets octets) (one_written q.1.0 p.1.0 (Ok (written_octets other)) (Ok (written_octets octets)) q.1.1 p.1.1 q.1.2 p.1.2))

  pub not_both : (octets : List ℕ) → IsEncodedName text octets → IsNoNameText text → ⊥
  not_both octets p (inl never) = never p.0
  not_both octets p (inr (kind, why)) = by_reason why
    where
      by_reason : ReadsEncoding (name Bound) (plain_list relative_plain) (ReadsName Bound text) (Err kind) → ⊥
      by_reason (ReadsEncoding.refused e r) = spelled_stands Bound text p.1.0 e p.1.1 r
      by_reason (ReadsEncoding.unwritten a e r w) =
          let n = plain_list relative_plain a in
          let clash = one_written p.1.0 n (Ok (written_octets octets)) (Err e) p.1.1 (a, r, refl) p.1.2 w in absurd cc

  -- The reason why there is no encoding.
  pub lacks : (status : ExitStatus) (kind : ErrorKind) → (kind ≢ OutOfMemory → IsNoNameText text) → IsLack (kind ≢ OutOfMemory) status → IsLack (IsNoNameText text) status
  lacks status kind why (inl other) = inl (other.0, why other.1)
  lacks status kind why (inr memory) = inr memory
