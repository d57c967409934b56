-- Laws about the algorithm of the digest verifier.
use Rattle.std.proofs.Common.{◌≡◌, ℕ, List, ◌++◌, Bool, true, false, Some, None, ◌&&◌, ◌==◌, IsTrue, ◌↔◌, bytes_eq, sym, ap, ◌∙◌}
use Rattle.std.specs.Option.{option_map_or}
use Rattle.std.proofs.lemmas.Bool.{and_left, and_right, ne_eqb, eq-eqb}
use Rattle.std.proofs.lemmas.Bool.Decides.{same_from_decides}
use Rattle.std.proofs.lemmas.Slice.Eq.{bytes_eq-Decides}
use Rattle.cert_desk_bundle.specs.Der.BitStrings.{Bits}
use Rattle.cert_desk_bundle.specs.Der.Shapes.{AnyValue}
use Rattle.sha2.specs.Sha256.{sha256}
use Rattle.cert_desk_bundle.specs.CertParts.Grammar.{Algorithm, PublicKey, algorithm_arcs}
use Rattle.cert_desk_bundle.specs.CertParts.Grammar.{algorithm_parameters, key_bits}
use Rattle.cert_desk_rules.specs.Digests.{digest_arcs, is_digest, digest_answers}
use Rattle.cert_desk_rules.proofs.Folds.{and_yes}

-- An algorithm with parameters is another one.
pub no_parameters : (a : Algorithm) (p : AnyValue) → algorithm_parameters a ≡ Some p → false ≡ is_digest a
no_parameters a p e =
    sym (and_right (bytes_eq (algorithm_arcs a) digest_arcs) (option_map_or (λ _. false) (algorithm_parameters a) true) (ap (λ o. option_map_or (λ _. false) o true) e))

-- An algorithm without parameters is that one exactly if its OID is.
pub digest_by : (r : Bool) (a : Algorithm) → algorithm_parameters a ≡ None → IsTrue r ↔ (algorithm_arcs a ≡ digest_arcs) → r ≡ is_digest a
digest_by r a e h =
    same_from_decides r (bytes_eq (algorithm_arcs a) digest_arcs) h (bytes_eq-Decides (algorithm_arcs a) digest_arcs)
    ∙ and_yes (bytes_eq (algorithm_arcs a) digest_arcs)
    ∙ ap (λ o. bytes_eq (algorithm_arcs a) digest_arcs && option_map_or (λ _. false) o true) (sym e)

module _ (key : PublicKey) (a : Algorithm) (signed : List ℕ) (bits : Bits) where
  pub no_by_algorithm : (r : Bool) → r ≡ is_digest a → r ≡ false → false ≡ digest_answers key a signed bits
  unfolding digest_answers
  no_by_algorithm r h e =
      sym (and_left (is_digest a) ((bits.unused == 0) && bytes_eq bits.octets (sha256 ((key_bits key).octets ++ signed))) (sym h ∙ e))

  pub no_by_unused : (bits.unused ≡ 0 → ⊥) → false ≡ digest_answers key a signed bits
  unfolding digest_answers
  no_by_unused ne =
      sym (and_right (is_digest a) ((bits.unused == 0) && bytes_eq bits.octets (sha256 ((key_bits key).octets ++ signed)))
      (and_left (bits.unused == 0) (bytes_eq bits.octets (sha256 ((key_bits key).octets ++ signed))) (ne_eqb bits.unused 0 ne)))

  pub yes_by_digest : (r : Bool) → r ≡ is_digest a → r ≡ true → bits.unused ≡ 0
      → bytes_eq bits.octets (sha256 ((key_bits key).octets ++ signed)) ≡ digest_answers key a signed bits
  unfolding digest_answers
  yes_by_digest r h e none =
      let both : (b c d : Bool) → b ≡ true → c ≡ true → d ≡ (b && (c && d)) = λ b c d p q. sym (ap (λ x. x && (c && d)) p ∙ ap (λ x. x && d) q) in
      both (is_digest a) (bits.unused == 0) (bytes_eq bits.octets (sha256 ((key_bits key).octets ++ signed)))
      (sym h ∙ e) (eq-eqb bits.unused 0 none)
