-- Algorithms with the same encoding are equal.
use Rattle.std.proofs.Common.{◌≡◌, ℕ, List, [], ◌++◌, refl, ap}
use Rattle.x509_cert_anchors.specs.Der.Shapes.{IsValid, octets_of}
use Rattle.x509_cert_anchors.proofs.Der.OneEncoding.{one_value}
use Rattle.x509_cert_anchors.specs.CertParts.Grammar.{Algorithm, algorithm_identifier}

pub one_algorithm : (bound : ℕ) (a b : Algorithm) → IsValid (algorithm_identifier bound) a → IsValid (algorithm_identifier bound) b
    → octets_of (algorithm_identifier bound) a ≡ octets_of (algorithm_identifier bound) b → a ≡ b
one_algorithm bound a b v w e = (one_value (algorithm_identifier bound) a b [] [] refl refl v w (ap (λ (x : List ℕ). x ++ []) e)).0
