-- Laws about CertIDs and the certificates that they identify.
use Rattle.std.proofs.Common.{◌≡◌, ℕ, Bool, true, false, ◌&&◌, Some, None, refl, ap, ◌∙◌}
use Rattle.std.proofs.lemmas.Slice.Eq.{bytes_eq-Decides}
use Rattle.der_core.specs.Integers.{integer_octets}
use Rattle.pki_ocsp.specs.declared.cert_id.CertId.{CertId}
use Rattle.x509_cert_reading.specs.Certificates.{PlainCertificate, issuer, tbs, tbs_serial}
use Rattle.x509_cert_reading.specs.Names.Names.{name_octets}
use Rattle.x509_cert_reading.specs.Parts.Grammar.{PublicKey, key_bits}
use Rattle.pki_status.specs.declared.hash_function.HashFunction.{HashFunction}
use Rattle.pki_status.specs.Hashes.{arcs_of, function_named, hash_by}
use Rattle.pki_status.proofs.FunctionSteps.{named_again}
use Rattle.pki_status.specs.CertIds.{has_name_hash, has_key_hash, has_serial, identifies}

module _ (bound : ℕ) (id : CertId) (c : PlainCertificate) (key : PublicKey) where
  -- The hash function isn't known.
  pub by_no_function : function_named id.hash_algorithm.oid ≡ None → identifies bound id c key ≡ false
  by_no_function none = rw none refl

  module _ (hash : HashFunction) (named : function_named id.hash_algorithm.oid ≡ Some hash) where
    by_function : identifies bound id c key ≡ (has_name_hash bound hash id (issuer c) && (has_key_hash hash id key && has_serial id (tbs_serial (tbs c))))
    by_function = rw named refl

    and_false : (a b : Bool) → (a && (b && false)) ≡ false
    and_false true true = refl
    and_false true false = refl
    and_false false b = refl

    and_first : (a b : Bool) → (a && (false && b)) ≡ false
    and_first true b = refl
    and_first false b = refl

    and_true : (a : Bool) → (a && (true && true)) ≡ a
    and_true true = refl
    and_true false = refl

    -- The serial number is another one.
    pub by_serial : has_serial id (tbs_serial (tbs c)) ≡ false → identifies bound id c key ≡ false
    by_serial other =
        by_function ∙ ap (λ b. has_name_hash bound hash id (issuer c) && (has_key_hash hash id key && b)) other
        ∙ and_false (has_name_hash bound hash id (issuer c)) (has_key_hash hash id key)

    -- The key is another one.
    pub by_key : has_key_hash hash id key ≡ false → identifies bound id c key ≡ false
    by_key other =
        by_function ∙ ap (λ b. has_name_hash bound hash id (issuer c) && (b && has_serial id (tbs_serial (tbs c)))) other
        ∙ and_first (has_name_hash bound hash id (issuer c)) (has_serial id (tbs_serial (tbs c)))

    -- The name decides.
    pub by_name : has_serial id (tbs_serial (tbs c)) ≡ true → has_key_hash hash id key ≡ true → identifies bound id c key ≡ has_name_hash bound hash id (issuer c)
    by_name same keyed =
        by_function ∙ ap (λ b. has_name_hash bound hash id (issuer c) && (has_key_hash hash id key && b)) same
        ∙ ap (λ b. has_name_hash bound hash id (issuer c) && (b && true)) keyed
        ∙ and_true (has_name_hash bound hash id (issuer c))

-- A CertID with these fields identifies the certificate.
pub identified : (bound : ℕ) (id : CertId) (c : PlainCertificate) (key : PublicKey) (hash : HashFunction) → id.hash_algorithm.oid ≡ arcs_of hash
    → id.issuer_name_hash ≡ hash_by hash (name_octets bound (issuer c)) → id.issuer_key_hash ≡ hash_by hash (key_bits key).octets → id.serial_number ≡ tbs_serial (tbs c)
    → identifies bound id c key ≡ true
identified bound id c key hash oid name keyed serial =
    by_name bound id c key hash (ap function_named oid ∙ named_again hash) ((bytes_eq-Decides _ _).1 (ap integer_octets serial)) ((bytes_eq-Decides _ _).1 keyed)
    ∙ (bytes_eq-Decides _ _).1 name
