-- The questions to a signature verifier about the signatures of a chain, and verifiers with the
-- same answers to them.
use Rattle.std.specs.Prelude.{◌≡◌, ℕ, zero, suc, List, [], ◌∷◌, Bool, if◌then◌else◌, slice_get}
use Rattle.std.specs.List.{AllByRecursion}
use Rattle.std.specs.Option.{option_map_or}
use Rattle.cert_desk_bundle.specs.Der.BitStrings.{Bits}
use Rattle.cert_desk_bundle.specs.CertCertificates.Certificates.{PlainCertificate, outer_algorithm}
use Rattle.cert_desk_bundle.specs.CertCertificates.Certificates.{signature_bits, public_key}
use Rattle.cert_desk_bundle.specs.CertParts.Grammar.{PublicKey, Algorithm}
use Rattle.cert_desk_rules.specs.Judging.{Answers, Terms, PlainAnchor, is_named, signed_part}

-- A question: a key, an algorithm, the signed bytes and the bits of the signature.
pub record Question : Type 0 where
  pub key : PublicKey
  pub algorithm : Algorithm
  pub signed : List ℕ
  pub bits : Bits

-- The question about the certificate c at an index, under a key.
abbrev pub question : ℕ → List PlainCertificate → List ℕ → ℕ → PlainCertificate → PublicKey
    → Question
question bound cs stream place c key =
    record {
      key = key;
      algorithm = outer_algorithm c;
      signed = signed_part bound cs stream place c;
      bits = signature_bits c;
    }

-- The questions about the first certificate c: one for the key of each trust anchor with the
-- issuer's name.
abbrev pub anchor_questions : ℕ → List PlainCertificate → List ℕ → PlainCertificate
    → List PlainAnchor → List Question
anchor_questions bound cs stream c [] = []
anchor_questions bound cs stream c (a ∷ more) =
    if is_named bound c a then question bound cs stream 0 c a.key
    ∷ anchor_questions bound cs stream c more else anchor_questions bound cs stream c more

-- The questions about the certificate c at an index. After the first certificate, there is one for
-- the key of the certificate before.
abbrev pub questions_of : ℕ → List PlainAnchor → List PlainCertificate → List ℕ → ℕ
    → PlainCertificate → List Question
questions_of bound anchors cs stream zero c = anchor_questions bound cs stream c anchors
questions_of bound anchors cs stream (suc before) c =
    option_map_or (λ b. question bound cs stream (suc before) c (public_key b) ∷ [])
    (slice_get cs before) []

-- The questions about the certificate at an index, or none if there is no such certificate.
abbrev pub questions_at : ℕ → List PlainAnchor → List PlainCertificate → List ℕ → ℕ → List Question
questions_at bound anchors cs stream place =
    option_map_or (questions_of bound anchors cs stream place) (slice_get cs place) []

-- The answer to a question.
abbrev pub answer_on : Answers → Question → Bool
answer_on answers q = answers q.key q.algorithm q.signed q.bits

-- The verifier of the terms and another one give the same answers to all questions that the chain
-- may ask.
abbrev pub AnswerAlike : Terms → Answers → List PlainCertificate → List ℕ → Type 0
AnswerAlike t other cs stream =
    (place : ℕ) → AllByRecursion (λ q. answer_on t.answers q ≡ answer_on other q)
    (questions_at t.bound t.anchors cs stream place)

-- Terms with another verifier, which are otherwise the same.
abbrev pub under : Terms → Answers → Terms
under t other = record t { answers = other }
