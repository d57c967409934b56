-- A list of answers as a signature verifier.
use Rattle.std.specs.Prelude.{ℕ, List, [], ◌∷◌, Bool, ◌&&◌, bytes_eq, nat_eq}
use Rattle.std.specs.declared.cmp.Ordering.{Ordering}
use Rattle.std.specs.Ordering.{nat_cmp}
use Rattle.std.specs.Cmp.Lexicographic.{pointwise, slice_cmp}
use Rattle.std.specs.List.{list_any}
use Rattle.std.specs.Option.{option_eq}
use Rattle.cert_desk_bundle.specs.Oid.Comparing.{owned_eq}
use Rattle.cert_desk_bundle.specs.Der.BitStrings.{Bits, bit_contents}
use Rattle.cert_desk_bundle.specs.Der.Shapes.{AnyValue}
use Rattle.cert_desk_bundle.specs.Der.Tags.{leading_octet, number_of}
use Rattle.cert_desk_bundle.specs.CertParts.Grammar.{Algorithm, PublicKey, algorithm_arcs}
use Rattle.cert_desk_bundle.specs.CertParts.Grammar.{algorithm_parameters, key_algorithm, key_bits}
use Rattle.cert_desk_bundle.specs.CertParts.Views.{key_plain, algorithm_plain}
use Rattle.cert_desk_rules.specs.Judging.{Answers}
use Rattle.cert_desk_rules.specs.Questions.{Question}
use Rattle.cert_desk_rules.specs.declared.answer.Answer.{Answer}

-- An answer as a question that is accepted.
abbrev pub answer_plain : Answer → Question
answer_plain a =
    record {
      key = key_plain a.key;
      algorithm = algorithm_plain a.algorithm;
      signed = a.signed.items;
      bits = a.bits;
    }

-- The tag and the content of a value, which is all that `==` compares.
abbrev pub any_key : AnyValue → List ℕ
any_key a = leading_octet a.tag ∷ number_of a.tag ∷ a.contents

-- Two values of any type are equal.
abbrev pub same_any : AnyValue → AnyValue → Bool
same_any a b = pointwise nat_eq (any_key a) (any_key b)

-- Two algorithms are equal: their OIDs and their parameters are.
abbrev pub same_algorithm : Algorithm → Algorithm → Bool
same_algorithm a b = owned_eq (algorithm_arcs a) (algorithm_arcs b)
    && option_eq same_any (algorithm_parameters a) (algorithm_parameters b)

-- Two bit strings are equal.
abbrev pub same_bits : Bits → Bits → Bool
same_bits a b = pointwise nat_eq (bit_contents a) (bit_contents b)

-- Two public keys are equal: their algorithms and their bits are.
abbrev pub same_key : PublicKey → PublicKey → Bool
same_key a b = same_algorithm (key_algorithm a) (key_algorithm b)
    && same_bits (key_bits a) (key_bits b)

-- The question is about this key, algorithm, signed bytes and signature.
unfoldable pub is_about : PublicKey → Algorithm → List ℕ → Bits → Question → Bool
is_about key algorithm signed bits q =
    bytes_eq q.signed signed
    && (same_bits q.bits bits && (same_algorithm q.algorithm algorithm && same_key q.key key))

-- The order of answers: by the signed bytes, then by the bits of the signature, then by the bits of
-- the key.
abbrev pub rank : PublicKey → List ℕ → Bits → List (List ℕ)
rank key signed bits = signed ∷ bits.octets ∷ (key_bits key).octets ∷ []

-- The position of an answer in the order of answers.
abbrev pub answer_rank : Answer → List (List ℕ)
answer_rank a = rank (key_plain a.key) a.signed.items a.bits

-- The comparison of two positions.
abbrev pub rank_cmp : List (List ℕ) → List (List ℕ) → Ordering
rank_cmp = slice_cmp (slice_cmp nat_cmp)

-- A verifier that accepts what is listed, and nothing else.
abbrev pub only_yes_to : List Question → Answers
only_yes_to qs key algorithm signed bits = list_any (is_about key algorithm signed bits) qs
