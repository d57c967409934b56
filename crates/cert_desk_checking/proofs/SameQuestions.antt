-- A list of the questions that a verifier accepts gives the same answers as that verifier, because
-- an accepted question is only equal to itself.
use Rattle.std.proofs.Common.{◌≡◌, ℕ, List, [], ◌∷◌, Bool, true, false, cond, Option, Some, None, inl, inr, ◌⊎◌, refl, ap, sym, ◌∙◌}
use Rattle.std.specs.Prelude.{◌||◌, bytes_eq, filter}
use Rattle.std.specs.Cmp.Lexicographic.{bytes_decides}
use Rattle.std.specs.List.{AllByRecursion, list_any}
use Rattle.std.specs.Option.{option_eq}
use Rattle.std.proofs.lemmas.Bool.{and_from, and_parts, eq-eqb, or_cases}
use Rattle.x509_cert_anchors.specs.Oid.Bound.{Bound}
use Rattle.x509_cert_anchors.specs.Oid.Comparing.{owned_eq}
use Rattle.x509_cert_anchors.specs.Oid.IdentifierOctets.{IsIdentifier, identifier_octets}
use Rattle.x509_cert_anchors.proofs.Oid.OrderLaws.{equal_arcs}
use Rattle.x509_cert_anchors.specs.Der.TagTypes.Tag.{Tag}
use Rattle.x509_cert_anchors.specs.Der.BitStrings.{Bits, bit_contents}
use Rattle.x509_cert_anchors.specs.Der.Shapes.{AnyValue, IsValid, IsContent, IsBody}
use Rattle.x509_cert_anchors.specs.Der.Tags.{leading_octet, number_of}
use Rattle.x509_cert_anchors.proofs.Der.TagLaws.{same_tags}
use Rattle.x509_cert_anchors.specs.CertParts.Grammar.{Algorithm, PublicKey, algorithm_arcs}
use Rattle.x509_cert_anchors.specs.CertParts.Grammar.{algorithm_identifier, algorithm_parameters, key_algorithm}
use Rattle.x509_cert_anchors.specs.CertParts.Grammar.{key_bits, public_key_info}
use Rattle.cert_desk_rules.specs.Answers.{any_key, is_about, only_yes_to, same_algorithm, same_any, same_bits, same_key}
use Rattle.cert_desk_rules.specs.Judging.{Answers}
use Rattle.cert_desk_checking.specs.QuestionLines.{QuestionLine, questions_of_lines}
use Rattle.cert_desk_rules.specs.Questions.{Question, answer_on}
use Rattle.cert_desk_checking.proofs.AskedValues.{IsWritable}

-- Bits.

abbrev bits_of : ℕ → List ℕ → Bits
bits_of unused octets = record { unused = unused; octets = octets }

one_bits : (a b : Bits) → same_bits a b ≡ true → a ≡ b
one_bits a b e =
    let same = (bytes_decides (bit_contents a) (bit_contents b)).0 e in
    let unused : a.unused ≡ b.unused = cc in
    let octets : a.octets ≡ b.octets = cc in
    ap (λ u. bits_of u a.octets) unused ∙ ap (bits_of b.unused) octets

bits_itself : (a : Bits) → same_bits a a ≡ true
bits_itself a = (bytes_decides (bit_contents a) (bit_contents a)).1 refl

-- Values of any type.

abbrev any_of : Tag → List ℕ → AnyValue
any_of tag contents = record { tag = tag; contents = contents }

one_any : (a b : AnyValue) → same_any a b ≡ true → a ≡ b
one_any a b e =
    let same = (bytes_decides (any_key a) (any_key b)).0 e in
    let leading : leading_octet a.tag ≡ leading_octet b.tag = cc in
    let number : number_of a.tag ≡ number_of b.tag = cc in
    let contents : a.contents ≡ b.contents = cc in
    let tag = same_tags a.tag b.tag
    (and_from _ _ (eq-eqb (leading_octet a.tag) (leading_octet b.tag) leading) (eq-eqb (number_of a.tag) (number_of b.tag) number)) in
    ap (λ t. any_of t a.contents) tag ∙ ap (any_of b.tag) contents

one_parameters : (a b : Option AnyValue) → option_eq same_any a b ≡ true → a ≡ b
one_parameters None None e = refl
one_parameters None (Some b) e = absurd cc
one_parameters (Some a) None e = absurd cc
one_parameters (Some a) (Some b) e = ap (λ (x : AnyValue). Some x) (one_any a b e)

parameters_itself : (a : Option AnyValue) → option_eq same_any a a ≡ true
parameters_itself None = refl
parameters_itself (Some a) = (bytes_decides (any_key a) (any_key a)).1 refl

-- Algorithms.

abbrev algorithm_of : List ℕ → Option AnyValue → Algorithm
algorithm_of arcs parameters = (arcs, (parameters, tt))

valid_arcs : (a : Algorithm) → IsValid (algorithm_identifier Bound) a → IsIdentifier Bound (algorithm_arcs a)
unfolding IsValid IsContent IsBody
valid_arcs a h = h.0.0.0.0

one_algorithm : (a b : Algorithm) → IsValid (algorithm_identifier Bound) a → IsValid (algorithm_identifier Bound) b → same_algorithm a b ≡ true → a ≡ b
one_algorithm a b h k e =
    let both = and_parts (owned_eq (algorithm_arcs a) (algorithm_arcs b)) (option_eq same_any (algorithm_parameters a) (algorithm_parameters b)) e in
    let arcs = (equal_arcs Bound (algorithm_arcs a) (algorithm_arcs b) (valid_arcs a h) (valid_arcs b k)).0 both.0 in
    ap (λ x. algorithm_of x (algorithm_parameters a)) arcs ∙ ap (algorithm_of (algorithm_arcs b)) (one_parameters (algorithm_parameters a) (algorithm_parameters b) both.1)

algorithm_itself : (a : Algorithm) → same_algorithm a a ≡ true
algorithm_itself a = and_from _ _ ((bytes_decides (identifier_octets (algorithm_arcs a)) (identifier_octets (algorithm_arcs a))).1 refl) (parameters_itself (algorithm_parameters a))

-- Keys.

abbrev key_of : Algorithm → Bits → PublicKey
key_of algorithm bits = (algorithm, (bits, tt))

valid_algorithm : (k : PublicKey) → IsValid (public_key_info Bound) k → IsValid (algorithm_identifier Bound) (key_algorithm k)
unfolding IsValid IsContent IsBody
valid_algorithm k h = h.0.0

one_key : (a b : PublicKey) → IsValid (public_key_info Bound) a → IsValid (public_key_info Bound) b → same_key a b ≡ true → a ≡ b
one_key a b h k e =
    let both = and_parts (same_algorithm (key_algorithm a) (key_algorithm b)) (same_bits (key_bits a) (key_bits b)) e in
    ap (λ x. key_of x (key_bits a)) (one_algorithm (key_algorithm a) (key_algorithm b) (valid_algorithm a h) (valid_algorithm b k) both.0)
    ∙ ap (key_of (key_algorithm b)) (one_bits (key_bits a) (key_bits b) both.1)

-- Questions.

abbrev question_of : PublicKey → Algorithm → List ℕ → Bits → Question
question_of key algorithm signed bits = record { key = key; algorithm = algorithm; signed = signed; bits = bits }

-- An accepted question is about another one.
abbrev is_of : Question → Question → Bool
is_of q p = is_about q.key q.algorithm q.signed q.bits p

one_question : (q p : Question) → IsWritable q → IsWritable p → is_of q p ≡ true → p ≡ q
unfolding is_about
one_question q p h k e =
    let signed = and_parts (bytes_eq p.signed q.signed) _ e in
    let bits = and_parts (same_bits p.bits q.bits) _ signed.1 in
    let rest = and_parts (same_algorithm p.algorithm q.algorithm) (same_key p.key q.key) bits.1 in
    ap (λ x. question_of x p.algorithm p.signed p.bits) (one_key p.key q.key k.key h.key rest.1)
    ∙ ap (λ x. question_of q.key x p.signed p.bits) (one_algorithm p.algorithm q.algorithm k.algorithm h.algorithm rest.0)
    ∙ ap (λ x. question_of q.key q.algorithm x p.bits) ((bytes_decides p.signed q.signed).0 signed.0)
    ∙ ap (question_of q.key q.algorithm q.signed) (one_bits p.bits q.bits bits.0)

question_itself : (q : Question) → is_of q q ≡ true
unfolding is_about
question_itself q =
    and_from _ _ ((bytes_decides q.signed q.signed).1 refl)
    (and_from _ _ (bits_itself q.bits)
    (and_from _ _ (algorithm_itself q.algorithm) (and_from _ _ (algorithm_itself (key_algorithm q.key)) (bits_itself (key_bits q.key)))))

-- Lists of lines.

same_tests : (a b : Bool) → (a ≡ true → b ≡ true) → (b ≡ true → a ≡ true) → a ≡ b
same_tests true true f g = refl
same_tests true false f g = sym (f refl)
same_tests false true f g = g refl
same_tests false false f g = refl

module _ (answers : Answers) where
  abbrev says : QuestionLine → Bool
  says l = answer_on answers l.question

  -- The questions of these lines that the verifier accepts.
  abbrev pub yes_to : List QuestionLine → List Question
  yes_to lines = questions_of_lines (filter says lines)

  -- The line is among these lines.
  abbrev Among : QuestionLine → List QuestionLine → Type 0
  Among l [] = ⊥
  Among l (m ∷ more) = (m ≡ l) ⊎ Among l more

  first_yes : (q : Question) (b : Bool) (m : QuestionLine) (more : List QuestionLine) → b ≡ true → is_of q m.question ≡ true
      → list_any (is_of q) (questions_of_lines (cond b (m ∷ more) more)) ≡ true
  first_yes q true m more e is = ap (λ x. x || list_any (is_of q) (questions_of_lines more)) is
  first_yes q false m more e is = absurd cc

  later_yes : (q : Question) (b : Bool) (m : QuestionLine) (more : List QuestionLine) → list_any (is_of q) (questions_of_lines more) ≡ true
      → list_any (is_of q) (questions_of_lines (cond b (m ∷ more) more)) ≡ true
  later_yes q true m more e = or_right (is_of q m.question) (list_any (is_of q) (questions_of_lines more)) e
    where
      or_right : (x y : Bool) → y ≡ true → (x || y) ≡ true
      or_right true y h = refl
      or_right false y h = h
  later_yes q false m more e = e

  -- An accepted question is in the list.
  answered : (l : QuestionLine) (lines : List QuestionLine) → Among l lines → says l ≡ true → list_any (is_of l.question) (yes_to lines) ≡ true
  answered l [] among right = absurd among
  answered l (m ∷ more) among right =
      elim among [
        | inl is ↦
            let same : says m ≡ true = ap says is ∙ right in
            first_yes l.question (says m) m (filter says more) same (ap (λ (x : QuestionLine). is_of l.question x.question) is ∙ question_itself l.question)
        | inr later ↦ later_yes l.question (says m) m (filter says more) (answered l more later right)
      ]

  of_first : (q : Question) (m : QuestionLine) (more : List QuestionLine) → IsWritable q → IsWritable m.question
      → (list_any (is_of q) (yes_to more) ≡ true → answer_on answers q ≡ true) → (b : Bool) → says m ≡ b
      → list_any (is_of q) (questions_of_lines (cond b (m ∷ filter says more) (filter says more))) ≡ true → answer_on answers q ≡ true
  of_first q m more h k others true right any =
      elim (or_cases (is_of q m.question) (list_any (is_of q) (yes_to more)) any) [
        | inl is ↦ sym (ap (answer_on answers) (one_question q m.question h k is)) ∙ right
        | inr later ↦ others later
      ]
  of_first q m more h k others false wrong any = others any

  -- A question that matches the list is accepted.
  was_yes : (q : Question) (lines : List QuestionLine) → IsWritable q → AllByRecursion (λ l. IsWritable l.question) lines
      → list_any (is_of q) (yes_to lines) ≡ true → answer_on answers q ≡ true
  was_yes q [] h each e = absurd cc
  was_yes q (m ∷ more) h each e = of_first q m more h each.0 (was_yes q more h each.1) (says m) refl e

  each_among : (lines : List QuestionLine) → AllByRecursion (λ l. Among l lines) lines
  each_among [] = tt
  each_among (m ∷ more) = (inl refl, wider more (each_among more))
    where
      wider : (some : List QuestionLine) → AllByRecursion (λ l. Among l more) some → AllByRecursion (λ l. Among l (m ∷ more)) some
      wider [] h = tt
      wider (x ∷ xs) h = (inr h.0, wider xs h.1)

  -- The list gives the verifier's answer to each line.
  pub listed_alike : (lines : List QuestionLine) → AllByRecursion (λ l. IsWritable l.question) lines
      → AllByRecursion (λ l. answer_on answers l.question ≡ answer_on (only_yes_to (yes_to lines)) l.question) lines
  listed_alike lines each = go lines each (each_among lines)
    where
      go : (some : List QuestionLine) → AllByRecursion (λ l. IsWritable l.question) some → AllByRecursion (λ l. Among l lines) some
          → AllByRecursion (λ l. answer_on answers l.question ≡ answer_on (only_yes_to (yes_to lines)) l.question) some
      go [] h k = tt
      go (l ∷ more) h k =
          (same_tests (says l) (list_any (is_of l.question) (yes_to lines)) (answered l lines k.0) (was_yes l.question lines h.0 each), go more h.1 k.1)
