-- The lines of questions are parsed as exactly these questions.
use Rattle.std.proofs.Common.{◌≡◌, ℕ, ◌+◌, ◌<◌, Bool, true, false, cond, List, [], ◌∷◌, ◌++◌, length, codes, decimal, None, Some, Result, Ok, Err, refl, ap, sym, subst, ◌∙◌, append_assoc, arith}
use Rattle.std.specs.Prelude.{◌==◌, Contains}
use Rattle.std.specs.List.{AllByRecursion}
use Rattle.std.proofs.lemmas.Bool.{ne_eqb}
use Rattle.std.proofs.lemmas.List.Elements.{All-contains, All-from_recursion}
use Rattle.std.proofs.lemmas.List.Splits.{slice_split_at, slice_split_none}
use Rattle.cert_desk_checking.specs.Der.Octets.{IsOctets}
use Rattle.cert_desk_checking.specs.Der.Shapes.{Shape, Value, IsValid, octets_of}
use Rattle.cert_desk_checking.specs.Der.Spelling.{are_enough, is_apart}
use Rattle.cert_desk_checking.proofs.Der.OneEncoding.{whole_again, bytes_are, octets_below}
use Rattle.cert_desk_checking.proofs.Der.BoundLaws.{both_all}
use Rattle.hex.specs.Hex.{encode_lower}
use Rattle.hex.proofs.HexLemmas.{decode_of-encode_lower}
use Rattle.cert_desk_checking.specs.Oid.Bound.{Bound}
use Rattle.cert_desk_checking.specs.DeskRules.declared.checked.Verdict.{Verdict}
use Rattle.cert_desk_checking.specs.AnchorFiles.{IsAnchorFile}
use Rattle.cert_desk_checking.specs.DeskRules.Answers.{only_yes_to}
use Rattle.cert_desk_checking.specs.CertCertificates.Certificates.{PlainCertificate}
use Rattle.cert_desk_checking.specs.DeskBundle.Chains.{Chain}
use Rattle.cert_desk_checking.specs.DeskRules.Judging.{Answers, PlainAnchor, Terms}
use Rattle.cert_desk_checking.specs.CertParts.Grammar.{algorithm_identifier, bit_string, public_key_info}
use Rattle.cert_desk_checking.specs.QuestionLines.{QuestionLine, anchor_word, chain_lines, line_octets, lines_octets, questions_of_lines, spaced, hex_encoding}
use Rattle.cert_desk_checking.specs.DeskRules.Questions.{Question, answer_on, under}
use Rattle.cert_desk_checking.specs.DeskRules.Verdicts.{Asks, IsVerdict}
use Rattle.cert_desk_checking.proofs.AskedValues.{IsWritable, file_keys, lines_writable}
use Rattle.cert_desk_checking.proofs.ListedQuestions.{judged_by_lines}
use Rattle.cert_desk_checking.proofs.DeskBundle.OneChain.{one_chain}
use Rattle.cert_desk_checking.proofs.SameQuestions.{listed_alike}
use Rattle.cert_desk_answers.specs.declared.line_fault.LineFault.{LineFault}
use Rattle.cert_desk_answers.specs.declared.line_fault.LineFault.TheVariants as faults
use Rattle.cert_desk_answers.specs.AnswerLines.{answers_from, file_says, is_anchor, is_number, is_skipped, line_says, octets_in, octets_or, parts, question_in, said, value_of, value_or, with_line, words_say}
use Rattle.cert_desk_answers.specs.Laws.{accepted_lines}
use Rattle.cert_desk_answers.proofs.LineWords.{Above, IsWord, above_lower, anchor_is, anchor_is_word, decimal_number, decimal_some, decimal_word, hex_word, none_is}

-- Base 16 is decoded to the bytes that it encodes.

octets_back : (fault : LineFault) (w : List ℕ) → IsOctets w → octets_in fault (encode_lower w) ≡ Ok w
octets_back fault w h = ap (octets_or fault) (decode_of-encode_lower w (bytes_are w h))

value_back : (s : Shape) (fault text_fault : LineFault) (v : Value s) → is_apart s ≡ true → are_enough s 64 ≡ true → IsValid s v → value_of s fault (octets_in text_fault (hex_encoding s v)) ≡ Ok v
value_back s fault text_fault v apart enough h =
    ap (value_of s fault) (octets_back text_fault (octets_of s v) (octets_below s v h))
    ∙ ap (value_or fault) (whole_again s v (octets_of s v) apart enough (record { valid = h; octets = refl }))

question_back : (q : Question) → IsWritable q
    → question_in (hex_encoding (public_key_info Bound) q.key) (hex_encoding (algorithm_identifier Bound) q.algorithm) (encode_lower q.signed) (hex_encoding bit_string q.bits) ≡ Ok q
question_back q h =
    let key = value_back (public_key_info Bound) faults.NoKey faults.KeyNotBase16 q.key refl refl h.key in
    let algorithm = value_back (algorithm_identifier Bound) faults.NoAlgorithm faults.AlgorithmNotBase16 q.algorithm refl refl h.algorithm in
    let bits = value_back bit_string faults.NoBits faults.BitsNotBase16 q.bits refl refl h.bits in
    rw (key, algorithm, octets_back faults.SignedNotBase16 q.signed h.signed, bits) refl

-- Six words that are those of an answer.
say : (p a k m s b : List ℕ) (q : Question) → is_number p ≡ true → is_anchor a ≡ true → question_in k m s b ≡ Ok q → words_say (p ∷ a ∷ k ∷ m ∷ s ∷ b ∷ []) ≡ Ok q
say p a k m s b q hp ha hq =
    ap (λ x. cond x (cond (is_anchor a) (question_in k m s b) (Err faults.NoAnchor)) (Err faults.NoPlace)) hp
    ∙ ap (λ x. cond x (question_in k m s b) (Err faults.NoAnchor)) ha ∙ hq

-- The line without its LF.

abbrev words : List ℕ → List ℕ → List ℕ → List ℕ → List ℕ → List ℕ → List ℕ
words p a k m s b = spaced p (spaced a (spaced k (spaced m (spaced s b))))

first_part : (w rest : List ℕ) → IsWord w → parts 32 (spaced w rest) ≡ w ∷ parts 32 rest
first_part w rest h = slice_split_at (λ octet. octet == 32) w 32 rest (none_is 44 32 w (omega arith) h) refl

six_parts : (p a k m s b : List ℕ) → IsWord p → IsWord a → IsWord k → IsWord m → IsWord s → IsWord b → parts 32 (words p a k m s b) ≡ p ∷ a ∷ k ∷ m ∷ s ∷ b ∷ []
six_parts p a k m s b hp ha hk hm hs hb =
    rw (first_part p _ hp, first_part a _ ha, first_part k _ hk, first_part m _ hm, first_part s b hs, slice_split_none (λ octet. octet == 32) b (none_is 44 32 b (omega arith) hb)) refl

ended : (w rest : List ℕ) → spaced w (rest ++ codes "\n") ≡ spaced w rest ++ codes "\n"
ended w rest = sym (append_assoc w (codes " " ++ rest) (codes "\n"))

words_ended : (p a k m s b : List ℕ) → spaced p (spaced a (spaced k (spaced m (spaced s (b ++ codes "\n"))))) ≡ words p a k m s b ++ codes "\n"
words_ended p a k m s b = rw (ended, ended, ended, ended, ended) refl

no_end : (w rest : List ℕ) → IsWord w → Above 31 rest → Above 31 (spaced w rest)
no_end w rest h r = both_all (λ x. 31 < x) w (32 ∷ rest) (above_lower 44 31 w (omega arith) h) (omega arith, r)

not_skipped : (w rest : List ℕ) → IsWord w → 0 < length w → is_skipped (w ++ rest) ≡ false
not_skipped [] rest h some = absurd (omega arith)
not_skipped (x ∷ w) rest h some = let first = h.0 in ne_eqb x 35 (λ e. omega arith)

-- The text of a line without its LF.
abbrev body : QuestionLine → List ℕ
body l =
    words (decimal l.place) (anchor_word l.anchor) (hex_encoding (public_key_info Bound) l.question.key) (hex_encoding (algorithm_identifier Bound) l.question.algorithm)
    (encode_lower l.question.signed) (hex_encoding bit_string l.question.bits)

module _ (l : QuestionLine) (h : IsWritable l.question) where
  key_word : IsWord (hex_encoding (public_key_info Bound) l.question.key)
  key_word = hex_word _ (octets_below (public_key_info Bound) l.question.key h.key)

  algorithm_word : IsWord (hex_encoding (algorithm_identifier Bound) l.question.algorithm)
  algorithm_word = hex_word _ (octets_below (algorithm_identifier Bound) l.question.algorithm h.algorithm)

  signed_word : IsWord (encode_lower l.question.signed)
  signed_word = hex_word l.question.signed h.signed

  bits_word : IsWord (hex_encoding bit_string l.question.bits)
  bits_word = hex_word _ (octets_below bit_string l.question.bits h.bits)

  line_said : line_says (body l) ≡ Ok (Some l.question)
  unfolding line_says
  line_said =
      ap (λ b. cond b (Ok None) (said (words_say (parts 32 (body l))))) (not_skipped (decimal l.place) _ (decimal_word l.place) (decimal_some l.place))
      ∙ ap (λ ws. said (words_say ws)) (six_parts _ _ _ _ _ _ (decimal_word l.place) (anchor_is_word l.anchor) key_word algorithm_word signed_word bits_word)
      ∙ ap said (say (decimal l.place) (anchor_word l.anchor) _ _ _ _ l.question (decimal_number l.place) (anchor_is l.anchor) (question_back l.question h))

  body_text : Above 31 (body l)
  body_text =
      no_end (decimal l.place) _ (decimal_word l.place) (no_end (anchor_word l.anchor) _ (anchor_is_word l.anchor) (no_end _ _ key_word (no_end _ _ algorithm_word
      (no_end _ _ signed_word (above_lower 44 31 _ (omega arith) bits_word)))))

  line_parts : (rest : List ℕ) → parts 10 (line_octets l ++ rest) ≡ body l ∷ parts 10 rest
  line_parts rest =
      ap (λ w. parts 10 (w ++ rest)) (words_ended (decimal l.place) (anchor_word l.anchor) _ _ _ _)
      ∙ ap (parts 10) (append_assoc (body l) (codes "\n") rest)
      ∙ slice_split_at (λ octet. octet == 10) (body l) 10 rest (none_is 31 10 (body l) (omega arith) body_text) refl

-- Files of lines.

lines_read : (lines : List QuestionLine) (before : ℕ) → AllByRecursion (λ l. IsWritable l.question) lines → answers_from before (parts 10 (lines_octets lines)) ≡ Ok (questions_of_lines lines)
unfolding line_says
lines_read [] before each = refl
lines_read (l ∷ more) before each =
    ap (answers_from before) (line_parts l each.0 (lines_octets more))
    ∙ ap (λ says. with_line (before + 1) says (answers_from (before + 1) (parts 10 (lines_octets more)))) (line_said l each.0)
    ∙ ap (with_line (before + 1) (Ok (Some l.question))) (lines_read more (before + 1) each.1)

-- Lines that are among writable lines are writable.
each_contained : (all kept : List QuestionLine) → AllByRecursion (λ l. IsWritable l.question) all → AllByRecursion (Contains all) kept → AllByRecursion (λ l. IsWritable l.question) kept
each_contained all [] each those = tt
each_contained all (l ∷ more) each those =
    (All-contains (λ l. IsWritable l.question) all l (All-from_recursion (λ l. IsWritable l.question) all each) those.0, each_contained all more each those.1)

pub kept_lines_are_read : (file : List ℕ) (anchors : List PlainAnchor) (limit : ℕ) (cs : List PlainCertificate) (stream : List ℕ) (kept : List QuestionLine)
    → IsAnchorFile file anchors → Chain Bound limit cs stream → AllByRecursion (Contains (chain_lines anchors cs stream)) kept
    → file_says (lines_octets kept) ≡ Ok (questions_of_lines kept)
kept_lines_are_read file anchors limit cs stream kept is chain those =
    lines_read kept 0 (each_contained (chain_lines anchors cs stream) kept (lines_writable anchors limit cs stream (file_keys file anchors is) chain) those)

-- The accepted ones of writable lines are writable.
accepted_writable : (f : Answers) (lines : List QuestionLine) → AllByRecursion (λ l. IsWritable l.question) lines → AllByRecursion (λ l. IsWritable l.question) (accepted_lines f lines)
accepted_writable f [] each = tt
accepted_writable f (l ∷ more) each = by (answer_on f l.question) (accepted_writable f more each.1)
  where
    by : (b : Bool) → AllByRecursion (λ m. IsWritable m.question) (accepted_lines f more) → AllByRecursion (λ m. IsWritable m.question) (cond b (l ∷ accepted_lines f more) (accepted_lines f more))
    by true others = (each.0, others)
    by false others = others

abbrev or_none : Result (List Question) (ℕ × LineFault) → List Question
or_none (Ok qs) = qs
or_none (Err first) = []

pub accepted_lines_judge_alike : (file : List ℕ) (t : Terms) (limit : ℕ) (cs : List PlainCertificate) (stream : List ℕ) (qs : List Question) (verdict : Verdict) (n : ℕ)
    → t.bound ≡ Bound → IsAnchorFile file t.anchors → Chain Bound limit cs stream → file_says (lines_octets (accepted_lines t.answers (chain_lines t.anchors cs stream))) ≡ Ok qs
    → (IsVerdict t limit stream verdict → IsVerdict (under t (only_yes_to qs)) limit stream verdict) × (Asks t limit stream n → Asks (under t (only_yes_to qs)) limit stream n)
accepted_lines_judge_alike file t limit cs stream qs verdict n bound is chain says =
    let each = lines_writable t.anchors limit cs stream (file_keys file t.anchors is) chain in
    let lines = chain_lines t.anchors cs stream in
    let read = lines_read (accepted_lines t.answers lines) 0 (accepted_writable t.answers lines each) in
    let same : questions_of_lines (accepted_lines t.answers lines) ≡ qs = ap or_none (sym read ∙ says) in
    judged_by_lines t (only_yes_to qs) limit stream verdict n bound (λ ds other.
    let one : ds ≡ cs = one_chain Bound limit ds cs stream (subst (λ b. Chain b limit ds stream) bound other) chain in
    subst (λ ks. AllByRecursion (λ l. answer_on t.answers l.question ≡ answer_on (only_yes_to qs) l.question) (chain_lines t.anchors ks stream)) (sym one)
    (subst (λ k. AllByRecursion (λ l. answer_on t.answers l.question ≡ answer_on (only_yes_to k) l.question) lines) same (listed_alike t.answers lines each)))
