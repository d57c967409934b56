-- Lines are decoded to the values that the grammar gives them.
use Rattle.std.proofs.Common.{◌≡◌, ℕ, ◌+◌, Bool, true, false, ◌||◌, if◌then◌else◌, is_some, unwrap_or, List, [], ◌∷◌, ◌++◌, bytes_eq, Option, Some, None, Result, Ok, Err, refl, ap, sym, subst, ◌∙◌, append_assoc, append-nil}
use Rattle.std.proofs.lemmas.Slice.Eq.{bytes_eq-Decides}
use Rattle.base64.specs.Engines.{standard}
use Rattle.base64.specs.GeneralPurpose.{decode_of}
use Rattle.base64.specs.declared.decode.DecodeError.{DecodeError}
use Rattle.cert_tool_pem.specs.declared.pem_fault.PemFault.{PemFault}
use Rattle.cert_tool_pem.specs.declared.pem_fault.PemFault.TheVariants as faults
use Rattle.cert_tool_pem.specs.declared.wanted.Wanted.{Wanted}
use Rattle.cert_tool_pem.specs.Pem.{Next, PlainReading, Values, add_text, begin_in, begun_by, decoded, end_in, ended_by, is_boundary, octets_or, read_on, step_by, trimmed, wants, with_block}
use Rattle.cert_tool_pem.specs.Grammar.{AreBlocks, AreTexts, BlocksAreRead, IsBlock, block_of, joined, no_lines, other_line}

abbrev Lines : Type 0
Lines = List (List ℕ)

-- The state outside of a block, and the state inside of one.
abbrev outside : Lines → ℕ → PlainReading
outside values start = record { values = values; label = None; start = start; text = [] }

abbrev inside : Lines → List ℕ → ℕ → List ℕ → PlainReading
inside values label start base64 = record { values = values; label = Some label; start = start; text = base64 }

abbrev Read : Type 0
Read = Result (List ℕ) (ℕ × PemFault)

same : {A E : Type 0} (a b : A) → ◌≡◌ {A = Result A E} (Ok a) (Ok b) → a ≡ b
same {A} {E} a b e = ap got e
  where
    got : Result A E → A
    got (Ok x) = x
    got (Err fault) = a

-- Base64 that can be decoded.

ok_decoded : (base64 octets : List ℕ) (start : ℕ) → decode_of standard base64 ≡ Ok octets → decoded base64 start ≡ Ok octets
unfolding decoded
ok_decoded base64 octets start e = ap (octets_or start) e

decoded_by : (octets : List ℕ) (start : ℕ) (r : Result (List ℕ) DecodeError) → octets_or start r ≡ Ok octets → r ≡ Ok octets
decoded_by octets start (Ok x) e = ap (λ (y : List ℕ). Ok y) (same x octets e)
decoded_by octets start (Err error) e = absurd cc

decoded_ok : (base64 octets : List ℕ) (start : ℕ) → decoded base64 start ≡ Ok octets → decode_of standard base64 ≡ Ok octets
unfolding decoded
decoded_ok base64 octets start e = decoded_by octets start (decode_of standard base64) e

-- Lines that aren't boundaries.
no_boundary : (b e : Option (List ℕ)) → is_some b || is_some e ≡ false → (b ≡ None) × (e ≡ None)
no_boundary None None h = (refl, refl)
no_boundary None (Some x) h = absurd cc
no_boundary (Some x) e h = absurd cc

boundary_none : (line : List ℕ) → begun_by line ≡ None → ended_by line ≡ None → is_boundary line ≡ false
boundary_none line p q = rw (p, q) refl

-- A line begins a block, ends one, or does neither.
if_true : {A : Type 0} (b : Bool) (x y : A) → b ≡ true → (if b then x else y) ≡ x
if_true true x y e = refl
if_true false x y e = absurd cc

if_false : {A : Type 0} (b : Bool) (x y : A) → b ≡ false → (if b then x else y) ≡ y
if_false false x y e = refl
if_false true x y e = absurd cc

began : (wanted : Wanted) (n : ℕ) (label : List ℕ) (before : Lines) (start : ℕ) → wants wanted label ≡ true → begin_in wanted n label (outside before start) None ≡ Ok (inside before label n [])
began wanted n label before start w = if_true (wants wanted label) (Ok (inside before label n [])) (Err (n, faults.OtherKind)) w

refused : (wanted : Wanted) (n : ℕ) (label : List ℕ) (before : Lines) (start : ℕ) → wants wanted label ≡ false → begin_in wanted n label (outside before start) None ≡ Err (n, faults.OtherKind)
refused wanted n label before start w = if_false (wants wanted label) (Ok (inside before label n [])) (Err (n, faults.OtherKind)) w

ended_by_other : (n : ℕ) (other label base64 : List ℕ) (before : Lines) (start : ℕ) → bytes_eq label other ≡ false → end_in n other (inside before label start base64) (Some label) ≡ Err (n, faults.OtherEnd)
ended_by_other n other label base64 before start w = if_false (bytes_eq label other) (with_block (decoded base64 start) (inside before label start base64)) (Err (n, faults.OtherEnd)) w

ended_by_same : (n : ℕ) (other label base64 : List ℕ) (before : Lines) (start : ℕ) (v : Read) → bytes_eq label other ≡ true → decoded base64 start ≡ v → end_in n other (inside before label start base64) (Some label) ≡ with_block v (inside before label start base64)
ended_by_same n other label base64 before start v w d =
    if_true (bytes_eq label other) (with_block (decoded base64 start) (inside before label start base64)) (Err (n, faults.OtherEnd)) w ∙ ap (λ r. with_block r (inside before label start base64)) d

by_begin : (wanted : Wanted) (n : ℕ) (line label : List ℕ) (r : PlainReading) (b d : Option (List ℕ)) → b ≡ Some label → step_by wanted n line r b d ≡ begin_in wanted n label r r.label
by_begin wanted n line label r (Some other) d p = ap (λ (x : List ℕ). begin_in wanted n x r r.label) (ap (λ o. unwrap_or o label) p)
by_begin wanted n line label r None d p = absurd cc

by_end : (wanted : Wanted) (n : ℕ) (line label : List ℕ) (r : PlainReading) (b d : Option (List ℕ)) → b ≡ None → d ≡ Some label → step_by wanted n line r b d ≡ end_in n label r r.label
by_end wanted n line label r None (Some other) p q = ap (λ (x : List ℕ). end_in n x r r.label) (ap (λ o. unwrap_or o label) q)
by_end wanted n line label r None None p q = absurd cc
by_end wanted n line label r (Some other) d p q = absurd cc

by_text : (wanted : Wanted) (n : ℕ) (line : List ℕ) (r : PlainReading) (b d : Option (List ℕ)) → b ≡ None → d ≡ None → step_by wanted n line r b d ≡ add_text line r
by_text wanted n line r None None p q = refl
by_text wanted n line r None (Some other) p q = absurd cc
by_text wanted n line r (Some other) d p q = absurd cc

-- After an error, nothing more is decoded.
none_read : (n : ℕ) (wanted : Wanted) (lines all : Lines) (fault : ℕ × PemFault) (next : Next) → next ≡ Err fault → read_on wanted n next lines ≡ Ok all → ⊥
none_read n wanted lines all fault next e is = never (sym (ap (λ s. read_on wanted n s lines) e) ∙ is)
  where
    never : ◌≡◌ {A = Values} (Err fault) (Ok all) → ⊥
    never x = absurd cc

-- The remaining lines of a block, its end, and the lines after it.
record Rest (wanted : Wanted) (lines before : Lines) (label base64 : List ℕ) (all : Lines) : Type 0 where
  body : Lines
  last : List ℕ
  more : Lines
  value : List ℕ
  others : Lines
  in_turn : lines ≡ body ++ last ∷ more
  texts : AreTexts body
  encodes : decode_of standard (base64 ++ joined body) ≡ Ok value
  ends : (begun_by last ≡ None) × (ended_by last ≡ Some label)
  whole : all ≡ before ++ value ∷ others
  blocks : AreBlocks wanted more others

-- The values that the grammar gives lines, outside of a block and inside of one.
abbrev Outside : Wanted → Lines → Type 0
Outside wanted lines =
    (n : ℕ) (before all : Lines) (start : ℕ) → read_on wanted n (Ok (outside before start)) lines ≡ Ok all
    → (others : Lines) × (all ≡ before ++ others) × AreBlocks wanted lines others

abbrev Inside : Wanted → Lines → Type 0
Inside wanted lines =
    (n : ℕ) (before all : Lines) (label : List ℕ) (start : ℕ) (base64 : List ℕ) → read_on wanted n (Ok (inside before label start base64)) lines ≡ Ok all
    → Rest wanted lines before label base64 all

module _ (wanted : Wanted) (line : List ℕ) (lines : Lines) (out : Outside wanted lines) (within : Inside wanted lines) where
  begun : (n : ℕ) (before all : Lines) (start : ℕ) (label : List ℕ) (w : Bool) → begun_by line ≡ Some label → wants wanted label ≡ w
      → read_on wanted n (begin_in wanted n label (outside before start) None) lines ≡ Ok all
      → (others : Lines) × (all ≡ before ++ others) × AreBlocks wanted (line ∷ lines) others
  begun n before all start label true p w e =
      let r : Rest wanted lines before label [] all = within n before all label n [] (sym (ap (λ s. read_on wanted n s lines) (began wanted n label before start w)) ∙ e) in
      let first : IsBlock wanted (line ∷ (r.body ++ r.last ∷ [])) r.value =
      record { label = label; first = line; body = r.body; last = r.last; in_turn = refl; begins = p; is_wanted = w; texts = r.texts; encodes = r.encodes; ends = r.ends } in
      let here : line ∷ lines ≡ (line ∷ (r.body ++ r.last ∷ [])) ++ r.more = ap (λ (x : Lines). line ∷ x) (r.in_turn ∙ sym (append_assoc r.body (r.last ∷ []) r.more)) in
      (r.value ∷ r.others, r.whole, subst (λ (x : Lines). AreBlocks wanted x (r.value ∷ r.others)) (sym here) (block_of (line ∷ (r.body ++ r.last ∷ [])) r.more r.value r.others first r.blocks))
  begun n before all start label false p w e = absurd (none_read n wanted lines all (n, faults.OtherKind) _ (refused wanted n label before start w) e)

  outside_by : (n : ℕ) (before all : Lines) (start : ℕ) (b d : Option (List ℕ)) → begun_by line ≡ b → ended_by line ≡ d
      → read_on wanted n (step_by wanted n line (outside before start) b d) lines ≡ Ok all
      → (others : Lines) × (all ≡ before ++ others) × AreBlocks wanted (line ∷ lines) others
  outside_by n before all start (Some label) d p q e = begun n before all start label (wants wanted label) p refl e
  outside_by n before all start None (Some label) p q e = absurd (none_read n wanted lines all (n, faults.NoBegin) _ refl e)
  outside_by n before all start None None p q e =
      let rest = out n before all start e in
      (rest.0, rest.1, other_line line lines rest.0 (boundary_none line p q) rest.2)

  from_outside : Outside wanted (line ∷ lines)
  from_outside n before all start e = outside_by (n + 1) before all start (begun_by line) (ended_by line) refl refl e

  same_label : (n : ℕ) (before all : Lines) (label : List ℕ) (start : ℕ) (base64 other : List ℕ) (w : Bool) (v : Read) → begun_by line ≡ None → ended_by line ≡ Some other
      → bytes_eq label other ≡ w → decoded base64 start ≡ v
      → read_on wanted n (end_in n other (inside before label start base64) (Some label)) lines ≡ Ok all
      → Rest wanted (line ∷ lines) before label base64 all
  same_label n before all label start base64 other true (Ok value) p q w v e =
      let rest = out n (before ++ value ∷ []) all start (sym (ap (λ s. read_on wanted n s lines) (ended_by_same n other label base64 before start (Ok value) w v)) ∙ e) in
      record {
        body = [];
        last = line;
        more = lines;
        value = value;
        others = rest.0;
        in_turn = refl;
        texts = tt;
        encodes = subst (λ (x : List ℕ). decode_of standard x ≡ Ok value) (sym (append-nil base64)) (decoded_ok base64 value start v);
        ends = (p, q ∙ ap (λ (x : List ℕ). Some x) (sym ((bytes_eq-Decides label other).0 w)));
        whole = rest.1 ∙ append_assoc before (value ∷ []) rest.0;
        blocks = rest.2;
      }
  same_label n before all label start base64 other true (Err fault) p q w v e = absurd (none_read n wanted lines all fault _ (ended_by_same n other label base64 before start (Err fault) w v) e)
  same_label n before all label start base64 other false v p q w u e = absurd (none_read n wanted lines all (n, faults.OtherEnd) _ (ended_by_other n other label base64 before start w) e)

  inside_by : (n : ℕ) (before all : Lines) (label : List ℕ) (start : ℕ) (base64 : List ℕ) (b d : Option (List ℕ)) → begun_by line ≡ b → ended_by line ≡ d
      → read_on wanted n (step_by wanted n line (inside before label start base64) b d) lines ≡ Ok all
      → Rest wanted (line ∷ lines) before label base64 all
  inside_by n before all label start base64 (Some other) d p q e = absurd (none_read n wanted lines all (start, faults.NoEnd) _ refl e)
  inside_by n before all label start base64 None (Some other) p q e = same_label n before all label start base64 other (bytes_eq label other) (decoded base64 start) p q refl refl e
  inside_by n before all label start base64 None None p q e =
      let r : Rest wanted lines before label (base64 ++ trimmed line) all = within n before all label start (base64 ++ trimmed line) e in
      record {
        body = line ∷ r.body;
        last = r.last;
        more = r.more;
        value = r.value;
        others = r.others;
        in_turn = ap (λ (x : Lines). line ∷ x) r.in_turn;
        texts = (boundary_none line p q, r.texts);
        encodes = subst (λ (x : List ℕ). decode_of standard x ≡ Ok r.value) (append_assoc base64 (trimmed line) (joined r.body)) r.encodes;
        ends = r.ends;
        whole = r.whole;
        blocks = r.blocks;
      }

  from_inside : Inside wanted (line ∷ lines)
  from_inside n before all label start base64 e = inside_by (n + 1) before all label start base64 (begun_by line) (ended_by line) refl refl e

-- The lines have ended.
end_outside : (wanted : Wanted) → Outside wanted []
end_outside wanted n before all start e = ([], sym (same before all e) ∙ sym (append-nil before), no_lines)

end_inside : (wanted : Wanted) → Inside wanted []
end_inside wanted n before all label start base64 e = absurd cc

from_lines : (wanted : Wanted) (lines : Lines) → Outside wanted lines × Inside wanted lines
from_lines wanted [] = (end_outside wanted, end_inside wanted)
from_lines wanted (line ∷ lines) =
    let rest = from_lines wanted lines in
    (from_outside wanted line lines rest.0 rest.1, from_inside wanted line lines rest.0 rest.1)

-- Lines of base64 are added to the text of the block.
texts_added : (wanted : Wanted) (body rest before : Lines) (label : List ℕ) (start : ℕ) (base64 : List ℕ) (read : Values) → AreTexts body
    → ((n : ℕ) → read_on wanted n (Ok (inside before label start (base64 ++ joined body))) rest ≡ read)
    → (n : ℕ) → read_on wanted n (Ok (inside before label start base64)) (body ++ rest) ≡ read
texts_added wanted [] rest before label start base64 read texts h n =
    subst (λ (x : List ℕ). read_on wanted n (Ok (inside before label start x)) rest ≡ read) (append-nil base64) (h n)
texts_added wanted (line ∷ body) rest before label start base64 read texts h n =
    let bare = no_boundary (begun_by line) (ended_by line) texts.0 in
    ap (λ s. read_on wanted (n + 1) s (body ++ rest)) (by_text wanted (n + 1) line (inside before label start base64) (begun_by line) (ended_by line) bare.0 bare.1)
    ∙ texts_added wanted body rest before label start (base64 ++ trimmed line) read texts.1
    (λ m. subst (λ (x : List ℕ). read_on wanted m (Ok (inside before label start x)) rest ≡ read) (sym (append_assoc base64 (trimmed line) (joined body))) (h m)) (n + 1)

-- After its END line, a block has its value.
block_ended : (wanted : Wanted) (last label base64 value : List ℕ) (more before : Lines) (start : ℕ) (read : Values) → (begun_by last ≡ None) × (ended_by last ≡ Some label) → decode_of standard base64 ≡ Ok value
    → ((n : ℕ) → read_on wanted n (Ok (outside (before ++ value ∷ []) start)) more ≡ read) → (n : ℕ) → read_on wanted n (Ok (inside before label start base64)) (last ∷ more) ≡ read
block_ended wanted last label base64 value more before start read ends encodes h n =
    let same : bytes_eq label label ≡ true = (bytes_eq-Decides label label).1 refl in
    ap (λ s. read_on wanted (n + 1) s more)
    (by_end wanted (n + 1) last label (inside before label start base64) (begun_by last) (ended_by last) ends.0 ends.1
    ∙ ended_by_same (n + 1) label label base64 before start (Ok value) same (ok_decoded base64 value start encodes))
    ∙ h (n + 1)

to_outside : (wanted : Wanted) (lines others : Lines) → AreBlocks wanted lines others → (n : ℕ) (before : Lines) (start : ℕ) → read_on wanted n (Ok (outside before start)) lines ≡ Ok (before ++ others)
to_outside wanted _ _ no_lines n before start = ap (λ (x : Lines). Ok x) (sym (append-nil before))
to_outside wanted _ _ (other_line line lines others is blocks) n before start =
    let bare = no_boundary (begun_by line) (ended_by line) is in
    ap (λ s. read_on wanted (n + 1) s lines) (by_text wanted (n + 1) line (outside before start) (begun_by line) (ended_by line) bare.0 bare.1) ∙ to_outside wanted lines others blocks (n + 1) before start
to_outside wanted _ _ (block_of lines more value others is blocks) n before start =
    let b : IsBlock wanted lines value = is in
    let here : lines ++ more ≡ b.first ∷ (b.body ++ b.last ∷ more) = ap (λ (x : Lines). x ++ more) b.in_turn ∙ ap (λ (x : Lines). b.first ∷ x) (append_assoc b.body (b.last ∷ []) more) in
    let all : (before ++ value ∷ []) ++ others ≡ before ++ value ∷ others = append_assoc before (value ∷ []) others in
    let read : Values = Ok (before ++ value ∷ others) in
    let behind : (m : ℕ) → read_on wanted m (Ok (outside (before ++ value ∷ []) (n + 1))) more ≡ read =
    λ m. to_outside wanted more others blocks m (before ++ value ∷ []) (n + 1) ∙ ap (λ (x : Lines). Ok x) all in
    let within : (m : ℕ) → read_on wanted m (Ok (inside before b.label (n + 1) (joined b.body))) (b.last ∷ more) ≡ read =
    block_ended wanted b.last b.label (joined b.body) value more before (n + 1) read b.ends b.encodes behind in
    ap (read_on wanted n (Ok (outside before start))) here
    ∙ ap (λ s. read_on wanted (n + 1) s (b.body ++ b.last ∷ more))
    (by_begin wanted (n + 1) b.first b.label (outside before start) (begun_by b.first) (ended_by b.first) b.begins ∙ began wanted (n + 1) b.label before start b.is_wanted)
    ∙ texts_added wanted b.body (b.last ∷ more) before b.label (n + 1) [] read b.texts within (n + 1)

pub blocks_are_read : BlocksAreRead
blocks_are_read wanted lines values = (
  λ e. (let read = (from_lines wanted lines).0 0 [] values 0 e in subst (AreBlocks wanted lines) (sym read.1) read.2),
  λ blocks. to_outside wanted lines values blocks 0 [] 0,
)
