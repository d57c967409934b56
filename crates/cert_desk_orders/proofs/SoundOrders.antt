-- Valid orders, and the values in them.
use Rattle.std.proofs.Common.{◌≡◌, ℕ, ◌<◌, arith, Bool, true, false, cond, not, ◌&&◌, ◌||◌, List, [], ◌∷◌, ◌++◌, length, codes, Option, Some, None, IsSome, ◌⊎◌, inl, inr, ⊎_elim, unwrap_or, refl, ap, sym, ◌∙◌, subst}
use Rattle.std.proofs.lemmas.Slice.Eq.{bytes_eq-Decides}
use Rattle.std.specs.List.{find, list_any}
use Rattle.std.specs.Option.{option_and_then}
use Rattle.cert_desk_orders.specs.declared.line.Line.{Line}
use Rattle.cert_desk_orders.specs.OrderReading.{lines_plain}
use Rattle.cert_desk_orders.specs.OrderValues.{key_in, octets_in}
use Rattle.cert_desk_orders.specs.OrdersFile.{PlainLine, first_faulty, fits, has, is_faulty, is_repeated, is_whole, order_fault, stands, stands_alone, value_of}

both : (a b : Bool) → (a && b) ≡ true → (a ≡ true) × (b ≡ true)
both true b e = (refl, e)
both false b e = absurd cc

right : (a b : Bool) → (not a || b) ≡ false → a ≡ true
right true b e = refl
right false b e = absurd cc

found_there : {X : Type 0} (p : X → Bool) (x : X) (xs : List X) (b : Bool) → (list_any p xs ≡ true → (y : X) × (find p xs ≡ Some y)) → (b || list_any p xs) ≡ true
    → (y : X) × (cond b (Some x) (find p xs) ≡ Some y)
found_there p x xs true later h = (x, refl)
found_there p x xs false later h = later h

found_in : {X : Type 0} (p : X → Bool) (xs : List X) → list_any p xs ≡ true → (x : X) × (find p xs ≡ Some x)
found_in p [] e = absurd cc
found_in p (x ∷ xs) e = found_there p x xs (p x) (found_in p xs) e

sound_here : (line : PlainLine) (rest : Option ℕ) (b : Bool) → cond b (Some line.number) rest ≡ None → (b ≡ false) × (rest ≡ None)
sound_here line rest true e = absurd cc
sound_here line rest false e = (refl, e)

found_here : (p : PlainLine → Bool) (line : PlainLine) (rest : Option PlainLine) (found : PlainLine) (b : Bool) → p line ≡ b
    → cond b (Some line) rest ≡ Some found → ((line ≡ found) × (p found ≡ true)) ⊎ (rest ≡ Some found)
found_here p line rest found true is e =
    let same : line ≡ found = ap (λ o. unwrap_or o line) e in
    inl (same, ap p (sym same) ∙ is)
found_here p line rest found false is e = inr e

-- A line that is found in a valid order has a value that its word allows.
sound_found : (before lines : List PlainLine) (p : PlainLine → Bool) (found : PlainLine) → first_faulty before lines ≡ None → find p lines ≡ Some found
    → (fits found.word found.value ≡ true) × (p found ≡ true)
sound_found before [] p found none is = absurd cc
sound_found before (line ∷ more) p found none is =
    let here = sound_here line (first_faulty (before ++ line ∷ []) more) (is_faulty before line) none in
    let fit : fits line.word line.value ≡ true = right (fits line.word line.value) (is_repeated before line) here.0 in
    ⊎_elim (λ same. (subst (λ l. fits l.word l.value ≡ true) same.0 fit, same.1))
    (λ later. sound_found (before ++ line ∷ []) more p found here.1 later)
    (found_here p line (find p more) found (p line) refl is)

has_word : (word : List ℕ) (line : PlainLine) → has word line ≡ true → line.word ≡ word
has_word word line e = (bytes_eq-Decides line.word word).0 e

fits_of : (word : List ℕ) (lines : List PlainLine) → first_faulty [] lines ≡ None → stands word lines ≡ true → fits word (value_of word lines) ≡ true
fits_of word lines none is =
    let found = found_in (has word) lines is in
    let sound = sound_found [] lines (has word) found.0 none found.1 in
    subst (λ w. fits w (value_of word lines) ≡ true) (has_word word found.0 sound.1)
    (subst (λ (o : Option PlainLine). fits found.0.word (option_and_then (λ line. line.value) o) ≡ true) (sym found.1) sound.0)

is_text : (word : List ℕ) (value : Option (List ℕ)) → stands_alone word ≡ false → fits word value ≡ true → IsSome value
is_text word None alone e = absurd cc
is_text word (Some value) alone e = refl

is_serial : (value : Option (List ℕ)) → fits (codes "serial") value ≡ true → IsSome (option_and_then octets_in value)
is_serial None e = absurd cc
is_serial (Some value) e = e

is_key : (value : Option (List ℕ)) → fits (codes "key") value ≡ true → IsSome (option_and_then key_in value)
is_key None e = absurd cc
is_key (Some value) e = e

-- A valid order has these values.
pub record HasValues (lines : List PlainLine) : Type 0 where
  pub name : IsSome (value_of (codes "name") lines)
  pub from : IsSome (value_of (codes "from") lines)
  pub until : IsSome (value_of (codes "until") lines)
  pub serial : IsSome (option_and_then octets_in (value_of (codes "serial") lines))
  pub key : IsSome (option_and_then key_in (value_of (codes "key") lines))

whole : (lines : List PlainLine) → is_whole lines ≡ true → first_faulty [] lines ≡ None → HasValues lines
whole lines is none =
    let name = stands (codes "name") lines in
    let from = stands (codes "from") lines in
    let until = stands (codes "until") lines in
    let serial = stands (codes "serial") lines in
    let with_key = both (name && from && until && serial) (stands (codes "key") lines) is in
    let with_serial = both (name && from && until) serial with_key.0 in
    let with_until = both (name && from) until with_serial.0 in
    let with_from = both name from with_until.0 in
    record {
      name = is_text (codes "name") _ refl (fits_of (codes "name") lines none with_from.0);
      from = is_text (codes "from") _ refl (fits_of (codes "from") lines none with_from.1);
      until = is_text (codes "until") _ refl (fits_of (codes "until") lines none with_until.1);
      serial = is_serial (value_of (codes "serial") lines) (fits_of (codes "serial") lines none with_serial.1);
      key = is_key (value_of (codes "key") lines) (fits_of (codes "key") lines none with_key.1);
    }

unfaulty : (number : ℕ) (rest : Option ℕ) (b : Bool) → cond b rest (Some number) ≡ None → (b ≡ true) × (rest ≡ None)
unfaulty number rest true e = (refl, e)
unfaulty number rest false e = absurd cc

sound_order : (lines : List PlainLine) → 0 < length lines → order_fault lines ≡ None → HasValues lines
sound_order [] some none = absurd (omega arith)
sound_order (line ∷ more) some none =
    let sound = unfaulty line.number (first_faulty [] (line ∷ more)) (has (codes "order") line && is_whole (line ∷ more)) none in
    whole (line ∷ more) (both (has (codes "order") line) (is_whole (line ∷ more)) sound.0).1 sound.1

pub HasValues-lines : (lines : List Line) → 0 < length lines → order_fault (lines_plain lines) ≡ None → HasValues (lines_plain lines)
HasValues-lines [] some none = absurd (omega arith)
HasValues-lines (line ∷ more) some none = sound_order (lines_plain (line ∷ more)) (omega arith) none
