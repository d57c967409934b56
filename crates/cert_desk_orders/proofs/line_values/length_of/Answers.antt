-- Goals of `line_values::length_of` that the checker doesn't prove by itself.
use Rattle.std.proofs.Common.{◌≡◌, ◌≢◌, ℕ, ◌<◌, ◌^◌, Bool, true, false, cond, ◌&&◌, ltb, lt-ltb, ltb-true, List, length, get_or, Result, Some, None, Ok, Err, rules, tests, refl, ap, ◌∙◌}
use Rattle.std.specs.Result.{OkIff, result_ok}
use Rattle.std.specs.Str.{all_ascii_digits}
use Rattle.std.specs.Str.Parse.{digits_value}
use Rattle.std.proofs.lemmas.Str.Parse.{IsNumeralModel, numerals_by_value, parse_plain, tells_all_ascii_digits}
use Rattle.cert_desk_orders.specs.OrderValues.{length_in}
use Rattle.cert_desk_orders.proofs.line_values.length_of.Goals as goal

numerals : IsNumeralModel (λ ds. all_ascii_digits ds ≡ true) (digits_value 10)
numerals = numerals_by_value (λ ds. all_ascii_digits ds ≡ true) tells_all_ascii_digits

both : (a b : Bool) → (a && b) ≡ true → (a ≡ true) × (b ≡ true)
both true b e = (refl, e)
both false b e = absurd cc

all : (a b c : Bool) (n : ℕ) → a ≡ true → b ≡ true → c ≡ true → Some n ≡ cond (a && b && c) (Some n) None
all true true true n x y z = refl
all true true false n x y z = absurd cc
all true false c n x y z = absurd cc
all false b c n x y z = absurd cc

refused : (b : Bool) (n : ℕ) → (b ≡ true → ⊥) → None ≡ cond b (Some n) None
refused true n never = absurd (never refl)
refused false n never = refl

length_is : {E : Type 0} (text : List ℕ) (r : Result ℕ E)
    → OkIff r ((all_ascii_digits text ≡ true) × (0 < length text) × (digits_value 10 text < 2 ^ 8)) (digits_value 10 text) → result_ok r ≡ length_in text
length_is text (Ok n) h =
    ap (λ (x : ℕ). Some x) h.1
    ∙ all (ltb 0 (length text)) (all_ascii_digits text) (ltb (digits_value 10 text) 256) (digits_value 10 text) (lt-ltb _ _ h.0.1) h.0.0 (lt-ltb _ _ h.0.2)
length_is text (Err e) h =
    refused (ltb 0 (length text) && all_ascii_digits text && ltb (digits_value 10 text) 256) (digits_value 10 text) (λ is.
    (let outer = both (ltb 0 (length text) && all_ascii_digits text) (ltb (digits_value 10 text) 256) is in
    let inner = both (ltb 0 (length text)) (all_ascii_digits text) outer.0 in
    h (inner.1, ltb-true _ _ inner.0, ltb-true _ _ outer.1)))

pub returns : goal.returns
returns c =
    let plain : get_or c.args.text.now 0 0 ≢ 43 = search (rules, tests) in
    c.ok.ensures.value ∙ length_is c.args.text.now _ (parse_plain numerals 8 c.args.text.now _ c.parse.ensures.value.0 plain)
