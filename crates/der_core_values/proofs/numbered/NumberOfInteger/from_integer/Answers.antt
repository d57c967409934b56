-- Goals of `numbered::NumberOfInteger::from_integer` that the checker doesn't prove by itself.
use Rattle.std.proofs.Common.{◌≡◌, ap, ◌∙◌, Ok, Err, length, rules, tests, arith, true, false, pos}
use Rattle.der_core_octets.specs.CoreHead.declared.error.ErrorKind.{ErrorKind}
use Rattle.der_core_octets.specs.CoreHead.Integers.{among}
use Rattle.der_core_values.proofs.NamedNumbers.{empty, past, octets_alone, known, unlisted}
use Rattle.der_core_values.proofs.numbered.NumberOfInteger.from_integer.Goals as goal

pub returns-then-is_empty : goal.returns-then-is_empty
returns-then-is_empty g c =
    let none : length c.args.octets.now ≡ 0 = search (rules, tests) in
    empty (among g.T.Numbered.known_numbers) c.args.tag c.args.octets.now (omega (arith, none)) ∙ ap (λ (k : ErrorKind). Err k) (search rules)

pub returns-in-Length : goal.returns-in-Length
returns-in-Length g c =
    past g.T.Numbered.known_numbers (octets_alone g.T.Numbered.known_numbers g.met.T.Numbered.few) c.args.tag c.in-Length.tag c.args.octets.now (search (rules, tests)) (c.in-Err.ensures.exact ∙ ap (λ (k : ErrorKind). Err k) c.in-Length.is)
    ∙ ap (λ (k : ErrorKind). Err k) (search rules)

pub returns-in-Some : goal.returns-in-Some
returns-in-Some g c =
    let same : pos c.in-Ok.number ≡ pos (g.T.Numbered.known_number c.in-Some.value) = search (rules, tests) in
    known g.T.Numbered.known_numbers (octets_alone g.T.Numbered.known_numbers g.met.T.Numbered.few) c.args.tag c.args.octets.now (g.T.Numbered.known_number c.in-Some.value) true c.in-Some.ensures.named (c.in-Ok.ensures.exact ∙ ap (λ z. Ok z) same)

pub returns-in-None : goal.returns-in-None
returns-in-None g c =
    known g.T.Numbered.known_numbers (octets_alone g.T.Numbered.known_numbers g.met.T.Numbered.few) c.args.tag c.args.octets.now c.in-Ok.number false (search (rules, tests, unlisted)) c.in-Ok.ensures.exact
    ∙ ap (λ (k : ErrorKind). Err k) (search rules)
