-- Goals of `sliced::decode_sliced` that the checker doesn't prove by itself.
use Rattle.std.proofs.Common.{◌≡◌, ◌++◌, ◌-◌, List, ℕ, Ok, length, take, drop, ap, sym, ◌∙◌, arith}
use Rattle.der_core_values.specs.CoreHead.Grammar.{read, read_by}
use Rattle.der_core_values.specs.CoreHead.Reading.{read_at}
use Rattle.der_core_coding.proofs.Fronts.{consumed, passed_over}
use Rattle.der_core_coding.proofs.sliced.decode_sliced.Goals as goal

pub returns-clause-octets : goal.returns-clause-octets
returns-clause-octets g c = λ der.
    let v = g.T.Shaped.plain c.in_ok-value.value in
    let old = g.R.Reader.state c.args.reader.now in
    let room = old.room in
    let before = c.remaining-before.result.now in
    let read_so : read g.T.Shaped.shape room before ≡ Ok (v, c.remaining.result.now) =
    ap (λ rules. read_by rules g.T.Shaped.shape room before) (sym der) ∙ ap (read_at old g.T.Shaped.shape) c.remaining-before.ensures.rest ∙ c.in_ok-value.ensures.0 ∙ ap (λ (r : List ℕ). Ok (v, r)) (sym c.remaining.ensures.rest) in
    rw c.saturating_sub.ensures ((consumed g.T.Shaped.shape room v c.remaining-before.result.now c.remaining.result.now g.met.T.Member.apart (λ i. omega (arith, c.remaining-before.items_fit i)) c.remaining-before.ensures.short read_so).octets)

pub returns-clause-stand : goal.returns-clause-stand
returns-clause-stand g c =
    let before = c.remaining-before.result.now in
    let behind = c.remaining.result.now in
    let first = c.remaining-before.ensures.rest in
    let then = c.remaining.ensures.rest in
    let rest = c.in_ok-value.ensures.3 in
    rw c.saturating_sub.ensures (sym first ∙ passed_over before behind (rest.0, then ∙ rest.1 ∙ ap (drop rest.0) (sym first)) ∙ ap (λ (r : List ℕ). take (length before - length behind) before ++ r) then)
