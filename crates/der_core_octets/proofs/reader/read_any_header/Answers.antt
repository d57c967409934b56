-- Goals of `reader::read_any_header` that the checker doesn't prove by itself.
use Rattle.std.proofs.Common.{drop, ap, sym, ◌∙◌, arith}
use Rattle.der_core_head.specs.Bodies.{head_by}
use Rattle.der_core_head.proofs.HeadLaws.{head_sound}
use Rattle.der_core_octets.specs.Headers.{head_of}
use Rattle.der_core_octets.proofs.reader.read_any_header.Goals as goal

pub returns-in-Ok-clause-spelled : goal.returns-in-Ok-clause-spelled
returns-in-Ok-clause-spelled g c = λ der.
    let rest = c.remaining-octets.ensures.rest in
    let n = c.in-Ok.len in
    let h = head_of c.in-Ok.header in
    let stands = ap (λ r. head_by r c.remaining-octets.result.now) (sym (c.encoding_rules.ensures ∙ der)) ∙ c.in-Ok.ensures.front.0 in
    let s = head_sound c.remaining-octets.result.now h (drop n c.remaining-octets.result.now) (λ i. omega (arith, c.remaining-octets.items_fit i)) stands in
    rw (c.skip.ensures, ← rest) (s.1, s.0)
