-- Goals of `reader::Reader::read_header` that the checker doesn't prove by itself.
use Rattle.std.proofs.Common.{◌≡◌, List, ℕ, Ok, drop, sym, ap, subst, ◌∙◌, arith}
use Rattle.der_core_head.specs.declared.encoding_rules.EncodingRules.TheVariants as encodings
use Rattle.der_core_head.specs.Heads.{Head, head_at}
use Rattle.der_core_head.specs.Bodies.{head_by}
use Rattle.der_core_head.proofs.Results.{ok_is}
use Rattle.der_core_head.proofs.HeadLaws.{head_sound, head_again}
use Rattle.der_core_octets.specs.Headers.{head_of}
use Rattle.der_core_octets.proofs.reader.Reader.read_header.Goals as goal

pub returns-in-Some-clause-spelled : goal.returns-in-Some-clause-spelled
returns-in-Some-clause-spelled g c = λ der.
    let rest = c.remaining-octets.ensures.rest in
    let n = c.in-Some.len in
    let h = head_of c.in-Some.header in
    let s = head_sound c.remaining-octets.result.now h (drop n c.remaining-octets.result.now) (λ i. omega (arith, c.remaining-octets.items_fit i)) (c.in-Some.ensures.front encodings.Der).0 in
    rw (c.skip.ensures, ← rest) (s.1, s.0)

pub returns-in-Some-clause-only : goal.returns-in-Some-clause-only
returns-in-Some-clause-only g c = λ t n r der ready is fits e.
    let old = g.Self.Reader.state c.args.self.now in
    let rest = c.remaining-octets.ensures.rest in
    let h = head_of c.in-Some.header in
    let P : List ℕ → Type 0 = λ w. head_at w ≡ Ok (h, drop c.in-Some.len w) in
    let stands : head_at old.rest ≡ Ok (record { tag = t; len = n }, r) = ap head_at e ∙ head_again t n r is (omega (arith, fits)) in
    let both : (record { tag = t; len = n }, r) ≡ (h, drop c.in-Some.len old.rest) = ok_is _ _ (sym stands ∙ subst P rest (c.in-Some.ensures.front encodings.Der).0) in
    rw c.skip.ensures (ap (λ (q : Head × List ℕ). Ok q.0) both, sym (ap (λ (q : Head × List ℕ). q.1) both))

pub returns-clause-only : goal.returns-clause-only
returns-clause-only g c = λ t n r der ready is fits e.
    let old = g.Self.Reader.state c.args.self.now in
    let new = g.Self.Reader.state c.read_any_header.new.reader in
    let h = head_of c.in_ok-header.header in
    let stands : head_at old.rest ≡ Ok (record { tag = t; len = n }, r) = ap head_at e ∙ head_again t n r is (omega (arith, fits)) in
    let both : (record { tag = t; len = n }, r) ≡ (h, new.rest) = ok_is _ _ (sym stands ∙ ap (λ rules. head_by rules old.rest) (sym der) ∙ c.in_ok-header.ensures.front.0) in
    (ap (λ (q : Head × List ℕ). Ok q.0) both, sym (ap (λ (q : Head × List ℕ). q.1) both))

pub returns-in_err-header-clause-only : goal.returns-in_err-header-clause-only
returns-in_err-header-clause-only g c = λ t n r der ready is fits e.
    let old = g.Self.Reader.state c.args.self.now in
    let stands : head_at old.rest ≡ Ok (record { tag = t; len = n }, r) = ap head_at e ∙ head_again t n r is (omega (arith, fits)) in
    absurd (cc (stands, ap (λ rules. head_by rules old.rest) (sym der) ∙ c.in_err-header.ensures.front.0 ready))
