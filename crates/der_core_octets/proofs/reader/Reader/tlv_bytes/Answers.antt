-- Goals of `reader::Reader::tlv_bytes` that the checker doesn't prove by itself.
use Rattle.std.proofs.Common.{◌≡◌, ◌+◌, ℕ, List, Ok, Err, length, drop, refl, ap, sym, subst, ◌∙◌, arith, ◌-◌, ◌<◌, ◌≤◌, take, drop-drop, length-drop}
use Rattle.der_core_head.specs.declared.error.ErrorKind.{ErrorKind}
use Rattle.der_core_head.specs.Bodies.{head_by}
use Rattle.der_core_octets.specs.Headers.{head_of}
use Rattle.der_core_head.specs.Octets.{Readings}
use Rattle.der_core_head.specs.Heads.{Head}
use Rattle.der_core_octets.specs.Places.{encoding_at}
use Rattle.der_core_head.proofs.Results.{slice_short, slice_ok}
use Rattle.der_core_head.specs.declared.error.ErrorKind.TheVariants as kinds
use Rattle.der_core_octets.proofs.reader.Reader.tlv_bytes.Goals as goal

-- If there is no header, there is no encoding.
no_header : (head : Readings Head) (w : List ℕ) (k : ErrorKind) → head w ≡ Err k → encoding_at head w ≡ Err k
unfolding encoding_at
no_header head w k e = rw e refl

no_content : (head : Readings Head) (w : List ℕ) (h : Head) (n : ℕ) → head w ≡ Ok (h, drop n w) → n ≤ length w → length w - n < h.len → encoding_at head w ≡ Err kinds.Incomplete
unfolding encoding_at
no_content head w h n e le short = rw (e, slice_short h.len (drop n w) (omega (arith, length-drop n w))) refl

all_octets : (head : Readings Head) (w : List ℕ) (h : Head) (n : ℕ) → head w ≡ Ok (h, drop n w) → n ≤ length w → h.len ≤ length w - n
    → encoding_at head w ≡ Ok (take (n + h.len) w, drop (n + h.len) w)
unfolding encoding_at
all_octets head w h n e le enough =
    let whole : length w - length (drop (n + h.len) w) ≡ n + h.len = omega (arith, length-drop (n + h.len) w) in
    rw (e, slice_ok h.len (drop n w) (omega (arith, length-drop n w)), drop-drop h.len n w, whole) refl

pub returns-in-Err : goal.returns-in-Err
returns-in-Err g c =
    let rest = c.remaining-octets.ensures.rest in
    let rules = (g.Self.Reader.state c.args.self.now).source.encoding in
    let front = ap (λ r. head_by r c.remaining-octets.result.now) (sym c.encoding_rules.ensures) ∙ c.in-Err.ensures.front in
    (λ ready. no_header (head_by rules) _ _ (ap (head_by rules) (sym rest) ∙ front) ∙ ap (λ (k : ErrorKind). Err k) (sym c.found_at.ensures.kind), c.fail.ensures, λ failed. absurd cc)

pub returns-then-octets-count : goal.returns-then-octets-count
returns-then-octets-count g c =
    let rest = c.remaining-octets.ensures.rest in
    let rules = (g.Self.Reader.state c.args.self.now).source.encoding in
    let front = ap (λ r. head_by r c.remaining-octets.result.now) (sym c.encoding_rules.ensures) ∙ c.in-Ok.ensures.front.0 in
    let n = c.in-Ok.front.1 in
    let P : List ℕ → Type 0 = λ w. head_by rules w ≡ Ok (head_of c.in-Ok.front.0, drop n w) in
    let long = ap length rest in
    rw c.error.ensures.kind (
      λ ready. no_content (head_by rules) _ _ n (subst P rest front) (omega (arith, long, c.in-Ok.ensures.within)) (omega (arith, long, c.if-octets-count.true)),
      c.error.ensures.failed,
      λ failed. absurd cc,
    )

pub returns : goal.returns
returns g c =
    let rest = c.remaining-octets.ensures.rest in
    let rules = (g.Self.Reader.state c.args.self.now).source.encoding in
    let front = ap (λ r. head_by r c.remaining-octets.result.now) (sym c.encoding_rules.ensures) ∙ c.in-Ok.ensures.front.0 in
    let n = c.in-Ok.front.1 in
    let P : List ℕ → Type 0 = λ w. head_by rules w ≡ Ok (head_of c.in-Ok.front.0, drop n w) in
    let long = ap length rest in
    rw (rest, c.skip.ensures) (
      all_octets (head_by rules) _ _ n (subst P rest front) (omega (arith, long, c.in-Ok.ensures.within)) (omega (arith, long, c.if-octets-count.false)),
      refl,
      cc,
      (n + c.in-Ok.front.0.length.value, refl),
    )
