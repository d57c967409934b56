-- Goals of `encode::ToDer::encode_to_vec` that the checker doesn't prove by itself.
use Rattle.der_core_coding.proofs.Fronts.{appended_in_range}
use Rattle.std.proofs.Common.{◌≡◌, ℕ, List, ◌++◌, length, None, false, Result, Ok, Err, refl, sym, ap, ◌∙◌, IfOk, IfErr}
use Rattle.der_core_values.specs.CoreHead.declared.error.Error.{Error}
use Rattle.der_core_values.specs.CoreHead.declared.length.Length.{Length}
use Rattle.der_core_values.specs.CoreHead.Octets.{◌>>=◌}
use Rattle.der_core_values.specs.CoreHead.Shapes.{Shape, Value, IsValid, octets_of}
use Rattle.der_core_values.specs.CoreHead.Reading.{Fails, Gives}
use Rattle.der_core_values.specs.CoreHead.Writing.{Out, size, write}
use Rattle.der_core_values.proofs.CoreHead.Results.{ok_is, bind_ok}
use Rattle.der_core_values.proofs.CoreHead.Written.{sized, written, counts_octets, writes_octets}
use Rattle.der_core_values.specs.CoreOctets.Outputs.{appended}
use Rattle.der_core_coding.proofs.encode.ToDer.encode_to_vec.Goals as goal

-- A valid value is appended to other bytes.
appended_valid : (s : Shape) (v : Value s) (w : List ℕ) → IsValid s v → appended s v w ≡ Ok (length (octets_of s v), w ++ octets_of s v)
appended_valid s v w h = rw (sized s v h, written s v w h) refl

appended_spelled : (s : Shape) (v : Value s) (w new : List ℕ) (r : Result Length Error) → IsValid s v
    → IfOk r (λ len. appended s v w ≡ Ok (len.value, new)) → IfErr r (λ e. Fails e.kind (appended s v w)) → Gives (λ len. len.value) r (Ok (length (octets_of s v)))
appended_spelled s v w new (Ok len) h ok err =
    let same = ok_is (length (octets_of s v), w ++ octets_of s v) (len.value, new) (sym (appended_valid s v w h) ∙ ok) in
    ap (λ (q : ℕ × List ℕ). Ok q.0) same
appended_spelled s v w new (Err e) h ok err = λ memory. absurd (cc (appended_valid s v w h, err memory))

appended_octets : (s : Shape) (v : Value s) (w new : List ℕ) (r : Result Length Error) → IfOk r (λ len. appended s v w ≡ Ok (len.value, new))
    → IfOk r (λ len. (new ≡ w ++ octets_of s v) × (len.value ≡ length (octets_of s v)))
appended_octets s v w new (Ok len) e =
    let start : Out = record { written = w; room = None; failed = false } in
    let h = bind_ok (size s v) (λ n. write s v start >>= λ o. Ok (n, o.written)) (len.value, new) e in
    let k = bind_ok (write s v start) (λ o. Ok (h.0, o.written)) (len.value, new) h.2 in
    let same = ok_is (h.0, k.0.written) (len.value, new) k.2 in
    (sym (ap (λ (q : ℕ × List ℕ). q.1) same) ∙ writes_octets s v start k.0 k.1, sym (ap (λ (q : ℕ × List ℕ). q.0) same) ∙ (counts_octets s v h.0 h.1).0)
appended_octets s v w new (Err e) h = tt

pub returns-clause-octets : goal.returns-clause-octets
returns-clause-octets g c = appended_octets g.Self.Shaped.shape (g.Self.Shaped.written c.args.self.now) c.args.out.now.items c.append.new.out.items c.append.result c.append.ensures.exact

pub returns-clause-spelled : goal.returns-clause-spelled
returns-clause-spelled g c = λ valid.
    appended_spelled g.Self.Shaped.shape (g.Self.Shaped.written c.args.self.now) c.args.out.now.items c.append.new.out.items c.append.result valid c.append.ensures.exact c.append.ensures.refused

pub returns-clause-valid : goal.returns-clause-valid
returns-clause-valid g c = appended_in_range g.Self.Shaped.shape (g.Self.Shaped.written c.args.self.now) c.args.out.now.items c.append.new.out.items c.append.result c.append.ensures.exact
