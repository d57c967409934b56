-- Lemmas about decoding a prefix of bytes, and about encoding into a slice or a vector.
use Rattle.std.proofs.Common.{◌≡◌, ℕ, true, ltb, List, ◌++◌, length, Result, Ok, Err, sym, ap, ◌∙◌, arith, le-ltb, ltb-false, IfOk, ◌≤◌, ◌-◌, [], take, drop, inl, inr, drop_of_length-le, take_at, take-append-drop, length-append, length-drop, false, Some, refl, IsOkAnd, Bool}
use Rattle.der_core_values.specs.CoreHead.Limits.{length_max, levels_max}
use Rattle.der_core_values.specs.CoreHead.declared.error.Error.{Error}
use Rattle.der_core_values.specs.CoreHead.declared.error.ErrorKind.{ErrorKind}
use Rattle.der_core_values.specs.CoreHead.declared.error.ErrorKind.TheVariants as kinds
use Rattle.der_core_values.specs.CoreHead.Heads.{Fits}
use Rattle.der_core_values.specs.CoreHead.Shapes.{Shape, Value, IsValid, octets_of, Content, ContentValue, contents, IsContent}
use Rattle.der_core_values.specs.CoreHead.Grammar.{read}
use Rattle.der_core_values.specs.CoreHead.Reading.{Gives, IsRest, GivesNow}
use Rattle.der_core_values.specs.CoreHead.Spelling.{is_apart, are_enough, is_element}
use Rattle.der_core_values.proofs.CoreHead.Results.{unless_ok, IsBytes, ok_is, bind_ok}
use Rattle.der_core_values.proofs.CoreHead.OneEncoding.{sound}
use Rattle.der_core_values.proofs.CoreHead.Complete.{complete_element}
use Rattle.der_core_values.specs.CoreOctets.Fronts.{read_front}
use Rattle.std.proofs.lemmas.Bool.{cases_lt}
use Rattle.std.proofs.Math.Seq.{drop-length}
use Rattle.der_core_values.specs.CoreHead.Octets.{◌>>=◌}
use Rattle.der_core_values.specs.CoreHead.Writing.{Out, put, write, write_content, size, FailsTaking, Writes}
use Rattle.der_core_values.proofs.CoreHead.Written.{writes_octets, writes_contents, writes_fitting, put_some-put, put_written, put_content, out, put-append, written_valid, content_valid}
use Rattle.der_core_values.specs.CoreOctets.Outputs.{blank, finished, filled, appended}
use Rattle.der_core_values.specs.CoreHead.declared.length.Length.{Length}
use Rattle.der_core_values.specs.CoreHead.Ranges.{IsInRange, IsContentInRange}

pub front_spelled : {X : Type 0} (s : Shape) (view : X → Value s × List ℕ) (w : List ℕ) (r : Result X Error) → is_apart s ≡ true → IsBytes w → Gives view r (read_front s w)
    → IfOk r (λ x. IsValid s (view x).0 × (w ≡ octets_of s (view x).0 ++ (view x).1))
front_spelled s view w (Ok x) apart bytes e =
    let h = unless_ok (ltb length_max (length w)) kinds.Overflow (read s levels_max w) (view x) e in
    let fits : Fits w = omega (arith, ltb-false length_max (length w) h.0) in
    sound s 64 w (view x).0 (view x).1 apart bytes fits h.1
front_spelled s view w (Err e) apart bytes h = tt

pub front_again : (s : Shape) (v : Value s) (r w : List ℕ) → is_element s ≡ true → is_apart s ≡ true → are_enough s levels_max ≡ true → IsValid s v → w ≡ octets_of s v ++ r → Fits w → read_front s w ≡ Ok (v, r)
front_again s v r w element apart enough valid e short =
    rw (le-ltb length_max (length w) (omega (arith, short))) (ap (read s levels_max) e ∙ complete_element s 64 v r element apart enough valid)

-- The decoder gives what was returned.
pub gives_so : {X P : Type 0} (view : X → P) (r : Result X Error) (f x : Result P ErrorKind) → f ≡ x → Gives view r f → Gives view r x
gives_so view (Ok y) f x e h = sym e ∙ h
gives_so view (Err d) f x e h = λ memory. sym e ∙ h memory

-- The bytes of a value, between the bytes left before and those left after

pub record Consumed (s : Shape) (v : Value s) (w r : List ℕ) : Type 0 where
  pub shorter : length r ≤ length w
  pub octets : take (length w - length r) w ≡ octets_of s v

pub consumed : (s : Shape) (room : ℕ) (v : Value s) (w r : List ℕ) → is_apart s ≡ true → IsBytes w → Fits w → read s room w ≡ Ok (v, r) → Consumed s v w r
consumed s room v w r apart bytes fits e =
    let all : w ≡ octets_of s v ++ r = (sound s room w v r apart bytes fits e).1 in
    let lengths : length w ≡ length (octets_of s v ++ r) = ap length all in
    record {
      shorter = omega (arith, lengths, length-append (octets_of s v) r);
      octets = ap (take (length w - length r)) all ∙ take_at (octets_of s v) r (length w - length r) (omega (arith, lengths, length-append (octets_of s v) r));
    }

-- The consumed bytes come before the remaining ones.
pub passed_over : (w r : List ℕ) → IsRest r w → w ≡ take (length w - length r) w ++ r
passed_over w r n =
    let long = ap length n.1 in
    elim (cases_lt (length w) n.0) [
      | inl far ↦
          let none : drop n.0 w ≡ [] = drop_of_length-le w (omega arith) in
          let all : length w - length r ≡ length w = omega (arith, long, ap length none) in
          sym (take-append-drop (length w) w) ∙ ap (λ k. take k w ++ drop (length w) w) (sym all)
          ∙ ap (λ (x : List ℕ). take (length w - length r) w ++ x) (drop-length w ∙ sym none ∙ sym n.1)
      | inr near ↦
          let m : length w - length r ≡ n.0 = omega (arith, long, length-drop n.0 w) in
          sym (take-append-drop n.0 w) ∙ ap (λ k. take k w ++ drop n.0 w) (sym m) ∙ ap (λ (x : List ℕ). take (length w - length r) w ++ x) (sym n.1)
    ]

-- A valid value is written to a slice if there is room for it

-- Writing bytes for which there is room.
put_blank : (b : List ℕ) (room : ℕ) → length b ≤ room → put b (blank room) ≡ Ok (record { written = b; room = Some (room - length b); failed = false })
unfolding put
put_blank b room l = rw (le-ltb room (length b) l) refl

filled_valid : (s : Shape) (v : Value s) (room : ℕ) → IsValid s v → length (octets_of s v) ≤ room → filled (write s v) room ≡ Ok (octets_of s v)
filled_valid s v room h l = ap (λ r. r >>= finished) (put_written s v (blank room) h ∙ put_some-put (octets_of s v) (blank room) refl ∙ put_blank (octets_of s v) room l)

filled_content : (c : Content) (v : ContentValue c) (room : ℕ) → IsContent c v → length (contents c v) ≤ room → filled (write_content c v) room ≡ Ok (contents c v)
filled_content c v room h l = ap (λ r. r >>= finished) (put_content c v (blank room) refl h ∙ put_blank (contents c v) room l)

-- The returned bytes are these.
given_is : {T : Type 0} (view : T → List ℕ) (f : Result (List ℕ) ErrorKind) (w : List ℕ) (r : Result T Error) → GivesNow view r f → f ≡ Ok w → IsOkAnd r (λ x. view x ≡ w)
given_is view f w (Ok x) h e = ok_is (view x) w (sym h ∙ e)
given_is view f w (Err d) h e = absurd (cc (h, e))

pub filled_spelled : {T : Type 0} (s : Shape) (v : Value s) (room : ℕ) (view : T → List ℕ) (r : Result T Error) → GivesNow view r (filled (write s v) room) → IsValid s v → length (octets_of s v) ≤ room
    → IsOkAnd r (λ x. view x ≡ octets_of s v)
filled_spelled s v room view r e h l = given_is view (filled (write s v) room) (octets_of s v) r e (filled_valid s v room h l)

pub content_spelled : {T : Type 0} (c : Content) (v : ContentValue c) (room : ℕ) (view : T → List ℕ) (r : Result T Error) → GivesNow view r (filled (write_content c v) room) → IsContent c v
    → length (contents c v) ≤ room → IsOkAnd r (λ x. view x ≡ contents c v)
content_spelled c v room view r e h l = given_is view (filled (write_content c v) room) (contents c v) r e (filled_content c v room h l)

-- The written bytes are the returned ones.
finished_is : (f : Out → Result Out ErrorKind) (room : ℕ) (w : List ℕ) → filled f room ≡ Ok w → (z : Out) × (f (blank room) ≡ Ok z) × (z.written ≡ w)
finished_is f room w e =
    let h = bind_ok (f (blank room)) finished w e in
    (h.0, h.1, ok_is h.0.written w (unless_ok h.0.failed kinds.Failed (Ok h.0.written) w h.2).1)

pub filled_octets : {T : Type 0} (s : Shape) (v : Value s) (room : ℕ) (view : T → List ℕ) (r : Result T Error) → GivesNow view r (filled (write s v) room)
    → IfOk r (λ x. (view x ≡ octets_of s v) × Fits (view x))
filled_octets s v room view (Ok x) e =
    let h = finished_is (write s v) room (view x) e in
    let same = sym h.2 ∙ writes_octets s v (blank room) h.0 h.1 in
    (same, omega (arith, ap length same, writes_fitting s v (blank room) h.0 h.1))
filled_octets s v room view (Err e) h = tt

pub filled_contents : {T : Type 0} (c : Content) (v : ContentValue c) (room : ℕ) (view : T → List ℕ) (r : Result T Error) → GivesNow view r (filled (write_content c v) room)
    → IfOk r (λ x. view x ≡ contents c v)
filled_contents c v room view (Ok x) e = let h = finished_is (write_content c v) room (view x) e in sym h.2 ∙ writes_contents c v (blank room) h.0 h.1
filled_contents c v room view (Err e) h = tt

-- A value that was encoded is valid if its parts are in their ranges

pub ok_valid : {T : Type 0} (s : Shape) (v : Value s) (view : T → Out) (r : Result T Error) → Gives view r (write s v (out [])) → IfOk r (λ _. IsInRange s v → IsValid s v)
ok_valid s v view (Ok x) e = written_valid s v (out []) (view x) e
ok_valid s v view (Err d) e = tt

pub filled_in_range : {T : Type 0} (s : Shape) (v : Value s) (room : ℕ) (view : T → List ℕ) (r : Result T Error) → GivesNow view r (filled (write s v) room) → IfOk r (λ _. IsInRange s v → IsValid s v)
filled_in_range s v room view (Ok x) e = let p = bind_ok (write s v (blank room)) finished (view x) e in written_valid s v (blank room) p.0 p.1
filled_in_range s v room view (Err d) e = tt

pub content_in_range : {T : Type 0} (c : Content) (v : ContentValue c) (room : ℕ) (view : T → List ℕ) (r : Result T Error) → GivesNow view r (filled (write_content c v) room) → IfOk r (λ _. IsContentInRange c v → IsContent c v)
content_in_range c v room view (Ok x) e = let p = bind_ok (write_content c v (blank room)) finished (view x) e in content_valid c v (blank room) p.0 p.1
content_in_range c v room view (Err d) e = tt

pub appended_in_range : (s : Shape) (v : Value s) (w new : List ℕ) (r : Result Length Error) → IfOk r (λ len. appended s v w ≡ Ok (len.value, new)) → IfOk r (λ _. IsInRange s v → IsValid s v)
appended_in_range s v w new (Ok len) e =
    let p = bind_ok (size s v) (λ n. write s v (out w) >>= λ o. Ok (n, o.written)) (len.value, new) e in
    let q = bind_ok (write s v (out w)) (λ o. Ok (p.0, o.written)) (len.value, new) p.2 in
    written_valid s v (out w) q.0 q.1
appended_in_range s v w new (Err d) e = tt

-- Writing in two calls, or in one

pub first_refused : (memory : Bool) (a b : List ℕ) (o : Out) (k : ErrorKind) → FailsTaking memory k (put a o) → FailsTaking memory k (put (a ++ b) o)
first_refused memory a b o k h = λ other. sym (put-append a b o) ∙ ap (λ r. r >>= put b) (h other)

pub writes_both : (memory : Bool) (a b : List ℕ) (old mid new : Out) (r : Result (Unit {0}) Error) → put a old ≡ Ok mid → Writes memory mid new r (put b) → Writes memory old new r (put (a ++ b))
writes_both memory a b old mid new (Ok x) e h = sym (put-append a b old) ∙ ap (λ r. r >>= put b) e ∙ h
writes_both memory a b old mid new (Err x) e h = λ other. sym (put-append a b old) ∙ ap (λ r. r >>= put b) e ∙ h other
