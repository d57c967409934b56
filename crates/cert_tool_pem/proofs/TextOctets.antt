-- A text with boundary lines is decoded, and a text without them is returned as it is.
use Rattle.std.proofs.Common.{◌≡◌, ℕ, true, false, List, Result, Ok, Err, IfOk, IfErr, refl}
use Rattle.std.specs.List.{list_any}
use Rattle.cert_tool_pem.specs.declared.wanted.Wanted.{Wanted}
use Rattle.cert_tool_pem.specs.Pem.{is_boundary, lines_of, octets_of, text_octets, values_of}

pub with_blocks : (wanted : Wanted) (text : List ℕ) → list_any is_boundary (lines_of text) ≡ true → text_octets wanted text ≡ octets_of wanted (values_of wanted (lines_of text))
unfolding text_octets
with_blocks wanted text e = rw e refl

pub without_blocks : (wanted : Wanted) (text : List ℕ) → list_any is_boundary (lines_of text) ≡ false → text_octets wanted text ≡ Ok text
unfolding text_octets
without_blocks wanted text e = rw e refl

-- A fact about a value or an error implies another.
pub ok_by : {T E : Type 0} (r : Result T E) (P Q : T → Type 0) → ((x : T) → P x → Q x) → IfOk r P → IfOk r Q
ok_by (Ok x) P Q f p = f x p
ok_by (Err e) P Q f p = tt

pub err_by : {T E : Type 0} (r : Result T E) (P Q : E → Type 0) → ((e : E) → P e → Q e) → IfErr r P → IfErr r Q
err_by (Ok x) P Q f p = tt
err_by (Err e) P Q f p = f e p
