-- Lemmas for `undo_escapes`: a text represents bytes exactly if removing its escapes, byte by byte,
-- yields these bytes.
use Rattle.std.proofs.Common.{◌≡◌, ◌≢◌, ℕ, ◌*◌, ◌+◌, ◌==◌, List, [], ◌∷◌, ◌++◌, Bool, true, false, refl, sym, ap, ◌∙◌, append_assoc, length, arith, append-nil, Option, Some, None, Result, Ok, Err, if◌then◌else◌}
use Rattle.std.proofs.lemmas.Bool.{eqb-true, eqb-false}
use Rattle.std.proofs.lemmas.Bool.Decides.{nat_tests}
use Rattle.der_core.specs.ErrorTypes.ErrorKind.{ErrorKind}
use Rattle.der_core.specs.ErrorTypes.ErrorKind.TheVariants as kinds
use Rattle.der_core.specs.Octets.{◌>>=◌}
use Rattle.hex.specs.Hex.{hex_digit_value}
use Rattle.x509_cert_name_texts.specs.Escapes.{is_sign, octet_of_digits, escape, StandsFor, ReadsOctets}

-- A byte before the bytes that the rest yields.
abbrev pub octet_before : ℕ → Result (List ℕ) ErrorKind → Result (List ℕ) ErrorKind
octet_before c r = r >>= λ w. Ok (c ∷ w)

-- The bytes that remain when the escapes of a text are removed, computed from left to right.
unfoldable pub undone : List ℕ → Result (List ℕ) ErrorKind
undone [] = Ok []
undone (c ∷ []) = if c == 92 then Err kinds.Failed else Ok (c ∷ [])
undone (c ∷ d ∷ []) = if c == 92 then (if is_sign d then Ok (d ∷ []) else Err kinds.Failed)
    else octet_before c (undone (d ∷ []))
undone (c ∷ d ∷ e ∷ w) =
    if c == 92
    then (if is_sign d then octet_before d (undone (e ∷ w))
    else (octet_of_digits (hex_digit_value d) (hex_digit_value e)
    >>= λ octet. octet_before octet (undone w)))
    else octet_before c (undone (d ∷ e ∷ w))

-- Bytes before the bytes that the rest yields.
abbrev pub in_front : List ℕ → Result (List ℕ) ErrorKind → Result (List ℕ) ErrorKind
in_front v r = r >>= λ w. Ok (v ++ w)

in_front-push : (v : List ℕ) (c : ℕ) (r : Result (List ℕ) ErrorKind) → in_front v (octet_before c r) ≡ in_front (v ++ (c ∷ [])) r
in_front-push v c (Ok w) = ap (λ u. Ok u) (sym (append_assoc v (c ∷ []) w))
in_front-push v c (Err e) = refl

undone-plain : (c : ℕ) (w : List ℕ) → ¬ (c ≡ 92) → undone (c ∷ w) ≡ octet_before c (undone w)
unfolding undone
undone-plain c [] n = grind (arith, nat_tests)
undone-plain c (d ∷ []) n = grind (arith, nat_tests)
undone-plain c (d ∷ e ∷ w) n = grind (arith, nat_tests)

-- The byte of an escape before the bytes that the rest yields.
abbrev escape_first : Result (ℕ × List ℕ) ErrorKind → Result (List ℕ) ErrorKind
escape_first r = r >>= λ x. octet_before x.0 (undone x.1)

by_sign : (b : Bool) (c d : ℕ) (w : List ℕ) (r : Result ℕ ErrorKind) → (if b then octet_before c (undone (d ∷ w)) else (r >>= λ octet. octet_before octet (undone w)))
    ≡ escape_first (if b then Ok (c, d ∷ w) else (r >>= λ octet. Ok (octet, w)))
by_sign true c d w r = refl
by_sign false c d w (Ok octet) = refl
by_sign false c d w (Err e) = refl

undone-escape : (c : ℕ) (w : List ℕ) → c ≡ 92 → undone (c ∷ w) ≡ escape_first (escape w)
unfolding undone
undone-escape c [] n = grind (arith, nat_tests)
undone-escape c (d ∷ []) n = grind (arith, nat_tests)
undone-escape c (d ∷ e ∷ w) n = rw n (by_sign (is_sign d) d e w (octet_of_digits (hex_digit_value d) (hex_digit_value e)))

-- The steps of the loop: a plain byte, an escape, or an error.
pub next_plain : (v left items behind : List ℕ) (c : ℕ) → left ≡ c ∷ behind → ¬ (c ≡ 92) → items ≡ v ++ (c ∷ []) → in_front v (undone left) ≡ in_front items (undone behind)
next_plain v left items behind c e n f = rw (e, undone-plain c behind n, f) (in_front-push v c (undone behind))

pub next_escape : (v left items behind rest : List ℕ) (c octet : ℕ) → left ≡ c ∷ behind → c ≡ 92 → escape behind ≡ Ok (octet, rest) → items ≡ v ++ (octet ∷ [])
    → in_front v (undone left) ≡ in_front items (undone rest)
next_escape v left items behind rest c octet e n f g = rw (e, undone-escape c behind n, f, g) (in_front-push v octet (undone rest))

pub no_escape : (v left behind : List ℕ) (c : ℕ) (k : ErrorKind) → left ≡ c ∷ behind → c ≡ 92 → escape behind ≡ Err k → in_front v (undone left) ≡ Err k
no_escape v left behind c k e n f = rw (e, undone-escape c behind n, f) refl

pub in_front-nil : (v left : List ℕ) → length left ≡ 0 → in_front v (undone left) ≡ Ok v
unfolding undone
in_front-nil v [] e = ap (λ u. Ok u) (append-nil v)
in_front-nil v (c ∷ left) e = absurd (omega arith)

-- If a text represents bytes, removing its escapes yields them.

not_sign : (c high : ℕ) → hex_digit_value c ≡ Some high → is_sign c ≡ false
not_sign c high e = grind (arith, nat_tests)

escape-sign : (c : ℕ) (w : List ℕ) → is_sign c ≡ true → escape (c ∷ w) ≡ Ok (c, w)
escape-sign c [] e = rw e refl
escape-sign c (d ∷ w) e = rw e refl

escape-pair : (c d high low : ℕ) (w : List ℕ) → hex_digit_value c ≡ Some high → hex_digit_value d ≡ Some low → escape (c ∷ d ∷ w) ≡ Ok (high * 16 + low, w)
escape-pair c d high low w e f = rw (not_sign c high e, e, f) refl

pub stands_undone : {text octets : List ℕ} → StandsFor text octets → undone text ≡ Ok octets
unfolding undone
stands_undone StandsFor.end = refl
stands_undone (StandsFor.plain c text octets n s) = undone-plain c text n ∙ ap (octet_before c) (stands_undone s)
stands_undone (StandsFor.sign c text octets e s) = undone-escape 92 (c ∷ text) refl ∙ ap escape_first (escape-sign c text e) ∙ ap (octet_before c) (stands_undone s)
stands_undone (StandsFor.hexpair c d high low text octets e f s) =
    undone-escape 92 (c ∷ d ∷ text) refl ∙ ap escape_first (escape-pair c d high low text e f) ∙ ap (octet_before (high * 16 + low)) (stands_undone s)

pub stands_for_one : (text v w : List ℕ) → StandsFor text v → StandsFor text w → v ≡ w
stands_for_one text v w h k = let e = stands_undone h in let f = stands_undone k in cc (e, f)

-- If removing the escapes of a text yields bytes, the text represents them.

abbrev Fits : List ℕ → Result (List ℕ) ErrorKind → Type 0
Fits text (Ok octets) = StandsFor text octets
Fits text (Err e) = e ≡ kinds.Failed

fits_plain : (c : ℕ) (w : List ℕ) (r : Result (List ℕ) ErrorKind) → c ≢ 92 → Fits w r → Fits (c ∷ w) (octet_before c r)
fits_plain c w (Ok v) n h = StandsFor.plain c w v n h
fits_plain c w (Err e) n h = h

fits_sign : (c : ℕ) (w : List ℕ) (r : Result (List ℕ) ErrorKind) → is_sign c ≡ true → Fits w r → Fits (92 ∷ c ∷ w) (octet_before c r)
fits_sign c w (Ok v) n h = StandsFor.sign c w v n h
fits_sign c w (Err e) n h = h

fits_pair : (c d : ℕ) (w : List ℕ) (o p : Option ℕ) (r : Result (List ℕ) ErrorKind) → hex_digit_value c ≡ o → hex_digit_value d ≡ p → Fits w r
    → Fits (92 ∷ c ∷ d ∷ w) (octet_of_digits o p >>= λ octet. octet_before octet r)
fits_pair c d w (Some high) (Some low) (Ok v) e f h = StandsFor.hexpair c d high low w v e f h
fits_pair c d w (Some high) (Some low) (Err k) e f h = h
fits_pair c d w (Some high) None r e f h = refl
fits_pair c d w None p r e f h = refl

fits_escape : (d e : ℕ) (w : List ℕ) (b : Bool) → is_sign d ≡ b → Fits (e ∷ w) (undone (e ∷ w)) → Fits w (undone w)
    → Fits (92 ∷ d ∷ e ∷ w) (if b then octet_before d (undone (e ∷ w)) else (octet_of_digits (hex_digit_value d) (hex_digit_value e) >>= λ octet. octet_before octet (undone w)))
fits_escape d e w true s h k = fits_sign d (e ∷ w) (undone (e ∷ w)) s h
fits_escape d e w false s h k = fits_pair d e w (hex_digit_value d) (hex_digit_value e) (undone w) refl refl k

fits_short : (d : ℕ) (b : Bool) → is_sign d ≡ b → Fits (92 ∷ d ∷ []) (if b then Ok (d ∷ []) else Err kinds.Failed)
fits_short d true s = StandsFor.sign d [] [] s StandsFor.end
fits_short d false s = refl

-- Both cases of the first byte: a backslash or another byte.
by_first : (c : ℕ) (w : List ℕ) (x y : Result (List ℕ) ErrorKind) (b : Bool) → (c == 92) ≡ b → Fits (92 ∷ w) x → (c ≢ 92 → Fits (c ∷ w) y) → Fits (c ∷ w) (if b then x else y)
by_first c w x y true e h k = rw (eqb-true c 92 e) h
by_first c w x y false e h k = k (eqb-false c 92 e)

fits : (text : List ℕ) → Fits text (undone text)
unfolding undone
fits [] = StandsFor.end
fits (c ∷ []) = by_first c [] (Err kinds.Failed) (Ok (c ∷ [])) (c == 92) refl refl (λ n. StandsFor.plain c [] [] n StandsFor.end)
fits (c ∷ d ∷ []) =
    by_first c (d ∷ []) (if is_sign d then Ok (d ∷ []) else Err kinds.Failed) (octet_before c (undone (d ∷ []))) (c == 92) refl (fits_short d (is_sign d) refl)
    (λ n. fits_plain c (d ∷ []) (undone (d ∷ [])) n (fits (d ∷ [])))
fits (c ∷ d ∷ e ∷ w) =
    by_first c (d ∷ e ∷ w)
    (if is_sign d then octet_before d (undone (e ∷ w)) else (octet_of_digits (hex_digit_value d) (hex_digit_value e) >>= λ octet. octet_before octet (undone w)))
    (octet_before c (undone (d ∷ e ∷ w))) (c == 92) refl (fits_escape d e w (is_sign d) refl (fits (e ∷ w)) (fits w)) (λ n. fits_plain c (d ∷ e ∷ w) (undone (d ∷ e ∷ w)) n (fits (d ∷ e ∷ w)))

pub undone_stands : (text octets : List ℕ) → undone text ≡ Ok octets → StandsFor text octets
undone_stands text octets e = let h = fits text in rw e at h

pub undone_fails : (text : List ℕ) (k : ErrorKind) → undone text ≡ Err k → ReadsOctets text (Err k)
undone_fails text k e = let h = fits text in (rw e at h, λ octets s. let f = stands_undone s in absurd (cc (e, f)))
