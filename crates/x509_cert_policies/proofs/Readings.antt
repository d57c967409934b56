-- Lemmas about values in the presentation language of TLS: bytes begin with the encoding of at most
-- one value, and are then not rejected.
use Rattle.std.proofs.Common.{◌≡◌, ℕ, ◌+◌, ◌<◌, List, length, get_or, refl, arith, length-append, ◌≢◌, ◌^◌, [], ◌∷◌, ◌++◌, sym, ap, subst, ◌∙◌, append_assoc, inl, inr, IsTrue, ◌==◌, take, flat_map, All, Bool, false, min, drop, length-take, take-append-drop, ◌≤◌}
use Rattle.std.specs.Int.{w16, w64, from_be_bytes}
use Rattle.std.proofs.lemmas.Nat.{be_bytes_2, be_bytes_8, from_be_bytes-to_be_bytes_2, from_be_bytes-to_be_bytes_8}
use Rattle.x509_cert_policies.specs.Forms.{short_octets, long_octets, vector, octets, Form, Plain, named, long, exactly, pair, Spells, Refuses, RefusesWhole, FailsOn, Appends}
use Rattle.std.specs.List.{AllByRecursion, list_any}
use Rattle.std.proofs.lemmas.Bool.Decides.{nat_tests}
use Rattle.der_core.proofs.DigitLaws.{split-same_length}
use Rattle.x509_cert_policies.specs.declared.tls_error.TlsError.{TlsError}
use Rattle.std.proofs.lemmas.List.{flat_map_more, take_more, take_all, take-take, take-append-le}
use Rattle.x509_cert_policies.specs.declared.serialized_sct.SerializedSct.{SerializedSct}
use Rattle.x509_cert_policies.specs.Lists.{IsMember, sct_octets, ReadsNoMembers}
use Rattle.x509_cert_policies.specs.declared.signed_certificate_timestamp.SignedCertificateTimestamp.{SignedCertificateTimestamp}
use Rattle.x509_cert_policies.specs.Timestamps.{timestamp_form, timestamp_plain, signed_form, signed_plain}

-- Numbers of two and of eight bytes.

-- Two bytes are the encoding of their number.
pub short_of : (bytes : List ℕ) (n : ℕ) → length bytes ≡ 2 → ((i : ℕ) → get_or bytes i 0 < 256) → n ≡ from_be_bytes w16 bytes → short_octets n ≡ bytes
unfolding short_octets
short_of bytes n len fits is = be_bytes_2 bytes n len fits is

-- Eight bytes are the encoding of their number.
pub long_of : (bytes : List ℕ) (n : ℕ) → length bytes ≡ 8 → ((i : ℕ) → get_or bytes i 0 < 256) → n ≡ from_be_bytes w64 bytes → long_octets n ≡ bytes
unfolding long_octets
long_of bytes n len fits is = be_bytes_8 bytes n len fits is

pub length-short : (n : ℕ) → length (short_octets n) ≡ 2
unfolding short_octets
length-short n = refl

pub length-long : (n : ℕ) → length (long_octets n) ≡ 8
unfolding long_octets
length-long n = refl

pub vector_length : (v : List ℕ) → length (octets vector v) ≡ length v + 2
vector_length v = omega (arith, length-append (short_octets (length v)) v, length-short (length v))

same_short : (n m : ℕ) → n < 2 ^ 16 → m < 2 ^ 16 → short_octets n ≡ short_octets m → n ≡ m
unfolding short_octets
same_short n m h k e = sym (from_be_bytes-to_be_bytes_2 n h) ∙ ap (λ (w : List ℕ). from_be_bytes w16 w) e ∙ from_be_bytes-to_be_bytes_2 m k

same_long : (n m : ℕ) → n < 2 ^ 64 → m < 2 ^ 64 → long_octets n ≡ long_octets m → n ≡ m
unfolding long_octets
same_long n m h k e = sym (from_be_bytes-to_be_bytes_8 n h) ∙ ap (λ (w : List ℕ). from_be_bytes w64 w) e ∙ from_be_bytes-to_be_bytes_8 m k

short_once : (n m : ℕ) (r s : List ℕ) → n < 2 ^ 16 → m < 2 ^ 16 → short_octets n ++ r ≡ short_octets m ++ s → (n ≡ m) × (r ≡ s)
short_once n m r s h k e =
    let parts = split-same_length (short_octets n) (short_octets m) r s (length-short n ∙ sym (length-short m)) e in
    (same_short n m h k parts.0, parts.1)

pub spelled_once : (f : Form) (v w : Plain f) (input r s : List ℕ) → Spells f v input r → Spells f w input s → (v ≡ w) × (r ≡ s)
spelled_once (named numbers) v w input r s p q =
    let e : v ∷ r ≡ w ∷ s = sym p.split ∙ q.split in
    (cc, cc)
spelled_once long v w input r s p q =
    let parts = split-same_length (long_octets v) (long_octets w) r s (length-long v ∙ sym (length-long w)) (sym p.split ∙ q.split) in
    (same_long v w p.value q.value parts.0, parts.1)
spelled_once (exactly n) v w input r s p q = split-same_length v w r s (p.value ∙ sym q.value) (sym p.split ∙ q.split)
spelled_once vector v w input r s p q =
    let e = sym (append_assoc (short_octets (length v)) v r) ∙ sym p.split ∙ q.split ∙ append_assoc (short_octets (length w)) w s in
    let parts = short_once (length v) (length w) (v ++ r) (w ++ s) p.value q.value e in
    split-same_length v w r s parts.0 parts.1
spelled_once (pair f g) v w input r s p q =
    let first = spelled_once f v.0 w.0 input (octets g v.1 ++ r) (octets g w.1 ++ s)
    (record { value = p.value.0; split = p.split ∙ append_assoc (octets f v.0) (octets g v.1) r })
    (record { value = q.value.0; split = q.split ∙ append_assoc (octets f w.0) (octets g w.1) s }) in
    let second = spelled_once g v.1 w.1 (octets g v.1 ++ r) r s
    (record { value = p.value.1; split = refl })
    (record { value = q.value.1; split = first.1 }) in
    let a : v.0 ≡ w.0 = first.0 in
    let b : v.1 ≡ w.1 = second.0 in
    (ap (λ (x : Plain f). (x, v.1)) a ∙ ap (λ (y : Plain g). (w.0, y)) b, second.1)

known : (numbers : List ℕ) (v : ℕ) → IsTrue (list_any (λ n. n == v) numbers) → AllByRecursion (λ m. v ≢ m) numbers → ⊥
known [] v listed none = absurd cc
known (n ∷ numbers) v listed none = grind (arith, nat_tests, none.0, λ (e : IsTrue (list_any (λ m. m == v) numbers)). known numbers v e none.1)

pub spelled_not_refused : (f : Form) (v : Plain f) (input r : List ℕ) (e : TlsError) → Spells f v input r → Refuses f input e → ⊥
spelled_not_refused (named numbers) v input r e p (inl none) =
    let is : v ∷ r ≡ [] = sym p.split ∙ none.0 in absurd cc
spelled_not_refused (named numbers) v input r e p (inr (n, rest, is, unknown, _)) =
    let same : v ∷ r ≡ n ∷ rest = sym p.split ∙ is in
    let number : n ≡ v = cc in
    known numbers v p.value (rw number at unknown)
spelled_not_refused long v input r e p refused = omega (arith, refused.0, ap length p.split, length-append (long_octets v) r, length-long v)
spelled_not_refused (exactly n) v input r e p refused = omega (arith, refused.0, p.value, ap length p.split, length-append v r)
spelled_not_refused vector v input r e p (inl short, _) =
    omega (arith, short, ap length p.split, length-append (short_octets (length v) ++ v) r, length-append (short_octets (length v)) v, length-short (length v))
spelled_not_refused vector v input r e p (inr (n, rest, below, is, ends), _) =
    let parts = short_once (length v) n (v ++ r) rest p.value below (sym (append_assoc (short_octets (length v)) v r) ∙ sym p.split ∙ is) in
    omega (arith, ends, parts.0, ap length parts.1, length-append v r)
spelled_not_refused (pair f g) v input r e p (inl refused) =
    spelled_not_refused f v.0 input (octets g v.1 ++ r) e (record { value = p.value.0; split = p.split ∙ append_assoc (octets f v.0) (octets g v.1) r }) refused
spelled_not_refused (pair f g) v input r e p (inr (w, rest, spelled, refused)) =
    let first = spelled_once f v.0 w input (octets g v.1 ++ r) rest (record { value = p.value.0; split = p.split ∙ append_assoc (octets f v.0) (octets g v.1) r }) spelled in
    spelled_not_refused g v.1 rest r e (record { value = p.value.1; split = sym first.1 }) refused

pub spelled_whole : (f : Form) (v : Plain f) (input : List ℕ) (e : TlsError) → Spells f v input [] → RefusesWhole f input e → ⊥
spelled_whole f v input e p (inl refused) = spelled_not_refused f v input [] e p refused
spelled_whole f v input e p (inr (w, rest, spelled, left, _)) =
    let parts = spelled_once f v w input [] rest p spelled in
    left (sym parts.1)

pub refused_once : (f : Form) (input : List ℕ) (d e : TlsError) → Refuses f input d → Refuses f input e → d ≡ e
refused_once (named numbers) input d e p q = grind arith
refused_once long input d e p q = p.1 ∙ sym q.1
refused_once (exactly n) input d e p q = p.1 ∙ sym q.1
refused_once vector input d e p q = p.1 ∙ sym q.1
refused_once (pair f g) input d e (inl p) (inl q) = refused_once f input d e p q
refused_once (pair f g) input d e (inl p) (inr (v, rest, spelled, q)) = absurd (spelled_not_refused f v input rest d spelled p)
refused_once (pair f g) input d e (inr (v, rest, spelled, p)) (inl q) = absurd (spelled_not_refused f v input rest e spelled q)
refused_once (pair f g) input d e (inr (v, rest, spelled, p)) (inr (w, other, spelled_also, q)) =
    let parts = spelled_once f v w input rest other spelled spelled_also in
    let P : List ℕ → Type 0 = λ z. Refuses g z d in
    refused_once g other d e (subst P parts.1 p) q

-- Encoding or decoding another member of a list.

taken : (xs : List SerializedSct) (i : ℕ) (d : SerializedSct) → i < length xs → flat_map sct_octets (take (i + 1) xs) ≡ flat_map sct_octets (take i xs) ++ sct_octets (get_or xs i d)
taken xs i d h = ap (λ (z : List SerializedSct). flat_map sct_octets z) (take_more xs i d h) ∙ sym (flat_map_more sct_octets [] (take i xs) (get_or xs i d))

-- If bytes remain, the rest isn't empty.
pub some_left : (w : List ℕ) (is_empty : Bool) → is_empty ≡ (length w == 0) → is_empty ≡ false → w ≢ []
some_left [] is_empty is more = λ e. absurd cc
some_left (x ∷ w) is_empty is more = λ e. absurd cc

pub one_more_written : (xs : List SerializedSct) (i : ℕ) (x : SerializedSct) (old new : List ℕ) → i < length xs → x ≡ get_or xs i x → old ≡ flat_map sct_octets (take i xs) → Appends vector x.data.items old new → new ≡ flat_map sct_octets (take (i + 1) xs)
one_more_written xs i x old new h is so_far appended =
    appended.octets_behind ∙ ap (λ (t : List ℕ). t ++ sct_octets x) so_far ∙ ap (λ (s : SerializedSct). flat_map sct_octets (take i xs) ++ sct_octets s) is ∙ sym (taken xs i x h)

pub one_more_read : (xs ys : List SerializedSct) (x : SerializedSct) (body more rest : List ℕ) → ys ≡ xs ++ x ∷ [] → body ≡ flat_map sct_octets xs ++ more → Spells vector x.data.items more rest → body ≡ flat_map sct_octets ys ++ rest
one_more_read xs ys x body more rest is parts spelled =
    parts ∙ ap (λ (t : List ℕ). flat_map sct_octets xs ++ t) spelled.split
    ∙ sym (append_assoc (flat_map sct_octets xs) (sct_octets x) rest)
    ∙ ap (λ (t : List ℕ). t ++ rest) (flat_map_more sct_octets [] xs x ∙ ap (λ (z : List SerializedSct). flat_map sct_octets z) (sym is))

pub less_is_left : (v input rest : List ℕ) → Spells vector v input rest → length rest < length input
less_is_left v input rest spelled = omega (arith, ap length spelled.split, length-append (octets vector v) rest, vector_length v)

pub member_refused : (xs : List SerializedSct) (body more : List ℕ) (e : TlsError) → All IsMember xs → body ≡ flat_map sct_octets xs ++ more → more ≢ [] → FailsOn vector more e → ReadsNoMembers body e
member_refused xs body more e each parts is_more (inl memory) = inl memory
member_refused xs body more e each parts is_more (inr refused) = inr (record { scts = xs; more = more; each = each; parts = parts; is_more = is_more; refused = refused })

-- An encoded list is much shorter than the longest OCTET STRING.
pub list_is_short : (body old new : List ℕ) → old ≡ [] → Appends vector body old new → length new < 2 ^ 32
list_is_short body old new empty written =
    omega (arith, written.value, ap length empty, ap length written.octets_behind, length-append old (octets vector body), vector_length body)

-- The length of a timestamp's encoding.

pub timestamp_length : (t : SignedCertificateTimestamp) → length (octets timestamp_form (timestamp_plain t)) ≡ length t.log_id.key_id + 9 + length (octets vector t.extensions.items) + length (octets signed_form (signed_plain t.signature))
timestamp_length t =
    let e = octets vector t.extensions.items in
    let s = octets signed_form (signed_plain t.signature) in
    omega (arith, length-append t.log_id.key_id (long_octets t.timestamp ++ (e ++ s)), length-append (long_octets t.timestamp) (e ++ s), length-append e s, length-long t.timestamp)

-- Two fields, one after the other: decoding, rejecting and encoding them.

pub first_fails : (f g : Form) (input : List ℕ) (e : TlsError) → FailsOn f input e → FailsOn (pair f g) input e
first_fails f g input e (inl memory) = inl memory
first_fails f g input e (inr refused) = inr (inl refused)

pub second_fails : (f g : Form) (v : Plain f) (input rest : List ℕ) (e : TlsError) → Spells f v input rest → FailsOn g rest e → FailsOn (pair f g) input e
second_fails f g v input rest e spelled (inl memory) = inl memory
second_fails f g v input rest e spelled (inr refused) = inr (inr (v, rest, spelled, refused))

pub both_spelled : (f g : Form) (a : Plain f) (b : Plain g) (input mid rest : List ℕ) → Spells f a input mid → Spells g b mid rest → Spells (pair f g) (a, b) input rest
both_spelled f g a b input mid rest p q = record {
  value = (p.value, q.value);
  split = p.split ∙ ap (λ (t : List ℕ). octets f a ++ t) q.split ∙ sym (append_assoc (octets f a) (octets g b) rest);
}

-- The first `n` bytes.
pub exactly_spelled : (n : ℕ) (input front rest : List ℕ) → front ≡ take n input → rest ≡ drop n input → length rest + n ≡ length input → Spells (exactly n) front input rest
exactly_spelled n input front rest f r len = record {
  value = ap length f ∙ length-take n input ∙ (let k : min n (length input) ≡ n = omega arith in k);
  split = sym (take-append-drop n input) ∙ ap (λ (t : List ℕ). t ++ drop n input) (sym f) ∙ ap (λ (t : List ℕ). front ++ t) (sym r);
}

-- The old bytes after an append.

pub front_same : (old : List ℕ) → take (length old) old ≡ old
front_same old = take_all (length old) old (omega arith)

pub front_behind : (old more new : List ℕ) → take (length (old ++ more)) new ≡ old ++ more → take (length old) new ≡ old
front_behind old more new e =
    let n = length old in
    let below : n ≤ length (old ++ more) = omega (arith, length-append old more) in
    sym (take-take n (length (old ++ more)) new below) ∙ ap (take n) e ∙ take-append-le n old more (omega arith) ∙ front_same old

pub ruleset fronts = (front_same, front_behind)
