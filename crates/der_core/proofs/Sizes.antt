-- Lemmas: computing a length fails only if it exceeds `length_max`.
use Rattle.std.proofs.Common.{◌≡◌, ℕ, zero, suc, Bool, List, [], ◌∷◌, length, Some, None, Result, Ok, Err, refl, arith, inl, inr, slice_get, bytes_eq}
use Rattle.std.proofs.lemmas.Bool.Decides.{nat_tests}
use Rattle.der_core_coding.specs.CoreHead.declared.error.Error.{Error}
use Rattle.der_core_coding.specs.CoreHead.declared.error.ErrorKind.{ErrorKind}
use Rattle.der_core_coding.specs.CoreHead.declared.error.ErrorKind.TheVariants as kinds
use Rattle.der_core_coding.specs.CoreHead.declared.tag.Tag.{Tag}
use Rattle.der_core_coding.specs.CoreHead.Octets.{◌>>=◌}
use Rattle.der_core_coding.specs.CoreHead.Leaves.{leaf_contents}
use Rattle.der_core_coding.specs.CoreHead.Shapes.{Shape, Content, Body, tagged, any, either, optional, defaulted, nothing, leaf, nested, done, field, only, many, exactly, few, in_order, Value, ContentValue, BodyValue, octets_of}
use Rattle.der_core_coding.specs.CoreHead.Writing.{head_len, sum_len, fit_len, tlv_len, both_len, many_len, default_len, size, size_content, size_body}
use Rattle.der_core.specs.Orders.{Overflows}

abbrev pub OnlyOverflows : Result ℕ ErrorKind → Type 0
OnlyOverflows r = (k : ErrorKind) → r ≡ Err k → k ≡ kinds.Overflow

ok_only : (n : ℕ) → OnlyOverflows (Ok n)
ok_only n k e = absurd cc

bind_only : (r : Result ℕ ErrorKind) (f : ℕ → Result ℕ ErrorKind) → OnlyOverflows r → ((n : ℕ) → OnlyOverflows (f n)) → OnlyOverflows (r >>= f)
bind_only (Ok n) f p q = q n
bind_only (Err e) f p q = p

pub sum_only : (m n : ℕ) → OnlyOverflows (sum_len m n)
sum_only m n k e = grind (arith, nat_tests)

tlv_only : (t : Tag) (n : Result ℕ ErrorKind) → OnlyOverflows n → OnlyOverflows (tlv_len t n)
unfolding tlv_len head_len
tlv_only t n p = bind_only n _ p (λ n. sum_only _ n)

both_only : (m n : Result ℕ ErrorKind) → OnlyOverflows m → OnlyOverflows n → OnlyOverflows (both_len m n)
unfolding both_len
both_only m n p q = bind_only m _ p (λ m. bind_only n _ q (λ n. sum_only m n))

many_only : {P : Type 0} (f : P → Result ℕ ErrorKind) → ((x : P) → OnlyOverflows (f x)) → (xs : List P) (n : ℕ) → OnlyOverflows (many_len f xs n)
many_only f each [] n k e = absurd cc
many_only f each (x ∷ xs) n k e = grind (arith, nat_tests, each x, many_only f each xs)

default_only : (b : Bool) (n : Result ℕ ErrorKind) → OnlyOverflows n → OnlyOverflows (default_len b n)
unfolding default_len
default_only b n p k e = grind (arith, nat_tests, p k)

mutual
  pub size_only : (s : Shape) (v : Value s) → OnlyOverflows (size s v)
  size_only (tagged t c) v = tlv_only t (size_content c v) (content_only c v)
  size_only any v = tlv_only v.tag (fit_len (length v.contents)) (sum_only (length v.contents) 0)
  size_only (either a b) (inl v) = size_only a v
  size_only (either a b) (inr v) = size_only b v
  size_only (optional s) None = ok_only 0
  size_only (optional s) (Some v) = size_only s v
  size_only nothing v = ok_only 0
  size_only (defaulted s d) v = default_only (bytes_eq (octets_of s v) d) (size s v) (size_only s v)

  pub content_only : (c : Content) (v : ContentValue c) → OnlyOverflows (size_content c v)
  content_only (leaf l) v = sum_only (length (leaf_contents l v)) 0
  content_only (nested b) v = body_only b v

  pub body_only : (b : Body) (v : BodyValue b) → OnlyOverflows (size_body b v)
  body_only done v = ok_only 0
  body_only (field s b) v = both_only (size s v.0) (size_body b v.1) (size_only s v.0) (body_only b v.1)
  body_only (only s) v = size_only s v
  body_only (many s) v = many_only (size s) (size_only s) v 0
  body_only (exactly n s) v = many_only (size s) (size_only s) v 0
  body_only (few n s) v = many_only (size s) (size_only s) v 0
  body_only (in_order how s) v = many_only (size s) (size_only s) v 0

-- If a part is too long, so is the whole

pub tlv_over : (t : Tag) (n : Result ℕ ErrorKind) → n ≡ Err kinds.Overflow → tlv_len t n ≡ Err kinds.Overflow
unfolding tlv_len
tlv_over t n e = rw e refl

pub first_over : (m n : Result ℕ ErrorKind) → m ≡ Err kinds.Overflow → both_len m n ≡ Err kinds.Overflow
unfolding both_len
first_over m n e = rw e refl

pub second_over : (m n : Result ℕ ErrorKind) → OnlyOverflows m → n ≡ Err kinds.Overflow → both_len m n ≡ Err kinds.Overflow
unfolding both_len
second_over m n p e = grind (arith, nat_tests, p)

pub over_or : (r : Result ℕ ErrorKind) (f : ℕ → Result ℕ ErrorKind) → OnlyOverflows r → ((n : ℕ) → f n ≡ Err kinds.Overflow) → (r >>= f) ≡ Err kinds.Overflow
over_or (Ok n) f p q = q n
over_or (Err k) f p q = rw (p k refl) refl

pub many_over : {P : Type 0} (f : P → Result ℕ ErrorKind) → ((x : P) → OnlyOverflows (f x)) → (xs : List P) (n i : ℕ) (x : P) → slice_get xs i ≡ Some x → f x ≡ Err kinds.Overflow → many_len f xs n ≡ Err kinds.Overflow
many_over f each [] n i x g e = absurd cc
many_over f each (y ∷ xs) n zero x g e =
    let same : y ≡ x = cc in
    rw (same, e) refl
many_over f each (y ∷ xs) n (suc i) x g e =
    over_or (f y) (λ m. sum_len n m >>= many_len f xs) (each y) (λ m. over_or (sum_len n m) (many_len f xs) (sum_only n m) (λ k. many_over f each xs k i x g e))

pub longer : (e : Error) {m n p q : Result ℕ ErrorKind} → (m ≡ Err kinds.Overflow → p ≡ Err kinds.Overflow) → (n ≡ Err kinds.Overflow → q ≡ Err kinds.Overflow) → Overflows e m n → Overflows e p q
longer e f g h = record { kind = h.kind; length = elim h.length [ inl o ↦ inl (f o) | inr o ↦ inr (g o) ] }
