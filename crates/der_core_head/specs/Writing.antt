-- Encoding to a writer, with the first error, and the lengths of encodings.
use Rattle.std.specs.Prelude.{◌≡◌, ◌≢◌, ℕ, ◌+◌, ◌-◌, List, [], ◌∷◌, ◌++◌, length, Bool, true, false}
use Rattle.std.specs.Prelude.{bytes_eq, Option, Some, None, Result, Ok, Err, nat_lt, if◌then◌else◌}
use Rattle.der_core_head.specs.declared.error.Error.{Error}
use Rattle.der_core_head.specs.declared.error.ErrorKind.{ErrorKind}
use Rattle.der_core_head.specs.declared.error.ErrorKind.TheVariants as kinds
use Rattle.std.proofs.Common.{inl, inr}
use Rattle.der_core_head.specs.Leaves.{leaf_contents}
use Rattle.der_core_head.specs.Shapes.{Step, Shape, Body, leaf, done, field, only, many, few, Value}
use Rattle.der_core_head.specs.Shapes.{Content, tagged, either, nothing, nested, exactly, in_order}
use Rattle.der_core_head.specs.Shapes.{any, optional, defaulted, ContentValue, BodyValue, octets_of}
use Rattle.der_core_head.specs.declared.tag.Tag.{Tag}
use Rattle.der_core_head.specs.Octets.{◌>>=◌}
use Rattle.der_core_head.specs.Limits.{length_max}
use Rattle.der_core_head.specs.Grammar.{follows_last}
use Rattle.der_core_head.specs.Tags.{tag_octets}
use Rattle.der_core_head.specs.Heads.{length_octets, head_octets}

-- The state of a writer: the bytes written so far, the number of bytes that still fit (`None`
-- without a limit), and whether a write has failed.
pub record Out : Type 0 where
  pub written : List ℕ
  pub room : Option ℕ
  pub failed : Bool

-- There is room for fewer than `n` bytes.
abbrev pub lacks : Option ℕ → ℕ → Bool
lacks None n = false
lacks (Some r) n = nat_lt r n

-- The room after `n` bytes.
abbrev pub less : Option ℕ → ℕ → Option ℕ
less None n = None
less (Some r) n = Some (r - n)

-- Writes bytes.
unfoldable pub put : List ℕ → Out → Result Out ErrorKind
put b o = if o.failed then Err kinds.Failed else if lacks o.room (length b)
    then Err kinds.Overlength
    else Ok (record { written = o.written ++ b; room = less o.room (length b); failed = false })

-- The sum of two lengths, or `Overflow`.
abbrev pub sum_len : ℕ → ℕ → Result ℕ ErrorKind
sum_len m n = if nat_lt length_max (m + n) then Err kinds.Overflow else Ok (m + n)

-- Writes a header, if its length and that of the content together don't exceed `length_max`.
unfoldable pub put_head : Tag → ℕ → Out → Result Out ErrorKind
put_head t n o = sum_len (length (head_octets t n)) n >>= λ _. put (tag_octets t) o
    >>= put (length_octets n)

-- The length of a header.
unfoldable pub head_len : Tag → ℕ → Result ℕ ErrorKind
head_len t n = Ok (length (head_octets t n))

-- The length of a header for a content of `n` bytes, and of the content.
unfoldable pub tlv_len : Tag → Result ℕ ErrorKind → Result ℕ ErrorKind
tlv_len t n = n >>= λ n. head_len t n >>= λ h. sum_len h n

-- The sum of two lengths that may be errors.
unfoldable pub both_len : Result ℕ ErrorKind → Result ℕ ErrorKind → Result ℕ ErrorKind
both_len m n = m >>= λ m. n >>= λ n. sum_len m n

-- The sum of the lengths of several values, and of `n`.
abbrev pub many_len : {P : Type 0} → (P → Result ℕ ErrorKind) → List P → ℕ → Result ℕ ErrorKind
many_len f [] n = Ok n
many_len f (x ∷ xs) n = f x >>= λ m. sum_len n m >>= many_len f xs

-- A number of bytes, or `Overflow` if it exceeds `length_max`.
abbrev pub fit_len : ℕ → Result ℕ ErrorKind
fit_len n = sum_len n 0

-- The length of a field with a default: 0 if its value is the default.
unfoldable pub default_len : Bool → Result ℕ ErrorKind → Result ℕ ErrorKind
default_len true n = Ok 0
default_len false n = n

-- The length of the encoding of a value.
abbrev mutual
  pub size : (s : Shape) → Value s → Result ℕ ErrorKind
  size (tagged t c) v = tlv_len t (size_content c v)
  size any v = tlv_len v.tag (fit_len (length v.contents))
  size (either a b) (inl v) = size a v
  size (either a b) (inr v) = size b v
  size (optional s) None = Ok 0
  size (optional s) (Some v) = size s v
  size (defaulted s d) v = default_len (bytes_eq (octets_of s v) d) (size s v)
  size nothing v = Ok 0

  pub size_content : (c : Content) → ContentValue c → Result ℕ ErrorKind
  size_content (leaf l) v = fit_len (length (leaf_contents l v))
  size_content (nested b) v = size_body b v

  pub size_body : (b : Body) → BodyValue b → Result ℕ ErrorKind
  size_body done v = Ok 0
  size_body (field s b) v = both_len (size s v.0) (size_body b v.1)
  size_body (only s) v = size s v
  size_body (many s) v = many_len (size s) v 0
  size_body (exactly n s) v = many_len (size s) v 0
  size_body (few n s) v = many_len (size s) v 0
  size_body (in_order how s) v = many_len (size s) v 0

-- Writes a header for a content of `n` bytes, and then the content.
unfoldable pub write_tlv : Tag → Result ℕ ErrorKind → (Out → Result Out ErrorKind) → Out
    → Result Out ErrorKind
write_tlv t n f o = n >>= λ n. put_head t n o >>= f

-- Writes several values.
abbrev pub write_many : {P : Type 0} → (P → Out → Result Out ErrorKind) → List P → Out
    → Result Out ErrorKind
write_many f [] o = Ok o
write_many f (x ∷ xs) o = f x o >>= write_many f xs

-- Checks that each encoding may follow the one before (X.690 11.6).
abbrev pub all_follow : {P : Type 0} → Step → (P → List ℕ) → Option (List ℕ) → List P
    → Result (Unit {0}) ErrorKind
all_follow how w last [] = Ok tt
all_follow how w last (x ∷ xs) = follows_last how last (w x) >>= λ _. all_follow how w (Some (w x))
    xs

-- Writes the members of a set, and then checks their order.
abbrev pub write_in_order : {P : Type 0} → Step → (P → Out → Result Out ErrorKind) → (P → List ℕ)
    → List P → Out → Result Out ErrorKind
write_in_order how f w xs o = write_many f xs o >>= λ z. all_follow how w None xs >>= λ _. Ok z

-- Writes a field, unless its value is the default.
unfoldable pub default_write : Bool → (Out → Result Out ErrorKind) → Out → Result Out ErrorKind
default_write true f o = Ok o
default_write false f o = f o

-- Writes the encoding of a value.
abbrev mutual
  pub write : (s : Shape) → Value s → Out → Result Out ErrorKind
  write (tagged t c) v o = write_tlv t (size_content c v) (write_content c v) o
  write any v o = write_tlv v.tag (fit_len (length v.contents)) (put v.contents) o
  write (either a b) (inl v) o = write a v o
  write (either a b) (inr v) o = write b v o
  write (optional s) None o = Ok o
  write (optional s) (Some v) o = write s v o
  write (defaulted s d) v o = default_write (bytes_eq (octets_of s v) d) (write s v) o
  write nothing v o = Ok o

  pub write_content : (c : Content) → ContentValue c → Out → Result Out ErrorKind
  write_content (leaf l) v o = put (leaf_contents l v) o
  write_content (nested b) v o = write_body b v o

  pub write_body : (b : Body) → BodyValue b → Out → Result Out ErrorKind
  write_body done v o = Ok o
  write_body (field s b) v o = write s v.0 o >>= write_body b v.1
  write_body (only s) v o = write s v o
  write_body (many s) v o = write_many (write s) v o
  write_body (exactly n s) v o = write_many (write s) v o
  write_body (few n s) v o = write_many (write s) v o
  write_body (in_order how s) v o = write_in_order how (write s) (octets_of s) v o

-- The error of a write: the one that writing gives, or `OutOfMemory` if the writer allocates.
abbrev pub FailsTaking : {Y : Type 0} → Bool → ErrorKind → Result Y ErrorKind → Type 0
FailsTaking memory e r = (memory ≡ true → e ≢ kinds.OutOfMemory) → r ≡ Err e

-- The call changed the writer, which allocates or not, as writing does.
abbrev pub Writes : Bool → Out → Out → Result (Unit {0}) Error → (Out → Result Out ErrorKind)
    → Type 0
Writes memory old new (Ok _) f = f old ≡ Ok new
Writes memory old new (Err e) f = FailsTaking memory e.kind (f old)
