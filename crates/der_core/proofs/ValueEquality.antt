-- Lemmas for proving that the `==` of a type compares abstract values: for a record, a list or an
-- optional value, this follows from its parts.
use Rattle.std.proofs.Common.{◌≡◌, ℕ, pos, List, [], ◌∷◌, ◌++◌, Bool, true, false, Option, None, Some, refl, ap, subst, inl, inr, arith, nat_eq, ◌&&◌}
use Rattle.std.specs.Bool.{beq}
use Rattle.std.specs.Cmp.{first_so, second_so}
use Rattle.std.specs.Cmp.Lexicographic.{pointwise, bytes_decides}
use Rattle.std.specs.Option.{option_eq}
use Rattle.der_core.specs.Equality.{IsOfValues}
use Rattle.der_core_coding.specs.CoreHead.Grammar.{plain_list, plain_option}
use Rattle.der_core_coding.specs.CoreHead.Heads.{tlv}
use Rattle.der_core_coding.specs.CoreHead.Integers.{Numbers}
use Rattle.der_core_coding.specs.CoreHead.Leaves.{Leaf, LeafValue, boolean, integer, leaf_contents, named}
use Rattle.der_core_coding.specs.CoreHead.Shapes.{Shape, Body, Value, BodyValue, Step, leaf, tagged, either, optional, defaulted, nested, done, field, only, many, in_order, octets_of, contents, body_octets}
use Rattle.der_core_coding.specs.CoreHead.declared.tag.Tag.{Tag}

pub record Alike (s : Shape) (e : Bool) (v w : Value s) : Type 0 where
  pub encoding : e ≡ true → octets_of s v ≡ octets_of s w
  pub itself : v ≡ w → e ≡ true

pub record AlikeWithin (b : Body) (e : Bool) (v w : BodyValue b) : Type 0 where
  pub encoding : e ≡ true → body_octets b v ≡ body_octets b w
  pub itself : v ≡ w → e ≡ true

-- All values of a type are compared by their abstract values.
pub all_alike : {s : Shape} {T : Type 0} {eq : T → T → Bool} {plain : T → Value s} → ((x y : T) → Alike s (eq x y) (plain x) (plain y)) → IsOfValues eq plain (octets_of s)
all_alike h = record { encoding = λ x y. (h x y).encoding; itself = λ x y. (h x y).itself }

pub each : {s : Shape} {T : Type 0} {eq : T → T → Bool} {plain : T → Value s} → IsOfValues eq plain (octets_of s) → (x y : T) → Alike s (eq x y) (plain x) (plain y)
each h x y = record { encoding = h.encoding x y; itself = h.itself x y }

-- A test that is true exactly if the abstract values are equal.
pub exact : {s : Shape} {e : Bool} {v w : Value s} → (e ≡ true → v ≡ w) → (v ≡ w → e ≡ true) → Alike s e v w
exact {s} one itself = record { encoding = λ o. ap (octets_of s) (one o); itself = itself }

-- Leaves that are compared by their contents, numbers, named bits and booleans.
pub leaves : {t : Tag} {l : Leaf} {v w : LeafValue l} → Alike (tagged t (leaf l)) (pointwise nat_eq (leaf_contents l v) (leaf_contents l w)) v w
unfolding octets_of contents
leaves {t} {l} {v} {w} = record { encoding = λ e. ap (tlv t) ((bytes_decides (leaf_contents l v) (leaf_contents l w)).0 e); itself = λ e. (bytes_decides (leaf_contents l v) (leaf_contents l w)).1 (ap (leaf_contents l) e) }

pub numbers : {t : Tag} {r : Numbers} {n m : ℕ} → Alike (tagged t (leaf (integer r))) (nat_eq n m) (pos n) (pos m)
numbers = exact (λ e. ap pos (grind (arith, e))) (λ e. grind (arith, e))

pub named_bits : {t : Tag} {k n m : ℕ} → Alike (tagged t (leaf (named k))) (nat_eq n m) n m
named_bits = exact (λ e. grind (arith, e)) (λ e. grind (arith, e))

pub flags : {t : Tag} (a b : Bool) → Alike (tagged t (leaf boolean)) (beq a b) a b
flags true true = exact (λ e. refl) (λ e. refl)
flags false false = exact (λ e. refl) (λ e. refl)
flags a b = exact (λ e. absurd cc) (λ e. absurd cc)

-- Values inside a value.
pub behind : {t : Tag} {b : Body} {e : Bool} {v w : BodyValue b} → AlikeWithin b e v w → Alike (tagged t (nested b)) e v w
unfolding octets_of contents
behind {t} h = record { encoding = λ o. ap (tlv t) (h.encoding o); itself = h.itself }

pub alone : {s : Shape} {e : Bool} {v w : Value s} → Alike s e v w → AlikeWithin (only s) e v w
unfolding body_octets
alone h = record { encoding = h.encoding; itself = h.itself }

pub default : {s : Shape} {d : List ℕ} {e : Bool} {v w : Value s} → Alike s e v w → Alike (defaulted s d) e v w
unfolding octets_of
default h = record { encoding = λ o. rw (h.encoding o) refl; itself = h.itself }

pub next : {s : Shape} {b : Body} {e f : Bool} {v w : BodyValue (field s b)} → Alike s e v.0 w.0 → AlikeWithin b f v.1 w.1 → AlikeWithin (field s b) (e && f) v w
unfolding body_octets
next {e = e} {f = f} h k = record {
  encoding = λ o. rw (h.encoding (first_so e f o), k.encoding (second_so e f o)) refl;
  itself = λ o. rw (h.itself (ap (λ p. p.0) o), k.itself (ap (λ p. p.1) o)) refl;
}

pub last : {s : Shape} {e : Bool} {v w : BodyValue (field s done)} → Alike s e v.0 w.0 → AlikeWithin (field s done) e v w
unfolding body_octets
last h = record { encoding = λ o. ap (λ r. r ++ []) (h.encoding o); itself = λ o. h.itself (ap (λ p. p.0) o) }

-- A row before a field that has no content, such as a marker.
pub marked : {b : Body} {e : Bool} {v w : BodyValue b} → AlikeWithin b e v w → AlikeWithin b (e && true) v w
marked {e = e} h = record { encoding = λ o. h.encoding (first_so e true o); itself = λ o. rw (h.itself o) refl }

-- One of two alternatives.
pub first : {a b : Shape} {e : Bool} {v w : Value a} → Alike a e v w → Alike (either a b) e (inl v) (inl w)
unfolding octets_of
first h = record { encoding = h.encoding; itself = λ o. h.itself cc }

pub second : {a b : Shape} {e : Bool} {v w : Value b} → Alike b e v w → Alike (either a b) e (inr v) (inr w)
unfolding octets_of
second h = record { encoding = h.encoding; itself = λ o. h.itself cc }

module _ {s : Shape} {T : Type 0} {eq : T → T → Bool} {plain : T → Value s} (h : (x y : T) → Alike s (eq x y) (plain x) (plain y)) where
  pub option : (x y : Option T) → Alike (optional s) (option_eq eq x y) (plain_option plain x) (plain_option plain y)
  unfolding octets_of
  option None None = record { encoding = λ e. refl; itself = λ e. refl }
  option (Some x) (Some y) = record { encoding = (h x y).encoding; itself = λ e. (h x y).itself cc }
  option x y = record { encoding = λ e. absurd cc; itself = λ e. absurd cc }

  pub list : (xs ys : List T) → AlikeWithin (many s) (pointwise eq xs ys) (plain_list plain xs) (plain_list plain ys)
  unfolding body_octets
  list [] [] = record { encoding = λ e. refl; itself = λ e. refl }
  list (x ∷ xs) (y ∷ ys) = record {
    encoding = λ e. rw ((h x y).encoding (first_so (eq x y) (pointwise eq xs ys) e), (list xs ys).encoding (second_so (eq x y) (pointwise eq xs ys) e)) refl;
    itself = λ e. rw ((h x y).itself cc, (list xs ys).itself cc) refl;
  }
  list xs ys = record { encoding = λ e. absurd cc; itself = λ e. absurd cc }

  pub set : {how : Step} (xs ys : List T) → AlikeWithin (in_order how s) (pointwise eq xs ys) (plain_list plain xs) (plain_list plain ys)
  unfolding body_octets
  set xs ys = record { encoding = (list xs ys).encoding; itself = (list xs ys).itself }

-- A value that is its own abstract value.
pub itself_absent : {V : Type 0} (o : Option V) → plain_option (λ v. v) o ≡ o
itself_absent None = refl
itself_absent (Some v) = refl

pub option_itself : {s : Shape} {eq : Value s → Value s → Bool} → ((v w : Value s) → Alike s (eq v w) v w) → (x y : Option (Value s)) → Alike (optional s) (option_eq eq x y) x y
option_itself {s} {eq} h x y = subst (λ (f : Option (Value s) → Option (Value s)). Alike (optional s) (option_eq eq x y) (f x) (f y)) (λ i o. itself_absent o i) (option {s = s} h x y)
