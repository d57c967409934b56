-- Lemmas about failed writes: the bytes that were appended are a prefix of the encoding.
use Rattle.std.proofs.Common.{◌≡◌, ℕ, ◌+◌, Bool, List, ◌++◌, length, take, drop, Result, Ok, Err, OnErr, refl, sym, ap, subst, ◌∙◌, append_assoc, append-nil, arith, take-append-drop, take_at}
use Rattle.std.proofs.lemmas.List.{take_all}
use Rattle.std.proofs.Math.Seq.{take-append-add}
use Rattle.der_core_head.specs.declared.error.Error.{Error}
use Rattle.der_core_head.specs.declared.tag.Tag.{Tag}
use Rattle.der_core_head.specs.Tags.{tag_octets}
use Rattle.der_core_head.specs.Heads.{head_octets, length_octets, tlv}
use Rattle.der_core_head.specs.Shapes.{Shape, Value, Content, ContentValue, tagged, octets_of, contents}
use Rattle.der_core_head.specs.Octets.{◌>>=◌}
use Rattle.der_core_head.specs.Writing.{Out, Writes, put, put_head, size_content, sum_len, write}
use Rattle.der_core_head.proofs.Results.{bind_ok}
use Rattle.der_core_head.proofs.Written.{count_is, content_counted, put-append, writes_octets}
use Rattle.der_core_octets.specs.Outputs.{AddsFront, IsRefused}

pub none_added : (w : List ℕ) (o : Out) → AddsFront w o o
none_added w o = record { count = 0; written = sym (append-nil o.written) }

pub all_added : (w : List ℕ) (old new : Out) → new.written ≡ old.written ++ w → AddsFront w old new
all_added w old new e = record { count = length w; written = e ∙ ap (λ (x : List ℕ). old.written ++ x) (sym (take_all (length w) w (omega arith))) }

-- A prefix of the first of two parts.
pub first_added : (a b : List ℕ) (old new : Out) → AddsFront a old new → AddsFront (a ++ b) old new
first_added a b old new h =
    let whole : take h.count a ++ (drop h.count a ++ b) ≡ a ++ b = sym (append_assoc (take h.count a) (drop h.count a) b) ∙ ap (λ (x : List ℕ). x ++ b) (take-append-drop h.count a) in
    record {
      count = length (take h.count a);
      written = h.written ∙ ap (λ (x : List ℕ). old.written ++ x) (sym (take_at (take h.count a) (drop h.count a ++ b) (length (take h.count a)) refl) ∙ ap (take (length (take h.count a))) whole);
    }

-- The first of two parts, and a prefix of the second.
pub then_added : (a b : List ℕ) (old mid new : Out) → mid.written ≡ old.written ++ a → AddsFront b mid new → AddsFront (a ++ b) old new
then_added a b old mid new e h = record {
  count = length a + h.count;
  written = h.written ∙ ap (λ (x : List ℕ). x ++ take h.count b) e ∙ append_assoc old.written a (take h.count b) ∙ ap (λ (x : List ℕ). old.written ++ x) (sym (take-append-add a b h.count));
}

put_adds : (w : List ℕ) (old new : Out) → put w old ≡ Ok new → new.written ≡ old.written ++ w
unfolding put
put_adds w old new e = grind arith

pub refused_adds : (memory : Bool) (w : List ℕ) (old new : Out) → IsRefused memory old new → AddsFront w old new
refused_adds memory w old new h = record { count = 0; written = h.written ∙ sym (append-nil old.written) }

pub write_adds : (memory : Bool) (v w : List ℕ) (old new : Out) (r : Result (Unit {0}) Error) → Writes memory old new r (put w) → OnErr r (IsRefused memory old new) → w ≡ v → AddsFront v old new
write_adds memory v w old new (Ok x) e h same = all_added v old new (put_adds w old new e ∙ ap (λ (u : List ℕ). old.written ++ u) same)
write_adds memory v w old new (Err x) e h same = refused_adds memory v old new h

-- The first of two parts was written, and a prefix of the second was appended.
pub put_then_added : (a b : List ℕ) (old mid new : Out) → put a old ≡ Ok mid → AddsFront b mid new → AddsFront (a ++ b) old new
put_then_added a b old mid new e h = then_added a b old mid new (put_adds a old mid e) h

put_head_adds : (t : Tag) (n : ℕ) (old new : Out) → put_head t n old ≡ Ok new → new.written ≡ old.written ++ head_octets t n
unfolding put_head head_octets
put_head_adds t n old new e =
    let h = bind_ok (sum_len (length (tag_octets t ++ length_octets n)) n) (λ _. put (tag_octets t) old >>= put (length_octets n)) new e in
    put_adds (tag_octets t ++ length_octets n) old new (sym (put-append (tag_octets t) (length_octets n) old) ∙ h.2)

-- The number of bytes after the header is the length of the content.
tagged_octets : (t : Tag) (c : Content) (v : ContentValue c) (n : ℕ) → size_content c v ≡ Ok n → head_octets t n ++ contents c v ≡ octets_of (tagged t c) v
unfolding octets_of tlv
tagged_octets t c v n e = ap (λ k. head_octets t k ++ contents c v) (sym (count_is (length (contents c v)) n (sym (content_counted c v) ∙ e)).0)

-- A prefix of the header, or the header and a prefix of the content.
pub header_adds : (t : Tag) (c : Content) (v : ContentValue c) (n : ℕ) (old new : Out) → size_content c v ≡ Ok n → AddsFront (head_octets t n) old new → AddsFront (octets_of (tagged t c) v) old new
header_adds t c v n old new e h = subst (λ w. AddsFront w old new) (tagged_octets t c v n e) (first_added (head_octets t n) (contents c v) old new h)

pub content_adds : (t : Tag) (c : Content) (v : ContentValue c) (n : ℕ) (old mid new : Out) → size_content c v ≡ Ok n → put_head t n old ≡ Ok mid → AddsFront (contents c v) mid new → AddsFront (octets_of (tagged t c) v) old new
content_adds t c v n old mid new e first h = subst (λ w. AddsFront w old new) (tagged_octets t c v n e) (then_added (head_octets t n) (contents c v) old mid new (put_head_adds t n old mid first) h)

-- The encoding of a value, and a prefix of other bytes.
pub value_then_added : (s : Shape) (v : Value s) (b : List ℕ) (old mid new : Out) → write s v old ≡ Ok mid → AddsFront b mid new → AddsFront (octets_of s v ++ b) old new
value_then_added s v b old mid new e h = then_added (octets_of s v) b old mid new (writes_octets s v old mid e) h
