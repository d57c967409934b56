-- Lemmas about decoding a value after its header, which must have the expected tag.
use Rattle.std.proofs.Common.{◌≡◌, ℕ, List, Result, Ok, Err, ap, subst, ◌∙◌, arith, Bool, true, false, length, take, drop, refl, sym, inl, inr}
use Rattle.der_core_octets.specs.CoreHead.declared.error.Error.{Error}
use Rattle.der_core_octets.specs.CoreHead.declared.error.ErrorKind.{ErrorKind}
use Rattle.der_core_octets.specs.CoreHead.declared.tag.Tag.{Tag}
use Rattle.der_core_octets.specs.CoreHead.Octets.{Readings, ◌>>=◌}
use Rattle.der_core_octets.specs.CoreHead.Heads.{Head, Fits}
use Rattle.der_core_octets.specs.CoreHead.Bodies.{head_by}
use Rattle.der_core_octets.specs.CoreHead.Shapes.{Content, ContentValue, tagged, leaf}
use Rattle.der_core_octets.specs.CoreHead.Grammar.{value_at, tlv_at, whole, slice_at, read_content_by, leaf_at, kept}
use Rattle.der_core_octets.specs.CoreHead.Reading.{State, Reads, ReadsNow, read_at, read_content_at, IsRest, Fails, Gives, broken}
use Rattle.der_core_octets.specs.Headers.{wanted_at}
use Rattle.der_core_octets.proofs.GoingOn.{broken_kept, reads_after, tlv_wanted, kept_then}
use Rattle.std.proofs.lemmas.Bool.{cases_lt, le-ltb}
use Rattle.der_core_octets.specs.CoreHead.Limits.{length_max}
use Rattle.der_core_octets.specs.CoreHead.declared.error.ErrorKind.TheVariants as kinds
use Rattle.der_core_octets.specs.CoreHead.Lengths.{counted}
use Rattle.der_core_octets.specs.CoreHead.Leaves.{Leaf, LeafValue, leaf_read, octets}
use Rattle.der_core_octets.specs.CoreHead.declared.encoding_rules.EncodingRules.{EncodingRules}
use Rattle.der_core_values.specs.Memory.{GivesTaking}
use Rattle.der_core_octets.proofs.CoreHead.Results.{ok_is, slice_ok, slice_short, value_enough, value_short}

module _ (c : Content) (wanted tag : Tag) (same : wanted ≡ tag) (old : State) where
  abbrev value : Readings (ContentValue c)
  value = read_content_at old c tag

  -- Decoding the value is decoding the content after the header.
  pub headed : {k : Result (Head × List ℕ) ErrorKind} → wanted_at wanted (head_by old.source.encoding) old.rest ≡ k
      → tlv_at old.source.encoding tag (read_content_at old c tag) old.rest ≡ (k >>= λ x. value_at (read_content_at old c tag) x.0.len x.1)
  headed {k} e =
      tlv_wanted old.source.encoding tag value old.rest
      ∙ ap (λ r. r >>= λ x. value_at value x.0.len x.1) (subst (λ (t : Tag). wanted_at t (head_by old.source.encoding) old.rest ≡ k) same e)

  pub head_refused : {X : Type 0} (view : X → ContentValue c) (mid : State) (e : Error) → ReadsNow (λ (k : Head). k) old mid (Err e) (wanted_at wanted (head_by old.source.encoding))
      → Reads view old mid (Err e) (read_at old (tagged tag c))
  head_refused view mid e h = (λ ready memory. headed (h.0 ready), broken_kept _ _ h.1, h.2, ap (λ (s : State). s.failed) h.1)

  pub head_read : {X : Type 0} (view : X → ContentValue c) (k : Head) (mid new : State) (r : Result X Error) → ReadsNow (λ (k : Head). k) old mid (Ok k) (wanted_at wanted (head_by old.source.encoding)) → k.tag ≡ wanted
      → Reads view mid new r (value_at (read_content_at mid c k.tag) k.len) → Reads view old new r (read_at old (tagged tag c))
  head_read view k mid new r front is inner =
      let P : Tag → State → Type 0 = λ t s. Reads view mid new r (value_at (read_content_at s c t) k.len) in
      reads_after view old mid new r (tlv_at old.source.encoding tag value) (value_at value k.len) front.1 front.2 front.3 (headed front.0) (subst (P tag) front.1 (subst (λ t. P t mid) (is ∙ same) inner))

-- The content of a leaf

leaf_then : {P : Type 0} (o : Result P ErrorKind) (r : List ℕ) → (leaf_at o >>= whole >>= λ y. Ok (y.0, r)) ≡ (o >>= kept r)
leaf_then (Ok v) r = refl
leaf_then (Err e) r = refl

pub content_ok : (rules : EncodingRules) (l : Leaf) (t : Tag) (room n : ℕ) (w x r : List ℕ) → slice_at n w ≡ Ok (x, r) → value_at (read_content_by rules (leaf l) t room) n w ≡ (leaf_read l t x >>= kept r)
content_ok rules l t room n w x r e =
    elim (cases_lt (length w) n) [
      | inl lt ↦ absurd (cc (slice_short n w lt))
      | inr le ↦
          let p : (take n w, drop n w) ≡ (x, r) = ok_is (take n w, drop n w) (x, r) (sym (slice_ok n w le) ∙ e) in
          value_enough (read_content_by rules (leaf l) t room) n w le ∙ leaf_then (leaf_read l t (take n w)) (drop n w) ∙ ap (λ (q : List ℕ × List ℕ). leaf_read l t q.0 >>= kept q.1) p
    ]

pub content_err : (rules : EncodingRules) (l : Leaf) (t : Tag) (room n : ℕ) (w : List ℕ) (k : ErrorKind) → slice_at n w ≡ Err k → value_at (read_content_by rules (leaf l) t room) n w ≡ Err k
content_err rules l t room n w k e =
    elim (cases_lt (length w) n) [
      | inl lt ↦ value_short (read_content_by rules (leaf l) t room) n w lt ∙ (let same : kinds.Incomplete ≡ k = cc (slice_short n w lt) in ap (λ x. Err x) same)
      | inr le ↦ absurd (cc (slice_ok n w le))
    ]

module _ {X : Type 0} (l : Leaf) (t : Tag) (view : X → LeafValue l) (old mid : State) (x : List ℕ) (n : ℕ)
    (took : (l : Leaf) (t : Tag) (room : ℕ) → value_at (read_content_by old.source.encoding (leaf l) t room) n old.rest ≡ (leaf_read l t x >>= kept mid.rest))
    (moved : mid ≡ record old { rest = mid.rest }) (ready : old.failed ≡ false) (passed : IsRest mid.rest old.rest) where
  pub leaf_faulty : (k : ErrorKind) → leaf_read l t x ≡ Err k → value_at (read_content_at old (leaf l) t) n old.rest ≡ Err k
  leaf_faulty k says = took l t old.room ∙ ap (λ o. o >>= kept mid.rest) says

  pub leaf_reads : (v : X) → leaf_read l t x ≡ Ok (view v) → Reads view old mid (Ok v) (value_at (read_content_at old (leaf l) t) n)
  leaf_reads v says = (took l t old.room ∙ ap (λ o. o >>= kept mid.rest) says, moved, ready, passed)

  -- If the bytes of a leaf are rejected, the reader has failed.
  pub leaf_refuses : (new : State) (e : Error) → new ≡ broken mid → Fails e.kind (leaf_read l t x) → Reads view old new (Err e) (value_at (read_content_at old (leaf l) t) n)
  leaf_refuses new e failed says = (
    λ _ memory. took l t old.room ∙ ap (λ o. o >>= kept mid.rest) (says memory),
    kept_then old mid new moved passed (broken_kept mid new failed),
    λ f. absurd (cc (f, ready)),
    ap (λ (s : State). s.failed) failed,
  )

pub content_reads : {X : Type 0} (t : Tag) (n : ℕ) (view : X → List ℕ) (old new : State) (r : Result X Error) → Reads view old new r (slice_at n) → Reads view old new r (value_at (read_content_at old (leaf octets) t) n)
content_reads t n view old new (Ok v) h = (content_ok old.source.encoding octets t old.room n old.rest (view v) new.rest h.0, h.1, h.2, h.3)
content_reads t n view old new (Err e) h = (λ ready memory. content_err old.source.encoding octets t old.room n old.rest e.kind (h.0 ready memory), h.1, h.2, h.3)

-- At most 2^32 - 1 bytes pass the check of their number.
pub counted_fits : (w : List ℕ) → Fits w → counted w ≡ Ok w
counted_fits w h = rw (le-ltb length_max (length w) (omega arith)) refl

-- The result of a call that doesn't allocate is also one of a call that may allocate.
pub gives : {X P : Type 0} (memory : Bool) (view : X → P) (r : Result X Error) (p : Result P ErrorKind) → GivesTaking memory view r p → Gives view r p
gives true view r p h = h
gives false view (Ok x) p h = h
gives false view (Err e) p h = λ _. h

pub gives_now : {X P : Type 0} (memory : Bool) (view : X → P) (e : Error) (p : Result P ErrorKind) → memory ≡ false → GivesTaking memory view (Err e) p → p ≡ Err e.kind
gives_now true view e p none h = absurd cc
gives_now false view e p none h = h
