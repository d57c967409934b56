-- Lemmas about readers: decoding goes on through nested values and closures, or stops.
use Rattle.std.proofs.Common.{◌≡◌, ℕ, suc, zero, ◌+◌, Bool, true, false, List, [], ◌∷◌, ◌++◌, drop, Some, Result, Ok, Err, refl, ap, arith, ◌∙◌, drop-drop, ◌<◌, inl, inr, sym, if◌then◌else◌, ◌≢◌, ◌⊎◌, ◌==◌, length, ◌-◌, ◌≤◌, take, is_err, take_at, drop_at, take-append-drop, length-drop, length-append, subst, OnOk, OnErr, IfOk, IfErr, MutBor}
use Rattle.std.proofs.lemmas.Bool.Decides.{nat_tests}
use Rattle.der_core_head.specs.declared.error.Error.{Error}
use Rattle.der_core_head.specs.declared.error.ErrorKind.{ErrorKind}
use Rattle.der_core_head.specs.declared.tag.Tag.{Tag}
use Rattle.der_core_head.specs.Octets.{Readings, ◌>>=◌}
use Rattle.der_core_head.specs.declared.encoding_rules.EncodingRules.{EncodingRules}
use Rattle.der_core_head.specs.Bodies.{head_by, tag_by}
use Rattle.der_core_head.specs.Grammar.{tlv_at, value_at, peek_at, opt_at, whole, read_content_by, read_body_by, slice_at}
use Rattle.der_core_head.specs.Reading.{State, IsRest, Kept, Reads, Fails, Refuses, Closes, entered, restored, broken, read_content_at, read_body_at, Opens, ReadsNow, ClosureReads, HandsBack, read_at}
use Rattle.der_core_octets.specs.Headers.{wanted_at, head_of}
use Rattle.der_core_head.specs.declared.error.ErrorKind.TheVariants as kinds
use Rattle.der_core_head.specs.Heads.{Head, head_at, length_octets, head_octets}
use Rattle.der_core_head.specs.Tags.{leading_octet, number_of, same_tag, tag_octets, tag_at}
use Rattle.der_core_head.proofs.TagLaws.{tag-0, tag_again, same_tag-refl}
use Rattle.der_core_head.specs.Fronts.{alone}
use mathlib.Core.Bool.{◌||◌}
use Rattle.der_core_head.specs.Shapes.{Body, BodyValue, nested, tagged}
use Rattle.der_core_head.proofs.Results.{value_short, value_enough, slice_short, slice_ok}
use Rattle.der_core_octets.proofs.Levels.{or_false, or_true}
use Rattle.std.specs.Fn.{Once, FnOnceReturnsAtMut}
use Rattle.der_core_head.specs.declared.length.Length.{Length}
use Rattle.der_core_octets.specs.declared.header.Header.{Header}
use Rattle.der_core_octets.specs.Nesting.{Enters, IsNested, CalledWithin, Answered, RefusesNested}
use Rattle.der_core_octets.specs.Parts.{part_at, are_closed, joined, join_by, parts_at}
use Rattle.der_core_head.specs.Writing.{Out, Writes, put, put_head, sum_len}
use Rattle.der_core_head.proofs.Written.{put-append}

-- Consecutive calls

-- A suffix of a suffix is a suffix.
pub rest_then : (a b d : List ℕ) → IsRest b a → IsRest d b → IsRest d a
rest_then a b d m n = (m.0 + n.0, n.1 ∙ ap (drop n.0) m.1 ∙ drop-drop n.0 m.0 a)

-- A suffix stays one if the same bytes are appended to both.
pub rest_more : (n : ℕ) (xs ys : List ℕ) → IsRest (drop n xs ++ ys) (xs ++ ys)
rest_more zero xs ys = (0, refl)
rest_more (suc n) [] ys = (0, refl)
rest_more (suc n) (x ∷ xs) ys =
    let r = rest_more n xs ys in
    (suc r.0, r.1)

-- A later call decodes what an earlier one left.
pub reads_after : {T P : Type 0} (view : T → P) (old mid new : State) (r : Result T Error) (f g : Readings P)
    → mid ≡ record old { rest = mid.rest } → old.failed ≡ false → IsRest mid.rest old.rest → f old.rest ≡ g mid.rest → Reads view mid new r g → Reads view old new r f
reads_after view old mid new (Ok v) f g m ready passed e h = (
  e ∙ h.0,
  cc (ap (λ (s : State). s.behind) m, ap (λ (s : State). s.room) m, ap (λ (s : State). s.failed) m, ap (λ (s : State). s.source) m, h.1),
  ready,
  rest_then old.rest mid.rest new.rest passed h.3,
)
reads_after view old mid new (Err d) f g m ready passed e h = (
  λ _ memory. e ∙ h.0 (ap (λ (s : State). s.failed) m ∙ ready) memory,
  record { rest = rest_then old.rest mid.rest new.rest passed h.1.rest; behind = h.1.behind ∙ ap (λ (s : State). s.behind) m; room = h.1.room ∙ ap (λ (s : State). s.room) m; source = h.1.source ∙ ap (λ (s : State). s.source) m; failed = λ o. absurd (cc (o, ready)) },
  λ o. absurd (cc (o, ready)),
  h.3,
)

-- An encoding is a header with the expected tag, and its content.
pub tlv_wanted : {P : Type 0} (rules : EncodingRules) (tag : Tag) (f : Readings P) (w : List ℕ) → tlv_at rules tag f w ≡ (wanted_at tag (head_by rules) w >>= λ h. value_at f h.0.len h.1)
unfolding tlv_at wanted_at
tlv_wanted rules tag f w = grind (arith, nat_tests)

pub frame_then : (a b d : State) → b ≡ record a { rest = b.rest } → d ≡ record b { rest = d.rest } → d ≡ record a { rest = d.rest }
frame_then a b d m h = cc (ap (λ (s : State). s.behind) m, ap (λ (s : State). s.room) m, ap (λ (s : State). s.failed) m, ap (λ (s : State). s.source) m, h)

pub kept_then : (a b d : State) → b ≡ record a { rest = b.rest } → IsRest b.rest a.rest → Kept b d → Kept a d
kept_then a b d m passed k = record {
  rest = rest_then a.rest b.rest d.rest passed k.rest;
  behind = k.behind ∙ ap (λ (s : State). s.behind) m;
  room = k.room ∙ ap (λ (s : State). s.room) m;
  source = k.source ∙ ap (λ (s : State). s.source) m;
  failed = λ o. k.failed (ap (λ (s : State). s.failed) m ∙ o);
}

-- An optional value is decoded if the next tag is one of its first tags.
pub opt_stops : {P : Type 0} (rules : EncodingRules) (first : Tag → Bool) (f : Readings P) (w : List ℕ) (t : Tag) (k : ErrorKind) → peek_at rules w ≡ Ok (Some t) → first t ≡ true → f w ≡ Err k → opt_at rules first f w ≡ Err k
unfolding opt_at
opt_stops rules first f w t k e h stops = rw (e, h, stops) refl

-- Headers with an expected tag

-- A tag of one byte is determined by that byte.
pub by_octet : (t : Tag) (first : ℕ) (w : List ℕ) → number_of t < 31 → first ≡ leading_octet t → tag_at (first ∷ w) ≡ Ok (t, w)
by_octet t first w low e =
    let one : tag_octets t ++ w ≡ first ∷ w = rw (tag-0 t low, e) refl in
    ap tag_at (sym one) ∙ tag_again t w (omega arith)

-- A header with this tag is the expected one.
pub wanted_is : (t : Tag) (head : Readings Head) (w : List ℕ) (h : Head) (r : List ℕ) → head w ≡ Ok (h, r) → h.tag ≡ t → wanted_at t head w ≡ Ok (h, r)
unfolding wanted_at
wanted_is t head w h r e is =
    let same : same_tag h.tag t ≡ true = ap (λ x. same_tag x t) is ∙ same_tag-refl t in
    rw (e, same) refl

-- The expected header is a header. If it isn't there, there is no header or one with another tag.
pub wanted_ok : (t : Tag) (head : Readings Head) (w : List ℕ) (h : Head) (r : List ℕ) → wanted_at t head w ≡ Ok (h, r) → head w ≡ Ok (h, r)
unfolding wanted_at
wanted_ok t head w h r e = grind (arith, nat_tests)

abbrev pub Misses : Tag → Result (Head × List ℕ) ErrorKind → ErrorKind → Type 0
Misses t r k = (r ≡ Err k) ⊎ ((x : Head × List ℕ) × (r ≡ Ok x) × (same_tag x.0.tag t ≡ false) × (k ≡ kinds.TagUnexpected))

found_err : (t : Tag) (r : Result (Head × List ℕ) ErrorKind) (k : ErrorKind) → (r >>= λ h. if same_tag h.0.tag t then Ok h else Err kinds.TagUnexpected) ≡ Err k → Misses t r k
found_err t (Err d) k e = inl e
found_err t (Ok h) k e = inr (h, refl, grind (arith, nat_tests), grind (arith, nat_tests))

pub wanted_err : (t : Tag) (head : Readings Head) (w : List ℕ) (k : ErrorKind) → wanted_at t head w ≡ Err k → Misses t (head w) k
unfolding wanted_at
wanted_err t head w k e = found_err t (head w) k e

-- If bytes are left, the next tag is that of the bytes.
pub peek_ok : (rules : EncodingRules) (w : List ℕ) (t : Tag) → w ≢ [] → alone (tag_by rules w) ≡ Ok t → peek_at rules w ≡ Ok (Some t)
peek_ok rules [] t left e = absurd (left refl)
peek_ok rules (b ∷ w) t left e = grind (arith, nat_tests)

pub peek_err : (rules : EncodingRules) (w : List ℕ) (k : ErrorKind) → w ≢ [] → alone (tag_by rules w) ≡ Err k → peek_at rules w ≡ Err k
peek_err rules [] k left e = absurd (left refl)
peek_err rules (b ∷ w) k left e = grind (arith, nat_tests)

-- Some bytes are left.
pub some_left : (x w : List ℕ) (b : Bool) → b ≡ (length x == 0) → b ≡ false → x ≡ w → w ≢ []
some_left (y ∷ x) w b e f r = λ none. absurd (cc (r, none))
some_left _ w _ e f r = absurd cc

-- A call of a closure between two ends decodes the bytes between them

pub refused : (t : Tag) (k : ErrorKind) (n : ℕ) (old : State) (s : Body) → Refuses n old k → Fails k (value_at (read_content_at old (nested s) t) n old.rest)
refused t kinds.Incomplete n old s h = λ _. value_short (read_content_at old (nested s) t) n old.rest h
refused t kinds.NestingDepth n old s h = λ _. value_enough (read_content_at old (nested s) t) n old.rest h.0 ∙ rw h.1 refl
refused t _ n old s h = absurd h

-- The result of decoding one level deeper.
pub nested_is : (rules : EncodingRules) (t : Tag) (s : Body) (n room : ℕ) (w : List ℕ) → n ≤ length w → 0 < room → value_at (read_content_by rules (nested s) t room) n w ≡ (read_body_by rules s (room - 1) (take n w) >>= whole >>= whole >>= λ x. Ok (x.0, drop n w))
nested_is rules t s n room w h r =
    let e : room ≡ suc (room - 1) = omega arith in
    value_enough (read_content_by rules (nested s) t room) n w h ∙ ap (λ m. read_content_by rules (nested s) t m (take n w) >>= whole >>= λ x. Ok (x.0, drop n w)) e

pub behind_long : (n taken : ℕ) (old : State) → n + taken ≡ length old.rest → taken ≤ length (entered n old).behind
behind_long n taken old h = omega (arith, length-append (drop n old.rest) old.behind, length-drop n old.rest)

-- A reader that moved on, or failed where it was, is kept.
pub moved_kept : (old new : State) → new ≡ record old { rest = new.rest } → IsRest new.rest old.rest → Kept old new
moved_kept old new e passed = record { rest = passed; behind = ap (λ (s : State). s.behind) e; room = ap (λ (s : State). s.room) e; source = ap (λ (s : State). s.source) e; failed = λ o. ap (λ (s : State). s.failed) e ∙ o }

pub broken_kept : (old new : State) → new ≡ broken old → Kept old new
broken_kept old new e = record { rest = (0, ap (λ (s : State). s.rest) e); behind = ap (λ (s : State). s.behind) e; room = ap (λ (s : State). s.room) e; source = ap (λ (s : State). s.source) e; failed = λ o. ap (λ (s : State). s.failed) e }

left_over : {P : Type 0} (p : P) (w : List ℕ) → w ≢ [] → whole (p, w) ≡ Err kinds.TrailingData
left_over p [] h = absurd (h refl)
left_over p (b ∷ w) h = refl

pub at_length : (n taken : ℕ) (w : List ℕ) → n + taken ≡ length w → length (drop n w) ≡ taken
at_length n taken w h = omega (arith, length-drop n w)

-- The bytes left before an end, with the bytes after it, are a suffix of all bytes.
pub rest_closed : (n taken : ℕ) (f : Bool) (old outer new : State) → n + taken ≡ length old.rest → Kept (entered n old) outer → new ≡ restored taken f outer → IsRest new.rest old.rest
rest_closed n taken f old outer new h k e =
    let behind : take taken outer.behind ≡ drop n old.rest = ap (take taken) k.behind ∙ take_at (drop n old.rest) old.behind taken (at_length n taken old.rest h) in
    let r = rest_more k.rest.0 (take n old.rest) (drop n old.rest) in
    (r.0, ap (λ (s : State). s.rest) e ∙ ap (λ (w : List ℕ). outer.rest ++ w) behind ∙ ap (λ (w : List ℕ). w ++ drop n old.rest) k.rest.1 ∙ r.1 ∙ ap (drop r.0) (take-append-drop n old.rest))

pub is_kept : (n taken : ℕ) (f : Bool) (old outer new : State) → n + taken ≡ length old.rest → 0 < old.room → Kept (entered n old) outer → new ≡ restored taken f outer → old.failed ≡ false → Kept old new
is_kept n taken f old outer new h r k e ready = record {
  rest = rest_closed n taken f old outer new h k e;
  behind = ap (λ (s : State). s.behind) e ∙ ap (drop taken) k.behind ∙ drop_at (drop n old.rest) old.behind taken (at_length n taken old.rest h);
  room = omega (arith, ap (λ (s : State). s.room) e, k.room);
  source = ap (λ (s : State). s.source) e ∙ k.source;
  failed = λ o. absurd (cc (o, ready));
}

same_frame : (old new : State) → new.behind ≡ old.behind → new.room ≡ old.room → new.failed ≡ old.failed → new.source ≡ old.source → new ≡ record old { rest = new.rest }
same_frame old new b r f s = rw (← b, ← r, ← f, ← s) refl

pub gives : {T : Type 0} (t : Tag) (s : Body) (view : T → BodyValue s) (n taken : ℕ) (old outer new : State) (r : Result T Error)
    → n + taken ≡ length old.rest → 0 < old.room → old.failed ≡ false
    → Reads view (entered n old) outer r (read_body_at (entered n old) s) → Closes taken (is_err r) outer new (Ok tt)
    → Reads view old new r (value_at (read_content_at old (nested s) t) n)
gives t s view n taken old outer new (Ok v) h r f reads closes =
    let none : outer.rest ≡ [] = closes.0 refl in
    let inner : read_body_at (entered n old) s (take n old.rest) ≡ Ok (view v, []) = reads.0 ∙ ap (λ (w : List ℕ). Ok (view v, w)) none in
    let behind : outer.behind ≡ drop n old.rest ++ old.behind = ap (λ (s : State). s.behind) reads.1 in
    let rest : new.rest ≡ drop n old.rest =
    ap (λ (s : State). s.rest) closes.1 ∙ ap (λ (w : List ℕ). w ++ take taken outer.behind) none ∙ ap (take taken) behind ∙ take_at (drop n old.rest) old.behind taken (at_length n taken old.rest h) in
    let kept = is_kept n taken (outer.failed || false) old outer new h r (moved_kept _ _ reads.1 reads.3) closes.1 f in
    let failed : new.failed ≡ old.failed = ap (λ (s : State). s.failed) closes.1 ∙ or_false outer.failed ∙ ap (λ (s : State). s.failed) reads.1 in
    (rw (nested_is old.source.encoding t s n old.room old.rest (omega arith) r, inner, rest) refl, same_frame old new kept.behind kept.room failed kept.source, f, kept.rest)
gives t s view n taken old outer new (Err e) h r f reads closes =
    (λ o m. rw (nested_is old.source.encoding t s n old.room old.rest (omega arith) r, reads.0 o m) refl, is_kept n taken (outer.failed || true) old outer new h r reads.1 closes.1 f, λ o. absurd (cc (o, f)), ap (λ (s : State). s.failed) closes.1 ∙ or_true outer.failed)

pub trails : {T : Type 0} (t : Tag) (s : Body) (view : T → BodyValue s) (n taken : ℕ) (old outer new : State) (r : Result T Error) (e : Error)
    → n + taken ≡ length old.rest → 0 < old.room → old.failed ≡ false
    → Reads view (entered n old) outer r (read_body_at (entered n old) s) → Closes taken (is_err r) outer new (Err e)
    → Reads view old new (Err e) (value_at (read_content_at old (nested s) t) n)
trails t s view n taken old outer new (Ok v) e h r f reads closes =
    let k = moved_kept (entered n old) outer reads.1 reads.3 in
    (λ o m. rw (nested_is old.source.encoding t s n old.room old.rest (omega arith) r, reads.0, left_over (view v) outer.rest closes.1, closes.2) refl, is_kept n taken true old outer new h r k closes.3 f, λ o. absurd (cc (o, f)), ap (λ (s : State). s.failed) closes.3)
trails t s view n taken old outer new (Err d) e h r f reads closes = absurd cc

-- The result of a closure that is called between two ends, by cases

-- The reader is after the expected header.
pub enters_wanted : (old mid : State) (t : Tag) (h : Header) → h.tag ≡ t
    → ReadsNow head_of old mid (Ok h) (wanted_at t (head_by old.source.encoding)) → Enters t h.length.value old mid
enters_wanted old mid t h is front =
    let stands = wanted_ok t (head_by old.source.encoding) old.rest (head_of h) mid.rest front.0 in
    let head : head_by old.source.encoding old.rest ≡ Ok (record { tag = t; len = h.length.value }, mid.rest) = stands ∙ ap (λ x. Ok (record { tag = x; len = h.length.value }, mid.rest)) is in
    record { ready = front.2; head = head; moved = front.1 }

pub by_failed : (b : Bool) {A B : Type 0} → (b ≡ false → A) → (b ≡ true → B) → ((b ≡ true) × B) ⊎ ((b ≡ false) × A)
by_failed true a b = inl (refl, b refl)
by_failed false a b = inr (refl, a refl)

-- Decoding the content after the expected header decodes both.
pub wanted_reads : {T : Type 0} (t : Tag) (b : Body) (view : T → BodyValue b) (old mid new : State) (h : Header) (r : Result T Error)
    → ReadsNow head_of old mid (Ok h) (wanted_at t (head_by old.source.encoding))
    → Reads view mid new r (value_at (read_content_at mid (nested b) t) h.length.value)
    → Reads view old new r (read_at old (tagged t (nested b)))
wanted_reads t b view old mid new h r front inner =
    let content = read_content_at old (nested b) t in
    let P : State → Type 0 = λ s. Reads view mid new r (value_at (read_content_at s (nested b) t) h.length.value) in
    let both = tlv_wanted old.source.encoding t content old.rest ∙ ap (λ r. r >>= λ x. value_at content x.0.len x.1) front.0 in
    reads_after view old mid new r (tlv_at old.source.encoding t content) (value_at content h.length.value) front.1 front.2 front.3 both (subst P front.1 inner)

module _ {R T F : Type 0} (state : R → State) (g : Once F (MutBor R × Unit {0}) (Result T Error × (MutBor R × Unit {0}))) (f : F) (n : ℕ) (old : State) where
  pub not_opened : (e : Error) → (old.failed ≡ false → Refuses n old e.kind) → (old.failed ≡ true → e.kind ≡ kinds.Failed) → RefusesNested {R = R} {T = T} state g f n old e
  not_opened e refused failed =
      elim (by_failed old.failed refused failed) [
        | inl h ↦ inl h
        | inr h ↦ inr (inl h)
      ]

  -- The end was moved nearer by `taken` bytes, and `f` was called there.
  pub record Ran (taken : ℕ) (inner outer : R) (r : Result T Error) : Type 0 where
    pub enough : n + taken ≡ length old.rest
    pub room : 0 < old.room
    pub ready : old.failed ≡ false
    pub enters : state inner ≡ entered n old
    pub call : FnOnceReturnsAtMut g f inner r outer
    pub kept : Kept (entered n old) (state outer)

  pub ran_there : (taken : Length) (inner outer : R) (r : Result T Error) → HandsBack state g f → Opens n old (state inner) (Ok taken)
      → FnOnceReturnsAtMut g f inner r outer → Ran taken.value inner outer r
  ran_there taken inner outer r hands_back opens call =
      let P : State → Type 0 = λ s. Kept s (state outer) in
      record { enough = opens.0; room = opens.1; ready = opens.3; enters = opens.4; call = call; kept = subst P opens.4 (hands_back inner r outer call) }

  module _ (taken : ℕ) (inner outer : R) (new : State) where
    called : (r : Result T Error) → Ran taken inner outer r → CalledWithin state g f n old r outer
    called r ran = ((omega (arith, ran.enough), ran.room), inner, ran.enters, ran.call)

    -- The result of `f` up to the end.
    reads_there : (b : Body) (view : T → BodyValue b) (r : Result T Error) → Ran taken inner outer r → ClosureReads state g f b view
        → Reads view (entered n old) (state outer) r (read_body_at (entered n old) b)
    reads_there b view r ran calls =
        let P : State → Type 0 = λ s. Reads view s (state outer) r (read_body_at s b) in
        subst P ran.enters (calls inner r outer ran.call)

    -- The end was moved back

    pub kept_there : (r : Result T Error) (failed : Bool) → Ran taken inner outer r → new ≡ restored taken failed (state outer) → Kept old new
    kept_there r failed ran e = is_kept n taken failed old (state outer) new ran.enough ran.room ran.kept e ran.ready

    pub nested_tells : (r : Result T Error) → Ran taken inner outer r → Closes taken (is_err r) (state outer) new (Ok tt)
        → OnOk r (IsNested n old new) × IfOk r (Answered state g f n old) × OnErr r (Kept old new) × OnErr r (new.failed ≡ true) × IfErr r (RefusesNested state g f n old)
    nested_tells (Ok x) ran closes =
        let moved : IsNested n old new = record {
          ready = ran.ready;
          enters = (omega (arith, ran.enough), ran.room);
          rest = ap (λ (s : State). s.rest) closes.1 ∙ ap (λ (w : List ℕ). w ++ take taken (state outer).behind) (closes.0 refl)
              ∙ ap (take taken) ran.kept.behind ∙ take_at (drop n old.rest) old.behind taken (at_length n taken old.rest ran.enough);
          kept = kept_there (Ok x) _ ran closes.1;
        } in
        (moved, (outer, called (Ok x) ran, closes.0 refl), tt, tt, tt)
    nested_tells (Err e) ran closes =
        (tt, tt, kept_there (Err e) _ ran closes.1, ap (λ (s : State). s.failed) closes.1 ∙ or_true (state outer).failed, inr (inr (inl (outer, called (Err e) ran))))

    pub nested_reads : (t : Tag) (b : Body) (view : T → BodyValue b) (r : Result T Error) → Ran taken inner outer r → Closes taken (is_err r) (state outer) new (Ok tt)
        → ClosureReads state g f b view → Reads view old new r (value_at (read_content_at old (nested b) t) n)
    nested_reads t b view r ran closes calls = gives t b view n taken old (state outer) new r ran.enough ran.room ran.ready (reads_there b view r ran calls) closes

    -- Bytes were left before the end

    pub left_refused : (r : Result T Error) (e : Error) → Ran taken inner outer r → Closes taken (is_err r) (state outer) new (Err e) → RefusesNested state g f n old e
    left_refused (Ok x) e ran closes = inr (inr (inr ((outer, x, called (Ok x) ran, closes.1), closes.2)))
    left_refused (Err d) e ran closes = absurd cc

    pub left_reads : (t : Tag) (b : Body) (view : T → BodyValue b) (r : Result T Error) (e : Error) → Ran taken inner outer r → Closes taken (is_err r) (state outer) new (Err e)
        → ClosureReads state g f b view → Reads view old new (Err e) (value_at (read_content_at old (nested b) t) n)
    left_reads t b view r e ran closes calls = trails t b view n taken old (state outer) new r e ran.enough ran.room ran.ready (reads_there b view r ran calls) closes

-- Constructed strings, one part after another, as a loop decodes them

pub part_short : (t : Tag) (w r : List ℕ) (h : Head) → wanted_at t head_at w ≡ Ok (h, r) → length r < h.len → part_at t w ≡ Err kinds.Incomplete
unfolding part_at
part_short t w r h e few = rw (e, slice_short h.len r few) refl

pub part_is : (t : Tag) (w r : List ℕ) (h : Head) → wanted_at t head_at w ≡ Ok (h, r) → h.len ≤ length r → part_at t w ≡ Ok (take h.len r, drop h.len r)
unfolding part_at
part_is t w r h e enough = rw (e, slice_ok h.len r enough) refl

next : (t : Tag) (n i : ℕ) (front w : List ℕ) → i < n → are_closed w ≡ false → joined t (n - i) front w ≡ (part_at t w >>= λ x. joined t (n - (i + 1)) (front ++ x.0) x.1)
unfolding joined
next t n i front w lt goes = let k : n - i ≡ suc (n - (i + 1)) = omega arith in rw (k, goes) refl

pub goes_on : (t : Tag) (n i : ℕ) (front w x r : List ℕ) (total : Result (List ℕ) ErrorKind) → i < n → are_closed w ≡ false → part_at t w ≡ Ok (x, r)
    → joined t (n - i) front w ≡ total → joined t (n - (i + 1)) (front ++ x) r ≡ total
goes_on t n i front w x r total lt goes e so_far = sym (next t n i front w lt goes ∙ ap (λ p. p >>= λ y. joined t (n - (i + 1)) (front ++ y.0) y.1) e) ∙ so_far

pub stops : (t : Tag) (n i : ℕ) (front w : List ℕ) (k : ErrorKind) (total : Result (List ℕ) ErrorKind) → i < n → are_closed w ≡ false → part_at t w ≡ Err k
    → joined t (n - i) front w ≡ total → total ≡ Err k
stops t n i front w k total lt goes e so_far = sym so_far ∙ next t n i front w lt goes ∙ ap (λ p. p >>= λ y. joined t (n - (i + 1)) (front ++ y.0) y.1) e

closes : (t : Tag) (m : ℕ) (front w : List ℕ) → are_closed w ≡ true → joined t m front w ≡ Ok front
unfolding joined
closes t zero front w shut = rw shut refl
closes t (suc m) front w shut = rw shut refl

pub is_done : (t : Tag) (m : ℕ) (front w : List ℕ) (total : Result (List ℕ) ErrorKind) → are_closed w ≡ true → joined t m front w ≡ total → total ≡ Ok front
is_done t m front w total shut so_far = sym so_far ∙ closes t m front w shut

pub is_over : (t : Tag) (n i : ℕ) (front w : List ℕ) (total : Result (List ℕ) ErrorKind) → n ≤ i → are_closed w ≡ false → joined t (n - i) front w ≡ total → total ≡ Err kinds.TrailingData
unfolding joined
is_over t n i front w total past goes so_far = let k : n - i ≡ 0 = omega arith in sym so_far ∙ rw (k, goes) refl

-- The parts in the next bytes

pub parts_none : (rules : EncodingRules) (t : Tag) (n : ℕ) (w : List ℕ) (k : ErrorKind) → slice_at n w ≡ Err k → parts_at rules t n w ≡ Err k
unfolding parts_at
parts_none rules t n w k e = rw e refl

pub parts_are : (rules rules' : EncodingRules) (t : Tag) (n : ℕ) (w x r v : List ℕ) → rules' ≡ rules → slice_at n w ≡ Ok (x, r) → join_by rules' t x ≡ Ok v → parts_at rules t n w ≡ Ok (v, r)
unfolding parts_at
parts_are rules rules' t n w x r v same e h = rw (e, sym (ap (λ q. join_by q t x) same) ∙ h) refl

pub parts_stop : (rules rules' : EncodingRules) (t : Tag) (n : ℕ) (w x r : List ℕ) (k : ErrorKind) → rules' ≡ rules → slice_at n w ≡ Ok (x, r) → join_by rules' t x ≡ Err k → parts_at rules t n w ≡ Err k
unfolding parts_at
parts_stop rules rules' t n w x r k same e h = rw (e, sym (ap (λ q. join_by q t x) same) ∙ h) refl

-- A header that is written in one call

at_once : (t : Tag) (n m : ℕ) (o : Out) → sum_len (length (head_octets t n)) n ≡ Ok m → put_head t n o ≡ put (tag_octets t ++ length_octets n) o
unfolding put_head
at_once t n m o e = ap (λ r. r >>= λ _. put (tag_octets t) o >>= put (length_octets n)) e ∙ put-append (tag_octets t) (length_octets n) o

pub written_at_once : (memory : Bool) (t : Tag) (n m : ℕ) (old new : Out) (r : Result (Unit {0}) Error) → sum_len (length (head_octets t n)) n ≡ Ok m
    → Writes memory old new r (put (tag_octets t ++ length_octets n)) → Writes memory old new r (put_head t n)
written_at_once memory t n m old new (Ok x) e h = at_once t n m old e ∙ h
written_at_once memory t n m old new (Err x) e h = λ other. at_once t n m old e ∙ h other
