-- Lemmas about lists and arrays, which are decoded and encoded one member after another.
use Rattle.std.proofs.Common.{◌≡◌, ℕ, suc, ◌-◌, ◌+◌, ◌≤◌, ◌<◌, true, false, List, [], ◌∷◌, ◌++◌, Result, Ok, Err, refl, sym, ap, ◌∙◌, append_assoc, arith, ◌≢◌, Option, Some, append-nil, length, subst, None}
use Rattle.der_core_octets.specs.CoreHead.declared.error.ErrorKind.{ErrorKind}
use Rattle.der_core_octets.specs.CoreHead.declared.error.ErrorKind.TheVariants as kinds
use Rattle.der_core_octets.specs.CoreHead.Octets.{◌>>=◌, Readings}
use Rattle.der_core_octets.specs.CoreHead.Shapes.{Step, Shape, Value, octets_of}
use Rattle.der_core_octets.specs.CoreHead.Grammar.{read_many, read_exactly, read_in_order, follows_last, plain_list, read, read_by}
use Rattle.der_core_octets.specs.CoreHead.Reading.{State, IsRest, Kept, Fails, read_at, IsDer}
use Rattle.der_core_octets.proofs.CoreHead.Results.{plain-append}
use Rattle.der_core_octets.proofs.GoingOn.{frame_then, kept_then, rest_then}

-- Values that a loop decodes one after another

-- Puts a value before those that are decoded after it.
abbrev pub led : {P : Type 0} → P → Result (List P × List ℕ) ErrorKind → Result (List P × List ℕ) ErrorKind
led x r = r >>= λ y. Ok (x ∷ y.0, y.1)

-- Puts the decoded values before those that are left to decode.
abbrev pub with_front : {A P : Type 0} → (A → P) → List A → Result (List P × List ℕ) ErrorKind → Result (List P × List ℕ) ErrorKind
with_front f xs r = r >>= λ x. Ok (plain_list f xs ++ x.0, x.1)

none_before : {A P : Type 0} (f : A → P) (r : Result (List P × List ℕ) ErrorKind) → with_front f [] r ≡ r
none_before f (Ok x) = refl
none_before f (Err k) = refl

regroup : {A P : Type 0} (f : A → P) (xs : List A) (x : A) (r : Result (List P × List ℕ) ErrorKind) → with_front f xs (led (f x) r) ≡ with_front f (xs ++ x ∷ []) r
regroup f xs x (Ok y) = ap (λ (p : List _). Ok (p, y.1)) (sym (ap (λ (p : List _). p ++ y.0) (plain-append f xs (x ∷ [])) ∙ append_assoc (plain_list f xs) (f x ∷ []) y.0))
regroup f xs x (Err e) = refl

-- These values were decoded since the start, and with those that are left they are all values.
pub record Reached {A : Type 0} (s : Shape) (plain : A → Value s) (start now : State) (values : List A) (left all : Result (List (Value s) × List ℕ) ErrorKind) : Type 0 where
  pub same : now ≡ record start { rest = now.rest }
  pub passed : IsRest now.rest start.rest
  pub total : with_front plain values left ≡ all

pub reached_none : {A : Type 0} (s : Shape) (plain : A → Value s) (start : State) (left all : Result (List (Value s) × List ℕ) ErrorKind) → left ≡ all → Reached s plain start start [] left all
reached_none s plain start left all is = record { same = refl; passed = (0, refl); total = none_before plain left ∙ is }

module _ {A : Type 0} {s : Shape} {plain : A → Value s} {start now : State} {values : List A} {left all : Result (List (Value s) × List ℕ) ErrorKind} (h : Reached s plain start now values left all) where
  pub reads_alike : read_at start s now.rest ≡ read_at now s now.rest
  reads_alike = sym (ap (λ (r : State). read_at r s now.rest) h.same)

  pub reached_on : (x : A) {after : State} {rest : Result (List (Value s) × List ℕ) ErrorKind} → left ≡ led (plain x) rest → after ≡ record now { rest = after.rest } → IsRest after.rest now.rest → Reached s plain start after (values ++ x ∷ []) rest all
  reached_on x {after} {rest} is frame passed = record {
    same = frame_then start now after h.same frame;
    passed = rest_then start.rest now.rest after.rest h.passed passed;
    total = sym (ap (with_front plain values) is ∙ regroup plain values x rest) ∙ h.total;
  }

  pub reached_fault : {k : ErrorKind} → left ≡ Err k → all ≡ Err k
  reached_fault is = sym h.total ∙ ap (with_front plain values) is

  pub reached_end : {w : List ℕ} → left ≡ Ok ([], w) → all ≡ Ok (plain_list plain values, w)
  reached_end {w} is = sym h.total ∙ ap (with_front plain values) is ∙ ap (λ (p : List _). Ok (p, w)) (append-nil (plain_list plain values))

  -- The state of a reader that failed after these values.
  pub reached_refused : {k : ErrorKind} {new : State} → start.failed ≡ false → Fails k all → Kept now new → new.failed ≡ true
      → (start.failed ≡ false → Fails k all) × Kept start new × (start.failed ≡ true → k ≡ kinds.Failed) × (new.failed ≡ true)
  reached_refused {k} {new} ready fault kept failed = (λ _. fault, kept_then start now new h.same h.passed kept, λ f. absurd (cc (f, ready)), failed)

-- Up to the end of the bytes, with or without a limit

many_step : {P : Type 0} (z : ErrorKind) (F : Readings P) (n i : ℕ) (w : List ℕ) → i < n → w ≢ [] → read_many z F (n - i) w ≡ (F w >>= λ x. read_many z F (n - (i + 1)) x.1 >>= λ y. Ok (x.0 ∷ y.0, y.1))
unfolding read_many
many_step z F n i [] lt some = absurd (some refl)
many_step z F n i (b ∷ w) lt some = let k : n - i ≡ suc (n - (i + 1)) = omega arith in rw k refl

pub many_on : {P : Type 0} (z : ErrorKind) (F : Readings P) (n i : ℕ) (w after : List ℕ) (x : P) → i < n → w ≢ [] → F w ≡ Ok (x, after) → read_many z F (n - i) w ≡ led x (read_many z F (n - (i + 1)) after)
many_on z F n i w after x lt some e = many_step z F n i w lt some ∙ ap (λ r. r >>= λ x. read_many z F (n - (i + 1)) x.1 >>= λ y. Ok (x.0 ∷ y.0, y.1)) e

pub many_fault : {P : Type 0} (z : ErrorKind) (F : Readings P) (n i : ℕ) (w : List ℕ) (k : ErrorKind) → i < n → w ≢ [] → F w ≡ Err k → read_many z F (n - i) w ≡ Err k
many_fault z F n i w k lt some e = many_step z F n i w lt some ∙ ap (λ r. r >>= λ x. read_many z F (n - (i + 1)) x.1 >>= λ y. Ok (x.0 ∷ y.0, y.1)) e

pub many_end : {P : Type 0} (z : ErrorKind) (F : Readings P) (n : ℕ) (w : List ℕ) → w ≡ [] → read_many z F n w ≡ Ok ([], w)
unfolding read_many
many_end z F n [] e = refl
many_end z F n (b ∷ w) e = absurd cc

pub many_over : {P : Type 0} (z : ErrorKind) (F : Readings P) (n i : ℕ) (w : List ℕ) → n ≤ i → w ≢ [] → read_many z F (n - i) w ≡ Err z
unfolding read_many
many_over z F n i [] le some = absurd (some refl)
many_over z F n i (b ∷ w) le some = let k : n - i ≡ 0 = omega arith in rw k refl

-- A fixed number of values

exactly_step : {P : Type 0} (F : Readings P) (n i : ℕ) (w : List ℕ) → i < n → read_exactly F (n - i) w ≡ (F w >>= λ x. read_exactly F (n - (i + 1)) x.1 >>= λ y. Ok (x.0 ∷ y.0, y.1))
unfolding read_exactly
exactly_step F n i w lt = let k : n - i ≡ suc (n - (i + 1)) = omega arith in rw k refl

pub exactly_on : {P : Type 0} (F : Readings P) (n i : ℕ) (w after : List ℕ) (x : P) → i < n → F w ≡ Ok (x, after) → read_exactly F (n - i) w ≡ led x (read_exactly F (n - (i + 1)) after)
exactly_on F n i w after x lt e = exactly_step F n i w lt ∙ ap (λ r. r >>= λ x. read_exactly F (n - (i + 1)) x.1 >>= λ y. Ok (x.0 ∷ y.0, y.1)) e

pub exactly_fault : {P : Type 0} (F : Readings P) (n i : ℕ) (w : List ℕ) (k : ErrorKind) → i < n → F w ≡ Err k → read_exactly F (n - i) w ≡ Err k
exactly_fault F n i w k lt e = exactly_step F n i w lt ∙ ap (λ r. r >>= λ x. read_exactly F (n - (i + 1)) x.1 >>= λ y. Ok (x.0 ∷ y.0, y.1)) e

pub exactly_end : {P : Type 0} (F : Readings P) (n i : ℕ) (w : List ℕ) → n ≤ i → read_exactly F (n - i) w ≡ Ok ([], w)
unfolding read_exactly
exactly_end F n i w le = let k : n - i ≡ 0 = omega arith in rw k refl

-- The members of a set, whose encodings are in order

order_step : {P : Type 0} (how : Step) (o : P → List ℕ) (F : Readings P) (last : Option (List ℕ)) (n i : ℕ) (w : List ℕ) → i < n → w ≢ []
    → read_in_order how o F last (n - i) w ≡ (F w >>= λ x. follows_last how last (o x.0) >>= λ _. read_in_order how o F (Some (o x.0)) (n - (i + 1)) x.1 >>= λ y. Ok (x.0 ∷ y.0, y.1))
unfolding read_in_order
order_step how o F last n i [] lt some = absurd (some refl)
order_step how o F last n i (b ∷ w) lt some = let k : n - i ≡ suc (n - (i + 1)) = omega arith in rw k refl

pub order_on : {P : Type 0} (how : Step) (o : P → List ℕ) (F : Readings P) (last : Option (List ℕ)) (n i : ℕ) (w after : List ℕ) (x : P) → i < n → w ≢ [] → F w ≡ Ok (x, after) → follows_last how last (o x) ≡ Ok tt
    → read_in_order how o F last (n - i) w ≡ led x (read_in_order how o F (Some (o x)) (n - (i + 1)) after)
order_on how o F last n i w after x lt some e ok = order_step how o F last n i w lt some ∙ rw (e, ok) refl

pub order_fault : {P : Type 0} (how : Step) (o : P → List ℕ) (F : Readings P) (last : Option (List ℕ)) (n i : ℕ) (w : List ℕ) (k : ErrorKind) → i < n → w ≢ [] → F w ≡ Err k → read_in_order how o F last (n - i) w ≡ Err k
order_fault how o F last n i w k lt some e = order_step how o F last n i w lt some ∙ rw e refl

pub order_falls : {P : Type 0} (how : Step) (o : P → List ℕ) (F : Readings P) (last : Option (List ℕ)) (n i : ℕ) (w after : List ℕ) (x : P) (k : ErrorKind) → i < n → w ≢ [] → F w ≡ Ok (x, after) → follows_last how last (o x) ≡ Err k
    → read_in_order how o F last (n - i) w ≡ Err k
order_falls how o F last n i w after x k lt some e bad = order_step how o F last n i w lt some ∙ rw (e, bad) refl

pub order_end : {P : Type 0} (how : Step) (o : P → List ℕ) (F : Readings P) (last : Option (List ℕ)) (n : ℕ) (w : List ℕ) → w ≡ [] → read_in_order how o F last n w ≡ Ok ([], w)
unfolding read_in_order
order_end how o F last n [] e = refl
order_end how o F last n (b ∷ w) e = absurd cc

pub order_over : {P : Type 0} (how : Step) (o : P → List ℕ) (F : Readings P) (last : Option (List ℕ)) (n i : ℕ) (w : List ℕ) → n ≤ i → w ≢ [] → read_in_order how o F last (n - i) w ≡ Err kinds.TrailingData
unfolding read_in_order
order_over how o F last n i [] le some = absurd (some refl)
order_over how o F last n i (b ∷ w) le some = let k : n - i ≡ 0 = omega arith in rw k refl

-- Members of a set that a loop decodes one after another, each of which follows the one before

-- The result of decoding all members, from the start.
abbrev pub all_in_turn : Step → (s : Shape) → State → Result (List (Value s) × List ℕ) ErrorKind
all_in_turn how s start = read_in_order how (octets_of s) (read s start.room) None (length start.rest) start.rest

-- These members were decoded since the start, and the last one has these bytes.
pub record InTurn {A : Type 0} (how : Step) (s : Shape) (plain : A → Value s) (start : State) (last : Option (List ℕ)) (now : State) (values : List A) (i : ℕ) : Type 0 where
  pub reached : Reached s plain start now values (read_in_order how (octets_of s) (read s start.room) last (length start.rest - i) now.rest) (all_in_turn how s start)

pub none_in_turn : {A : Type 0} (how : Step) (s : Shape) (plain : A → Value s) (start : State) → InTurn how s plain start None start [] 0
none_in_turn how s plain start =
    let n : length start.rest - 0 ≡ length start.rest = omega arith in
    record { reached = reached_none s plain start _ (all_in_turn how s start) (ap (λ n. read_in_order how (octets_of s) (read s start.room) None n start.rest) n) }

module _ {A : Type 0} {how : Step} {s : Shape} {plain : A → Value s} {start : State} {last : Option (List ℕ)} {now : State} {values : List A} {i : ℕ} (h : InTurn how s plain start last now values i) (der : IsDer start) where
  alike : read s start.room now.rest ≡ read_at now s now.rest
  alike = ap (λ r. read_by r s start.room now.rest) (sym der) ∙ reads_alike h.reached

  lies : (b : List ℕ) (v : Value s) → (IsDer now → b ≡ octets_of s v) → b ≡ octets_of s v
  lies b v octets = octets (ap (λ (r : State). r.source.encoding) h.reached.same ∙ der)

  pub on_in_turn : {x : A} {after : State} {b : List ℕ} → i < length start.rest → now.rest ≢ [] → read_at now s now.rest ≡ Ok (plain x, after.rest) → after ≡ record now { rest = after.rest } → IsRest after.rest now.rest
      → (IsDer now → b ≡ octets_of s (plain x)) → follows_last how last b ≡ Ok tt → InTurn how s plain start (Some b) after (values ++ x ∷ []) (i + 1)
  on_in_turn {x} {after} {b} lt some e frame passed octets ok =
      let is = lies b (plain x) octets in
      let step = order_on how (octets_of s) (read s start.room) last (length start.rest) i now.rest after.rest (plain x) lt some (alike ∙ e) (ap (follows_last how last) (sym is) ∙ ok) in
      subst (λ (u : List ℕ). InTurn how s plain start (Some u) after (values ++ x ∷ []) (i + 1)) (sym is) (record { reached = reached_on h.reached x step frame passed })

  pub stops_in_turn : {k : ErrorKind} → i < length start.rest → now.rest ≢ [] → read_at now s now.rest ≡ Err k → all_in_turn how s start ≡ Err k
  stops_in_turn {k} lt some e = reached_fault h.reached (order_fault how (octets_of s) (read s start.room) last (length start.rest) i now.rest k lt some (alike ∙ e))

  pub falls_in_turn : {k : ErrorKind} {v : Value s} {b after : List ℕ} → i < length start.rest → now.rest ≢ [] → read_at now s now.rest ≡ Ok (v, after) → (IsDer now → b ≡ octets_of s v) → follows_last how last b ≡ Err k
      → all_in_turn how s start ≡ Err k
  falls_in_turn {k} {v} {b} {after} lt some e octets bad =
      reached_fault h.reached (order_falls how (octets_of s) (read s start.room) last (length start.rest) i now.rest after v k lt some (alike ∙ e) (ap (follows_last how last) (sym (lies b v octets)) ∙ bad))

  pub done_in_turn : now.rest ≡ [] → all_in_turn how s start ≡ Ok (plain_list plain values, now.rest)
  done_in_turn none = reached_end h.reached (order_end how (octets_of s) (read s start.room) last (length start.rest - i) now.rest none)

  pub over_in_turn : length start.rest ≤ i → now.rest ≢ [] → all_in_turn how s start ≡ Err kinds.TrailingData
  over_in_turn le some = reached_fault h.reached (order_over how (octets_of s) (read s start.room) last (length start.rest) i now.rest le some)
