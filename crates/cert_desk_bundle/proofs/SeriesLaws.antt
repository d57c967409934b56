-- Bytes begin with exactly one longest list of values of a shape, and an input has at most one
-- error.
use Rattle.std.proofs.Common.{◌≡◌, ℕ, ◌^◌, ◌<◌, List, [], ◌∷◌, ◌++◌, length, eqb, cond, refl, sym, ap, subst, ◌∙◌, arith, ◌⊎◌, inl, inr, append_assoc, append-nil, length-append}
use Rattle.std.proofs.lemmas.Bool.{cases_lt}
use Rattle.std.proofs.lemmas.Grind.{flat_map-append}
use Rattle.std.specs.List.{AllByRecursion}
use Rattle.x509_cert_certificates.specs.Der.Shapes.{Shape, Value, octets_of, IsValid}
use Rattle.x509_cert_certificates.proofs.Der.OneEncoding.{one_value}
use Rattle.x509_cert_certificates.proofs.Der.Complete.{element_some}
use Rattle.x509_cert_certificates.proofs.Der.BoundLaws.{front_all}
use Rattle.cert_desk_bundle.specs.declared.fault_kind.FaultKind.{FaultKind}
use Rattle.cert_desk_bundle.specs.declared.fault_kind.FaultKind.TheVariants as kinds
use Rattle.cert_desk_bundle.specs.Series.{IsUnambiguous, MayStand, Series, SeriesSplit, encodings}
use Rattle.cert_desk_bundle.specs.Faults.{rank, IsFault, SeriesFault}
use Rattle.cert_desk_bundle.proofs.Scans.{says_some}

-- A property of each value of a list.

pub each-more : {A : Type 0} (P : A → Type 0) (xs : List A) (x : A) → AllByRecursion P xs → P x → AllByRecursion P (xs ++ x ∷ [])
each-more P [] x all p = (p, tt)
each-more P (y ∷ xs) x all p = (all.0, each-more P xs x all.1 p)

pub each-last : {A : Type 0} (P : A → Type 0) (xs : List A) (x : A) → AllByRecursion P (xs ++ x ∷ []) → P x
each-last P [] x all = all.0
each-last P (y ∷ xs) x all = each-last P xs x all.1

pub each-so : {A : Type 0} (P Q : A → Type 0) (xs : List A) → ((x : A) → P x → Q x) → AllByRecursion P xs → AllByRecursion Q xs
each-so P Q [] so all = tt
each-so P Q (x ∷ xs) so all = (so x all.0, each-so P Q xs so all.1)

-- Concatenated encodings.

pub encodings-append : (s : Shape) (vs ws : List (Value s)) → encodings s (vs ++ ws) ≡ encodings s vs ++ encodings s ws
encodings-append s vs ws = flat_map-append (octets_of s) vs ws

pub encodings-more : (s : Shape) (vs : List (Value s)) (v : Value s) → encodings s (vs ++ v ∷ []) ≡ encodings s vs ++ octets_of s v
encodings-more s vs v = encodings-append s vs (v ∷ []) ∙ ap (λ (x : List ℕ). encodings s vs ++ x) (append-nil (octets_of s v))

module _ (s : Shape) (u : IsUnambiguous s) where
  -- An encoding isn't empty.
  pub value_some : (v : Value s) (more : List ℕ) → IsValid s v → [] ≡ octets_of s v ++ more → ⊥
  value_some v more valid e =
      let some = element_some s v u.element valid in
      let longer : [] ≡ some.0 ∷ (some.1 ++ more) = e ∙ ap (λ (x : List ℕ). x ++ more) some.2 in
      absurd cc

  -- Bytes begin with at most one value.
  pub one_first : (v w : Value s) (r t : List ℕ) → IsValid s v → IsValid s w → octets_of s v ++ r ≡ octets_of s w ++ t → (v ≡ w) × (r ≡ t)
  one_first v w r t p q e = one_value s v w r t u.element u.apart p q e

  -- One list continues the other, with the values after it.
  record GoesOn (vs ws : List (Value s)) (r t : List ℕ) : Type 0 where
    more : List (Value s)
    longer : ws ≡ vs ++ more
    left : r ≡ encodings s more ++ t

  -- If bytes begin with two lists of values, one list continues the other.
  fronts : (vs ws : List (Value s)) (r t : List ℕ) → AllByRecursion (IsValid s) vs → AllByRecursion (IsValid s) ws
      → encodings s vs ++ r ≡ encodings s ws ++ t → GoesOn vs ws r t ⊎ GoesOn ws vs t r
  fronts [] ws r t p q e = inl (record { more = ws; longer = refl; left = e })
  fronts (v ∷ vs) [] r t p q e = inr (record { more = v ∷ vs; longer = refl; left = sym e })
  fronts (v ∷ vs) (w ∷ ws) r t p q e =
      let apart : octets_of s v ++ (encodings s vs ++ r) ≡ octets_of s w ++ (encodings s ws ++ t) =
      sym (append_assoc (octets_of s v) (encodings s vs) r) ∙ e ∙ append_assoc (octets_of s w) (encodings s ws) t in
      let same = one_first v w (encodings s vs ++ r) (encodings s ws ++ t) p.0 q.0 apart in
      elim (fronts vs ws r t p.1 q.1 same.1) [
        | inl g ↦ inl (record { more = g.more; longer = ap (λ (x : Value s). x ∷ ws) (sym same.0) ∙ ap (λ (xs : List (Value s)). v ∷ xs) g.longer; left = g.left })
        | inr g ↦ inr (record { more = g.more; longer = ap (λ (x : Value s). x ∷ vs) same.0 ∙ ap (λ (xs : List (Value s)). w ∷ xs) g.longer; left = g.left })
      ]

  -- A kind of lists that contains each prefix of a list, and whose values have encodings. Bytes
  -- begin with at most one list of this kind that no longer one continues.
  module _ (Q : List (Value s) → Type 0) (front : (vs ws : List (Value s)) → Q (vs ++ ws) → Q vs) (valid : (vs : List (Value s)) → Q vs → AllByRecursion (IsValid s) vs) where
    abbrev Longest : List (Value s) → List ℕ → Type 0
    Longest vs r = (v : Value s) (more : List ℕ) → Q (vs ++ v ∷ []) → r ≡ octets_of s v ++ more → ⊥

    ends : (vs ws more : List (Value s)) (r t : List ℕ) → Q ws → Longest vs r → ws ≡ vs ++ more → r ≡ encodings s more ++ t → (vs ≡ ws) × (r ≡ t)
    ends vs ws [] r t q longest l e = (sym (append-nil vs) ∙ sym l, e)
    ends vs ws (v ∷ more) r t q longest l e =
        let further : Q ((vs ++ v ∷ []) ++ more) = subst Q (l ∙ sym (append_assoc vs (v ∷ []) more)) q in
        absurd (longest v (encodings s more ++ t) (front (vs ++ v ∷ []) more further) (e ∙ append_assoc (octets_of s v) (encodings s more) t))

    pub one_front : (vs ws : List (Value s)) (r t : List ℕ) → Q vs → Q ws → Longest vs r → Longest ws t → encodings s vs ++ r ≡ encodings s ws ++ t → (vs ≡ ws) × (r ≡ t)
    one_front vs ws r t p q longest other e =
        elim (fronts vs ws r t (valid vs p) (valid ws q) e) [
          | inl g ↦ ends vs ws g.more r t q longest g.longer g.left
          | inr g ↦ let same = ends ws vs g.more t r p other g.longer g.left in (sym same.0, sym same.1)
        ]

-- Series.

module _ (s : Shape) (limit : ℕ) where
  pub Series-own : (vs : List (Value s)) (stream : List ℕ) → Series s limit vs stream → Series s limit vs (encodings s vs)
  Series-own vs stream h = record { each = h.each; joins = refl; fits = subst (λ (x : List ℕ). length x < 2 ^ 64) h.joins h.fits }

  pub Series-more : (vs : List (Value s)) (v : Value s) → Series s limit vs (encodings s vs) → MayStand s limit v
      → length (encodings s (vs ++ v ∷ [])) < 2 ^ 64 → Series s limit (vs ++ v ∷ []) (encodings s (vs ++ v ∷ []))
  Series-more vs v h stands fits = record { each = each-more (MayStand s limit) vs v h.each stands; joins = refl; fits = fits }

  Series-front : (vs ws : List (Value s)) → Series s limit (vs ++ ws) (encodings s (vs ++ ws)) → Series s limit vs (encodings s vs)
  Series-front vs ws h = record {
    each = front_all (MayStand s limit) vs ws h.each;
    joins = refl;
    fits = omega (arith, h.fits, ap length (encodings-append s vs ws), length-append (encodings s vs) (encodings s ws));
  }

  Series-valid : (vs : List (Value s)) → Series s limit vs (encodings s vs) → AllByRecursion (IsValid s) vs
  Series-valid vs h = each-so (MayStand s limit) (IsValid s) vs (λ v m. m.valid) h.each

  module _ (u : IsUnambiguous s) where
    -- A complete series leaves no bytes.
    pub Series-split : (vs : List (Value s)) (stream : List ℕ) → Series s limit vs stream → SeriesSplit s limit stream vs []
    Series-split vs stream h = record {
      front = Series-own vs stream h;
      whole = h.joins ∙ sym (append-nil (encodings s vs));
      longest = λ v more k e. value_some s u v more (each-last (MayStand s limit) vs v k.each).valid e;
    }

    pub one_split : (stream : List ℕ) (vs ws : List (Value s)) (r t : List ℕ) → SeriesSplit s limit stream vs r → SeriesSplit s limit stream ws t → (vs ≡ ws) × (r ≡ t)
    one_split stream vs ws r t p q =
        one_front s u (λ (xs : List (Value s)). Series s limit xs (encodings s xs)) Series-front Series-valid vs ws r t p.front q.front p.longest q.longest (sym p.whole ∙ q.whole)

    pub one_series : (vs ws : List (Value s)) (stream : List ℕ) → Series s limit vs stream → Series s limit ws stream → vs ≡ ws
    one_series vs ws stream p q = (one_split stream vs ws [] [] (Series-split vs stream p) (Series-split ws stream q)).0

    pub fault_no_series : (vs ws : List (Value s)) (kind : FaultKind) (stream : List ℕ) → SeriesFault s limit stream vs kind → Series s limit ws stream → ⊥
    fault_no_series vs ws kind stream f h =
        let same = one_split stream vs ws f.rest [] f.split (Series-split ws stream h) in
        let none : IsFault s limit (length (encodings s vs)) kind [] = subst (λ (x : List ℕ). IsFault s limit (length (encodings s vs)) kind x) same.1 f.fault in
        says_some s limit (length (encodings s vs)) kind none.says

-- The kind with this rank.
kind_of : ℕ → FaultKind
kind_of n =
    cond (eqb n 1) kinds.NoCertificate (cond (eqb n 2) kinds.Indefinite (cond (eqb n 3) kinds.LengthTooWide (cond (eqb n 4) kinds.LengthNotShortest (cond (eqb n 5) kinds.TooLarge (cond (eqb n 6) kinds.Malformed kinds.Truncated)))))

kind_of-rank : (kind : FaultKind) → kind_of (rank kind) ≡ kind
unfolding kind_of
kind_of-rank kinds.NoCertificate = refl
kind_of-rank kinds.Indefinite = refl
kind_of-rank kinds.LengthTooWide = refl
kind_of-rank kinds.LengthNotShortest = refl
kind_of-rank kinds.TooLarge = refl
kind_of-rank kinds.Malformed = refl
kind_of-rank kinds.Truncated = refl

one_kind : (s : Shape) (limit offset : ℕ) (kind other : FaultKind) (rest : List ℕ) → IsFault s limit offset kind rest → IsFault s limit offset other rest → kind ≡ other
one_kind s limit offset kind other rest f g =
    elim (cases_lt (rank kind) (rank other)) [
      | inl h ↦ absurd (g.first kind h f.says)
      | inr h ↦ elim (cases_lt (rank other) (rank kind)) [
        | inl k ↦ absurd (f.first other k g.says)
        | inr k ↦ let same : rank kind ≡ rank other = omega arith in sym (kind_of-rank kind) ∙ ap kind_of same ∙ kind_of-rank other
      ]
    ]

pub one_series_fault : (s : Shape) → IsUnambiguous s → (limit : ℕ) (vs ws : List (Value s)) (kind other : FaultKind) (stream : List ℕ) → SeriesFault s limit stream vs kind → SeriesFault s limit stream ws other
    → (vs ≡ ws) × (kind ≡ other)
one_series_fault s u limit vs ws kind other stream f g =
    let same = one_split s limit u stream vs ws f.rest g.rest f.split g.split in
    let there : IsFault s limit (length (encodings s vs)) other f.rest =
    subst (λ (x : List ℕ). IsFault s limit (length (encodings s vs)) other x) (sym same.1)
    (subst (λ (xs : List (Value s)). IsFault s limit (length (encodings s xs)) other g.rest) (sym same.0) g.fault) in
    (same.0, one_kind s limit (length (encodings s vs)) kind other f.rest f.fault there)
