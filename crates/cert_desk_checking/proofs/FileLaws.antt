-- A file of values has at most one meaning: a list of items, or a first wrong offset.
use Rattle.std.proofs.Common.{◌≡◌, ℕ, List, [], ◌∷◌, ◌++◌, length, map, Result, Ok, Err, refl, sym, ap, subst, ◌∙◌, append-nil}
use Rattle.std.specs.List.{AllByRecursion}
use Rattle.x509_cert_anchors.specs.Der.Shapes.{Shape, Value, octets_of, IsValid}
use Rattle.x509_cert_anchors.proofs.Der.BoundLaws.{front_all}
use Rattle.cert_desk_rules.specs.DeskBundle.Series.{IsUnambiguous, encodings}
use Rattle.cert_desk_checking.specs.Files.{GiveAll, IsFileOf, BeginsNone, BeginsRefused, HasFirstWrong}
use Rattle.cert_desk_rules.proofs.DeskBundle.SeriesLaws.{each-last, each-so, value_some, one_first, one_front}

module _ (s : Shape) (u : IsUnambiguous s) {A E : Type 0} (gives : Value s → Result A E) where
  -- The bytes don't begin with a value that gives an item.
  abbrev pub Ends : List ℕ → Type 0
  Ends r = (v : Value s) (more : List ℕ) (x : A) → IsValid s v → gives v ≡ Ok x → r ≡ octets_of s v ++ more → ⊥

  pub ends_nothing : Ends []
  ends_nothing v more x valid given e = value_some s u v more valid e

  pub ends_none : (r : List ℕ) → BeginsNone s r → Ends r
  ends_none r h v more x valid given e = h.1 v (record { valid = valid; more = more; whole = e })

  pub ends_refused : (error : E) (r : List ℕ) → BeginsRefused s gives error r → Ends r
  ends_refused error r h v more x valid given e =
      let same = one_first s u h.value v h.begins.more more h.begins.valid valid (sym h.begins.whole ∙ e) in
      let wrong : Err error ≡ Ok x = sym h.refused ∙ ap gives same.0 ∙ given in
      absurd cc

  abbrev refusal : E → Result A E
  refusal error = Err error

  -- At most one reason is true of the same bytes, and they aren't empty.
  pub one_reason : (error other : E) (r : List ℕ) → BeginsRefused s gives error r → BeginsRefused s gives other r → error ≡ other
  one_reason error other r p q =
      let same = one_first s u p.value q.value p.begins.more q.begins.more p.begins.valid q.begins.valid (sym p.begins.whole ∙ q.begins.whole) in
      let both : refusal error ≡ refusal other = sym p.refused ∙ ap gives same.0 ∙ q.refused in
      cc

  pub refused_some : (error : E) → BeginsRefused s gives error [] → ⊥
  refused_some error h = value_some s u h.value h.begins.more h.begins.valid h.begins.whole

  -- A value of a list that gives an item.
  record IsGiving (v : Value s) : Type 0 where
    valid : IsValid s v
    x : A
    given : gives v ≡ Ok x

  each_gives : (vs : List (Value s)) (xs : List A) → GiveAll s gives vs xs → AllByRecursion IsGiving vs
  each_gives [] xs g = tt
  each_gives (v ∷ vs) [] g = let wrong : gives v ∷ map gives vs ≡ [] = g.given in absurd cc
  each_gives (v ∷ vs) (x ∷ xs) g =
      let both : gives v ∷ map gives vs ≡ Ok x ∷ map (λ y. Ok y) xs = g.given in
      let head : gives v ≡ Ok x = cc in
      let tail : map gives vs ≡ map (λ y. Ok y) xs = cc in
      (record { valid = g.each.0; x = x; given = head }, each_gives vs xs (record { each = g.each.1; given = tail }))

  given_once : (xs ys : List A) → map {B = Result A E} (λ x. Ok x) xs ≡ map (λ x. Ok x) ys → xs ≡ ys
  given_once [] [] e = refl
  given_once [] (y ∷ ys) e = absurd cc
  given_once (x ∷ xs) [] e = absurd cc
  given_once (x ∷ xs) (y ∷ ys) e =
      let head : x ≡ y = cc in
      let tail : map {B = Result A E} (λ x. Ok x) xs ≡ map (λ x. Ok x) ys = cc in
      ap (λ z. z ∷ xs) head ∙ ap (λ zs. y ∷ zs) (given_once xs ys tail)

  -- If bytes begin with two lists of such values that can't be continued, the lists are equal.
  same_values : (vs ws : List (Value s)) (xs ys : List A) (r t : List ℕ) → GiveAll s gives vs xs → GiveAll s gives ws ys → Ends r → Ends t → encodings s vs ++ r ≡ encodings s ws ++ t → (vs ≡ ws) × (r ≡ t)
  same_values vs ws xs ys r t p q ends other e =
      one_front s u (λ (zs : List (Value s)). AllByRecursion IsGiving zs) (λ zs more. front_all IsGiving zs more) (λ zs all. each-so IsGiving (IsValid s) zs (λ v g. g.valid) all)
      vs ws r t (each_gives vs xs p) (each_gives ws ys q)
      (λ v more all b. let g = each-last IsGiving vs v all in ends v more g.x g.valid g.given b)
      (λ v more all b. let g = each-last IsGiving ws v all in other v more g.x g.valid g.given b) e

  whole : (octets : List ℕ) (xs : List A) → (f : IsFileOf s gives octets xs) → encodings s f.values ++ [] ≡ octets
  whole octets xs f = append-nil (encodings s f.values) ∙ sym f.joins

  -- A file gives one list.
  pub one_file : (octets : List ℕ) (xs ys : List A) → IsFileOf s gives octets xs → IsFileOf s gives octets ys → xs ≡ ys
  one_file octets xs ys p q =
      let same = same_values p.values q.values xs ys [] [] p.give q.give ends_nothing ends_nothing (whole octets xs p ∙ sym (whole octets ys q)) in
      given_once xs ys (sym p.give.given ∙ ap (map gives) same.0 ∙ q.give.given)

  -- A file that gives a list has no wrong offset.
  pub not_both : (octets : List ℕ) (xs : List A) (wrong : List ℕ → Type 0) (offset : ℕ) → ((r : List ℕ) → wrong r → Ends r) → (wrong [] → ⊥)
      → IsFileOf s gives octets xs → HasFirstWrong s gives wrong octets offset → ⊥
  not_both octets xs wrong offset ends some p q =
      let same = same_values p.values q.values xs q.xs [] q.rest p.give q.give ends_nothing (ends q.rest q.is_wrong) (whole octets xs p ∙ q.whole) in
      some (subst wrong (sym same.1) q.is_wrong)

  -- A file has one first wrong offset.
  pub one_place : (octets : List ℕ) (wrong other : List ℕ → Type 0) (offset place : ℕ) → ((r : List ℕ) → wrong r → Ends r) → ((r : List ℕ) → other r → Ends r)
      → HasFirstWrong s gives wrong octets offset → HasFirstWrong s gives other octets place → (offset ≡ place) × ((r : List ℕ) × wrong r × other r)
  one_place octets wrong other offset place ends stops p q =
      let same = same_values p.values q.values p.xs q.xs p.rest q.rest p.give q.give (ends p.rest p.is_wrong) (stops q.rest q.is_wrong) (sym p.whole ∙ q.whole) in (
        p.offset_is ∙ ap (λ (vs : List (Value s)). length (encodings s vs)) same.0 ∙ sym q.offset_is,
        (q.rest, subst wrong same.1 p.is_wrong, q.is_wrong),
      )
