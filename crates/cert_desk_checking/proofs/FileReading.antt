-- The values of a file are decoded one after another.
use Rattle.std.proofs.Common.{◌≡◌, ℕ, ◌+◌, ◌-◌, ◌<◌, ◌≤◌, List, [], ◌∷◌, ◌++◌, length, map, drop, Result, Ok, refl, sym, ap, ◌∙◌, arith, append_assoc, append-nil, length-append, length-drop}
use Rattle.std.proofs.lemmas.List.{map-append, drop_at, drop-drop}
use Rattle.x509_cert_anchors.specs.Der.Shapes.{Shape, Value, octets_of, IsValid}
use Rattle.cert_desk_rules.specs.DeskBundle.Series.{IsUnambiguous, encodings}
use Rattle.cert_desk_checking.specs.Files.{GiveAll, StandsAt, GivesAt}
use Rattle.cert_desk_rules.proofs.DeskBundle.SeriesLaws.{each-more, encodings-more, value_some}

module _ (s : Shape) (octets : List ℕ) (start : ℕ) where
  -- A value with which the bytes from an offset on begin ends before the remaining bytes.
  pub stands_at : (v : Value s) (behind : List ℕ) → start ≤ length octets → IsValid s v → drop start octets ≡ octets_of s v ++ behind → StandsAt s octets start (length octets - length behind) v
  stands_at v behind within valid e =
      let len : length octets - start ≡ length (octets_of s v) + length behind = sym (length-drop start octets) ∙ ap length e ∙ length-append (octets_of s v) behind in
      let end : length octets - length behind ≡ start + length (octets_of s v) = omega (arith, len, within) in
      let left : drop (length octets - length behind) octets ≡ behind =
      ap (λ (n : ℕ). drop n octets) end
      ∙ sym (drop-drop (length (octets_of s v)) start octets)
      ∙ ap (drop (length (octets_of s v))) e
      ∙ drop_at (octets_of s v) behind (length (octets_of s v)) refl in
      record { valid = valid; whole = e ∙ ap (λ (w : List ℕ). octets_of s v ++ w) (sym left); end_is = end }

  module _ (end : ℕ) (v : Value s) (h : StandsAt s octets start end v) where
    pub stands-later : IsUnambiguous s → start < end
    stands-later u = later (octets_of s v) refl
      where
        later : (w : List ℕ) → octets_of s v ≡ w → start < end
        later [] e = absurd (value_some s u v [] h.valid (sym e ∙ sym (append-nil (octets_of s v))))
        later (b ∷ w) e = omega (arith, h.end_is, ap length e)

-- The items so far are those of the values up to the start.
pub record SoFar (s : Shape) {A E : Type 0} (gives : Value s → Result A E) (octets : List ℕ) (xs : List A) (start : ℕ) : Type 0 where
  pub values : List (Value s)
  pub give : GiveAll s gives values xs
  pub whole : octets ≡ encodings s values ++ drop start octets
  pub start_is : start ≡ length (encodings s values)

module _ (s : Shape) {A E : Type 0} (gives : Value s → Result A E) (octets : List ℕ) where
  pub so_far-start : SoFar s gives octets [] 0
  so_far-start = record { values = []; give = record { each = tt; given = refl }; whole = refl; start_is = refl }

  module _ (xs : List A) (start : ℕ) (h : SoFar s gives octets xs start) where
    pub so_far-more : (end : ℕ) (x : A) → GivesAt s gives octets start end x → SoFar s gives octets (xs ++ x ∷ []) end
    so_far-more end x g =
        let v = g.value in
        let joined = encodings-more s h.values v in
        record {
          values = h.values ++ v ∷ [];
          give = record {
            each = each-more (IsValid s) h.values v h.give.each g.stands.valid;
            given = map-append gives h.values (v ∷ [])
                ∙ ap (λ rs. rs ++ gives v ∷ []) h.give.given
                ∙ ap (λ r. map (λ y. Ok y) xs ++ r ∷ []) g.given
                ∙ sym (map-append (λ y. Ok y) xs (x ∷ []));
          };
          whole = h.whole
              ∙ ap (λ (w : List ℕ). encodings s h.values ++ w) g.stands.whole
              ∙ sym (append_assoc (encodings s h.values) (octets_of s v) (drop end octets))
              ∙ ap (λ (w : List ℕ). w ++ drop end octets) (sym joined);
          start_is = g.stands.end_is
              ∙ ap (λ (n : ℕ). n + length (octets_of s v)) h.start_is
              ∙ sym (length-append (encodings s h.values) (octets_of s v))
              ∙ ap length (sym joined);
        }
