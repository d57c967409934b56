-- Lemmas about headers under BER and bodies of indefinite length (X.690 8.1.3.6, 8.1.5): encodings
-- decode to what they encode, and what was decoded is the encoding of the result.
use Rattle.std.proofs.lemmas.Bool.Decides.{nat_tests}
use Rattle.std.proofs.Common.{◌≡◌, ℕ, zero, suc, ◌+◌, ◌-◌, ◌<◌, ◌≤◌, Bool, true, cond, ltb, eqb, List, [], ◌∷◌, ◌++◌, length, take, drop, length-append, Option, Some, None, Result, Ok, Err, sym, refl, ap, subst, ◌∙◌, append_assoc, arith, ◌⊎◌, inl, inr, take-append-drop, append-nil, length-take, length-drop, drop_at, take_at, ◌&&◌}
use Rattle.std.proofs.lemmas.Bool.{le-ltb, ltb-false, ne_eqb, eqb-true, and_parts, cases_eq}
use Rattle.std.specs.List.{concat, AllByRecursion}
use Rattle.der_core_head.specs.declared.error.ErrorKind.{ErrorKind}
use Rattle.der_core_head.specs.declared.error.ErrorKind.TheVariants as kinds
use Rattle.der_core_head.specs.declared.tag.Tag.{Tag}
use Rattle.der_core_head.specs.Octets.{◌>>=◌}
use Rattle.der_core_head.specs.Tags.{tag_octets, universal_tag, tag_at}
use Rattle.der_core_head.specs.Heads.{Head, Fits, length_octets, length_at, head_at}
use Rattle.der_core_head.specs.Bodies.{SpellsTag, is_constructed_at, IsDefinite, IsIndefinite, IsIndefiniteBody, SpellsLength, SpellsHead, tag_ber_at, Mark, length_ber_at, mark_at, Piece, ending, opening, encoding, end_at, content_at, piece_at, levels_after, closed_at, body_len_at, len_at, head_ber_at}
use Rattle.der_core_head.proofs.Results.{ok_is, bind_ok, if_ok, unless_ok, either_ok, IsBytes, bytes_rest}
use Rattle.der_core_head.proofs.OneEncoding.{bytes_are, joined}
use Rattle.der_core_head.proofs.TagLaws.{tag_again, tag_sound}
use Rattle.der_core_head.proofs.HeadLaws.{length_at-none, length_at-indefinite, length_again, length_sound}
use Rattle.der_core_head.specs.Limits.{IsLength, length_max}

-- Tags

tag_at-in_parts : (w : List ℕ) → tag_at (0x24 ∷ w) ≡ Err kinds.TagUnknown
unfolding tag_at universal_tag
tag_at-in_parts w = refl

-- A tag that DER accepts is accepted under BER.
pub tag_ber_more : (w : List ℕ) (t : Tag) (r : List ℕ) → tag_at w ≡ Ok (t, r) → tag_ber_at w ≡ Ok (t, r)
unfolding tag_at tag_ber_at
tag_ber_more [] t r e = absurd cc
tag_ber_more (b ∷ w) t r e = grind (arith, nat_tests, tag_at-in_parts w)

tag_ber_again : (t : Tag) (o r : List ℕ) → SpellsTag t o → tag_ber_at (o ++ r) ≡ Ok (t, r)
unfolding tag_ber_at
tag_ber_again t o r (inl h) = rw h.1 (tag_ber_more (tag_octets t ++ r) t r (tag_again t r h.0))
tag_ber_again t o r (inr h) = rw (h.1, h.0) refl

tag_ber_sound : (w : List ℕ) (t : Tag) (r : List ℕ) → IsBytes w → tag_ber_at w ≡ Ok (t, r) → (o : List ℕ) × SpellsTag t o × (w ≡ o ++ r)
unfolding tag_ber_at
tag_ber_sound [] t r bytes e = absurd cc
tag_ber_sound (b ∷ w) t r bytes e =
    elim (cases_eq b 0x24) [
      | inl first ↦ (0x24 ∷ [], inr (grind (arith, nat_tests), refl), grind (arith, nat_tests))
      | inr other ↦
          let s = tag_sound (b ∷ w) t r bytes (grind (arith, nat_tests)) in
          (tag_octets t, inl (s.1, refl), s.0)
    ]

constructed-append : (t : Tag) (o r : List ℕ) → SpellsTag t o → is_constructed_at (o ++ r) ≡ is_constructed_at o
unfolding tag_octets
constructed-append t o r (inl h) = rw h.1 refl
constructed-append t o r (inr h) = rw h.1 refl

tag-some : (t : Tag) (o : List ℕ) → SpellsTag t o → 0 < length o
unfolding tag_octets
tag-some t o (inl h) = rw h.1 (omega arith)
tag-some t o (inr h) = rw h.1 (omega arith)

-- Tags and lengths

-- The bytes of a length after a tag, which may be indefinite.
abbrev Tells : Bool → Option ℕ → List ℕ → Type 0
Tells constructed None l = (constructed ≡ true) × (l ≡ 0x80 ∷ [])
Tells constructed (Some n) l = IsLength n × (l ≡ length_octets n)

length_ber_more : (c : Bool) (t : Tag) (w : List ℕ) (n : ℕ) (r : List ℕ) → length_at t w ≡ Ok (n, r) → length_ber_at c t w ≡ Ok (Some n, r)
length_ber_more c t [] n r e = absurd (cc (length_at-none t))
length_ber_more c t (b ∷ w) n r e = grind (arith, nat_tests, length_at-indefinite t w)

length_ber_again : (c : Bool) (t : Tag) (n : Option ℕ) (l r : List ℕ) → Tells c n l → length_ber_at c t (l ++ r) ≡ Ok (n, r)
length_ber_again c t None l r h = rw (h.1, h.0) refl
length_ber_again c t (Some n) l r h = rw h.1 (length_ber_more c t (length_octets n ++ r) n r (length_again t n r h.0))

length_ber_sound : (c : Bool) (t : Tag) (w : List ℕ) (n : Option ℕ) (r : List ℕ) → IsBytes w → length_ber_at c t w ≡ Ok (n, r)
    → (l : List ℕ) × Tells c n l × (w ≡ l ++ r)
length_ber_sound c t [] n r bytes e = absurd cc
length_ber_sound c t (b ∷ w) n r bytes e =
    let definite : Result (Option ℕ × List ℕ) ErrorKind = length_at t (b ∷ w) >>= λ n. Ok (Some n.0, n.1) in
    elim (either_ok (c && eqb b 0x80) (Ok (None, w)) definite (Ok (n, r)) e) [
      | inl h ↦
          let both = and_parts c (eqb b 0x80) h.0 in
          subst (λ (q : Option ℕ × List ℕ). (l : List ℕ) × Tells c q.0 l × (b ∷ w ≡ l ++ q.1)) (ok_is (None, w) (n, r) h.1)
          (0x80 ∷ [], (both.0, refl), ap (λ x. x ∷ w) (eqb-true b 0x80 both.1))
      | inr h ↦
          let x = bind_ok (length_at t (b ∷ w)) (λ n. Ok (Some n.0, n.1)) (n, r) h.1 in
          let s = length_sound t (b ∷ w) x.0.0 x.0.1 bytes x.1 in
          subst (λ (q : Option ℕ × List ℕ). (l : List ℕ) × Tells c q.0 l × (b ∷ w ≡ l ++ q.1)) (ok_is (Some x.0.0, x.0.1) (n, r) x.2)
          (length_octets x.0.0, (s.1, refl), s.0)
    ]

mark_again : (m : Mark) (o l r : List ℕ) → SpellsTag m.tag o → Tells (is_constructed_at o) m.len l → mark_at (o ++ (l ++ r)) ≡ Ok (m, r)
unfolding mark_at
mark_again m o l r tag tells =
    rw (
      tag_ber_again m.tag o (l ++ r) tag,
      constructed-append m.tag o (l ++ r) tag,
      length_ber_again (is_constructed_at o) m.tag m.len l r tells,
    ) refl

mark_sound : (w : List ℕ) (m : Mark) (r : List ℕ) → IsBytes w → mark_at w ≡ Ok (m, r)
    → (o l : List ℕ) × SpellsTag m.tag o × Tells (is_constructed_at o) m.len l × (w ≡ o ++ (l ++ r))
unfolding mark_at
mark_sound w m r bytes e =
    let c = is_constructed_at w in
    let t = bind_ok (tag_ber_at w) (λ t. length_ber_at c t.0 t.1 >>= λ n. Ok (record { tag = t.0; len = n.0 }, n.1)) (m, r) e in
    let n = bind_ok (length_ber_at c t.0.0 t.0.1) (λ n. Ok (record { tag = t.0.0; len = n.0 }, n.1)) (m, r) t.2 in
    let made : Mark × List ℕ = (record { tag = t.0.0; len = n.0.0 }, n.0.1) in
    let a = tag_ber_sound w t.0.0 t.0.1 bytes t.1 in
    let b = length_ber_sound c t.0.0 t.0.1 n.0.0 n.0.1 (bytes_rest a.0 t.0.1 w a.2 bytes) n.1 in
    let same : c ≡ is_constructed_at a.0 = ap is_constructed_at a.2 ∙ constructed-append t.0.0 a.0 t.0.1 a.1 in
    subst (λ (q : Mark × List ℕ). (o l : List ℕ) × SpellsTag q.0.tag o × Tells (is_constructed_at o) q.0.len l × (w ≡ o ++ (l ++ q.1))) (ok_is made (m, r) n.2)
    (a.0, b.0, a.1, subst (λ c. Tells c n.0.0 b.0) same b.1, a.2 ∙ ap (λ (x : List ℕ). a.0 ++ x) b.2)

-- Parts of a body

-- The bytes of a part.
abbrev Spells : Piece → List ℕ → Type 0
Spells ending x = x ≡ 0 ∷ 0 ∷ []
Spells opening x = (t : Tag) × (o : List ℕ) × SpellsTag t o × (is_constructed_at o ≡ true) × (x ≡ o ++ (0x80 ∷ []))
Spells encoding x = IsDefinite x

mark_at-zero : (w : List ℕ) → mark_at (0 ∷ w) ≡ Err kinds.TagUnknown
unfolding mark_at tag_ber_at tag_at universal_tag
mark_at-zero w = refl

mark_at-none : mark_at [] ≡ Err kinds.Incomplete
unfolding mark_at tag_ber_at
mark_at-none = refl

piece-mark : (w : List ℕ) (m : Mark) (r : List ℕ) → mark_at w ≡ Ok (m, r) → piece_at w ≡ content_at m.len r
unfolding piece_at
piece-mark [] m r e = absurd (cc mark_at-none)
piece-mark (b ∷ w) m r e = grind (arith, nat_tests, mark_at-zero w)

piece_again : (p : Piece) (x r : List ℕ) → Spells p x → piece_at (x ++ r) ≡ Ok (p, r)
unfolding piece_at
piece_again ending x r h = rw h refl
piece_again opening x r (t, o, tag, constructed, e) =
    let made : Mark = record { tag = t; len = None } in
    let regrouped : x ++ r ≡ o ++ ((0x80 ∷ []) ++ r) = ap (λ (u : List ℕ). u ++ r) e ∙ append_assoc o (0x80 ∷ []) r in
    ap piece_at regrouped ∙ piece-mark (o ++ ((0x80 ∷ []) ++ r)) made r (mark_again made o (0x80 ∷ []) r tag (constructed, refl))
piece_again encoding x r (t, o, c, tag, fits, e) =
    let l = length_octets (length c) in
    let made : Mark = record { tag = t; len = Some (length c) } in
    let regrouped : x ++ r ≡ o ++ (l ++ (c ++ r)) = ap (λ (u : List ℕ). u ++ r) e ∙ append_assoc o (l ++ c) r ∙ ap (λ (u : List ℕ). o ++ u) (append_assoc l c r) in
    let enough : length c ≤ length (c ++ r) = omega (arith, length-append c r) in
    ap piece_at regrouped ∙ piece-mark (o ++ (l ++ (c ++ r))) made (c ++ r) (mark_again made o l (c ++ r) tag (fits, refl))
    ∙ (rw (le-ltb (length (c ++ r)) (length c) enough, drop_at c r (length c) refl) refl)

-- The content after a header.
content_sound : (w : List ℕ) (t : Tag) (n : Option ℕ) (o l v : List ℕ) (p : Piece) (r : List ℕ) → SpellsTag t o → Tells (is_constructed_at o) n l → w ≡ o ++ (l ++ v)
    → content_at n v ≡ Ok (p, r) → (x : List ℕ) × Spells p x × (w ≡ x ++ r)
content_sound w t None o l v p r tag tells octets e =
    let parts : w ≡ (o ++ (0x80 ∷ [])) ++ v = octets ∙ ap (λ (u : List ℕ). o ++ (u ++ v)) tells.1 ∙ sym (append_assoc o (0x80 ∷ []) v) in
    subst (λ (q : Piece × List ℕ). (x : List ℕ) × Spells q.0 x × (w ≡ x ++ q.1)) (ok_is (opening, v) (p, r) e)
    (o ++ (0x80 ∷ []), (t, o, tag, tells.0, refl), parts)
content_sound w t (Some k) o l v p r tag tells octets e =
    let h = unless_ok (ltb (length v) k) kinds.Incomplete (Ok (encoding, drop k v)) (p, r) e in
    subst (λ (q : Piece × List ℕ). (x : List ℕ) × Spells q.0 x × (w ≡ x ++ q.1)) (ok_is (encoding, drop k v) (p, r) h.1)
    (cut (take k v) (drop k v) (omega (arith, ltb-false (length v) k h.0, length-take k v)) (sym (take-append-drop k v)))
  where
    cut : (c s : List ℕ) → length c ≡ k → v ≡ c ++ s → (x : List ℕ) × IsDefinite x × (w ≡ x ++ s)
    cut c s size e =
        let form : l ≡ length_octets (length c) = tells.1 ∙ ap length_octets (sym size) in
        let fits : Fits c = omega (arith, tells.0) in
        let x = o ++ (length_octets (length c) ++ c) in
        let parts : w ≡ x ++ s = octets ∙ (rw (form, e) (simp append_assoc)) in
        (x, (t, o, c, tag, fits, refl), parts)

-- A decoded part is the encoding of the result, followed by the remaining bytes.
piece_sound : (w : List ℕ) (p : Piece) (r : List ℕ) → IsBytes w → piece_at w ≡ Ok (p, r) → (x : List ℕ) × Spells p x × (w ≡ x ++ r)
unfolding piece_at
piece_sound [] p r bytes e = absurd cc
piece_sound (b ∷ w) p r bytes e =
    let marked = mark_at (b ∷ w) >>= λ m. content_at m.0.len m.1 in
    elim (either_ok (eqb b 0) (end_at w) marked (Ok (p, r)) e) [
      | inl h ↦ closing w (eqb-true b 0 h.0) h.1
      | inr h ↦
          let m = bind_ok (mark_at (b ∷ w)) (λ m. content_at m.0.len m.1) (p, r) h.1 in
          let s = mark_sound (b ∷ w) m.0.0 m.0.1 bytes m.1 in
          content_sound (b ∷ w) m.0.0.tag m.0.0.len s.0 s.1 m.0.1 p r s.2 s.3 s.4 m.2
    ]
  where
    closing : (w : List ℕ) → b ≡ 0 → end_at w ≡ Ok (p, r) → (x : List ℕ) × Spells p x × (b ∷ w ≡ x ++ r)
    closing [] first e = absurd cc
    closing (d ∷ w) first e =
        let h = if_ok (eqb d 0) kinds.TagUnknown (Ok (ending, w)) (p, r) e in
        let second : d ≡ 0 = eqb-true d 0 h.0 in
        subst (λ (q : Piece × List ℕ). (x : List ℕ) × Spells q.0 x × (b ∷ d ∷ w ≡ x ++ q.1)) (ok_is (ending, w) (p, r) h.1)
        (0 ∷ 0 ∷ [], refl, (rw (first, second) refl))

piece-some : (p : Piece) (x : List ℕ) → Spells p x → 0 < length x
piece-some ending x h = rw h (omega arith)
piece-some opening x (t, o, tag, constructed, e) = rw e (omega (arith, tag-some t o tag, length-append o (0x80 ∷ [])))
piece-some encoding x (t, o, c, tag, fits, e) = rw e (omega (arith, tag-some t o tag, length-append o (length_octets (length c) ++ c)))

pub piece_shorter : (w : List ℕ) (p : Piece) (r : List ℕ) → IsBytes w → piece_at w ≡ Ok (p, r) → length r < length w
piece_shorter w p r bytes e =
    let s = piece_sound w p r bytes e in
    omega (arith, piece-some p s.0 s.1, ap length s.2, length-append s.0 r)

-- Levels

-- The end of all levels, from the first part of the bytes.
pub closed-step : (pieces levels room : ℕ) (w : List ℕ) → length w ≤ pieces
    → closed_at pieces (suc levels) room w ≡ (piece_at w >>= λ p. levels_after p.0 (suc levels) room >>= λ l. closed_at (pieces - 1) l.0 l.1 p.1)
unfolding closed_at piece_at
closed-step zero levels room [] h = refl
closed-step zero levels room (b ∷ w) h = absurd (omega arith)
closed-step (suc pieces) levels room w h = let e : suc pieces - 1 ≡ pieces = omega arith in rw e refl

-- Decoding goes from the first state to the second.
record Reaches (pieces levels room : ℕ) (w : List ℕ) (levels' room' : ℕ) (r : List ℕ) : Type 0 where
  pub left : ℕ
  pub enough : length r ≤ left
  pub same : closed_at pieces levels room w ≡ closed_at left levels' room' r

then : (pieces levels room : ℕ) (w : List ℕ) (levels' room' : ℕ) (v : List ℕ) (levels'' room'' : ℕ) (r : List ℕ) → (a : Reaches pieces levels room w levels' room' v)
    → Reaches a.left levels' room' v levels'' room'' r → Reaches pieces levels room w levels'' room'' r
then pieces levels room w levels' room' v levels'' room'' r a b = record { left = b.left; enough = b.enough; same = a.same ∙ b.same }

-- Decoding goes on after a part.
past_piece : (p : Piece) (x r : List ℕ) (pieces levels room levels' room' : ℕ) → Spells p x → length (x ++ r) ≤ pieces → levels_after p (suc levels) room ≡ Ok (levels', room')
    → Reaches pieces (suc levels) room (x ++ r) levels' room' r
past_piece p x r pieces levels room levels' room' h enough after = record {
  left = pieces - 1;
  enough = omega (arith, piece-some p x h, length-append x r);
  same = closed-step pieces levels room (x ++ r) enough ∙ (rw (piece_again p x r h, after) refl);
}

-- The decoder accepts bodies

abbrev IsItem : ℕ → List ℕ → Type 0
IsItem k i = IsDefinite i ⊎ IsIndefinite (IsIndefiniteBody k) i

-- A body is decoded to its end, which closes the level that it opened.
abbrev IsRead : ℕ → ℕ → List ℕ → Type 0
IsRead room after c = (levels pieces : ℕ) (r : List ℕ) → length (c ++ r) ≤ pieces → Reaches pieces (suc levels) room (c ++ r) levels after r

-- Items are decoded if the bodies inside them are.
items_read : (k : ℕ) → ((c : List ℕ) → IsIndefiniteBody k c → (0 < k) × IsRead (k - 1) k c) → (items : List (List ℕ)) → AllByRecursion (IsItem k) items
    → IsRead k (k + 1) (concat items ++ (0 ∷ 0 ∷ []))
items_read k inner [] all levels pieces r enough =
    let e : suc levels - 1 ≡ levels = omega arith in
    past_piece ending (0 ∷ 0 ∷ []) r pieces levels k levels (k + 1) refl enough (rw e refl)
items_read k inner (i ∷ is) all levels pieces r enough =
    let rest = (concat is ++ (0 ∷ 0 ∷ [])) ++ r in
    let regrouped : ((i ++ concat is) ++ (0 ∷ 0 ∷ [])) ++ r ≡ i ++ rest = simp append_assoc in
    let fits : length (i ++ rest) ≤ pieces = omega (arith, ap length regrouped) in
    subst (λ (w : List ℕ). Reaches pieces (suc levels) k w levels (k + 1) r) (sym regrouped) (item all.0 rest fits (λ pieces h. items_read k inner is all.1 levels pieces r h))
  where
    item : IsItem k i → (rest : List ℕ) → length (i ++ rest) ≤ pieces → ((pieces : ℕ) → length rest ≤ pieces → Reaches pieces (suc levels) k rest levels (k + 1) r)
        → Reaches pieces (suc levels) k (i ++ rest) levels (k + 1) r
    item (inl definite) rest fits next =
        let a = past_piece encoding i rest pieces levels k (suc levels) k definite fits refl in
        then pieces (suc levels) k (i ++ rest) (suc levels) k rest levels (k + 1) r a (next a.left a.enough)
    item (inr (t, o, c, tag, constructed, body, e)) rest fits next =
        let x = o ++ (0x80 ∷ []) in
        let deep = inner c body in
        let some : 0 < k = deep.0 in
        let more : suc levels + 1 ≡ suc (suc levels) = omega arith in
        let opens : levels_after opening (suc levels) k ≡ Ok (suc (suc levels), k - 1) = rw (ne_eqb k 0 (λ z. omega arith), more) refl in
        let regrouped : i ++ rest ≡ x ++ (c ++ rest) = ap (λ (u : List ℕ). u ++ rest) e ∙ append_assoc o (0x80 ∷ c) rest ∙ sym (append_assoc o (0x80 ∷ []) (c ++ rest)) in
        let enough : length (x ++ (c ++ rest)) ≤ pieces = omega (arith, ap length regrouped) in
        let a = past_piece opening x (c ++ rest) pieces levels k (suc (suc levels)) (k - 1) (t, o, tag, constructed, refl) enough opens in
        let b = deep.1 (suc levels) a.left rest a.enough in
        let d = next b.left b.enough in
        subst (λ (w : List ℕ). Reaches pieces (suc levels) k w levels (k + 1) r) (sym regrouped)
        (then pieces (suc levels) k (x ++ (c ++ rest)) (suc (suc levels)) (k - 1) (c ++ rest) levels (k + 1) r a
        (then a.left (suc (suc levels)) (k - 1) (c ++ rest) (suc levels) k rest levels (k + 1) r b d))

body_read : (k : ℕ) (c : List ℕ) → IsIndefiniteBody k c → (0 < k) × IsRead (k - 1) k c
unfolding IsIndefiniteBody
body_read zero c h = absurd h
body_read (suc k) c (items, all, e) =
    let before : suc k - 1 ≡ k = omega arith in
    let after : k + 1 ≡ suc k = omega arith in
    (omega arith, (rw before (subst (λ (w : List ℕ). IsRead k (suc k) w) (sym e) (subst (λ n. IsRead k n (concat items ++ (0 ∷ 0 ∷ []))) after (items_read k (body_read k) items all)))))

-- The decoder accepts only bodies

-- Bytes that end this many levels, the innermost of which may open this many more.
abbrev Ends : ℕ → ℕ → List ℕ → Type 0
Ends zero room b = b ≡ []
Ends (suc levels) room b = (c d : List ℕ) × IsIndefiniteBody (suc room) c × Ends levels (suc room) d × (b ≡ c ++ d)

nothing_more : (k : ℕ) → IsIndefiniteBody (suc k) (0 ∷ 0 ∷ [])
unfolding IsIndefiniteBody
nothing_more k = ([], tt, refl)

item_before : (k : ℕ) (i c : List ℕ) → IsItem k i → IsIndefiniteBody (suc k) c → IsIndefiniteBody (suc k) (i ++ c)
unfolding IsIndefiniteBody
item_before k i c item (items, all, e) = (i ∷ items, (item, all), ap (λ (u : List ℕ). i ++ u) e ∙ sym (append_assoc i (concat items) (0 ∷ 0 ∷ [])))

-- The header of a level, before bytes that end it.
opened_before : (levels room : ℕ) (t : Tag) (o b : List ℕ) → SpellsTag t o → is_constructed_at o ≡ true → Ends (suc (suc levels)) room b
    → Ends (suc levels) (suc room) ((o ++ (0x80 ∷ [])) ++ b)
opened_before levels room t o b tag constructed (c, d, inner, (c', d', outer, ends, e'), e) =
    let i = o ++ (0x80 ∷ c) in
    let octets : (o ++ (0x80 ∷ [])) ++ b ≡ (i ++ c') ++ d' = rw (e, e') (simp append_assoc) in
    (i ++ c', d', item_before (suc room) i c' (inr (t, o, c, tag, constructed, inner, refl)) outer, ends, octets)

piece_before : (p : Piece) (x : List ℕ) (levels room : ℕ) (l : ℕ × ℕ) (b : List ℕ) → Spells p x → levels_after p (suc levels) room ≡ Ok l
    → Ends l.0 l.1 b → Ends (suc levels) room (x ++ b)
piece_before ending x levels room l b h after ends =
    let fewer : suc levels - 1 ≡ levels = omega arith in
    let more : room + 1 ≡ suc room = omega arith in
    let same : l ≡ (levels, suc room) = sym (ok_is (suc levels - 1, room + 1) l after) ∙ (rw (fewer, more) refl) in
    (x, b, subst (IsIndefiniteBody (suc room)) (sym h) (nothing_more room), subst (λ (q : ℕ × ℕ). Ends q.0 q.1 b) same ends, refl)
piece_before encoding x levels room l b h after ends = more (subst (λ (q : ℕ × ℕ). Ends q.0 q.1 b) (sym (ok_is (suc levels, room) l after)) ends)
  where
    more : Ends (suc levels) room b → Ends (suc levels) room (x ++ b)
    more (c, d, body, ends, e) = (x ++ c, d, item_before room x c (inl h) body, ends, (rw e (simp append_assoc)))
piece_before opening x levels zero l b h after ends = absurd cc
piece_before opening x levels (suc room) l b (t, o, tag, constructed, e) after ends =
    let more : suc levels + 1 ≡ suc (suc levels) = omega arith in
    let fewer : suc room - 1 ≡ room = omega arith in
    let after' = unless_ok (eqb (suc room) 0) kinds.NestingDepth (Ok (suc levels + 1, suc room - 1)) l after in
    let same : l ≡ (suc (suc levels), room) = sym (ok_is (suc levels + 1, suc room - 1) l after'.1) ∙ (rw (more, fewer) refl) in
    subst (λ (u : List ℕ). Ends (suc levels) (suc room) (u ++ b)) (sym e)
    (opened_before levels room t o b tag constructed (subst (λ (q : ℕ × ℕ). Ends q.0 q.1 b) same ends))

closed_sound : (pieces levels room : ℕ) (w r : List ℕ) → IsBytes w → closed_at pieces levels room w ≡ Ok r → (b : List ℕ) × Ends levels room b × (w ≡ b ++ r)
unfolding closed_at
closed_sound pieces zero room w r bytes e = ([], refl, ok_is w r e)
closed_sound zero (suc levels) room w r bytes e = absurd cc
closed_sound (suc pieces) (suc levels) room w r bytes e =
    let p = bind_ok (piece_at w) (λ p. levels_after p.0 (suc levels) room >>= λ l. closed_at pieces l.0 l.1 p.1) r e in
    let l = bind_ok (levels_after p.0.0 (suc levels) room) (λ l. closed_at pieces l.0 l.1 p.0.1) r p.2 in
    let x = piece_sound w p.0.0 p.0.1 bytes p.1 in
    let b = closed_sound pieces l.0.0 l.0.1 p.0.1 r (bytes_rest x.0 p.0.1 w x.2 bytes) l.2 in
    (x.0 ++ b.0, piece_before p.0.0 x.0 levels room l.0 b.0 x.1 l.1 b.1, joined x.0 b.0 r p.0.1 w x.2 b.2)

-- Whole bodies

-- The length of a body with at most 64 levels is found, whatever follows it.
pub body_len_again : (b r : List ℕ) → IsIndefiniteBody 64 b → Fits b → body_len_at (b ++ r) ≡ Ok (length b)
unfolding body_len_at closed_at
body_len_again b r body fits =
    let w = b ++ r in
    let read = (body_read 64 b body).1 0 (length w) r (omega arith) in
    let count : length w - length r ≡ length b = omega (arith, length-append b r) in
    rw (read.same, count, le-ltb length_max (length b) (omega arith)) refl

pub body_len_sound : (w : List ℕ) (n : ℕ) → IsBytes w → body_len_at w ≡ Ok n
    → (b r : List ℕ) × IsIndefiniteBody 64 b × Fits b × (n ≡ length b) × (w ≡ b ++ r)
unfolding body_len_at
body_len_sound w n bytes e =
    let r = bind_ok (closed_at (length w) 1 63 w) (λ r. cond (ltb length_max (length w - length r)) (Err kinds.Overflow) (Ok (length w - length r))) n e in
    let s = closed_sound (length w) 1 63 w r.0 bytes r.1 in
    let c = s.1.0 in
    let none : s.0 ≡ c = s.1.4 ∙ ap (λ (u : List ℕ). c ++ u) s.1.3 ∙ append-nil c in
    let parts : w ≡ c ++ r.0 = s.2 ∙ ap (λ (u : List ℕ). u ++ r.0) none in
    let count : length w - length r.0 ≡ length c = omega (arith, ap length parts, length-append c r.0) in
    let told : (n ≡ length c) × Fits c = grind (arith, nat_tests, r.2) in
    (c, r.0, s.1.2, told.1, told.0, parts)

-- A body ends with two end-of-contents bytes.
pub body-ge : (k : ℕ) (b : List ℕ) → IsIndefiniteBody k b → 2 ≤ length b
unfolding IsIndefiniteBody
body-ge zero b h = absurd h
body-ge (suc k) b (items, all, e) = omega (arith, ap length e, length-append (concat items) (0 ∷ 0 ∷ []))

pub body_len-ge : (w : List ℕ) (n : ℕ) → IsBytes w → body_len_at w ≡ Ok n → (2 ≤ n) × (n ≤ length w)
body_len-ge w n bytes e =
    let s = body_len_sound w n bytes e in
    (omega (arith, body-ge 64 s.0 s.2), omega (arith, ap length s.5, length-append s.0 s.1))

pub body_len-body : (w : List ℕ) (n : ℕ) → IsBytes w → body_len_at w ≡ Ok n → IsIndefiniteBody 64 (take n w)
body_len-body w n bytes e =
    let s = body_len_sound w n bytes e in
    let front : take n w ≡ s.0 = ap (take n) s.5 ∙ take_at s.0 s.1 n (sym s.4) in
    subst (IsIndefiniteBody 64) (sym front) s.2

-- The length of a body doesn't depend on the bytes after it.
pub body_len_alone : (w : List ℕ) (n : ℕ) (more : List ℕ) → IsBytes w → body_len_at w ≡ Ok n → body_len_at (take n w ++ more) ≡ Ok n
body_len_alone w n more bytes e =
    let s = body_len_sound w n bytes e in
    let front : take n w ≡ s.0 = ap (take n) s.5 ∙ take_at s.0 s.1 n (sym s.4) in
    ap (λ (u : List ℕ). body_len_at (u ++ more)) front ∙ body_len_again s.0 more s.2 s.3 ∙ ap (λ k. Ok k) (sym s.4)

-- Headers

-- The encoding of a header decodes to it, whatever follows it.
pub head_ber_again : (h : Head) (r w : List ℕ) → SpellsHead h r w → head_ber_at w ≡ Ok (h, r)
unfolding head_ber_at
head_ber_again h r w (o, l, tag, inl length, e) =
    let made : Mark = record { tag = h.tag; len = Some h.len } in
    let m : mark_at w ≡ Ok (made, r) = ap mark_at e ∙ mark_again made o l r tag length in
    rw m refl
head_ber_again h r w (o, l, tag, inr (constructed, form, b, more, body, fits, count, rest), e) =
    let made : Mark = record { tag = h.tag; len = None } in
    let m : mark_at w ≡ Ok (made, r) = ap mark_at e ∙ mark_again made o l r tag (constructed, form) in
    let n : body_len_at r ≡ Ok h.len = ap body_len_at rest ∙ body_len_again b more body fits ∙ ap (λ k. Ok k) (sym count) in
    rw (m, n) refl

-- A header that DER accepts is accepted under BER.
pub head_ber_more : (w : List ℕ) (h : Head) (r : List ℕ) → head_at w ≡ Ok (h, r) → head_ber_at w ≡ Ok (h, r)
unfolding head_at mark_at head_ber_at
head_ber_more w h r e =
    let t = bind_ok (tag_at w) (λ t. length_at t.0 t.1 >>= λ n. Ok (record { tag = t.0; len = n.0 }, n.1)) (h, r) e in
    let n = bind_ok (length_at t.0.0 t.0.1) (λ n. Ok (record { tag = t.0.0; len = n.0 }, n.1)) (h, r) t.2 in
    rw (tag_ber_more w t.0.0 t.0.1 t.1, length_ber_more (is_constructed_at w) t.0.0 t.0.1 n.0.0 n.0.1 n.1) n.2

-- A decoded header is the encoding of the result, followed by the remaining bytes.
pub head_ber_sound : (w : List ℕ) (h : Head) (r : List ℕ) → IsBytes w → head_ber_at w ≡ Ok (h, r) → SpellsHead h r w
unfolding head_ber_at
head_ber_sound w h r bytes e =
    let m = bind_ok (mark_at w) (λ m. len_at m.0.len m.1 >>= λ n. Ok (record { tag = m.0.tag; len = n }, m.1)) (h, r) e in
    let n = bind_ok (len_at m.0.0.len m.0.1) (λ n. Ok (record { tag = m.0.0.tag; len = n }, m.0.1)) (h, r) m.2 in
    let made : Head × List ℕ = (record { tag = m.0.0.tag; len = n.0 }, m.0.1) in
    let s = mark_sound w m.0.0 m.0.1 bytes m.1 in
    let o = s.0 in
    let l = s.1 in
    let behind : IsBytes m.0.1 = bytes_rest l m.0.1 (l ++ m.0.1) refl (bytes_rest o (l ++ m.0.1) w s.4 bytes) in
    subst (λ (q : Head × List ℕ). SpellsHead q.0 q.1 w) (ok_is made (h, r) n.2)
    (o, l, s.2, told m.0.0.len o l m.0.1 n.0 behind s.3 n.1, s.4)
  where
    told : (k : Option ℕ) (o l r : List ℕ) (n : ℕ) → IsBytes r → Tells (is_constructed_at o) k l → len_at k r ≡ Ok n → SpellsLength o n l r
    told None o l r n bytes tells e = let s = body_len_sound r n bytes e in inr (tells.0, tells.1, s.0, s.1, s.2, s.3, s.4, s.5)
    told (Some k) o l r n bytes tells e = let same = ok_is k n e in subst (λ n. SpellsLength o n l r) same (inl tells)

-- Bytes after the body don't change the length.
length-more : (o l r : List ℕ) (n : ℕ) (more : List ℕ) → SpellsLength o n l r → SpellsLength o n l (take n r ++ more)
length-more o l r n more (inl definite) = inl definite
length-more o l r n more (inr (constructed, form, b, rest, body, fits, number, e)) =
    let front : take n r ≡ b = ap (take n) e ∙ take_at b rest n (sym number) in
    inr (constructed, form, b, more, body, fits, number, ap (λ (u : List ℕ). u ++ more) front)

pub head_ber_alone : (w : List ℕ) (h : Head) (n : ℕ) (more : List ℕ) → IsBytes w → n ≤ length w → head_ber_at w ≡ Ok (h, drop n w)
    → head_ber_at (take n w ++ (take h.len (drop n w) ++ more)) ≡ Ok (h, take h.len (drop n w) ++ more)
head_ber_alone w h n more bytes le e = go (head_ber_sound w h (drop n w) bytes e)
  where
    go : SpellsHead h (drop n w) w → head_ber_at (take n w ++ (take h.len (drop n w) ++ more)) ≡ Ok (h, take h.len (drop n w) ++ more)
    go (o, l, tag, spelled, octets) =
        let r = drop n w in
        let s = take h.len r ++ more in
        let parts : w ≡ (o ++ l) ++ r = octets ∙ sym (append_assoc o l r) in
        let count : n ≡ length (o ++ l) = omega (arith, ap length parts, length-append (o ++ l) r, length-drop n w) in
        let front : take n w ≡ o ++ l = ap (take n) parts ∙ take_at (o ++ l) r n (sym count) in
        head_ber_again h s (take n w ++ s) (o, l, tag, length-more o l r h.len more spelled, ap (λ (u : List ℕ). u ++ s) front ∙ append_assoc o l s)

pub ruleset body_ends = (bytes_are, body-ge, body_len_again, head_ber_alone)
