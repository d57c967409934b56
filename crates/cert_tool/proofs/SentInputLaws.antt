-- The inputs of a request, one pair of frames after the other.
use Rattle.std.proofs.Common.{◌≡◌, ℕ, ◌<◌, ◌^◌, List, ◌++◌, length, take, drop, take_at, Bool, true, false, refl, sym, ap, subst, ◌∙◌}
use Rattle.std.proofs.lemmas.Bool.{false≢true}
use Rattle.std.proofs.lemmas.List.{append_cancel_left}
use Rattle.std.specs.Bool.{Decides}
use Rattle.cert_tool_explain.specs.DeskIo.Frames.{frame, number_octets}
use Rattle.cert_tool_explain.proofs.DeskIo.FrameLaws.{same_number}
use Rattle.cert_tool.specs.SentInputs.{IsInputOf, here, after}

-- Frames at the beginning of the same bytes have the same content.
pub same_content : (a b x y : List ℕ) → length a < 2 ^ 32 → length b < 2 ^ 32 → frame a ++ x ≡ frame b ++ y → a ≡ b
same_content a b x y small_a small_b whole =
    let number : number_octets (length a) ≡ number_octets (length b) = ap (take 4) whole in
    let len : length a ≡ length b = same_number (length a) (length b) small_a small_b number in
    let left : a ++ x ≡ b ++ y = ap (drop 4) whole in
    sym (take_at a x (length a) refl) ∙ ap (take (length a)) left ∙ take_at b y (length a) (sym len)

-- The bytes after these frames are the same.
same_rest : (a b x y : List ℕ) → length a < 2 ^ 32 → length b < 2 ^ 32 → frame a ++ x ≡ frame b ++ y → x ≡ y
same_rest a b x y small_a small_b whole =
    let same : a ≡ b = same_content a b x y small_a small_b whole in
    append_cancel_left a x y (ap (drop 4) whole ∙ ap (λ (z : List ℕ). z ++ y) (sym same))

-- Bytes that don't begin with a frame contain no input.
pub none_whole : (name octets parts : List ℕ) → ((content rest : List ℕ) → length content < 2 ^ 32 → parts ≡ frame content ++ rest → ⊥) → IsInputOf name octets parts → ⊥
none_whole name octets parts bare (here _ rest short small is) = bare name (frame octets ++ rest) short is
none_whole name octets parts bare (after _ other more rest differs short small is sent) = bare other (frame more ++ rest) short is

-- Bytes without a second frame contain no input.
pub none_after : (name octets parts this left : List ℕ) → parts ≡ frame this ++ left → length this < 2 ^ 32 → ((content rest : List ℕ) → length content < 2 ^ 32 → left ≡ frame content ++ rest → ⊥) → IsInputOf name octets parts → ⊥
none_after name octets parts this left first short bare (here _ rest named small is) =
    bare octets rest small (same_rest this name left (frame octets ++ rest) short named (sym first ∙ is))
none_after name octets parts this left first short bare (after _ other more rest differs named small is sent) =
    bare more rest small (same_rest this other left (frame more ++ rest) short named (sym first ∙ is))

-- The first pair has the name.
pub found : (name parts this rest octets others : List ℕ) (same : Bool) → parts ≡ frame this ++ rest → length this < 2 ^ 32 → rest ≡ frame octets ++ others → length octets < 2 ^ 32 → Decides same (this ≡ name) → same ≡ true → IsInputOf name octets parts
found name parts this rest octets others same first short second small decides is =
    let e : this ≡ name = decides.0 is in
    here parts others (subst (λ (x : List ℕ). length x < 2 ^ 32) e short) small
    (subst (λ (x : List ℕ). parts ≡ frame x ++ (frame octets ++ others)) e (first ∙ ap (λ (x : List ℕ). frame this ++ x) second))

module _ (name parts this rest more others : List ℕ) (same : Bool) (first : parts ≡ frame this ++ rest) (short : length this < 2 ^ 32) (second : rest ≡ frame more ++ others) (small : length more < 2 ^ 32)
    (decides : Decides same (this ≡ name)) (is : same ≡ false) where
  differs : this ≡ name → ⊥
  differs e = false≢true (sym is ∙ decides.1 e)

  -- The first pair has another name, so an input of the remaining frames is one of all.
  pub passed : (octets : List ℕ) → IsInputOf name octets others → IsInputOf name octets parts
  passed octets sent = after parts this more others differs short small (first ∙ ap (λ (x : List ℕ). frame this ++ x) second) sent

  -- The first pair has another name, so an input of all frames is one of the remaining ones.
  pub left_after : (octets : List ℕ) → IsInputOf name octets parts → IsInputOf name octets others
  left_after octets (here _ behind_it named fits begins) =
      absurd (differs (same_content this name rest (frame octets ++ behind_it) short named (sym first ∙ begins)))
  left_after octets (after _ other between behind_it others_differ named fits begins sent) =
      let left : rest ≡ frame between ++ behind_it = same_rest this other rest (frame between ++ behind_it) short named (sym first ∙ begins) in
      subst (λ (x : List ℕ). IsInputOf name octets x) (sym (same_rest more between others behind_it small fits (sym second ∙ left))) sent
