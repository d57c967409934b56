-- Laws about the search for the first wrong line, line by line.
use Rattle.std.proofs.Common.{◌≡◌, ℕ, ◌+◌, ◌<◌, ◌≤◌, true, false, cond, List, [], ◌∷◌, ◌++◌, length, take, drop, drop_of_length-le, get_or, Some, None, ap, sym, ◌∙◌}
use Rattle.cert_desk_orders.specs.declared.line.Line.{Line}
use Rattle.cert_desk_orders.specs.OrderReading.{line_plain, lines_plain}
use Rattle.cert_desk_orders.specs.OrdersFile.{first_faulty, is_faulty}
use Rattle.cert_desk_orders.proofs.LineLists.{map-drop_here, map-take_here}

module _ (lines : List Line) (index : ℕ) (d : Line) (some : index < length lines) where
  -- The current line is wrong.
  pub first_faulty-here : is_faulty (lines_plain (take index lines)) (line_plain (get_or lines index d)) ≡ true
      → first_faulty (lines_plain (take index lines)) (lines_plain (drop index lines)) ≡ Some (get_or lines index d).number
  first_faulty-here e =
      ap (first_faulty (lines_plain (take index lines))) (map-drop_here line_plain lines index d some)
      ∙ ap (λ b. cond b (Some (get_or lines index d).number)
      (first_faulty (lines_plain (take index lines) ++ line_plain (get_or lines index d) ∷ []) (lines_plain (drop (index + 1) lines)))) e

  -- A later line is wrong.
  pub first_faulty-later : is_faulty (lines_plain (take index lines)) (line_plain (get_or lines index d)) ≡ false
      → first_faulty (lines_plain (take (index + 1) lines)) (lines_plain (drop (index + 1) lines))
      ≡ first_faulty (lines_plain (take index lines)) (lines_plain (drop index lines))
  first_faulty-later e =
      ap (λ before. first_faulty before (lines_plain (drop (index + 1) lines))) (map-take_here line_plain lines index d some)
      ∙ sym (ap (λ b. cond b (Some (get_or lines index d).number)
      (first_faulty (lines_plain (take index lines) ++ line_plain (get_or lines index d) ∷ []) (lines_plain (drop (index + 1) lines)))) e)
      ∙ sym (ap (first_faulty (lines_plain (take index lines))) (map-drop_here line_plain lines index d some))

-- No line is wrong.
pub first_faulty-none : (lines : List Line) (index : ℕ) → length lines ≤ index
    → None ≡ first_faulty (lines_plain (take index lines)) (lines_plain (drop index lines))
first_faulty-none lines index h = sym (ap (λ rest. first_faulty (lines_plain (take index lines)) (lines_plain rest)) (drop_of_length-le lines h))
