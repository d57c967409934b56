-- Laws about the limit that path lengths set, and about the certificates that count after each of
-- them.
use Rattle.std.proofs.Common.{◌≡◌, ℕ, zero, suc, ◌+◌, ◌-◌, ◌<◌, List, [], Bool, true, false, cond, not, ◌&&◌, ◌||◌, Option, Some, None, slice_get, refl, sym, ap, ◌∙◌, subst, arith}
use Rattle.std.specs.List.{list_all}
use Rattle.std.specs.Option.{is_some, option_map, option_map_or}
use Rattle.cert_desk_bundle.specs.CertCertificates.Certificates.{PlainCertificate, extensions_of}
use Rattle.cert_desk_rules.specs.declared.path_room.PathRoom.{PathRoom}
use Rattle.cert_desk_rules.specs.Findings.{IsRoom, add_place, allow, found, left_by, shorter}
use Rattle.cert_desk_rules.specs.Paths.{used_up, counts, extensions_at, is_within, is_within_lengths, keep_lengths, keeps_length}
use Rattle.cert_desk_rules.specs.Weighing.{path_length, weigh}
use Rattle.cert_desk_rules.proofs.Folds.{le_same, or_yes}
use Rattle.cert_desk_rules.proofs.FoundLaws.{found_length, within_shorter}

-- The certificates from an index on are the one at that index and those after it.
pub used_up_first : (bound : ℕ) (cs : List PlainCertificate) (from n : ℕ) → used_up bound cs from (suc n) ≡ cond (counts bound cs from) 1 0 + used_up bound cs (suc from) n
used_up_first bound cs from zero =
    let same : from + 0 ≡ from = omega arith in
    ap (λ m. 0 + cond (counts bound cs m) 1 0) same ∙ omega arith
used_up_first bound cs from (suc n) =
    let next : from + suc n ≡ suc from + n = omega arith in
    let before = used_up_first bound cs from n in
    ap (λ m. used_up bound cs from (suc n) + cond (counts bound cs m) 1 0) next ∙ omega (arith, before)

keep_lengths-is : (bound : ℕ) (cs : List PlainCertificate) (place other : ℕ) → place < suc other
    → keep_lengths bound cs place other ≡ allow bound cs place (used_up bound cs place (suc other - place))
keep_lengths-is bound cs zero other h = refl
keep_lengths-is bound cs (suc place) other h =
    let one : ℕ = cond (counts bound cs place) 1 0 in
    let behind : ℕ = used_up bound cs (suc place) (suc other - suc place) in
    let next : place + 1 ≡ suc place = omega arith in
    let many : other - place ≡ suc other - suc place = omega arith in
    let more : suc other - place ≡ suc (suc other - suc place) = omega (arith, h) in
    let same : used_up bound cs (place + 1) (other - place) ≡ behind = ap (λ m. used_up bound cs m (other - place)) next ∙ ap (used_up bound cs (suc place)) many in
    let all : used_up bound cs place (suc other - place) ≡ one + behind = ap (used_up bound cs place) more ∙ used_up_first bound cs place (suc other - suc place) in
    ap (λ b. b && keeps_length bound cs place other) (keep_lengths-is bound cs place other (omega (arith, h)) ∙ ap (allow bound cs place) all)
    ∙ ap (λ n. allow bound cs place (one + behind) && list_all (λ e. is_within n (path_length (weigh bound e))) (extensions_at cs place)) same

-- A certificate that doesn't count is within the path lengths, and one that counts is exactly if
-- the limit admits it.
pub within_room : (bound : ℕ) (cs : List PlainCertificate) (place : ℕ) (room : PathRoom) (b : Bool) → counts bound cs place ≡ b → IsRoom bound cs place room
    → is_within_lengths bound cs place ≡ (not b || is_within 2 room.below)
within_room bound cs place room false e h = ap (λ b. not b || keep_lengths bound cs place place) e
within_room bound cs place room true e h =
    let few : suc place - place ≡ suc zero = omega arith in
    let same : place + 0 ≡ place = omega arith in
    let one : used_up bound cs place (suc place - place) ≡ 1 =
    ap (used_up bound cs place) few ∙ ap (λ m. 0 + cond (counts bound cs m) 1 0) same ∙ ap (λ b. 0 + cond b 1 0) e in
    ap (λ b. not b || keep_lengths bound cs place place) e
    ∙ keep_lengths-is bound cs place place (omega arith)
    ∙ ap (allow bound cs place) one
    ∙ h 1

-- One more certificate.
within_left : (below : Option ℕ) (b : Bool) (n : ℕ) → is_within (suc (cond b 1 0 + n)) below ≡ is_within (suc n) (left_by below b)
within_left None b n = refl
within_left (Some most) false n = le_same (suc (0 + n)) most (suc n) (most - 0) (λ k. omega (arith, k)) (λ k. omega (arith, k))
within_left (Some most) true n = le_same (suc (1 + n)) most (suc n) (most - 1) (λ k. omega (arith, k)) (λ k. omega (arith, k))

-- The number n is within a path length exactly if n + 1 is below the limit.
within_next : (n : ℕ) (p : Option ℕ) → is_within (suc n) (option_map suc p) ≡ is_within n p
within_next n None = refl
within_next n (Some most) = le_same (suc n) (suc most) n most (λ k. omega (arith, k)) (λ k. omega (arith, k))

pub IsRoom-more : (bound : ℕ) (purpose : List ℕ) (cs : List PlainCertificate) (place : ℕ) (c : PlainCertificate) (room : PathRoom) (b : Bool) (p : Option ℕ) → slice_get cs place ≡ Some c
    → b ≡ counts bound cs place → IsRoom bound cs place room → p ≡ (found bound purpose (extensions_of c)).path_len
    → IsRoom bound cs (place + 1) (add_place room b p)
IsRoom-more bound purpose cs place c room b p is same h e =
    let next : suc place ≡ place + 1 = omega arith in
    let here : extensions_of c ≡ extensions_at cs place = ap (λ o. option_map_or extensions_of o []) (sym is) in
    subst (λ n. IsRoom bound cs n (add_place room b p)) next (λ n.
    let lengths : Bool = list_all (λ e. is_within n (path_length (weigh bound e))) (extensions_at cs place) in
    ap (λ c. allow bound cs place (cond c 1 0 + n) && lengths) (sym same)
    ∙ ap (λ c. c && lengths) (h (cond b 1 0 + n) ∙ within_left room.below b n)
    ∙ ap (λ c. is_within (suc n) (left_by room.below b) && c) (sym (
    within_next n p ∙ ap (is_within n) e ∙ found_length bound purpose (extensions_of c) n ∙ ap (list_all (λ e. is_within n (path_length (weigh bound e)))) here))
    ∙ sym (within_shorter (suc n) (left_by room.below b) (option_map suc p)))

-- If there is no limit, it doesn't matter whether a certificate counts.
pub admits_any : (below : Option ℕ) (b : Bool) → (not (is_some below && b) || is_within 2 below) ≡ (not b || is_within 2 below)
admits_any None b = or_yes (not b)
admits_any (Some most) b = refl

left_by_any : (below : Option ℕ) (b : Bool) → left_by below (is_some below && b) ≡ left_by below b
left_by_any None b = refl
left_by_any (Some most) b = refl

abbrev with_below : Option ℕ → PathRoom
with_below below = record { below = below }

pub add_place_any : (room : PathRoom) (b : Bool) (p : Option ℕ) → add_place room (is_some room.below && b) p ≡ add_place room b p
add_place_any room b p = ap (λ below. with_below (shorter below (option_map suc p))) (left_by_any room.below b)
