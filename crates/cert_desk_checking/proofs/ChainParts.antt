-- Prefixes and suffixes of trusted chains are trusted.
use Rattle.std.proofs.Common.{◌≡◌, ℕ, zero, suc, ◌+◌, ◌<◌, ◌^◌, List, [], ◌∷◌, ◌++◌, length, true, false, ◌&&◌, ◌||◌, Some, slice_get, refl, sym, ap, ◌∙◌, subst, arith, length-append}
use Rattle.std.specs.List.{list_any}
use Rattle.std.specs.Option.{option_map_or}
use Rattle.x509_cert_anchors.proofs.Der.BoundLaws.{back_all, front_all}
use Rattle.x509_cert_anchors.specs.CertCertificates.Certificates.{PlainCertificate, certificate_octets, issuer}
use Rattle.x509_cert_anchors.specs.CertCertificates.Certificates.{outer_algorithm, public_key, raw_certificate}
use Rattle.x509_cert_anchors.specs.CertCertificates.Certificates.{signature_bits, subject}
use Rattle.cert_desk_rules.specs.declared.rule.Rule.{Rule}
use Rattle.cert_desk_rules.specs.declared.rule.Rule.TheVariants as rules
use Rattle.cert_desk_rules.specs.DeskBundle.Chains.{Chain, Stands, joined}
use Rattle.cert_desk_checking.specs.Issuers.{among, as_anchor}
use Rattle.cert_desk_rules.specs.Judging.{Terms, is_named, keeps, keeps_at, signed_part}
use Rattle.cert_desk_rules.specs.Paths.{same_name}
use Rattle.cert_desk_rules.specs.Verdicts.{Trusted}
use Rattle.cert_desk_rules.proofs.Asking.{says_yes}
use Rattle.cert_desk_rules.proofs.DeskBundle.OneChain.{one_chain}
use Rattle.cert_desk_rules.proofs.DeskBundle.SeriesLaws.{encodings-append}
use Rattle.cert_desk_checking.proofs.Windows.{Window, same_signed, trusted_window}

slice_get-front : {A : Type 0} (xs ys : List A) (n : ℕ) → n < length xs → slice_get xs n ≡ slice_get (xs ++ ys) n
slice_get-front [] ys n h = absurd (omega arith)
slice_get-front (x ∷ xs) ys zero h = refl
slice_get-front (x ∷ xs) ys (suc n) h = slice_get-front xs ys n (omega arith)

slice_get-back : {A : Type 0} (xs ys : List A) (n m : ℕ) → m ≡ length xs + n → slice_get ys n ≡ slice_get (xs ++ ys) m
slice_get-back [] ys n m e = let same : n ≡ m = omega arith in ap (slice_get ys) same
slice_get-back (x ∷ xs) ys n zero e = absurd (omega arith)
slice_get-back (x ∷ xs) ys n (suc m) e = slice_get-back xs ys n m (omega arith)

-- The certificates of a trusted input keep every rule.
kept_of : (t : Terms) (limit : ℕ) (stream : List ℕ) (ds : List PlainCertificate) → Chain t.bound limit ds stream → Trusted t limit stream
    → (place : ℕ) (rule : Rule) → place < length ds → keeps_at rule t ds (joined t.bound ds) place ≡ true
kept_of t limit stream ds chain trusted place rule lt =
    let same : trusted.certificates ≡ ds = one_chain t.bound limit trusted.certificates ds stream trusted.chain chain in
    let there : place < length trusted.certificates = subst (λ (xs : List PlainCertificate). place < length xs) (sym same) lt in
    sym (ap (λ (xs : List PlainCertificate). keeps_at rule t xs stream place) same ∙ ap (λ (s : List ℕ). keeps_at rule t ds s place) chain.joins) ∙ trusted.kept place rule there

joined-length : (bound : ℕ) (xs ys : List PlainCertificate) → length (joined bound (xs ++ ys)) ≡ length (joined bound xs) + length (joined bound ys)
joined-length bound xs ys = ap length (encodings-append (raw_certificate bound) xs ys) ∙ length-append (joined bound xs) (joined bound ys)

pub trusted_front : (t : Terms) (limit : ℕ) (stream : List ℕ) (cs more : List PlainCertificate)
    → Chain t.bound limit (cs ++ more) stream → 0 < length cs → Trusted t limit stream → Trusted t limit (joined t.bound cs)
trusted_front t limit stream cs more chain some trusted =
    let ds = cs ++ more in
    let w : Window ds cs 0 = record { at = λ p lt. let same : p ≡ 0 + p = omega arith in slice_get-front cs more p lt ∙ ap (slice_get ds) same; long = omega (arith, length-append cs more) } in
    let whole : length (joined t.bound ds) < 2 ^ 64 = subst (λ (s : List ℕ). length s < 2 ^ 64) chain.joins chain.fits in
    trusted_window t t.anchors ds cs 0 w limit (front_all (Stands t.bound limit) cs more chain.each) (omega (arith, whole, joined-length t.bound cs more)) some
    (kept_of t limit stream ds chain trusted)
    (λ c is kept. (
      kept rules.WrongIssuer,
      ap (λ (s : List ℕ). list_any (λ a. is_named t.bound c a && t.answers a.key (outer_algorithm c) s (signature_bits c)) t.anchors)
          (same_signed t t.anchors ds cs 0 w 0 c is (sym (w.at 0 some) ∙ is))
          ∙ kept rules.WrongSignature,
    ))

pub trusted_rest : (t : Terms) (limit : ℕ) (stream : List ℕ) (before cs : List PlainCertificate) (c : PlainCertificate)
    → Chain t.bound limit (before ++ c ∷ cs) stream → 0 < length cs → Trusted t limit stream → Trusted (among t (as_anchor c ∷ [])) limit (joined t.bound cs)
trusted_rest t limit stream before cs b chain some trusted =
    let ds = before ++ b ∷ cs in
    let n = length before in
    let w : Window ds cs (suc n) = record { at = λ p lt. slice_get-back before (b ∷ cs) (suc p) (suc n + p) (omega arith); long = omega (arith, length-append before (b ∷ cs)) } in
    let whole : length (joined t.bound ds) < 2 ^ 64 = subst (λ (s : List ℕ). length s < 2 ^ 64) chain.joins chain.fits in
    let issuing : slice_get ds n ≡ Some b = sym (slice_get-back before (b ∷ cs) 0 n (omega arith)) in
    let last : suc n + 0 ≡ suc n = omega arith in
    trusted_window t (as_anchor b ∷ []) ds cs (suc n) w limit (back_all (Stands t.bound limit) before (b ∷ cs) chain.each).1
    (omega (arith, whole, joined-length t.bound before (b ∷ cs), length-append (certificate_octets t.bound b) (joined t.bound cs))) some
    (kept_of t limit stream ds chain trusted)
    (λ c is kept.
    let later : (r : Rule) → keeps r t ds (joined t.bound ds) (suc n) c ≡ true = λ r. subst (λ (m : ℕ). keeps r t ds (joined t.bound ds) m c ≡ true) last (kept r) in
    let named : same_name t.bound (issuer c) (subject b) ≡ true =
    sym (ap (λ o. option_map_or (λ b. same_name t.bound (issuer c) (subject b)) o false) issuing) ∙ later rules.WrongIssuer in
    let signs : says_yes t ds (joined t.bound ds) (suc n) c (public_key b) ≡ true =
    sym (ap (λ o. option_map_or (λ b. says_yes t ds (joined t.bound ds) (suc n) c (public_key b)) o false) issuing) ∙ later rules.WrongSignature in
    let part : signed_part t.bound cs (joined t.bound cs) 0 c ≡ signed_part t.bound ds (joined t.bound ds) (suc n) c =
    same_signed t (as_anchor b ∷ []) ds cs (suc n) w 0 c is (sym (w.at 0 some) ∙ is) ∙ ap (λ m. signed_part t.bound ds (joined t.bound ds) m c) last in (
      ap (λ x. x || false) named,
      ap (λ x. (x && says_yes t cs (joined t.bound cs) 0 c (public_key b)) || false) named
          ∙ ap (λ (s : List ℕ). t.answers (public_key b) (outer_algorithm c) s (signature_bits c) || false) part
          ∙ ap (λ x. x || false) signs,
    ))
