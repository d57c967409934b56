-- A text is decoded line by line.
use Rattle.std.proofs.Common.{◌≡◌, ℕ, suc, ◌+◌, ◌<◌, arith, Bor, length, map, drop, get_or, List, ◌∷◌, Ok, ap, sym, ◌∙◌}
use Rattle.std.proofs.Math.Seq.{drop-cons}
use Rattle.cert_tool_pem.specs.declared.pem_error.PemError.{PemError}
use Rattle.cert_tool_pem.specs.declared.pem_error.PemError.TheVariants as errors
use Rattle.cert_tool_pem.specs.declared.wanted.Wanted.{Wanted}
use Rattle.cert_tool_pem.specs.Pem.{PlainReading, Values, read_on, step}
use Rattle.cert_tool_pem.specs.PemReading.{FailsBy}

module _ (wanted : Wanted) (lines : List (Bor (List ℕ))) (d : Bor (List ℕ)) (index : ℕ) (some : index < length lines) where
  from_here : (r : PlainReading)
      → read_on wanted index (Ok r) (map (λ line. line.now) (drop index lines))
      ≡ read_on wanted (index + 1) (step wanted (index + 1) (get_or lines index d).now r) (map (λ line. line.now) (drop (index + 1) lines))
  from_here r =
      let next : suc index ≡ index + 1 = omega arith in
      ap (λ xs. read_on wanted index (Ok r) (map (λ (line : Bor (List ℕ)). line.now) xs)) (drop-cons lines index d some ∙ ap (λ n. get_or lines index d ∷ drop n lines) next)

  -- One more line without an error.
  pub next_line : (before after : PlainReading) (number : ℕ) (read : Values) → number ≡ index + 1
      → read_on wanted index (Ok before) (map (λ line. line.now) (drop index lines)) ≡ read → step wanted number (get_or lines index d).now before ≡ Ok after
      → read_on wanted (index + 1) (Ok after) (map (λ line. line.now) (drop (index + 1) lines)) ≡ read
  next_line before after number read n is e =
      sym (ap (λ s. read_on wanted (index + 1) s (map (λ (line : Bor (List ℕ)). line.now) (drop (index + 1) lines))) (ap (λ k. step wanted k (get_or lines index d).now before) (sym n) ∙ e)) ∙ sym (from_here before) ∙ is

  -- A line with an error.
  pub faulty_line : (before : PlainReading) (number : ℕ) (read : Values) (error : PemError) → number ≡ index + 1
      → read_on wanted index (Ok before) (map (λ line. line.now) (drop index lines)) ≡ read → FailsBy (step wanted number (get_or lines index d).now before) error
      → FailsBy read error
  faulty_line before number read (errors.Line at fault) n is e =
      sym is ∙ from_here before ∙ ap (λ s. read_on wanted (index + 1) s (map (λ (line : Bor (List ℕ)). line.now) (drop (index + 1) lines))) (ap (λ k. step wanted k (get_or lines index d).now before) (sym n) ∙ e)
  faulty_line before number read errors.OutOfMemory n is e = tt
