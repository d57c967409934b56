-- Lemmas for printing times and for repeated fills of random bytes.
use Rattle.std.proofs.Common.{◌≡◌, ℕ, suc, ◌+◌, ◌-◌, ◌<◌, ◌≤◌, Some, None, refl, arith, if◌then◌else◌}
use Rattle.der_types.specs.DateTexts.{date_text}
use Rattle.x509_cert_parts.specs.Texts.{time_text}
use Rattle.x509_cert_parts.specs.Views.{time_value, time_date}
use Rattle.x509_cert_parts.specs.declared.time.Time.{Time}
use Rattle.x509_cert_parts.specs.declared.time.Time.TheVariants as times
use Rattle.rand_core.specs.Stream.{Stream, fill_bytes}
use Rattle.x509_cert_parts.specs.Drawing.{begins_with_zero, first_fill}

pub time_text_is : (t : Time) → time_text (time_value t) ≡ date_text (time_date t)
unfolding time_text
time_text_is (times.UtcTime date) = refl
time_text_is (times.GeneralTime date) = refl

pub next_fill : (k n : ℕ) (s : Stream) → k < 16
    → first_fill (16 - k) n s ≡ (if begins_with_zero (fill_bytes n s).0 then first_fill (16 - (k + 1)) n (fill_bytes n s).1 else (Some (fill_bytes n s).0, (fill_bytes n s).1))
next_fill k n s h = turn (16 - k) (16 - (k + 1)) (omega (arith, h))
  where
    turn : (i j : ℕ) → i ≡ suc j → first_fill i n s ≡ (if begins_with_zero (fill_bytes n s).0 then first_fill j n (fill_bytes n s).1 else (Some (fill_bytes n s).0, (fill_bytes n s).1))
    turn i j e = rw e refl

pub no_fill : (k n : ℕ) (s : Stream) → 16 ≤ k → first_fill (16 - k) n s ≡ (None, s)
no_fill k n s h = ended (16 - k) (omega (arith, h))
  where
    ended : (i : ℕ) → i ≡ 0 → first_fill i n s ≡ (None, s)
    ended i e = rw e refl
