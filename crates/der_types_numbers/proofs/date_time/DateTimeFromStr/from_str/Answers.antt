-- Goals of `date_time::DateTimeFromStr::from_str` that the checker doesn't prove by itself.
use Rattle.std.proofs.Common.{◌≡◌, Some, None, sym, ap, ◌∙◌}
use Rattle.der_types_numbers.specs.DateTexts.{text_at}
use Rattle.der_types_numbers.proofs.SecondsOrders.{text_at-sound, text_at-again}
use Rattle.der_types_numbers.proofs.date_time.DateTimeFromStr.from_str.Goals as goal

pub returns-in-Some : goal.returns-in-Some
returns-in-Some c =
    let read : text_at c.args.text.now ≡ Some c.in-Some.date = ap text_at (sym c.as_bytes.ensures.value) ∙ (sym c.date_of_text.ensures ∙ c.in-Some.is) in
    (text_at-sound c.args.text.now c.in-Some.date read).1

pub returns-in-None : goal.returns-in-None
returns-in-None c =
    let read : text_at c.args.text.now ≡ None = ap text_at (sym c.as_bytes.ensures.value) ∙ (sym c.date_of_text.ensures ∙ c.in-None.is) in (
      c.from.ensures,
      λ d h e.
          let no : None ≡ Some d = sym read ∙ (ap text_at e ∙ text_at-again d h) in
          absurd (cc no),
    )
