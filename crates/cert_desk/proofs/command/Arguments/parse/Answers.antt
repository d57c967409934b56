-- Goals of `command::Arguments::parse` that the checker doesn't prove by itself.
use Rattle.std.proofs.Common.{rules, ◌≡◌, ◌∷◌, [], codes, string_bytes, ap, sym, ◌∙◌, subst}
use Rattle.cert_desk_checking.specs.Arguments.{IsNumber}
use Rattle.cert_desk.proofs.Words.{seven_words}
use Rattle.cert_desk.proofs.command.Arguments.parse.Goals as goal

pub returns-clause-read : goal.returns-clause-read
returns-clause-read c =
    let words = seven_words string_bytes c.args.words.now c.command-item.result c.anchors-item.result c.stream-item.result c.moment-item.result c.purpose-item.result c.limit-item.result
    c.in-len7.len_at_least c.in-len7.len_below c.command-item.is c.anchors-item.is c.stream-item.is c.moment-item.is c.purpose-item.is c.limit-item.is in
    let check : string_bytes c.command-item.result ≡ codes "check" = search rules in
    record {
      name = words.0;
      moment_text = string_bytes c.moment-item.result;
      purpose_text = string_bytes c.purpose-item.result;
      limit_text = string_bytes c.limit-item.result;
      are = words.1
          ∙ ap (λ x. words.0 ∷ x ∷ string_bytes c.anchors-item.result ∷ string_bytes c.stream-item.result ∷ string_bytes c.moment-item.result ∷ string_bytes c.purpose-item.result ∷ string_bytes c.limit-item.result ∷ []) check
          ∙ ap (λ x. words.0 ∷ codes "check" ∷ x ∷ string_bytes c.stream-item.result ∷ string_bytes c.moment-item.result ∷ string_bytes c.purpose-item.result ∷ string_bytes c.limit-item.result ∷ []) (sym c.as_str-5.ensures.value)
          ∙ ap (λ x. words.0 ∷ codes "check" ∷ c.as_str-5.result.now ∷ x ∷ string_bytes c.moment-item.result ∷ string_bytes c.purpose-item.result ∷ string_bytes c.limit-item.result ∷ []) (sym c.as_str-6.ensures.value);
      moment_is = subst (λ x. IsNumber c.in-Some.moment x) c.as_str-2.ensures.value c.in-Some.ensures.read;
      moment_fits = search rules;
      purpose_is = search rules;
      purpose_valid = c.in-Ok.ensures.ok.1;
      purpose_fits = c.in-Ok.ensures.ok.2;
      limit_is = subst (λ x. IsNumber c.in-Some-limit_in.limit x) c.as_str-4.ensures.value c.in-Some-limit_in.ensures.read;
      limit_least = c.in-Some-limit_in.ensures.least;
      limit_fits = search rules;
    }
