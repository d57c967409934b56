-- Goals of `command::listing_asked` that the checker doesn't prove by itself.
use Rattle.std.proofs.Common.{rules, ◌≡◌, ◌∷◌, [], codes, string_bytes, ap, sym, ◌∙◌}
use Rattle.cert_desk_listing.specs.Kinds.{kind_word}
use Rattle.cert_desk.proofs.Words.{four_words}
use Rattle.cert_desk.proofs.command.listing_asked.Goals as goal

pub returns-clause-read : goal.returns-clause-read
returns-clause-read c =
    let words = four_words string_bytes c.args.words.now c.command-item.result c.kind-item.result c.file-item.result
    c.in-len4.len_at_least c.in-len4.len_below c.command-item.is c.kind-item.is c.file-item.is in
    let show : string_bytes c.command-item.result ≡ codes "show" = search rules in
    record {
      name = words.0;
      are = words.1
          ∙ ap (λ x. words.0 ∷ x ∷ string_bytes c.kind-item.result ∷ string_bytes c.file-item.result ∷ []) show
          ∙ ap (λ x. words.0 ∷ codes "show" ∷ x ∷ string_bytes c.file-item.result ∷ []) (sym c.as_str-2.ensures.value ∙ c.in-Some.ensures.read)
          ∙ ap (λ x. words.0 ∷ codes "show" ∷ kind_word c.in-Some.kind ∷ x ∷ []) (sym c.as_str-3.ensures.value);
    }
