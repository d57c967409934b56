-- Goals of `command::chain_asked` that the checker doesn't prove by itself.
use Rattle.std.proofs.Common.{rules, ◌≡◌, ◌∷◌, [], codes, string_bytes, ap, sym, ◌∙◌}
use Rattle.cert_desk.proofs.Words.{three_words}
use Rattle.cert_desk.proofs.command.chain_asked.Goals as goal

pub returns-clause-read : goal.returns-clause-read
returns-clause-read c =
    let words = three_words string_bytes c.args.words.now c.command-item.result c.orders-item.result
    c.in-len3.len_at_least c.in-len3.len_below c.command-item.is c.orders-item.is in
    let issue : string_bytes c.command-item.result ≡ codes "issue" = search rules in
    record {
      name = words.0;
      are = words.1
          ∙ ap (λ x. words.0 ∷ x ∷ string_bytes c.orders-item.result ∷ []) issue
          ∙ ap (λ x. words.0 ∷ codes "issue" ∷ x ∷ []) (sym c.as_str-2.ensures.value);
    }
