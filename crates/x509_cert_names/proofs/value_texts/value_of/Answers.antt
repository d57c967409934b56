-- Goals of `value_texts::value_of` that the checker doesn't prove by itself.
use Rattle.std.proofs.Common.{◌≡◌, Result, Ok, Err, sym, rules}
use Rattle.std.proofs.lemmas.Grind.{common_steps}
use Rattle.der_core.specs.Reading.{Gives}
use Rattle.der_core.specs.ErrorTypes.Error.{Error}
use Rattle.der_core.specs.ErrorTypes.ErrorKind.{ErrorKind}
use Rattle.x509_cert_name_texts.specs.Answers.{GivesBy}
use Rattle.x509_cert_names.specs.ValueTexts.{ReadsValue}
use Rattle.x509_cert_names.proofs.value_texts.value_of.Goals as goal

-- The result of a function satisfies a relation that holds of the function.
by_function : {X P : Type 0} (view : X → P) (r : Result X Error) (x : Result P ErrorKind) (R : Result P ErrorKind → Type 0) → ((y : Result P ErrorKind) → y ≡ x → R y) → Gives view r x → GivesBy view r R
by_function view (Ok a) x R f g = f (Ok (view a)) (sym g)
by_function view (Err e) x R f g = λ n. f (Err e.kind) (sym (g n))

pub returns-in-35 : goal.returns-in-35
returns-in-35 c = by_function (λ a. a) c.encoded_value.result _ (ReadsValue c.args.oid.now c.args.text.now) (λ y e. ReadsValue.hexstring _ (search (rules, common_steps)) e) c.encoded_value.ensures
