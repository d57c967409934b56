-- Goals of `value_texts::write_head` that the checker doesn't prove by itself.
use Rattle.std.proofs.Common.{◌≡◌, List, ℕ, ◌++◌, ap, ◌∙◌, length, false, if◌then◌else◌, Ok, Err, sym, append_assoc}
use Rattle.std.proofs.Output.{has_written_of_eq}
use Rattle.der_core.specs.Heads.{head_octets, length_octets}
use Rattle.der_core.specs.Writing.{Out, lacks, less, put, put_head, sum_len}
use Rattle.x509_cert_name_texts.specs.Escapes.{in_hex}
use Rattle.der_core.specs.TagTypes.Tag.{Tag}
use Rattle.der_core.specs.Octets.{◌>>=◌}
use Rattle.der_core.specs.Tags.{tag_octets}
use Rattle.der_core.proofs.Results.{ok_is, bind_ok, unless_ok}
use Rattle.der_core.specs.ErrorTypes.ErrorKind.TheVariants as kinds
use Rattle.x509_cert_names.proofs.value_texts.write_head.Goals as goal

-- The bytes of a header, after it was written.
put_written : (b : List ℕ) (o z : Out) → put b o ≡ Ok z → z.written ≡ o.written ++ b
unfolding put
put_written b o z e =
    let next : Out = record { written = o.written ++ b; room = less o.room (length b); failed = false } in
    let h = unless_ok o.failed kinds.Failed (if lacks o.room (length b) then Err kinds.Overlength else Ok next) z e in
    let k = unless_ok (lacks o.room (length b)) kinds.Overlength (Ok next) z h.1 in
    ap (λ (x : Out). x.written) (sym (ok_is next z k.1))

head_written : (t : Tag) (n : ℕ) (o z : Out) → put_head t n o ≡ Ok z → z.written ≡ o.written ++ head_octets t n
unfolding put_head head_octets
head_written t n o z e =
    let h = bind_ok (sum_len (length (head_octets t n)) n) (λ _. put (tag_octets t) o >>= put (length_octets n)) z e in
    let k = bind_ok (put (tag_octets t) o) (put (length_octets n)) z h.2 in
    put_written (length_octets n) k.0 z k.2
    ∙ ap (λ (w : List ℕ). w ++ length_octets n) (put_written (tag_octets t) o k.0 k.1)
    ∙ append_assoc o.written (tag_octets t) (length_octets n)

pub returns-in-Ok-finish : goal.returns-in-Ok-finish
returns-in-Ok-finish g c = λ plain ok.
    let head = head_octets c.args.tag c.args.length.value in
    let written = head_written c.args.tag c.args.length.value _ _ c.in-Ok.ensures.exact in
    let octets : c.in-Ok-finish.head.now ≡ head =
    c.in-Ok-finish.ensures.ok.0 ∙ written ∙ ap (λ (o : Out). o.written ++ head) c.new-writer.ensures in
    has_written_of_eq _ _ _ _ _ (ap (λ (w : List ℕ). in_hex w) octets) (c.write_hex.ensures plain ok)
