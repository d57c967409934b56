-- Laws about the kind of an extension, and about extensions with the same OID.
use Rattle.std.proofs.Common.{◌≡◌, ◌≢◌, ℕ, zero, suc, ◌+◌, ◌-◌, ◌<◌, ◌≤◌, List, [], ◌∷◌, Bool, true, false, cond, not, ◌&&◌, ◌||◌, Option, Some, None, IfSome, Result, Ok, Err, inl, inr, subst, length, get_or, drop, take, refl, sym, ap, ◌∙◌, arith}
use Rattle.std.specs.BTreeSet.{BTreeSet, Updates, contains}
use Rattle.std.specs.Cmp.Lexicographic.{bytes_decides, nat_list_eq_equiv}
use Rattle.std.specs.List.{list_any}
use Rattle.std.specs.Prelude.{bytes_eq, IfOk}
use Rattle.cert_desk_bundle.specs.Oid.Comparing.{owned_eq}
use Rattle.std.proofs.lemmas.List.{at_drop_more, take_rest}
use Rattle.std.proofs.lemmas.Bool.{cases_order}
use Rattle.cert_desk_bundle.specs.Oid.IdentifierOctets.{arc_octets, identifier_octets}
use Rattle.cert_desk_bundle.specs.Oid.Orders.{owned_cmp, owned_cmp_ties}
use Rattle.cert_desk_bundle.specs.Der.Grammar.{plain_list}
use Rattle.cert_desk_bundle.specs.Oid.Digits.{digits, digits_within, marked}
use Rattle.cert_desk_bundle.specs.CertParts.Grammar.{PlainExtension, extension_arcs, extension_octets}
use Rattle.x509_cert_kinds.specs.declared.extension_kind.ExtensionKind.{ExtensionKind}
use Rattle.x509_cert_kinds.specs.declared.extension_kind.ExtensionKind.TheVariants as kinds
use Rattle.x509_cert_kinds.specs.Kinds.{arcs_of}
use Rattle.cert_desk_rules.specs.declared.weight.Weight.{Weight}
use Rattle.cert_desk_rules.specs.declared.weight.Weight.TheVariants as weights
use Rattle.cert_desk_rules.specs.Findings.{weight_of}
use Rattle.cert_desk_rules.specs.Judging.{are_distinct, has_twin, is_alone}
use Rattle.cert_desk_rules.specs.Weighing.{Meaning, any_purpose, basic_constraints_in, constraints_of, extended_key_usage_in, key_usage_in, malformed, meaning_of}
use Rattle.cert_desk_rules.specs.Weighing.{other_names, purposes, subject_alt_name_in, unweighed, uses, weigh}

-- The meaning of an extension, by which of the four checked kinds its OID is.
abbrev pub by_kind : ℕ → Bool → Bool → Bool → Bool → List ℕ → Meaning
by_kind bound a b c d w =
    cond a (meaning_of uses (key_usage_in w))
    (cond b (meaning_of other_names (subject_alt_name_in bound w))
    (cond c (meaning_of constraints_of (basic_constraints_in w)) (cond d (meaning_of purposes (extended_key_usage_in bound w)) unweighed)))

abbrev pub says_as : ℕ → ExtensionKind → List ℕ → Meaning
says_as bound kinds.KeyUsage w = meaning_of uses (key_usage_in w)
says_as bound kinds.SubjectAltName w = meaning_of other_names (subject_alt_name_in bound w)
says_as bound kinds.BasicConstraints w = meaning_of constraints_of (basic_constraints_in w)
says_as bound kinds.ExtKeyUsage w = meaning_of purposes (extended_key_usage_in bound w)
says_as bound _ w = unweighed

-- The extension's OID is that of a kind.
abbrev pub is_kind : ExtensionKind → PlainExtension → Bool
is_kind kind e = owned_eq (extension_arcs e) (arcs_of kind)

abbrev is_of : List ℕ → ExtensionKind → Bool
is_of octets kind = bytes_eq octets (identifier_octets (arcs_of kind))

abbrev by_identifier : ℕ → List ℕ → List ℕ → Meaning
by_identifier bound octets w =
    by_kind bound (is_of octets kinds.KeyUsage) (is_of octets kinds.SubjectAltName) (is_of octets kinds.BasicConstraints) (is_of octets kinds.ExtKeyUsage) w

by_identifier-is : (bound : ℕ) (kind : ExtensionKind) (w : List ℕ) → by_identifier bound (identifier_octets (arcs_of kind)) w ≡ says_as bound kind w
unfolding identifier_octets arc_octets digits digits_within marked
by_identifier-is bound kinds.KeyUsage w = refl
by_identifier-is bound _ w = refl

pub weighed_as : (bound : ℕ) (kind found : ExtensionKind) (e : PlainExtension) (w : List ℕ) → is_kind found e ≡ true → found ≡ kind → w ≡ extension_octets e → weigh bound e ≡ says_as bound kind w
weighed_as bound kind found e w known same octets =
    ap (λ (v : List ℕ). by_identifier bound v (extension_octets e)) ((bytes_decides (identifier_octets (extension_arcs e)) (identifier_octets (arcs_of found))).0 known)
    ∙ by_identifier-is bound found (extension_octets e)
    ∙ ap (λ (k : ExtensionKind). says_as bound k (extension_octets e)) same
    ∙ ap (says_as bound kind) (sym octets)

pub other_as : (bound : ℕ) (kind : ExtensionKind) (w : List ℕ) → kind ≢ kinds.KeyUsage → kind ≢ kinds.SubjectAltName → kind ≢ kinds.BasicConstraints → kind ≢ kinds.ExtKeyUsage
    → says_as bound kind w ≡ unweighed
other_as bound kinds.KeyUsage w a b c d = absurd (a refl)
other_as bound kinds.SubjectAltName w a b c d = absurd (b refl)
other_as bound kinds.BasicConstraints w a b c d = absurd (c refl)
other_as bound kinds.ExtKeyUsage w a b c d = absurd (d refl)
other_as bound _ w a b c d = refl

pub unweighed_as : (bound : ℕ) (e : PlainExtension) → ((kind : ExtensionKind) → is_kind kind e ≡ false) → weigh bound e ≡ unweighed
unweighed_as bound e none =
    let w = extension_octets e in
    ap (λ a. by_kind bound a (is_kind kinds.SubjectAltName e) (is_kind kinds.BasicConstraints e) (is_kind kinds.ExtKeyUsage e) w) (none kinds.KeyUsage)
    ∙ ap (λ b. by_kind bound false b (is_kind kinds.BasicConstraints e) (is_kind kinds.ExtKeyUsage e) w) (none kinds.SubjectAltName)
    ∙ ap (λ c. by_kind bound false false c (is_kind kinds.ExtKeyUsage e) w) (none kinds.BasicConstraints)
    ∙ ap (λ d. by_kind bound false false false d w) (none kinds.ExtKeyUsage)

-- The result for an extension that can't be decoded.
pub malformed_as : {E P : Type 0} (r : Result Weight E) (m : Meaning) → IfOk r (λ weight. (weight ≡ weights.Malformed) × P) → (P → m ≡ malformed)
    → IfOk r (λ weight. (p : List ℕ) → weight ≡ weight_of p m)
malformed_as (Ok weight) m h k = λ p. h.0 ∙ ap (weight_of p) (sym (k h.1))
malformed_as (Err fault) m h k = h

-- The encoding of `anyExtendedKeyUsage`.
pub any_octets : identifier_octets any_purpose ≡ 0x55 ∷ 0x1d ∷ 0x25 ∷ 0x00 ∷ []
unfolding identifier_octets arc_octets digits digits_within marked
any_octets = refl

-- A test on the elements of a list, in terms of their plain values.
pub any_of_list : {A B : Type 0} (plain : A → B) (test : B → Bool) (xs : List A) → list_any (λ x. test (plain x)) xs ≡ list_any test (plain_list plain xs)
any_of_list plain test [] = refl
any_of_list plain test (x ∷ xs) = ap (λ b. test (plain x) || b) (any_of_list plain test xs)

-- The list has an extension with this OID.
abbrev has_arcs : List ℕ → List PlainExtension → Bool
has_arcs arcs es = list_any (λ e. owned_eq arcs (extension_arcs e)) es

or_cond : (b c : Bool) → cond b true c ≡ (b || c)
or_cond true c = refl
or_cond false c = refl

-- The elements of a set after an insertion.
put : (old new : BTreeSet (List ℕ)) (arcs : List ℕ) → Updates owned_cmp old new arcs true → (q : List ℕ) → contains owned_cmp new q ≡ (owned_eq q arcs || contains owned_cmp old q)
put old new arcs updates q =
    updates.0 q
    ∙ ap (λ b. cond b true (contains owned_cmp old q)) (sym (owned_cmp_ties arcs q) ∙ nat_list_eq_equiv.symm (identifier_octets arcs) (identifier_octets q))
    ∙ or_cond (owned_eq q arcs) (contains owned_cmp old q)

-- The extension at index i, and those from the next index n on.
module _ {A : Type 0} (plain : A → PlainExtension) (xs : List A) (i n : ℕ) (next : n ≡ i + 1) (d : A) (lt : i < length xs) where
  abbrev here : PlainExtension
  here = plain (get_or xs i d)

  abbrev behind : List PlainExtension
  behind = plain_list plain (drop n xs)

  from_here : plain_list plain (drop i xs) ≡ here ∷ behind
  from_here = at_drop_more (plain_list plain) xs i d lt ∙ ap (λ (m : ℕ). here ∷ plain_list plain (drop m xs)) (sym next)

  pub distinct_here : (added : Bool) → added ≡ is_alone here behind → are_distinct (plain_list plain (drop i xs)) ≡ (added && are_distinct behind)
  distinct_here added is = ap are_distinct from_here ∙ ap (λ b. b && are_distinct behind) (sym is)

  pub set_here : (old new : BTreeSet (List ℕ)) → Updates owned_cmp old new (extension_arcs here) true → ((q : List ℕ) → contains owned_cmp old q ≡ has_arcs q behind)
      → (q : List ℕ) → contains owned_cmp new q ≡ has_arcs q (plain_list plain (drop i xs))
  set_here old new updates had q =
      put old new (extension_arcs here) updates q
      ∙ ap (λ b. owned_eq q (extension_arcs here) || b) (had q)
      ∙ sym (ap (has_arcs q) from_here)

-- An extension has a twin exactly if a later extension has its OID.
pub twin_is : {A : Type 0} (plain : A → PlainExtension) (xs : List A) (i n : ℕ) (d : A) → n ≡ i + 1 → i < length xs
    → has_twin (plain_list plain xs) i ≡ not (is_alone (plain (get_or xs i d)) (plain_list plain (drop n xs)))
twin_is plain [] i n d next lt = absurd (omega arith)
twin_is plain (x ∷ xs) zero n d next lt = ap (λ (m : ℕ). not (is_alone (plain x) (plain_list plain (drop m (x ∷ xs))))) (sym next)
twin_is plain (x ∷ xs) (suc i) zero d next lt = absurd (omega arith)
twin_is plain (x ∷ xs) (suc i) (suc n) d next lt = twin_is plain xs i n d (omega arith) (omega arith)

-- An extension that was read at an index has a twin exactly if the slice after it has its OID.
pub twin_at : {A : Type 0} (plain : A → PlainExtension) (xs : List A) (i : ℕ) (x : A) → i < length xs → x ≡ get_or xs i x
    → has_twin (plain_list plain xs) i ≡ not (is_alone (plain x) (plain_list plain (take (length xs - (i + 1)) (drop (i + 1) xs))))
twin_at plain xs i x lt is =
    twin_is plain xs i (i + 1) x refl lt
    ∙ ap (λ y. not (is_alone (plain y) (plain_list plain (drop (i + 1) xs)))) (sym is)
    ∙ ap (λ ys. not (is_alone (plain x) (plain_list plain ys))) (sym (take_rest xs (i + 1)))

-- No extension between an index and the first twin is a twin, and none is at the index before.
pub firsts-more : (o : Option ℕ) (es : List PlainExtension) (n : ℕ) → 0 < n → has_twin es (n - 1) ≡ false
    → IfSome o (λ place. (other : ℕ) → n ≤ other → other < place → has_twin es other ≡ false)
    → IfSome o (λ place. (other : ℕ) → n - 1 ≤ other → other < place → has_twin es other ≡ false)
firsts-more None es n some here behind = tt
firsts-more (Some place) es n some here behind = λ other above below.
    elim (cases_order other (n - 1)) [
      | inl e ↦ subst (λ m. has_twin es m ≡ false) (sym e) here
      | inr (inl less) ↦ absurd (omega (arith, above, less))
      | inr (inr more) ↦ behind other (omega (arith, some, more)) below
    ]

-- A weaker fact about an optional value.
pub some-by : {A : Type 0} {P Q : A → Type 0} (o : Option A) → IfSome o P → ((x : A) → P x → Q x) → IfSome o Q
some-by None h f = tt
some-by (Some x) h f = f x h

-- A fact about all smaller numbers, and about the next one.
pub none-more : (test : ℕ → Bool) (i : ℕ) → ((other : ℕ) → other < i → test other ≡ false) → test i ≡ false → (other : ℕ) → other < i + 1 → test other ≡ false
none-more test i before here other lt =
    elim (cases_order other i) [
      | inl e ↦ subst (λ n. test n ≡ false) (sym e) here
      | inr (inl below) ↦ before other below
      | inr (inr above) ↦ absurd (omega (arith, lt, above))
    ]
