-- Lemmas for `keys`: the code's table of attribute types agrees with the definition's.
use Rattle.std.proofs.Common.{◌≡◌, ℕ, List, [], ◌∷◌, Bool, true, false, refl, sym, ap, ◌∙◌, ◌||◌, nat_eq, rules, arith, Option, Some, None, Ok, map, if◌then◌else◌}
use Rattle.std.specs.Char.{to_ascii_uppercase}
use Rattle.std.specs.List.{find, list_any}
use Rattle.std.specs.Cmp.Lexicographic.{pointwise}
use Rattle.std.proofs.lemmas.Bool.Decides.{nat_tests}
use Rattle.der_core.specs.Oid.Bound.{Bound}
use Rattle.der_core.specs.Oid.TextReading.{read_text}
use Rattle.der_core.specs.Oid.Comparing.{owned_eq}
use Rattle.der_core.specs.Oid.Digits.{digits, digits_within, marked}
use Rattle.der_core.specs.Oid.IdentifierOctets.{arc_octets, identifier_octets, read_identifier}
use Rattle.x509_cert_name_texts.specs.Keys as keys
use Rattle.x509_cert_name_texts.specs.Keys.{is_name, type_named, named_types, shortest_name, dotted_arcs, arcs_or, key_arcs, printed_name, key_of}
use Rattle.x509_cert_name_texts.specs.Rows.{Row, row, rows, is_called, has_octets}

-- A row of the code's table agrees with the row of the definition.
pub record Agrees (n : Row) (t : keys.Named) : Type 0 where
  pub octets : identifier_octets t.arcs ≡ n.octets
  pub reads : read_identifier Bound 39 n.octets ≡ Ok t.arcs
  pub called : (key : List ℕ) → is_called key n ≡ list_any (is_name key) t.names
  pub printed : map to_ascii_uppercase (shortest_name t.names) ≡ n.short

abbrev pub AgreeAll : List Row → List keys.Named → Type 0
AgreeAll [] [] = Unit {0}
AgreeAll (n ∷ ns) (t ∷ ts) = Agrees n t × AgreeAll ns ts
AgreeAll _ _ = ⊥

two_names : (a b : Bool) → (a || b) ≡ (a || (b || false))
two_names a b = grind (arith, nat_tests)

one_name : (a : Bool) → (a || a) ≡ (a || false)
one_name a = grind (arith, nat_tests)

abbrev pub AgreeFound : Option Row → Option keys.Named → Type 0
AgreeFound None None = Unit {0}
AgreeFound (Some n) (Some t) = Agrees n t
AgreeFound _ _ = ⊥

by_test : (b : Bool) (n : Row) (t : keys.Named) (x : Option Row) (y : Option keys.Named) → Agrees n t → AgreeFound x y → AgreeFound (if b then Some n else x) (if b then Some t else y)
by_test true n t x y a rest = a
by_test false n t x y a rest = rest

pub found_alike : (p : Row → Bool) (q : keys.Named → Bool) → ((n : Row) (t : keys.Named) → Agrees n t → p n ≡ q t)
    → (ns : List Row) (ts : List keys.Named) → AgreeAll ns ts → AgreeFound (find p ns) (find q ts)
found_alike p q same [] [] a = tt
found_alike p q same [] (t ∷ ts) a = absurd a
found_alike p q same (n ∷ ns) [] a = absurd a
found_alike p q same (n ∷ ns) (t ∷ ts) a = rw (same n t a.0) (by_test (q t) n t (find p ns) (find q ts) a.0 (found_alike p q same ns ts a.1))

pub all_agree : AgreeAll rows named_types
unfolding Bound digits digits_within marked arc_octets identifier_octets named_types rows
all_agree = search (rules, two_names, one_name)

agree_some : (r : Row) (y : Option keys.Named) → AgreeFound (Some r) y → (t : keys.Named) × (y ≡ Some t) × Agrees r t
agree_some r None a = absurd a
agree_some r (Some t) a = (t, refl, a)

agree_none : (y : Option keys.Named) → AgreeFound None y → y ≡ None
agree_none None a = refl
agree_none (Some t) a = absurd a

called_alike : (key : List ℕ) → AgreeFound (find (is_called key) rows) (find (λ t. list_any (is_name key) t.names) named_types)
called_alike key = found_alike (is_called key) (λ t. list_any (is_name key) t.names) (λ n t a. a.called key) rows named_types all_agree

-- If a key is a name, its arcs are those that the row's bytes encode.
pub key_arcs_named : (key w short long : List ℕ) → find (is_called key) rows ≡ Some (row w short long) → key_arcs Bound key ≡ dotted_arcs (read_identifier Bound 39 w)
unfolding type_named
key_arcs_named key w short long e =
    let f = agree_some (row w short long) _ (rw e at (called_alike key)) in
    ap (λ t. arcs_or Bound t key) f.1 ∙ sym (ap dotted_arcs f.2.reads)

-- Any other key is a dotted OID.
pub key_arcs_dotted : (key : List ℕ) → find (is_called key) rows ≡ None → key_arcs Bound key ≡ dotted_arcs (read_text Bound 39 key)
unfolding type_named
key_arcs_dotted key e = ap (λ t. arcs_or Bound t key) (agree_none _ (rw e at (called_alike key)))

octets_alike : (arcs w : List ℕ) → w ≡ identifier_octets arcs → AgreeFound (find (has_octets w) rows) (find (λ t. owned_eq t.arcs arcs) named_types)
octets_alike arcs w e =
    found_alike (has_octets w) (λ t. owned_eq t.arcs arcs)
    (λ n t a. ap (λ v. pointwise nat_eq v w) (sym a.octets) ∙ ap (pointwise nat_eq (identifier_octets t.arcs)) e) rows named_types all_agree

-- The name of a type is in the row with its encoding.
pub key_of_found : (arcs w : List ℕ) (r : Row) → w ≡ identifier_octets arcs → find (has_octets w) rows ≡ Some r → key_of arcs ≡ Some r.short
unfolding key_of
key_of_found arcs w r same e =
    let f = agree_some r _ (rw e at (octets_alike arcs w same)) in
    ap printed_name f.1 ∙ ap (λ n. Some n) f.2.printed

pub key_of_none : (arcs w : List ℕ) → w ≡ identifier_octets arcs → find (has_octets w) rows ≡ None → key_of arcs ≡ None
unfolding key_of
key_of_none arcs w same e = ap printed_name (agree_none _ (rw e at (octets_alike arcs w same)))
