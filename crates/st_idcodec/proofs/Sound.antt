-- What is read of a value as a table is a table, and the value is what is written for it.
use Rattle.std.proofs.Common.{◌≡◌, inl, inr, ◌<◌, ◌^◌, ℕ, true, false, Bool, refl, sym, subst, ap, ◌∙◌, arith, List, [], ◌∷◌, map, Option, Some, None}
use Rattle.std.proofs.lemmas.Bool.{cases_Bool}
use Rattle.std.proofs.lemmas.Bool.Decides.{nat_tests}
use Rattle.std.specs.Cmp.Lexicographic.{same_text}
use Rattle.std.specs.Int.{w128, from_be_bytes}
use Rattle.std.specs.Option.{option_map}
use Rattle.std.specs.Prelude.{codes, nat_lt, option_and_then}
use Rattle.serde_json.specs.Data.{Num, unsigned, negative, float, Data, null, boolean, number, string, array, object, Items, no_items, item, Members, no_members, member}
use Rattle.serde_json.specs.Find.{as_number, as_u64, as_array, as_object, as_str}
use Rattle.serde_json.specs.View.{items_of}
use Rattle.uuid.specs.Text.{parsed}
use Rattle.st_clusters.specs.declared.ids.Cluster.{Cluster}
use Rattle.st_idcodec.specs.OpText.{place_number}
use Rattle.st_ids.specs.Numeral.{small}
use Rattle.st_idcodec.specs.TableText.{plain_number, cluster_data, uuid_text}
use Rattle.st_idcodec.specs.inside.Reading.{same, wide_number, cluster_of_numbers, cluster_in, cluster_of, clusters_of, with_text, uuid_of_text, uuid_of, both_items, items_in, table_items}
use Rattle.st_json.proofs.Shared.{is_string, is_object, is_array}

-- ## Options

-- what a chain gave, it gave from something
pub from_some : {A B : Type 0} (o : Option A) (f : A → Option B) (b : B) → option_and_then f o ≡ Some b → (a : A) × (o ≡ Some a) × (f a ≡ Some b)
from_some None f b e = absurd (cc e)
from_some (Some a) f b e = (a, refl, e)

pub from_map : {A B : Type 0} (o : Option A) (f : A → B) (b : B) → option_map f o ≡ Some b → (a : A) × (o ≡ Some a) × (f a ≡ b)
from_map None f b e = absurd (cc e)
from_map (Some a) f b e = (a, refl, cc e)

pub from_test : {A : Type 0} (t : Bool) (a b : A) → (elim t as (λ c. Option A) [ true ↦ Some a | false ↦ None ]) ≡ Some b → (t ≡ true) × (a ≡ b)
from_test true a b e = (refl, cc e)
from_test false a b e = absurd (cc e)

-- ## Numbers

is_number : (d : Data) (n : Num) → as_number d ≡ Some n → d ≡ number n
is_number null n e = absurd (cc e)
is_number (boolean b) n e = absurd (cc e)
is_number (number m) n e = cc e
is_number (string t) n e = absurd (cc e)
is_number (array es) n e = absurd (cc e)
is_number (object ms) n e = absurd (cc e)

is_unsigned : (m : Num) (n : ℕ) → as_u64 m ≡ Some n → m ≡ unsigned n
is_unsigned (unsigned m) n e = cc e
is_unsigned (negative z) n e = absurd (cc e)
is_unsigned (float x) n e = absurd (cc e)

wide_is : (d : Data) (n : ℕ) → wide_number d ≡ Some n → d ≡ plain_number n
wide_is d n e =
    let h = from_some (as_number d) as_u64 n e in
    is_number d h.0 h.1 ∙ ap number (is_unsigned h.0 n h.2)

small_is : (m n : ℕ) → small m ≡ Some n → m ≡ n
small_is m n e = elim (cases_Bool (nat_lt m (2 ^ 32))) [
  | inl t ↦ let same_number : ◌≡◌ {A = Option ℕ} (Some m) (Some n) = rw t at e in cc same_number
  | inr t ↦ let none : ◌≡◌ {A = Option ℕ} None (Some n) = rw t at e in absurd (cc none)
]

pub place_is : (d : Data) (n : ℕ) → place_number d ≡ Some n → d ≡ plain_number n
place_is d n e =
    let h = from_some (option_and_then as_u64 (as_number d)) small n e in
    wide_is d h.0 h.1 ∙ ap plain_number (small_is h.0 n h.2)

-- ## Clusters

abbrev five_data : ℕ → ℕ → ℕ → ℕ → ℕ → Items
five_data s f n k u = item (plain_number s) (item (plain_number f) (item (plain_number n) (item (plain_number k) (item (plain_number u) no_items))))

same_five : (a b c d e v w x y z : Data) → a ≡ v → b ≡ w → c ≡ x → d ≡ y → e ≡ z → item a (item b (item c (item d (item e no_items)))) ≡ item v (item w (item x (item y (item z no_items))))
same_five a b c d e v w x y z f g h i j = rw (f, g, h, i, j) refl

numbers_are : (a b c d e : Data) (x : Cluster) → cluster_of_numbers a b c d e ≡ Some x → item a (item b (item c (item d (item e no_items)))) ≡ five_data x.session x.first x.first_final x.capacity x.used
numbers_are a b c d e x h =
    let s = from_some (place_number a) (λ s. option_and_then (λ f. option_and_then (λ n. option_and_then (λ k. option_map (λ u. record { session = s; first = f; first_final = n; capacity = k; used = u }) (place_number e)) (wide_number d)) (wide_number c)) (place_number b)) x h in
    let f = from_some (place_number b) (λ f. option_and_then (λ n. option_and_then (λ k. option_map (λ u. record { session = s.0; first = f; first_final = n; capacity = k; used = u }) (place_number e)) (wide_number d)) (wide_number c)) x s.2 in
    let n = from_some (wide_number c) (λ n. option_and_then (λ k. option_map (λ u. record { session = s.0; first = f.0; first_final = n; capacity = k; used = u }) (place_number e)) (wide_number d)) x f.2 in
    let k = from_some (wide_number d) (λ k. option_map (λ u. record { session = s.0; first = f.0; first_final = n.0; capacity = k; used = u }) (place_number e)) x n.2 in
    let u = from_map (place_number e) (λ u. record { session = s.0; first = f.0; first_final = n.0; capacity = k.0; used = u }) x k.2 in
    subst (λ (y : Cluster). item a (item b (item c (item d (item e no_items)))) ≡ five_data y.session y.first y.first_final y.capacity y.used) u.2
    (same_five a b c d e (plain_number s.0) (plain_number f.0) (plain_number n.0) (plain_number k.0) (plain_number u.0) (place_is a s.0 s.1) (place_is b f.0 f.1) (wide_is c n.0 n.1) (wide_is d k.0 k.1) (place_is e u.0 u.1))

items_are : (ds : Items) (x : Cluster) → cluster_in ds ≡ Some x → ds ≡ five_data x.session x.first x.first_final x.capacity x.used
items_are no_items x h = absurd (cc h)
items_are (item a no_items) x h = absurd (cc h)
items_are (item a (item b no_items)) x h = absurd (cc h)
items_are (item a (item b (item c no_items))) x h = absurd (cc h)
items_are (item a (item b (item c (item d no_items)))) x h = absurd (cc h)
items_are (item a (item b (item c (item d (item e no_items))))) x h = numbers_are a b c d e x h
items_are (item a (item b (item c (item d (item e (item f ds)))))) x h = absurd (cc h)

cluster_is : (d : Data) (x : Cluster) → cluster_of d ≡ Some x → d ≡ cluster_data x
cluster_is d x e =
    let h = from_some (as_array d) cluster_in x e in
    is_array d h.0 h.1 ∙ ap array (items_are h.0 x h.2)

item-cluster_data : (d : Data) (ds : Items) (c : Cluster) (xs cs : List Cluster) → d ≡ cluster_data c → ds ≡ items_of (map cluster_data xs) → c ∷ xs ≡ cs → item d ds ≡ items_of (map cluster_data cs)
item-cluster_data d ds c xs cs e f g = rw (sym g, e, f) refl

pub clusters_are : (ds : Items) (cs : List Cluster) → clusters_of ds ≡ Some cs → ds ≡ items_of (map cluster_data cs)
clusters_are no_items cs e = let none : [] ≡ cs = cc e in rw (sym none) refl
clusters_are (item d ds) cs e =
    let h = from_some (cluster_of d) (λ c. option_map (λ cs. c ∷ cs) (clusters_of ds)) cs e in
    let r = from_map (clusters_of ds) (λ (xs : List Cluster). h.0 ∷ xs) cs h.2 in
    item-cluster_data d ds h.0 r.0 cs (cluster_is d h.0 h.1) (clusters_are ds r.0 r.1) r.2

-- ## UUIDs

text_is : (s : List ℕ) (u v : ℕ) → with_text s u ≡ Some v → (v < 2 ^ 128) × (uuid_text v ≡ s)
text_is s u v e = elim (cases_Bool (nat_lt u (2 ^ 128))) [
  | inr t ↦ let none : ◌≡◌ {A = Option ℕ} None (Some v) = rw t at e in absurd (cc none)
  | inl t ↦ elim (cases_Bool (same (uuid_text u) s)) [
    | inr f ↦ let none : ◌≡◌ {A = Option ℕ} None (Some v) = rw (t, f) at e in absurd (cc none)
    | inl f ↦ let number : ◌≡◌ {A = Option ℕ} (Some u) (Some v) = rw (t, f) at e in
        let equal : u ≡ v = cc number in
        let wide : u < 2 ^ 128 = grind (arith, nat_tests, t) in
        (rw equal at wide, ap uuid_text (sym equal) ∙ same_text (uuid_text u) s (sym f))
  ]
]

pub uuid_is : (d : Data) (u : ℕ) → uuid_of d ≡ Some u → (u < 2 ^ 128) × (d ≡ string (uuid_text u))
uuid_is d u e =
    let h = from_some (as_str d) uuid_of_text u e in
    let t = from_some (option_map (from_be_bytes w128) (parsed h.0)) (with_text h.0) u h.2 in
    let x = text_is h.0 t.0 u t.2 in
    (x.0, is_string d h.0 h.1 ∙ ap string (sym x.1))

-- ## The two members

abbrev two_members : Items → Items → Data
two_members ds es = object (member (codes "clusters") (array ds) (member (codes "uuids") (array es) no_members))

both_are : (x y : Data) (ds es : Items) → both_items x y ≡ Some (ds, es) → (x ≡ array ds) × (y ≡ array es)
both_are x y ds es e =
    let h = from_some (as_array x) (λ ds. option_map (λ es. (ds, es)) (as_array y)) (ds, es) e in
    let k = from_map (as_array y) (λ (es : Items). (h.0, es)) (ds, es) h.2 in
    (is_array x h.0 h.1 ∙ ap (λ (p : Items × Items). array p.0) k.2, is_array y k.0 k.1 ∙ ap (λ (p : Items × Items). array p.1) k.2)

members_are : (ms : Members) (ds es : Items) → items_in ms ≡ Some (ds, es) → object ms ≡ two_members ds es
members_are no_members ds es e = absurd (cc e)
members_are (member k x no_members) ds es e = absurd (cc e)
members_are (member k x (member l y no_members)) ds es e = elim (cases_Bool (same k (codes "clusters"))) [
  | inr t ↦ let none : ◌≡◌ {A = Option (Items × Items)} None (Some (ds, es)) = rw t at e in absurd (cc none)
  | inl t ↦ elim (cases_Bool (same l (codes "uuids"))) [
    | inr f ↦ let none : ◌≡◌ {A = Option (Items × Items)} None (Some (ds, es)) = rw (t, f) at e in absurd (cc none)
    | inl f ↦ let both : both_items x y ≡ Some (ds, es) = rw (t, f) at e in
        let b = both_are x y ds es both in
        rw (same_text k (codes "clusters") (sym t), same_text l (codes "uuids") (sym f), b.0, b.1) refl
  ]
]
members_are (member k x (member l y (member m z ms))) ds es e = absurd (cc e)

pub members_is : (d : Data) (ds es : Items) → table_items d ≡ Some (ds, es) → d ≡ two_members ds es
members_is d ds es e =
    let h = from_some (as_object d) items_in (ds, es) e in
    is_object d h.0 h.1 ∙ members_are h.0 ds es h.2
