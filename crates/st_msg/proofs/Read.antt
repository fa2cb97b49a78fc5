-- A value that is read as a message is what is written for it.
use Rattle.std.proofs.Common.{◌≡◌, ◌<◌, ◌^◌, ◌&&◌, ℕ, Bool, true, false, not, nat_lt, is_some, List, [], ◌∷◌, Option, None, Some, option_map, option_and_then, codes, refl, sym, ap, ◌∙◌, subst, arith}
use Rattle.std.specs.Prelude.{if◌then◌else◌, IsSome}
use Rattle.std.proofs.lemmas.Bool.Decides.{nat_tests}
use Rattle.std.specs.Int.{w128, from_be_bytes}
use Rattle.serde_json.specs.Data.{Num, unsigned, negative, float, Data, null, boolean, number, string, array, object, Items, no_items, item, Members, no_members, member}
use Rattle.serde_json.specs.Find.{as_array, as_number, as_object, as_str, as_u64, get}
use Rattle.uuid.specs.Text.{parsed}
use Rattle.st_clusters.specs.declared.ids.IdRange.{IdRange}
use Rattle.st_idcodec.specs.TableText.{uuid_text}
use Rattle.st_ids.specs.Numeral.{small}
use Rattle.st_json.proofs.Shared.{is_array, is_string}
use Rattle.st_lemmas.proofs.Options.{one_some, option_map-Some, option_and_then-Some}
use Rattle.st_mark_reader.specs.Reading.{has_names, is_named, member_of, small_number}
use Rattle.st_schema.specs.Reading.{two_in, two_items}
use Rattle.st_schema.specs.Schema.{same}
use Rattle.st_schema.proofs.Forms.{text_same}
use Rattle.st_msg.specs.declared.parts.Head.{Head}
use Rattle.st_msg.specs.Messages.{SaidView, Join, Leave, Ack, Commit, MessageView, number_data, is_upgrade, kind_of, said_data, message_data, head_of, if_wide, uuid_number, uuid_of, ids_of, join_of, ack_of, commit_of, edits_in, upgrade_in, edits_of, upgrade_of, join_names, leave_names, ack_names, commit_names, said_named, said_of, message_with, message_of}
use Rattle.st_msg.specs.Within.{IsWithin, SaidIsWithin, IsSpelled, SaidIsSpelled}

-- ## Objects with the members of some names

abbrev first : List Data → Data
first [] = null
first (d ∷ ds) = d

abbrev later : List Data → List Data
later [] = []
later (d ∷ ds) = ds

abbrev with_names : List (List ℕ) → List Data → Members
with_names [] ds = no_members
with_names (name ∷ names) ds = member name (first ds) (with_names names (later ds))

abbrev values : Members → List Data
values no_members = []
values (member k d ms) = d ∷ values ms

both : (b : Bool) (c : Bool) → (if b then c else false) ≡ true → (b ≡ true) × (c ≡ true)
both true c e = (refl, e)
both false c e = absurd (cc)

named_members : (names : List (List ℕ)) (ms : Members) → has_names names ms ≡ true → ms ≡ with_names names (values ms)
named_members [] no_members e = refl
named_members [] (member k d ms) e = absurd (cc)
named_members (name ∷ names) no_members e = absurd (cc)
named_members (name ∷ names) (member k d ms) e =
    let p = both (same k name) (has_names names ms) e in
    λ i. member (text_same k name p.0 i) d (named_members names ms p.1 i)

named_object : (names : List (List ℕ)) (d : Data) → is_named names d ≡ true → (ds : List Data) × (d ≡ object (with_names names ds))
named_object names null e = absurd (cc)
named_object names (boolean b) e = absurd (cc)
named_object names (number x) e = absurd (cc)
named_object names (string s) e = absurd (cc)
named_object names (array ds) e = absurd (cc)
named_object names (object ms) e = (values ms, ap object (named_members names ms e))

-- ## Numbers and UUIDs

is_number : (d : Data) (x : Num) → as_number d ≡ Some x → d ≡ number x
is_number null x e = absurd (cc)
is_number (boolean b) x e = absurd (cc)
is_number (number y) x e = let s : y ≡ x = one_some y x e in ap number s
is_number (string t) x e = absurd (cc)
is_number (array ds) x e = absurd (cc)
is_number (object ms) x e = absurd (cc)

is_unsigned : (x : Num) (k : ℕ) → as_u64 x ≡ Some k → x ≡ unsigned k
is_unsigned (unsigned j) k e = let s : j ≡ k = one_some j k e in ap unsigned s
is_unsigned (negative z) k e = absurd (cc)
is_unsigned (float y) k e = absurd (cc)

if_some : {A : Type 0} (c : Bool) (a b : A) → (if c then Some a else None) ≡ Some b → (c ≡ true) × (a ≡ b)
if_some true a b h = (refl, one_some a b h)
if_some false a b h = absurd (cc)

below : (k n : ℕ) (w : ℕ) → nat_lt k w ≡ true → k ≡ n → n < w
below k n w e s = let low : k < w = grind (arith, nat_tests) in subst (λ x. x < w) s low

small_is : (d : Data) (n : ℕ) → small_number d ≡ Some n → (d ≡ number_data n) × (n < 2 ^ 32)
small_is d n e =
    let k = option_and_then-Some small (option_and_then as_u64 (as_number d)) n e in
    let x = option_and_then-Some as_u64 (as_number d) k.0 k.1 in
    let one = if_some (nat_lt k.0 (2 ^ 32)) k.0 n k.2 in
    (is_number d x.0 x.1 ∙ ap number (is_unsigned x.0 k.0 x.2 ∙ ap unsigned one.1), below k.0 n (2 ^ 32) one.0 one.1)

wide_is : (d : Data) (u : ℕ) → uuid_of d ≡ Some u → u < 2 ^ 128
wide_is d u e =
    let s = option_and_then-Some uuid_number (as_str d) u e in
    let k = option_and_then-Some if_wide (option_map (from_be_bytes w128) (parsed s.0)) u s.2 in
    let one = if_some (nat_lt k.0 (2 ^ 128)) k.0 u k.2 in
    below k.0 u (2 ^ 128) one.0 one.1

two_back : (ds : Items) (p : Data × Data) → two_in ds ≡ Some p → ds ≡ item p.0 (item p.1 no_items)
two_back no_items p h = absurd (cc)
two_back (item a no_items) p h = absurd (cc)
two_back (item a (item b no_items)) p h = let e = one_some {A = Data × Data} (a, b) p h in λ i. item ((e i).0) (item ((e i).1) no_items)
two_back (item a (item b (item c ds))) p h = absurd (cc)

abbrev pair : ℕ → ℕ → ℕ × ℕ
pair x y = (x, y)

ids_are : (d : Data) (q : ℕ × ℕ) → ids_of d ≡ Some q → (d ≡ array (item (number_data q.0) (item (number_data q.1) no_items))) × (q.0 < 2 ^ 32) × (q.1 < 2 ^ 32)
ids_are d q e =
    let p = option_and_then-Some (λ (p : Data × Data). option_and_then (λ (x : ℕ). option_map (λ (y : ℕ). pair x y) (small_number p.1)) (small_number p.0)) (two_items d) q e in
    let ds = option_and_then-Some two_in (as_array d) p.0 p.1 in
    let x = option_and_then-Some (λ (x : ℕ). option_map (λ (y : ℕ). pair x y) (small_number p.0.1)) (small_number p.0.0) q p.2 in
    let y = option_map-Some (λ (y : ℕ). pair x.0 y) (small_number p.0.1) q x.2 in
    let f = small_is p.0.0 x.0 x.1 in
    let g = small_is p.0.1 y.0 y.1 in
    let form : d ≡ array (item (number_data x.0) (item (number_data y.0) no_items)) = is_array d ds.0 ds.1 ∙ ap array (two_back ds.0 p.0 ds.2) ∙ (λ i. array (item (f.0 i) (item (g.0 i) no_items))) in
    subst (λ (r : ℕ × ℕ). (d ≡ array (item (number_data r.0) (item (number_data r.1) no_items))) × (r.0 < 2 ^ 32) × (r.1 < 2 ^ 32)) y.2 (form, f.1, g.1)

-- ## What every message has

record HasHead (d : Data) (h : Head) : Type 0 where
  n : member_of small_number (codes "n") d ≡ Some h.n
  min : member_of small_number (codes "min") d ≡ Some h.min
  session : member_of small_number (codes "s") d ≡ Some h.session

abbrev head : ℕ → ℕ → ℕ → Head
head n min s = record { n = n; min = min; session = s }

head_has : (d : Data) (h : Head) → head_of d ≡ Some h → HasHead d h
head_has d h e =
    let x = option_and_then-Some (λ (x : ℕ). option_and_then (λ (y : ℕ). option_map (λ (z : ℕ). head x y z) (member_of small_number (codes "s") d)) (member_of small_number (codes "min") d)) (member_of small_number (codes "n") d) h e in
    let y = option_and_then-Some (λ (y : ℕ). option_map (λ (z : ℕ). head x.0 y z) (member_of small_number (codes "s") d)) (member_of small_number (codes "min") d) h x.2 in
    let z = option_map-Some (λ (z : ℕ). head x.0 y.0 z) (member_of small_number (codes "s") d) h y.2 in
    subst (HasHead d) z.2 (record { n = x.1; min = y.1; session = z.1 })

-- ## What is said

-- what it says can be written, and is written so
abbrev IsTold : Data → Head → SaidView → Type 0
IsTold d h said = SaidIsWithin h.session said × (SaidIsSpelled d said → d ≡ said_data h.n h.min h.session said)

-- objects of five, four, five and seven members
abbrev join_object : Data → Data → Data → Data → Data → Data
join_object a b c e f = object (member (codes "kind") a (member (codes "min") b (member (codes "n") c (member (codes "s") e (member (codes "uuid") f no_members)))))

abbrev leave_object : Data → Data → Data → Data → Data
leave_object a b c e = object (member (codes "kind") a (member (codes "min") b (member (codes "n") c (member (codes "s") e no_members))))

abbrev ack_object : Data → Data → Data → Data → Data → Data
ack_object a b c e f = object (member (codes "kind") a (member (codes "min") b (member (codes "n") c (member (codes "ref") e (member (codes "s") f no_members)))))

abbrev commit_object : Data → Data → Data → Data → Data → Data → Data → Data
commit_object x y a b c e f = object (member (codes "change") x (member (codes "ids") y (member (codes "kind") a (member (codes "min") b (member (codes "n") c (member (codes "ref") e (member (codes "s") f no_members)))))))

join_told : (a b c e f : Data) (h : Head) (said : SaidView) →
    HasHead (join_object a b c e f) h → a ≡ string (codes "join") → join_of (join_object a b c e f) ≡ Some said → IsTold (join_object a b c e f) h said
join_told a b c e f h said has kind is =
    let d : Data = join_object a b c e f in
    let u = option_map-Some (λ (u : ℕ). Join u) (uuid_of f) said is in
    let min = small_is b h.min has.min in
    let n = small_is c h.n has.n in
    let s = small_is e h.session has.session in
    subst (IsTold d h) u.2 (
      wide_is f u.0 u.1,
      λ spelled.
          let text : f ≡ string (uuid_text u.0) = one_some f (string (uuid_text u.0)) spelled in
          λ i. object (member (codes "kind") (kind i) (member (codes "min") (min.0 i) (member (codes "n") (n.0 i) (member (codes "s") (s.0 i) (member (codes "uuid") (text i) no_members))))),
    )

leave_told : (a b c e : Data) (h : Head) (said : SaidView) →
    HasHead (leave_object a b c e) h → a ≡ string (codes "leave") → Some Leave ≡ Some said → IsTold (leave_object a b c e) h said
leave_told a b c e h said has kind is =
    let d : Data = leave_object a b c e in
    let min = small_is b h.min has.min in
    let n = small_is c h.n has.n in
    let s = small_is e h.session has.session in
    subst (IsTold d h) (one_some Leave said is) (
      tt,
      λ spelled.
          λ i. object (member (codes "kind") (kind i) (member (codes "min") (min.0 i) (member (codes "n") (n.0 i) (member (codes "s") (s.0 i) no_members)))),
    )

ack_told : (a b c e f : Data) (h : Head) (said : SaidView) →
    HasHead (ack_object a b c e f) h → a ≡ string (codes "ack") → ack_of (ack_object a b c e f) ≡ Some said → IsTold (ack_object a b c e f) h said
ack_told a b c e f h said has kind is =
    let d : Data = ack_object a b c e f in
    let r = option_map-Some (λ (r : ℕ). Ack r) (small_number e) said is in
    let min = small_is b h.min has.min in
    let n = small_is c h.n has.n in
    let reference = small_is e r.0 r.1 in
    let s = small_is f h.session has.session in
    subst (IsTold d h) r.2 (
      reference.1,
      λ spelled.
          λ i. object (member (codes "kind") (kind i) (member (codes "min") (min.0 i) (member (codes "n") (n.0 i) (member (codes "ref") (reference.0 i) (member (codes "s") (s.0 i) no_members))))),
    )

abbrev range : ℕ → ℕ × ℕ → IdRange
range s p = record { session = s; first = p.0; count = p.1 }

-- a commit, of a change that is an object and of the kind that it is called
commit_told : (x y a b c e f : Data) (h : Head) (said : SaidView) →
    HasHead (commit_object x y a b c e f) h → a ≡ string (kind_of x) → IsSome (as_object x) → commit_of h.session (commit_object x y a b c e f) x ≡ Some said → IsTold (commit_object x y a b c e f) h said
commit_told x y a b c e f h said has kind form is =
    let d : Data = commit_object x y a b c e f in
    let r = option_and_then-Some (λ (r : ℕ). option_map (λ (p : ℕ × ℕ). Commit r (range h.session p) x) (ids_of y)) (small_number e) said is in
    let p = option_map-Some (λ (p : ℕ × ℕ). Commit r.0 (range h.session p) x) (ids_of y) said r.2 in
    let ids = ids_are y p.0 p.1 in
    let min = small_is b h.min has.min in
    let n = small_is c h.n has.n in
    let reference = small_is e r.0 r.1 in
    let s = small_is f h.session has.session in
    subst (IsTold d h) p.2 (
      (reference.1, refl, ids.1, ids.2, form),
      λ spelled.
          λ i. object (member (codes "change") x (member (codes "ids") (ids.0 i) (member (codes "kind") (kind i) (member (codes "min") (min.0 i) (member (codes "n") (n.0 i) (member (codes "ref") (reference.0 i) (member (codes "s") (s.0 i) no_members))))))),
    )

-- an object with the member `schema` is an object
upgrade_object : (x : Data) → is_upgrade x ≡ true → IsSome (as_object x)
upgrade_object null e = absurd (cc)
upgrade_object (boolean b) e = absurd (cc)
upgrade_object (number n) e = absurd (cc)
upgrade_object (string s) e = absurd (cc)
upgrade_object (array ds) e = absurd (cc)
upgrade_object (object ms) e = refl

both_true : (a b : Bool) → (a && b) ≡ true → (a ≡ true) × (b ≡ true)
both_true true b e = (refl, e)
both_true false b e = absurd (cc)

is_false : (b : Bool) → not b ≡ true → b ≡ false
is_false true e = absurd (cc)
is_false false e = refl

edits_told : (x y a b c e f : Data) (h : Head) (said : SaidView) →
    HasHead (commit_object x y a b c e f) h → a ≡ string (codes "op") → edits_of h.session (commit_object x y a b c e f) ≡ Some said → IsTold (commit_object x y a b c e f) h said
edits_told x y a b c e f h said has kind is =
    let d : Data = commit_object x y a b c e f in
    let z = option_and_then-Some (commit_of h.session d) (edits_in x) said is in
    let one = if_some (is_some (as_object x) && not (is_upgrade x)) x z.0 z.1 in
    let parts = both_true (is_some (as_object x)) (not (is_upgrade x)) one.0 in
    let plain = is_false (is_upgrade x) parts.1 in
    commit_told x y a b c e f h said has (kind ∙ (λ i. string (if sym plain i then codes "schema" else codes "op"))) parts.0 (ap (commit_of h.session d) one.1 ∙ z.2)

upgrade_told : (x y a b c e f : Data) (h : Head) (said : SaidView) →
    HasHead (commit_object x y a b c e f) h → a ≡ string (codes "schema") → upgrade_of h.session (commit_object x y a b c e f) ≡ Some said → IsTold (commit_object x y a b c e f) h said
upgrade_told x y a b c e f h said has kind is =
    let d : Data = commit_object x y a b c e f in
    let z = option_and_then-Some (commit_of h.session d) (upgrade_in x) said is in
    let one = if_some (is_upgrade x) x z.0 z.1 in
    commit_told x y a b c e f h said has (kind ∙ (λ i. string (if sym one.0 i then codes "schema" else codes "op"))) (upgrade_object x one.0) (ap (commit_of h.session d) one.1 ∙ z.2)

-- ## Kinds

-- the first of two where a test holds, or the second
one_of : {A : Type 0} (a b : Bool) (x y : Option A) (v : A) (P : Type 0) → (if a && b then x else y) ≡ Some v → (a ≡ true → b ≡ true → x ≡ Some v → P) → (y ≡ Some v → P) → P
one_of true true x y v P e f g = f refl refl e
one_of true false x y v P e f g = g e
one_of false b x y v P e f g = g e

abbrev rest_schema : List ℕ → ℕ → Data → Option SaidView
rest_schema k s d = if same k (codes "schema") && is_named commit_names d then upgrade_of s d else None

abbrev rest_op : List ℕ → ℕ → Data → Option SaidView
rest_op k s d = if same k (codes "op") && is_named commit_names d then edits_of s d else rest_schema k s d

abbrev rest_ack : List ℕ → ℕ → Data → Option SaidView
rest_ack k s d = if same k (codes "ack") && is_named ack_names d then ack_of d else rest_op k s d

abbrev rest_leave : List ℕ → ℕ → Data → Option SaidView
rest_leave k s d = if same k (codes "leave") && is_named leave_names d then Some Leave else rest_ack k s d

-- the value is called by a word
abbrev IsCalled : List ℕ → Data → Type 0
IsCalled word d = member_of as_str (codes "kind") d ≡ Some word

abbrev IsNamed : List (List ℕ) → Data → Type 0
IsNamed names d = (ds : List Data) × (d ≡ object (with_names names ds))

by_join : (d : Data) (h : Head) (said : SaidView) → HasHead d h → IsCalled (codes "join") d → IsNamed join_names d → join_of d ≡ Some said → IsTold d h said
by_join d h said has called names e = let ds = names.0 in subst (λ v. HasHead v h → IsCalled (codes "join") v → join_of v ≡ Some said → IsTold v h said) (sym names.1)
    (λ has called e. join_told (first ds) (first (later ds)) (first (later (later ds))) (first (later (later (later ds)))) (first (later (later (later (later ds))))) h said has (is_string (first ds) (codes "join") called) e)
    has called e

by_leave : (d : Data) (h : Head) (said : SaidView) → HasHead d h → IsCalled (codes "leave") d → IsNamed leave_names d → Some Leave ≡ Some said → IsTold d h said
by_leave d h said has called names e = let ds = names.0 in subst (λ v. HasHead v h → IsCalled (codes "leave") v → IsTold v h said) (sym names.1)
    (λ has called. leave_told (first ds) (first (later ds)) (first (later (later ds))) (first (later (later (later ds)))) h said has (is_string (first ds) (codes "leave") called) e)
    has called

by_ack : (d : Data) (h : Head) (said : SaidView) → HasHead d h → IsCalled (codes "ack") d → IsNamed ack_names d → ack_of d ≡ Some said → IsTold d h said
by_ack d h said has called names e = let ds = names.0 in subst (λ v. HasHead v h → IsCalled (codes "ack") v → ack_of v ≡ Some said → IsTold v h said) (sym names.1)
    (λ has called e. ack_told (first ds) (first (later ds)) (first (later (later ds))) (first (later (later (later ds)))) (first (later (later (later (later ds))))) h said has (is_string (first ds) (codes "ack") called) e)
    has called e

by_edits : (d : Data) (h : Head) (said : SaidView) → HasHead d h → IsCalled (codes "op") d → IsNamed commit_names d → edits_of h.session d ≡ Some said → IsTold d h said
by_edits d h said has called names e = let ds = names.0 in subst (λ v. HasHead v h → IsCalled (codes "op") v → edits_of h.session v ≡ Some said → IsTold v h said) (sym names.1)
    (λ has called e. edits_told (first ds) (first (later ds)) (first (later (later ds))) (first (later (later (later ds)))) (first (later (later (later (later ds))))) (first (later (later (later (later (later ds)))))) (first (later (later (later (later (later (later ds))))))) h said has (is_string (first (later (later ds))) (codes "op") called) e)
    has called e

by_upgrade : (d : Data) (h : Head) (said : SaidView) → HasHead d h → IsCalled (codes "schema") d → IsNamed commit_names d → upgrade_of h.session d ≡ Some said → IsTold d h said
by_upgrade d h said has called names e = let ds = names.0 in subst (λ v. HasHead v h → IsCalled (codes "schema") v → upgrade_of h.session v ≡ Some said → IsTold v h said) (sym names.1)
    (λ has called e. upgrade_told (first ds) (first (later ds)) (first (later (later ds))) (first (later (later (later ds)))) (first (later (later (later (later ds))))) (first (later (later (later (later (later ds)))))) (first (later (later (later (later (later (later ds))))))) h said has (is_string (first (later (later ds))) (codes "schema") called) e)
    has called e

word_called : (d : Data) (k word : List ℕ) → IsCalled k d → same k word ≡ true → IsCalled word d
word_called d k word kind e = kind ∙ ap (λ (t : List ℕ). Some t) (text_same k word e)

kind_told : (d : Data) (k : List ℕ) (h : Head) (said : SaidView) → HasHead d h → IsCalled k d → said_named k h.session d ≡ Some said → IsTold d h said
kind_told d k h said has kind is =
    one_of (same k (codes "join")) (is_named join_names d) (join_of d) (rest_leave k h.session d) said (IsTold d h said) is (λ word names e. by_join d h said has (word_called d k (codes "join") kind word) (named_object join_names d names) e) (λ e.
    one_of (same k (codes "leave")) (is_named leave_names d) (Some Leave) (rest_ack k h.session d) said (IsTold d h said) e (λ word names e. by_leave d h said has (word_called d k (codes "leave") kind word) (named_object leave_names d names) e) (λ e.
    one_of (same k (codes "ack")) (is_named ack_names d) (ack_of d) (rest_op k h.session d) said (IsTold d h said) e (λ word names e. by_ack d h said has (word_called d k (codes "ack") kind word) (named_object ack_names d names) e) (λ e.
    one_of (same k (codes "op")) (is_named commit_names d) (edits_of h.session d) (rest_schema k h.session d) said (IsTold d h said) e (λ word names e. by_edits d h said has (word_called d k (codes "op") kind word) (named_object commit_names d names) e) (λ e.
    one_of (same k (codes "schema")) (is_named commit_names d) (upgrade_of h.session d) None said (IsTold d h said) e (λ word names e. by_upgrade d h said has (word_called d k (codes "schema") kind word) (named_object commit_names d names) e) (λ e. absurd (cc))))))

said_told : (d : Data) (h : Head) (said : SaidView) → head_of d ≡ Some h → said_of h.session d ≡ Some said → IsTold d h said
said_told d h said head e =
    let k = option_and_then-Some (λ (kind : List ℕ). said_named kind h.session d) (member_of as_str (codes "kind") d) said e in
    kind_told d k.0 h said (head_has d h head) k.1 k.2

-- ## Messages

-- a number of a member is below 2^32
member_low : (name : List ℕ) (d : Data) (n : ℕ) → member_of small_number name d ≡ Some n → n < 2 ^ 32
member_low name d n e = let x = option_and_then-Some small_number (get name d) n e in (small_is x.0 n x.2).1

abbrev IsWritten : Data → MessageView → Type 0
IsWritten d m = IsWithin m × (IsSpelled d m → d ≡ message_data m)

message_read : (d : Data) (m : MessageView) → message_of d ≡ Some m → IsWritten d m
message_read d m e =
    let h = option_and_then-Some (λ (h : Head). option_map (λ (said : SaidView). message_with h said) (said_of h.session d)) (head_of d) m e in
    let said = option_map-Some (λ (said : SaidView). message_with h.0 said) (said_of h.0.session d) m h.2 in
    let told = said_told d h.0 said.0 h.1 said.1 in
    let has = head_has d h.0 h.1 in
    subst (IsWritten d) said.2 (record { n = member_low (codes "n") d h.0.n has.n; min = member_low (codes "min") d h.0.min has.min; session = member_low (codes "s") d h.0.session has.session; said = told.0 }, told.1)

pub message_within : (d : Data) (m : MessageView) → message_of d ≡ Some m → IsWithin m
message_within d m e = (message_read d m e).0

pub message_same : (d : Data) (m : MessageView) → message_of d ≡ Some m → IsSpelled d m → d ≡ message_data m
message_same d m e = (message_read d m e).1
