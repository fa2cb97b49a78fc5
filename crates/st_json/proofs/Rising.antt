-- What is read of a text has each object's members in rising order of their names.
use Rattle.std.proofs.Common.{◌≡◌, ℕ, List, [], ◌∷◌, Option, Some, None, option_map, option_and_then, ap, ◌∙◌, Ordering, Less, Equal, Greater, IsTrue, refl, subst}
use Rattle.std.specs.Prelude.{⊤}
use Rattle.std.specs.Ordering.{nat_cmp, match_ordering, is_lt, ordering_reverse}
use Rattle.std.specs.Cmp.Lexicographic.{slice_cmp}
use Rattle.std.proofs.lemmas.Cmp.{nat_list_cmp_total}
use Rattle.json.specs.Token.{Token}
use Rattle.json.specs.Lex.{tokens}
use Rattle.json.specs.Json as json
use Rattle.serde_json.specs.Data.{Data, number, array, object, item, Members, no_members, member, put}
use Rattle.serde_json.specs.Read.{number_of, of_json, of_items, of_members, max_depth, read}
use Rattle.st_json.specs.Order.{is_before, NamesRise, ItemsRise, MembersRise}

-- a fact of the value, if there is one
abbrev pub Holds : {A : Type 0} → (A → Type 0) → Option A → Type 0
Holds P None = ⊤
Holds P (Some a) = P a

pub Holds-map : {A B : Type 0} (P : A → Type 0) (Q : B → Type 0) (h : A → B) → ((a : A) → P a → Q (h a)) → (o : Option A) → Holds P o → Holds Q (option_map h o)
Holds-map P Q h k None x = tt
Holds-map P Q h k (Some a) x = k a x

pub Holds-and_then : {A B : Type 0} (P : A → Type 0) (Q : B → Type 0) (h : A → Option B) → ((a : A) → P a → Holds Q (h a)) → (o : Option A) → Holds P o → Holds Q (option_and_then h o)
Holds-and_then P Q h k None x = tt
Holds-and_then P Q h k (Some a) x = k a x

always : {A : Type 0} (o : Option A) → Holds (λ _. ⊤) o
always None = tt
always (Some a) = tt

before-put_at : (o : Ordering) (k l m : List ℕ) (d e : Data) (ms : Members) → IsTrue (is_lt (slice_cmp nat_cmp k l)) → IsTrue (is_lt (slice_cmp nat_cmp k m))
    → IsTrue (is_before k (match_ordering o (member l d (member m e ms)) (member m d ms) (member m e (put l d ms))))
before-put_at Less k l m d e ms p q = p
before-put_at Equal k l m d e ms p q = q
before-put_at Greater k l m d e ms p q = q

-- a name before the new member and before the others is before all of them
before-put : (k l : List ℕ) (d : Data) (ms : Members) → IsTrue (is_lt (slice_cmp nat_cmp k l)) → IsTrue (is_before k ms) → IsTrue (is_before k (put l d ms))
before-put k l d no_members p q = p
before-put k l d (member m e ms) p q = before-put_at (slice_cmp nat_cmp l m) k l m d e ms p q

rises-put_at : (o : Ordering) (k l : List ℕ) (d e : Data) (ms : Members) → slice_cmp nat_cmp k l ≡ o → NamesRise d → MembersRise (member l e ms) → MembersRise (put k d ms)
    → MembersRise (match_ordering o (member k d (member l e ms)) (member l d ms) (member l e (put k d ms)))
rises-put_at Less k l d e ms is p q r = (ap is_lt is, p, q)
rises-put_at Equal k l d e ms is p q r = (q.0, p, q.2)
rises-put_at Greater k l d e ms is p q r = (before-put l k d ms (ap is_lt (nat_list_cmp_total.antisymm l k ∙ ap ordering_reverse is)) q.0, q.1, r)

rises-put : (k : List ℕ) (d : Data) (ms : Members) → NamesRise d → MembersRise ms → MembersRise (put k d ms)
rises-put k d no_members p q = (refl, p, tt)
rises-put k d (member l e ms) p q = rises-put_at (slice_cmp nat_cmp k l) k l d e ms refl p q (rises-put k d ms p q.2)

mutual
  rises-of_json : (j : json.Json) → Holds NamesRise (of_json j)
  rises-of_json json.null = tt
  rises-of_json (json.boolean b) = tt
  rises-of_json (json.number s) = Holds-map (λ _. ⊤) NamesRise number (λ a x. tt) (number_of s) (always _)
  rises-of_json (json.string s) = tt
  rises-of_json (json.array js) = Holds-map ItemsRise NamesRise array (λ a x. x) _ (rises-of_items js)
  rises-of_json (json.object ms) = Holds-map MembersRise NamesRise object (λ a x. x) _ (rises-of_members ms no_members tt)

  rises-of_items : (js : json.Items) → Holds ItemsRise (of_items js)
  rises-of_items json.no_items = tt
  rises-of_items (json.item j js) = Holds-and_then NamesRise ItemsRise _ (λ d x. Holds-map ItemsRise ItemsRise (item d) (λ ds y. (x, y)) _ (rises-of_items js)) _ (rises-of_json j)

  rises-of_members : (ms : json.Members) (found : Members) → MembersRise found → Holds MembersRise (of_members ms found)
  rises-of_members json.no_members found p = p
  rises-of_members (json.member name j ms) found p = Holds-and_then NamesRise MembersRise _ (λ d x. rises-of_members ms (put name d found) (rises-put name d found x p)) _ (rises-of_json j)

last_rises : (o : Option (json.Json × List Token)) → Holds NamesRise (option_and_then of_json (option_and_then (λ p. json.if_last p.0 p.1) o))
last_rises None = tt
last_rises (Some (j, [])) = rises-of_json j
last_rises (Some (j, t ∷ r)) = tt

-- a value that was read has its names in order
pub read_rises : (text : List ℕ) (d : Data) → read text ≡ Some d → NamesRise d
read_rises text d is = subst (Holds NamesRise) is (last_rises (json.value max_depth (tokens text)))
