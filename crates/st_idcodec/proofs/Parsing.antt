-- Values that are read.
use Rattle.std.proofs.Common.{◌≡◌, ◌<◌, ◌≤◌, ℕ, true, false, true≢false, sym, subst, ap, ◌∙◌, List, [], ◌∷◌, length, refl, arith, Option, Some, None}
use Rattle.std.proofs.lemmas.Bool.Decides.{nat_tests}
use Rattle.std.specs.Bool.{Decides}
use Rattle.std.specs.Prelude.{◌==◌, ◌&&◌}
use Rattle.std.specs.Int.{w128, from_be_bytes}
use Rattle.serde_json.specs.View.{items_view}
use Rattle.serde_json.specs.declared.value.Value.{Value}
use Rattle.uuid.specs.Text.{parsed}
use Rattle.st_clusters.specs.declared.ids.Cluster.{Cluster}
use Rattle.st_idcodec.specs.inside.Reading.{cluster_in, with_text, uuid_of_text}

pub few_values : (vs : List Value) → length vs < 5 → ◌≡◌ {A = Option Cluster} None (cluster_in (items_view vs))
few_values [] h = refl
few_values (a ∷ []) h = refl
few_values (a ∷ b ∷ []) h = refl
few_values (a ∷ b ∷ c ∷ []) h = refl
few_values (a ∷ b ∷ c ∷ d ∷ []) h = refl
few_values (a ∷ b ∷ c ∷ d ∷ e ∷ vs) h = absurd (omega (arith, h))

pub many_values : (vs : List Value) → 6 ≤ length vs → ◌≡◌ {A = Option Cluster} None (cluster_in (items_view vs))
many_values [] h = absurd (omega (arith, h))
many_values (a ∷ []) h = absurd (omega (arith, h))
many_values (a ∷ b ∷ []) h = absurd (omega (arith, h))
many_values (a ∷ b ∷ c ∷ []) h = absurd (omega (arith, h))
many_values (a ∷ b ∷ c ∷ d ∷ []) h = absurd (omega (arith, h))
many_values (a ∷ b ∷ c ∷ d ∷ e ∷ []) h = absurd (omega (arith, h))
many_values (a ∷ b ∷ c ∷ d ∷ e ∷ f ∷ vs) h = refl

pub none_parsed : {A : Type 0} (o : Option A) → ((u : A) × (o ≡ Some u) → false ≡ true) → o ≡ None
none_parsed None h = refl
none_parsed (Some u) h = absurd (true≢false (sym (h (u, refl))))

abbrev cluster_with : ℕ → ℕ → ℕ → ℕ → ℕ → Cluster
cluster_with s f n k u = record { session = s; first = f; first_final = n; capacity = k; used = u }

of_five : (s f n k u t g m l v : ℕ) → (s ≡ t) × (f ≡ g) × (n ≡ m) × (k ≡ l) × (u ≡ v) → cluster_with s f n k u ≡ cluster_with t g m l v
of_five s f n k u t g m l v h = rw (h.0, h.1, h.2, h.3, h.4) refl

-- clusters with the same five numbers
pub cluster_same : (a b : Cluster) → (a.session ≡ b.session) × (a.first ≡ b.first) × (a.first_final ≡ b.first_final) × (a.capacity ≡ b.capacity) × (a.used ≡ b.used) → a ≡ b
cluster_same a b h = of_five a.session a.first a.first_final a.capacity a.used b.session b.first b.first_final b.capacity b.used h

all_same : (s f n k u : ℕ) → ((s == s) && ((f == f) && ((n == n) && ((k == k) && (u == u))))) ≡ true
all_same s f n k u = grind (arith, nat_tests)

-- `==` of clusters is equality
pub clusters_decide : (a b : Cluster) → Decides ((a.session == b.session) && ((a.first == b.first) && ((a.first_final == b.first_final) && ((a.capacity == b.capacity) && (a.used == b.used))))) (a ≡ b)
clusters_decide a b = (
  λ e. cluster_same a b (grind (arith, nat_tests, e), grind (arith, nat_tests, e), grind (arith, nat_tests, e), grind (arith, nat_tests, e), grind (arith, nat_tests, e)),
  λ e. subst (λ (x : Cluster). ((a.session == x.session) && ((a.first == x.first) && ((a.first_final == x.first_final) && ((a.capacity == x.capacity) && (a.used == x.used))))) ≡ true) e (all_same a.session a.first a.first_final a.capacity a.used),
)

pub text_read : (s xs : List ℕ) (u : ℕ) (r : Option ℕ) → Some xs ≡ parsed s → u ≡ from_be_bytes w128 xs → r ≡ with_text s u → r ≡ uuid_of_text s
text_read s xs u r form number made = rw (sym form) (made ∙ ap (with_text s) number)
