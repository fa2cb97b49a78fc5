-- What is read of a value as a table: its clusters and its sessions, and the table that ranges which give these clusters lead to.
use Rattle.std.specs.Prelude.{◌≡◌, ℕ, ◌+◌, ◌-◌, ◌^◌, ◌==◌, ◌&&◌, Bool, nat_lt, nat_eq, min, List, [], ◌∷◌, length, Option, Some, None, option_and_then, if◌then◌else◌, codes}
use Rattle.std.specs.Cmp.Lexicographic.{pointwise}
use Rattle.std.specs.Int.{w128, from_be_bytes}
use Rattle.std.specs.Option.{option_map}
use Rattle.std.specs.Result.{result_ok}
use Rattle.serde_json.specs.Data.{Data, Items, no_items, item, Members, no_members, member}
use Rattle.serde_json.specs.Find.{as_array, as_object, as_str, as_number, as_u64}
use Rattle.uuid.specs.Text.{parsed}
use Rattle.st_clusters.specs.Table.{Ids, after_joining, after_finalising}
use Rattle.st_clusters.specs.declared.ids.Cluster.{Cluster}
use Rattle.st_clusters.specs.declared.ids.IdRange.{IdRange}
use Rattle.st_idcodec.specs.OpText.{place_number}
use Rattle.st_idcodec.specs.TableText.{uuid_text}
use Rattle.st_clusters.specs.Reached.{no_ids}

abbrev pub same : List ℕ → List ℕ → Bool
same s t = pointwise nat_eq s t

-- ## The parts of the value

-- the number that a value is, below 2^64
abbrev pub wide_number : Data → Option ℕ
wide_number d = option_and_then as_u64 (as_number d)

abbrev pub cluster_of_numbers : Data → Data → Data → Data → Data → Option Cluster
cluster_of_numbers a b c d e =
    option_and_then (λ s. option_and_then (λ f. option_and_then (λ n. option_and_then (λ k. option_map (λ u.
    record { session = s; first = f; first_final = n; capacity = k; used = u }) (place_number e)) (wide_number d)) (wide_number c)) (place_number b)) (place_number a)

-- a cluster of five numbers
abbrev pub cluster_in : Items → Option Cluster
cluster_in no_items = None
cluster_in (item a no_items) = None
cluster_in (item a (item b no_items)) = None
cluster_in (item a (item b (item c no_items))) = None
cluster_in (item a (item b (item c (item d no_items)))) = None
cluster_in (item a (item b (item c (item d (item e no_items))))) = cluster_of_numbers a b c d e
cluster_in (item a (item b (item c (item d (item e (item f ds)))))) = None

abbrev pub cluster_of : Data → Option Cluster
cluster_of d = option_and_then cluster_in (as_array d)

abbrev pub clusters_of : Items → Option (List Cluster)
clusters_of no_items = Some []
clusters_of (item d ds) = option_and_then (λ c. option_map (λ cs. c ∷ cs) (clusters_of ds)) (cluster_of d)

-- the number of a UUID whose text is in lower case with hyphens
abbrev pub with_text : List ℕ → ℕ → Option ℕ
with_text s u = if nat_lt u (2 ^ 128) && same (uuid_text u) s then Some u else None

abbrev pub uuid_of_text : List ℕ → Option ℕ
uuid_of_text s = option_and_then (with_text s) (option_map (from_be_bytes w128) (parsed s))

abbrev pub uuid_of : Data → Option ℕ
uuid_of d = option_and_then uuid_of_text (as_str d)

-- the items of the two members
abbrev pub both_items : Data → Data → Option (Items × Items)
both_items x y = option_and_then (λ ds. option_map (λ es. (ds, es)) (as_array y)) (as_array x)

abbrev pub items_in : Members → Option (Items × Items)
items_in no_members = None
items_in (member k x no_members) = None
items_in (member k x (member l y no_members)) = if same k (codes "clusters") && same l (codes "uuids") then both_items x y else None
items_in (member k x (member l y (member m z ms))) = None

abbrev pub table_items : Data → Option (Items × Items)
table_items d = option_and_then items_in (as_object d)

-- ## The table that they lead to

-- a session joins with a UUID, where there are fewer than 65,535
abbrev pub after_uuid : ℕ → Ids → Option Ids
after_uuid u t = if nat_lt (length t.sessions) 65535 then option_map (λ p. p.1) (result_ok (after_joining u t)) else None

abbrev pub after_uuid_value : Data → Ids → Option Ids
after_uuid_value d t = option_and_then (λ u. after_uuid u t) (uuid_of d)

abbrev pub after_uuids : Items → Ids → Option Ids
after_uuids no_items t = Some t
after_uuids (item d ds) t = option_and_then (λ u. after_uuids ds u) (after_uuid_value d t)

-- how many ids the first range of a cluster has: all where it is full, and else those before it grew last
abbrev pub part : Cluster → ℕ
part c = if c.used == c.capacity then c.used else min (c.capacity - 512) c.used

-- two ranges that give a cluster
abbrev pub front_of : Cluster → IdRange
front_of c = record { session = c.session; first = c.first; count = part c }

abbrev pub rest_of : Cluster → IdRange
rest_of c = record { session = c.session; first = min (c.first + part c) (2 ^ 32 - 1); count = c.used - part c }

abbrev pub after_range : IdRange → Ids → Option Ids
after_range r t = result_ok (after_finalising r t)

abbrev pub after_cluster : Cluster → Ids → Option Ids
after_cluster c t = option_and_then (λ u. after_range (rest_of c) u) (after_range (front_of c) t)

abbrev pub after_clusters : List Cluster → Ids → Option Ids
after_clusters [] t = Some t
after_clusters (c ∷ cs) t = option_and_then (λ u. after_clusters cs u) (after_cluster c t)

-- the sessions, and then the ids of the clusters
abbrev pub led_to : Items → List Cluster → Option Ids
led_to us cs = option_and_then (λ t. after_clusters cs t) (after_uuids us no_ids)

-- a value is read as a table: the sessions and the ids of its clusters lead to it, and it has these clusters
pub record IsRead (d : Data) (t : Ids) : Type 0 where
  pub clusters : Items
  pub uuids : Items
  pub parts : table_items d ≡ Some (clusters, uuids)
  pub read : clusters_of clusters ≡ Some t.clusters
  pub led : led_to uuids t.clusters ≡ Some t
