-- The JSON form of a table of ids.
use Rattle.std.specs.Prelude.{ℕ, List, map, codes}
use Rattle.std.specs.Int.{w128, to_be_bytes}
use Rattle.serde_json.specs.Data.{Data, number, unsigned, string, array, object, no_items, item, no_members, member}
use Rattle.serde_json.specs.View.{items_of}
use Rattle.uuid.specs.Text.{hyphenated_text, lower}
use Rattle.st_clusters.specs.Table.{Ids}
use Rattle.st_clusters.specs.declared.ids.Cluster.{Cluster}
use Rattle.st_clusters.specs.declared.ids.SessionIds.{SessionIds}

abbrev pub plain_number : ℕ → Data
plain_number n = number (unsigned n)

-- a cluster: its session, first num, first final number, capacity, and how much is used
abbrev pub cluster_data : Cluster → Data
cluster_data c = array (item (plain_number c.session) (item (plain_number c.first) (item (plain_number c.first_final) (item (plain_number c.capacity) (item (plain_number c.used) no_items)))))

-- a UUID in lower case with hyphens
abbrev pub uuid_text : ℕ → List ℕ
uuid_text u = hyphenated_text lower (to_be_bytes w128 u)

abbrev pub uuid_data : SessionIds → Data
uuid_data x = string (uuid_text x.uuid)

-- the clusters, and the UUIDs of the sessions, both in order
abbrev pub table_data : Ids → Data
table_data t = object (member (codes "clusters") (array (items_of (map cluster_data t.clusters))) (member (codes "uuids") (array (items_of (map uuid_data t.sessions))) no_members))
