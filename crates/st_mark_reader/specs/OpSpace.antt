-- Names in op space, as the author of a message saw the table of ids: an id is told by its final number, and where it has none
-- and the author's session generated it, by the negative of its own number. A revision is that number, an atom the number and
-- the place.
use Rattle.std.specs.Prelude.{ℕ, ℤ, pos, negsuc, ◌+◌, ◌-◌, ◌==◌, ◌&&◌, nat_le, nat_lt, not, Bool, List, [], ◌∷◌, is_some, Option, None, Some, option_and_then, option_map, if◌then◌else◌}
use Rattle.serde_json.specs.Data.{Data, null}
use Rattle.st_ids.specs.Root.{opening}
use Rattle.st_ids.specs.declared.names.Rev.{Rev}
use Rattle.st_clusters.specs.Names.{is_later}
use Rattle.st_clusters.specs.declared.at.At.{At}
use Rattle.st_clusters.specs.declared.ids.Cluster.{Cluster}
use Rattle.st_clusters.specs.declared.ids.IdRange.{IdRange}
use Rattle.serde_json.specs.Find.{as_array}
use Rattle.st_schema.specs.Reading.{two_in}
use Rattle.st_idcodec.specs.OpText.{atom_data, rev_data, rev_number}
use Rattle.st_mark_reader.specs.Naming.{NameForm, Naming}
use Rattle.st_mark_reader.specs.Reading.{small_number}

-- ## The number of an id

abbrev pub is_opening : Rev → Bool
is_opening r = (r.session == 0) && (r.num == 0)

-- whether a cluster has an id, and its final number there
abbrev pub has_id : Rev → Cluster → Bool
has_id r c = (c.session == r.session) && (nat_le c.first r.num && nat_lt r.num (c.first + c.used))

abbrev pub number_in : Rev → Cluster → ℕ
number_in r c = c.first_final + (r.num - c.first)

abbrev pub number_of : Rev → List Cluster → Option ℕ
number_of r [] = None
number_of r (c ∷ cs) = if has_id r c then Some (number_in r c) else number_of r cs

-- the final number of an id where the ids of the later ranges have none yet
abbrev pub final_before : List Cluster → List IdRange → Rev → Option ℕ
final_before cs later r = if is_opening r then Some 0 else if is_later later r then None else number_of r cs

-- whether a session has generated an id
abbrev pub is_own : ℕ → ℕ → Rev → Bool
is_own own have r = (r.session == own) && (nat_le 1 r.num && nat_le r.num have)

abbrev pub number_or_own : Option ℕ → Bool → Rev → Option ℤ
number_or_own (Some n) b r = Some (pos n)
number_or_own None b r = if b then Some (negsuc (r.num - 1)) else None

abbrev pub op_number_in : List Cluster → List IdRange → ℕ → ℕ → Rev → Option ℤ
op_number_in cs later own have r = number_or_own (final_before cs later r) (is_own own have r) r

-- the op-space number of an id
abbrev pub op_number : At → Rev → Option ℤ
op_number a r = op_number_in a.ids.now.clusters.items a.later.now a.own a.have r

-- ## The id of a number

-- the id to which a cluster gives a final number
abbrev pub id_in : ℕ → Cluster → Rev
id_in n c = record { session = c.session; num = c.first + (n - c.first_final) }

-- whether a cluster gives that number, to an id that isn't of a later range
abbrev pub gives : ℕ → List IdRange → Cluster → Bool
gives n later c = (nat_le c.first_final n && nat_lt n (c.first_final + c.used)) && not (is_later later (id_in n c))

abbrev pub given_by : ℕ → List IdRange → List Cluster → Option Rev
given_by n later [] = None
given_by n later (c ∷ cs) = if gives n later c then Some (id_in n c) else given_by n later cs

-- an own id, as long as it has no final number
abbrev pub own_id : List Cluster → List IdRange → ℕ → Rev → Option Rev
own_id cs later have r = if nat_le r.num have && not (is_some (final_before cs later r)) then Some r else None

abbrev pub op_id_in : List Cluster → List IdRange → ℕ → ℕ → ℤ → Option Rev
op_id_in cs later own have (pos n) = if n == 0 then Some opening else given_by n later cs
op_id_in cs later own have (negsuc k) = own_id cs later have (record { session = own; num = k + 1 })

-- the id that has an op-space number
abbrev pub op_id : At → ℤ → Option Rev
op_id a z = op_id_in a.ids.now.clusters.items a.later.now a.own a.have z

-- ## Names

-- a name that has no number is told as null
abbrev pub number_or_null : Option ℤ → (ℤ → Data) → Data
number_or_null None f = null
number_or_null (Some z) f = f z

abbrev pub op_naming : At → Naming
op_naming a = record { rev = λ r. number_or_null (op_number a r) rev_data; atom = λ x. number_or_null (op_number a x.rev) (λ z. atom_data z x.at) }

-- the two numbers that an array is: that of a revision, and a place
abbrev pub atom_numbers : Data → Option (ℤ × ℕ)
atom_numbers d = option_and_then (λ p. option_and_then (λ z. option_map (λ n. (z, n)) (small_number p.1)) (rev_number p.0)) (option_and_then two_in (as_array d))

abbrev pub op_form : At → NameForm
op_form a = record {
  rev = λ d. option_and_then (op_id a) (rev_number d);
  atom = λ d. option_and_then (λ p. option_map (λ r. record { rev = r; at = p.1 }) (op_id a p.0)) (atom_numbers d);
}

-- any number told as a name, by its form alone: all revisions are taken for one
abbrev pub any_form : NameForm
any_form = record {
  rev = λ d. option_map (λ z. opening) (rev_number d);
  atom = λ d. option_map (λ p. record { rev = opening; at = p.1 }) (atom_numbers d);
}
