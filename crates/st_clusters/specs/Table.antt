-- The table of ids: what each session has generated, taken and finalised, and the clusters that give final numbers.
use Rattle.std.specs.Prelude.{ℕ, ◌+◌, ◌-◌, Bool, ◌==◌, ◌&&◌, nat_le, nat_lt, max, List, [], ◌∷◌, ◌++◌, length, slice_get, slice_set, slice_index_or, Option, Some, None, Result, Ok, Err, if◌then◌else◌}
use Rattle.std.specs.List.{position, fold}
use Rattle.std.specs.Option.{option_map}
use Rattle.st_clusters.specs.Free.{is_v4, free_number, spans_meet}
use Rattle.st_clusters.specs.declared.ids.Cluster.{Cluster}
use Rattle.st_clusters.specs.declared.ids.IdRange.{IdRange}
use Rattle.st_clusters.specs.declared.ids.SessionIds.{SessionIds}
use Rattle.st_clusters.specs.declared.ids.IdFault.{IdFault}
use Rattle.st_clusters.specs.declared.ids.IdFault.TheVariants.{Session, Full, RangeOrder, NotV4, Clash}

-- the sessions in order, of which the first has number 1, and the clusters in order
pub record Ids : Type 0 where
  pub sessions : List SessionIds
  pub clusters : List Cluster

-- how many ids a session can have
abbrev pub most_ids : ℕ
most_ids = 4294967294

-- ## Clusters

abbrev pub no_cluster : Cluster
no_cluster = record { session = 0; first = 0; first_final = 0; capacity = 0; used = 0 }

-- the cluster at a place, counted from 0
abbrev pub at : List Cluster → ℕ → Cluster
at cs i = slice_index_or cs i no_cluster

-- how many more ids a cluster takes
abbrev pub room : Cluster → ℕ
room c = c.capacity - c.used

-- the places of a session's clusters, in order, where the first of the clusters stands at i
abbrev pub places_from : ℕ → ℕ → List Cluster → List ℕ
places_from s i [] = []
places_from s i (c ∷ cs) = if c.session == s then i ∷ places_from s (i + 1) cs else places_from s (i + 1) cs

abbrev pub places_of : ℕ → List Cluster → List ℕ
places_of s cs = places_from s 0 cs

abbrev pub last_of : List ℕ → Option ℕ
last_of ps = slice_get ps (length ps - 1)

-- the next free number: the end of the last cluster, and 1 in the beginning
abbrev pub next_free : List Cluster → ℕ
next_free [] = 1
next_free (c ∷ cs) = (at (c ∷ cs) (length cs)).first_final + (at (c ∷ cs) (length cs)).capacity

-- how much a cluster grows by, or a new one begins with, for ids that have no room
abbrev pub growth : ℕ → ℕ
growth rest = max 512 rest

-- a cluster with n more ids in its room
abbrev pub with_more : Cluster → ℕ → Cluster
with_more c n = record c { used = c.used + n }

-- a cluster that grows for n more ids
abbrev pub with_growth : Cluster → ℕ → Cluster
with_growth c n = record c { capacity = c.capacity + growth (n - room c); used = c.used + n }

-- a new cluster behind the others, for the n ids of a session from the first on
abbrev pub new_cluster : List Cluster → ℕ → ℕ → ℕ → Cluster
new_cluster cs s first n = record { session = s; first = first; first_final = next_free cs; capacity = growth n; used = n }

-- the ids of a range go into the room of its session's last cluster, at place i. For a rest that cluster grows
-- where it is the last of the table, and else a new one begins
abbrev pub put_at : IdRange → List Cluster → ℕ → List Cluster
put_at r cs i =
    if nat_le r.count (room (at cs i)) then slice_set cs i (with_more (at cs i) r.count)
    else if i + 1 == length cs then slice_set cs i (with_growth (at cs i) r.count)
    else slice_set cs i (with_more (at cs i) (room (at cs i)))
    ++ new_cluster cs r.session (r.first + room (at cs i)) (r.count - room (at cs i)) ∷ []

-- a session without a cluster begins one
abbrev pub put_range : IdRange → List Cluster → Option ℕ → List Cluster
put_range r cs None = cs ++ new_cluster cs r.session r.first r.count ∷ []
put_range r cs (Some i) = put_at r cs i

-- the clusters with a range of the log added
abbrev pub with_range : IdRange → List Cluster → List Cluster
with_range r cs = if r.count == 0 then cs else put_range r cs (last_of (places_of r.session cs))

-- the table of final numbers: the ranges of the log, one after the other
abbrev pub table_of : List IdRange → List Cluster
table_of rs = fold (λ cs r. with_range r cs) [] rs

-- ## Sessions

abbrev pub no_session : SessionIds
no_session = record { uuid = 0; generated = 0; taken = 0; finalised = 0 }

-- the session of a number
abbrev pub session_of : List SessionIds → ℕ → Option SessionIds
session_of ss s = if s == 0 then None else slice_get ss (s - 1)

abbrev pub with_session : Ids → ℕ → SessionIds → Ids
with_session t s x = record t { sessions = slice_set t.sessions (s - 1) x }

-- what is done to a session, if there is one of that number
abbrev pub on_session : {A : Type 0} → Option SessionIds → (SessionIds → Result A IdFault) → Result A IdFault
on_session None f = Err Session
on_session (Some x) f = f x

-- the session gets one more id
abbrev pub after_generating : ℕ → Ids → Result (ℕ × Ids) IdFault
after_generating s t = on_session (session_of t.sessions s) (λ x. if nat_lt x.generated most_ids
    then Ok (x.generated + 1, with_session t s (record x { generated = x.generated + 1 })) else Err Full)

-- the ids that the session generated and didn't take yet are taken
abbrev pub after_taking : ℕ → Ids → Result (IdRange × Ids) IdFault
after_taking s t = on_session (session_of t.sessions s) (λ x.
    Ok (record { session = s; first = x.taken + 1; count = x.generated - x.taken }, with_session t s (record x { taken = x.generated })))

-- the ids that the session took are those that are finalised
abbrev pub after_rewinding : ℕ → Ids → Result Ids IdFault
after_rewinding s t = on_session (session_of t.sessions s) (λ x. Ok (with_session t s (record x { taken = x.finalised })))

-- whether a range is the next one of a session
abbrev pub is_next : IdRange → SessionIds → Bool
is_next r x = (r.first == x.finalised + 1) && nat_le (x.finalised + r.count) most_ids

-- a session whose ids are finalised up to a number
abbrev pub raise_to : SessionIds → ℕ → SessionIds
raise_to x n = record x { generated = max x.generated n; taken = max x.taken n; finalised = n }

-- the ids of a range are finalised
abbrev pub after_finalising : IdRange → Ids → Result Ids IdFault
after_finalising r t = on_session (session_of t.sessions r.session) (λ x. if is_next r x
    then Ok (record { sessions = slice_set t.sessions (r.session - 1) (raise_to x (x.finalised + r.count)); clusters = with_range r t.clusters })
    else Err (RangeOrder (x.finalised + 1)))

-- the place, counted from 0, of the first session whose span meets that of a UUID
abbrev pub session_meeting : ℕ → List SessionIds → Option ℕ
session_meeting uuid ss = position (λ (x : SessionIds). spans_meet (free_number x.uuid) (free_number uuid)) ss

-- the number of that session
abbrev pub clash : ℕ → List SessionIds → Option ℕ
clash uuid ss = option_map (λ i. i + 1) (session_meeting uuid ss)

abbrev pub new_session : ℕ → SessionIds
new_session uuid = record { uuid = uuid; generated = 0; taken = 0; finalised = 0 }

abbrev pub join_unless : ℕ → Ids → Option ℕ → Result (ℕ × Ids) IdFault
join_unless uuid t (Some s) = Err (Clash s)
join_unless uuid t None = Ok (length t.sessions + 1, record t { sessions = t.sessions ++ new_session uuid ∷ [] })

-- a session with that UUID joins
abbrev pub after_joining : ℕ → Ids → Result (ℕ × Ids) IdFault
after_joining uuid t = if is_v4 uuid then join_unless uuid t (clash uuid t.sessions) else Err NotV4
