-- What finalising a range does to the clusters.
use Rattle.std.specs.Prelude.{◌≡◌, ◌+◌, ◌-◌, Bool, true, false, Option, Some, None, Result, Ok, Err, slice_set, if◌then◌else◌}
use Rattle.std.proofs.Common.{sym, ◌∙◌, ap}
use Rattle.st_clusters.specs.Table.{Ids, session_of, is_next, on_session, raise_to, with_range, after_finalising}
use Rattle.st_clusters.specs.declared.ids.IdFault.{IdFault}
use Rattle.st_clusters.specs.declared.ids.IdFault.TheVariants.{RangeOrder}
use Rattle.st_clusters.specs.declared.ids.IdRange.{IdRange}
use Rattle.st_clusters.specs.declared.ids.SessionIds.{SessionIds}

-- the table after a range that is the next one of a session, or not
abbrev after_next : IdRange → Ids → SessionIds → Bool → Result Ids IdFault
after_next r t x next = if next
    then Ok (record { sessions = slice_set t.sessions (r.session - 1) (raise_to x (x.finalised + r.count)); clusters = with_range r t.clusters })
    else Err (RangeOrder (x.finalised + 1))

next_clusters : (r : IdRange) (t u : Ids) (x : SessionIds) (next : Bool) → after_next r t x next ≡ Ok u → u.clusters ≡ with_range r t.clusters
next_clusters r t u x true e = cc
next_clusters r t u x false e = absurd (cc)

in_session : (r : IdRange) (t u : Ids) (o : Option SessionIds) → on_session o (λ x. after_next r t x (is_next r x)) ≡ Ok u → u.clusters ≡ with_range r t.clusters
in_session r t u None e = absurd (cc)
in_session r t u (Some x) e = next_clusters r t u x (is_next r x) e

clusters_after : (r : IdRange) (t u : Ids) → after_finalising r t ≡ Ok u → u.clusters ≡ with_range r t.clusters
clusters_after r t u e = in_session r t u (session_of t.sessions r.session) e

pub finalised_alike : (r : IdRange) (t u v w : Ids) → t.clusters ≡ v.clusters → after_finalising r t ≡ Ok u → after_finalising r v ≡ Ok w → u.clusters ≡ w.clusters
finalised_alike r t u v w e f g = clusters_after r t u f ∙ ap (with_range r) e ∙ sym (clusters_after r v w g)
