-- Sublists of intents, and what a list that has room or new revisions says of them.
use Rattle.std.proofs.Common.{◌≢◌, ◌≤◌, Bool, true, false, cond, List, [], ◌∷◌, ◌++◌, length, filter, refl, sym, ap, ◌∙◌, inl, inr, arith}
use Rattle.st_ids.specs.Listing.{AreDistinct, Has}
use Rattle.st_ids.specs.declared.names.Rev.{Rev}
use Rattle.st_marks.specs.declared.intents.Intent.{Intent}
use Rattle.st_marks.specs.Document.{Document}
use Rattle.st_marks.specs.Extends.{no_more, item_gained, item_kept}
use Rattle.st_marks.specs.Intent.{group_cells}
use Rattle.st_marks.proofs.Members.{all-has, has-all, has-map, has-append, append_right, distinct-right, distinct-between}
use Rattle.st_log_laws.specs.Names.{HaveNewRevisions, revisions}
use Rattle.st_log_laws.specs.Turns.{IsSublist, HasRoom, cells_made}

pub sublist_itself : (As : List Intent) → IsSublist As As
sublist_itself [] = no_more
sublist_itself (N ∷ Ns) = item_kept refl (sublist_itself Ns)

pub sublist_none : (As : List Intent) → IsSublist [] As
sublist_none [] = no_more
sublist_none (N ∷ Ns) = item_gained (sublist_none Ns)

pub sublist_on : {As Bs Cs : List Intent} → IsSublist As Bs → IsSublist Bs Cs → IsSublist As Cs
sublist_on g no_more = g
sublist_on g (item_gained h) = item_gained (sublist_on g h)
sublist_on (item_gained g) (item_kept e h) = item_gained (sublist_on g h)
sublist_on (item_kept f g) (item_kept e h) = item_kept (f ∙ e) (sublist_on g h)

pub sublist_joined : {As Bs Cs Ds : List Intent} → IsSublist As Bs → IsSublist Cs Ds → IsSublist (As ++ Cs) (Bs ++ Ds)
sublist_joined no_more h = h
sublist_joined (item_gained g) h = item_gained (sublist_joined g h)
sublist_joined (item_kept e g) h = item_kept e (sublist_joined g h)

pub sublist_filtered : (p : Intent → Bool) (As : List Intent) → IsSublist (filter p As) As
sublist_filtered p [] = no_more
sublist_filtered p (N ∷ Ns) = elim (p N) as (λ b. IsSublist (cond b (N ∷ filter p Ns) (filter p Ns)) (N ∷ Ns)) [ true ↦ item_kept refl (sublist_filtered p Ns) | false ↦ item_gained (sublist_filtered p Ns) ]

-- ## What a list says of its sublists

pub has_longer : {As Bs : List Intent} → IsSublist As Bs → (N : Intent) → Has As N → Has Bs N
has_longer no_more N h = absurd h
has_longer (item_gained g) N h = inr (has_longer g N h)
has_longer (item_kept e g) N (inl q) = inl (sym e ∙ q)
has_longer (item_kept e g) N (inr h) = inr (has_longer g N h)

distinct_shorter : {K : Type 0} (key : Intent → K) {As Bs : List Intent} → IsSublist As Bs → AreDistinct key Bs → AreDistinct key As
distinct_shorter key no_more d = tt
distinct_shorter key (item_gained g) d = distinct_shorter key g d.1
distinct_shorter key (item_kept {x} {y} {xs = As} {ys = Bs} e g) d = (
  has-all (λ N. key N ≢ key x) As (λ N h q. all-has (λ N. key N ≢ key y) Bs N d.0 (has_longer g N h) (q ∙ ap key e)),
  distinct_shorter key g d.1,
)

pub new_shorter : (rs : List Rev) (As Bs : List Intent) → IsSublist As Bs → HaveNewRevisions rs Bs → HaveNewRevisions rs As
new_shorter rs As Bs g h = record { once = distinct_shorter (λ (N : Intent). N.rev) g h.once; new = λ N i. h.new N (has_longer g N i) }

fewer_cells : {As Bs : List Intent} → IsSublist As Bs → cells_made As ≤ cells_made Bs
fewer_cells no_more = omega arith
fewer_cells (item_gained g) = omega (arith, fewer_cells g)
fewer_cells (item_kept {x} {y} e g) = omega (arith, fewer_cells g, ap (λ (N : Intent). length (group_cells N)) e)

pub room_shorter : (D : Document) (As Bs : List Intent) → IsSublist As Bs → HasRoom D Bs → HasRoom D As
room_shorter D As Bs g room n = omega (arith, room n, fewer_cells g)

-- the revisions of the rest are new after the first ones
pub new_after : (rs : List Rev) (As Bs : List Intent) → HaveNewRevisions rs (As ++ Bs) → HaveNewRevisions (revisions As ++ rs) Bs
new_after rs As Bs h = record {
  once = distinct-right (λ (N : Intent). N.rev) As Bs h.once;
  new = λ N i j. elim (has-append (revisions As) rs N.rev j) [
    | inl k ↦ (let m = has-map (λ (N : Intent). N.rev) As N.rev k in distinct-between (λ (N : Intent). N.rev) As Bs m.0 N h.once m.1 i (sym m.2))
    | inr k ↦ h.new N (append_right As Bs N i) k
  ];
}
