-- One change has one intent in order.
use Rattle.std.proofs.Common.{◌≡◌, Option, None, Some, List, refl, sym, ap, ◌∙◌}
use Rattle.std.specs.Cmp.{IsTotalOrder}
use Rattle.std.specs.declared.cmp.Ordering.{Ordering}
use Rattle.std.proofs.lemmas.Map.Lookups.{CmpEqualImpliesEq}
use Rattle.st_ids.specs.Listing.{Has, IsRising, item_of}
use Rattle.st_ids.specs.Order.{field_cmp, node_cmp}
use Rattle.st_ids.specs.declared.names.FieldId.{FieldId}
use Rattle.st_ids.specs.declared.names.NodeId.{NodeId}
use Rattle.st_ids.proofs.Listings.{has-item_of, item_of-has}
use Rattle.st_ids.proofs.Orders.{field_cmp_exact, field_cmp_total, node_cmp_exact, node_cmp_total, same_listing}
use Rattle.st_marks.specs.declared.changes.Change.{Change}
use Rattle.st_marks.specs.declared.changes.NewNode.{NewNode}
use Rattle.st_marks.specs.declared.intents.Intent.{Intent}
use Rattle.st_marks.specs.declared.intents.Put.{Put}
use Rattle.st_marks.specs.Document.{Document, IsSoundInForm}
use Rattle.st_marks.specs.Embedding.{IsEmbedding}
use Rattle.st_marks.specs.Intent.{Fits, IsIntent}
use Rattle.st_same_laws.specs.Same.{LooksAlike, SaysTheSame}
use Rattle.st_told.proofs.OneIntent.{one_intent}
use Rattle.st_meaning.specs.InOrder.{IsInOrder, place_cmp, place_of}
use Rattle.st_meaning.proofs.OrderedIntents.{clear_too, group_listed, need_too, new_too, put_too}
use Rattle.st_meaning.proofs.PlaceOrder.{place_exact, place_total}

-- two rising lists with the same items are one
module _ {K A : Type 0} (R : K → K → Ordering) (total : IsTotalOrder R) (exact : CmpEqualImpliesEq R) (key : A → K) where
  there : (xs ys : List A) → IsRising R key ys → ((x : A) → Has xs x → Has ys x) → (k : K) (x : A) → item_of R key xs k ≡ Some x → item_of R key ys k ≡ Some x
  there xs ys r f k x e = let i = item_of-has R total exact key xs k x e in ap (item_of R key ys) (sym i.1) ∙ has-item_of R total exact key ys x r (f x i.0)

  alike : (a b : Option A) → ((x : A) → a ≡ Some x → b ≡ Some x) → ((x : A) → b ≡ Some x → a ≡ Some x) → a ≡ b
  alike None None f g = refl
  alike None (Some y) f g = g y refl
  alike (Some x) b f g = sym (f x refl)

  pub one_list : (xs ys : List A) → IsRising R key xs → IsRising R key ys → ((x : A) → Has xs x → Has ys x) → ((x : A) → Has ys x → Has xs x) → xs ≡ ys
  one_list xs ys r s f g = same_listing total exact key xs ys r s (λ k. alike (item_of R key xs k) (item_of R key ys k) (there xs ys s f k) (there ys xs r g k))

looks : {N M : Intent} → SaysTheSame N M → LooksAlike N M
looks s = record { rev = s.rev; under = s.under; schema = s.schema; new = s.new; groups = s.groups; puts = s.puts; clear = s.clear; needs = s.needs }

looks_back : {N M : Intent} → SaysTheSame N M → LooksAlike M N
looks_back s = record {
  rev = sym s.rev;
  under = sym s.under;
  schema = sym s.schema;
  new = λ n. sym (s.new n);
  groups = λ n a. sym (s.groups n a);
  puts = λ n. sym (s.puts n);
  clear = λ f. sym (s.clear f);
  needs = λ n. ((s.needs n).1, (s.needs n).0);
}

ordered_same : (N M : Intent) → IsIntent N → IsIntent M → SaysTheSame N M → IsInOrder N → IsInOrder M → N ≡ M
ordered_same N M w v s o q =
    let a = looks s in
    let b = looks_back s in
    let new = one_list node_cmp node_cmp_total node_cmp_exact (λ (m : NewNode). m.node) N.new M.new o.new q.new (new_too M N v b o) (new_too N M w a q) in
    let groups = one_list place_cmp place_total place_exact place_of N.groups M.groups o.groups q.groups (group_listed M N v b o) (group_listed N M w a q) in
    let clear = one_list field_cmp field_cmp_total field_cmp_exact (λ (f : FieldId). f) N.clear M.clear o.clear q.clear (clear_too M N v b o) (clear_too N M w a q) in
    let put = one_list node_cmp node_cmp_total node_cmp_exact (λ (p : Put). p.node) N.put M.put o.put q.put (put_too M N v b o) (put_too N M w a q) in
    let need = one_list node_cmp node_cmp_total node_cmp_exact (λ (n : NodeId). n) N.need M.need o.need q.need (need_too M N v b o) (need_too N M w a q) in
    λ i. record { rev = s.rev i; under = s.under i; new = new i; groups = groups i; clear = clear i; put = put i; need = need i; schema = s.schema i }

pub one_meaning : (D : Document) (N M : Intent) (C : Change) → IsSoundInForm D → Fits D N → Fits D M → IsEmbedding D N C → IsEmbedding D M C → IsInOrder N → IsInOrder M → N ≡ M
one_meaning D N M C x f g e h o q = ordered_same N M f.itself g.itself (one_intent D N M C x f g e h) o q
