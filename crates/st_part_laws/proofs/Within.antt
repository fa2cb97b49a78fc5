-- What an intent names in a document it names in each that has the document's names.
use Rattle.std.proofs.Common.{◌≡◌, Bool, true, List, Option, Some, None, IsSome, IfSome, refl, sym, ap, ◌∙◌, subst, inl, inr}
use Rattle.std.specs.Option.{option_or, option_map_or}
use Rattle.st_lemmas.proofs.Options.{one_some}
use Rattle.st_ids.specs.Listing.{Has}
use Rattle.st_ids.specs.Order.{same_rev}
use Rattle.st_ids.specs.declared.names.CellId.{CellId}
use Rattle.st_ids.specs.declared.names.NodeId.{NodeId}
use Rattle.st_ids.specs.declared.names.Rev.{Rev}
use Rattle.st_marks.specs.declared.intents.Group.{Group}
use Rattle.st_marks.specs.declared.intents.Intent.{Intent}
use Rattle.st_marks.specs.declared.intents.Owned.{Owned}
use Rattle.st_marks.specs.declared.intents.To.{To}
use Rattle.st_marks.specs.declared.places.Spot.{Spot}
use Rattle.st_marks.specs.CarryOut.{spot_of, with_names}
use Rattle.st_marks.specs.Document.{Document, IsSoundInForm, node_of, owned_cell}
use Rattle.st_marks.specs.Intent.{Fits, IsKnown, Owns, new_row_of, put_of}
use Rattle.st_marks.proofs.Members.{all-has, any-has, has-any, distinct-has}
use Rattle.st_marks.proofs.Lookups.{made_there}
use Rattle.st_marks.proofs.Full.{known_put}
use Rattle.st_log_laws.specs.Names.{HasNames}
use Rattle.st_part_laws.specs.Parts.{NamesWithin, is_of_schemas}

-- a test that more nodes pass
pub more_within : (p q : NodeId → Bool) (D : Document) (N : Intent) → ((n : NodeId) → p n ≡ true → q n ≡ true) → NamesWithin p D N → NamesWithin q D N
more_within p q D N h w = record {
  new = λ n i. h n (w.new n i);
  groups = λ g i. h g.node (w.groups g i);
  owners = λ o i. h o.node (w.owners o i);
  anchors = λ g n o i e j. h o.node (w.anchors g n o i e j);
  puts = λ m to e. h m (w.puts m to e);
  targets = λ m n to e k. h n (w.targets m n to e k);
  clears = λ f i. h f.node (w.clears f i);
  needs = λ n i. h n (w.needs n i);
}

-- nodes made under some schemas are made under one of more
pub more_schemas : (under : Rev → Rev) (rs ss : List Rev) → ((r : Rev) → Has rs r → Has ss r) → (n : NodeId) → is_of_schemas under rs n ≡ true → is_of_schemas under ss n ≡ true
more_schemas under rs ss h n e =
    let a = any-has (λ r. same_rev r (under n.0.rev)) rs e in
    has-any (λ r. same_rev r (under n.0.rev)) ss a.0 (h a.0 a.1) a.2

module _ (D : Document) (s : IsSoundInForm D) where
  row_at : (c : CellId) (n m : NodeId) → Has (D.rows n) (owned_cell c m) → D.row_of c ≡ Some n
  row_at c n m h = (s.one_row c n).1 (m, h)

  -- a cell has one row and one owner
  same_owner : (c : CellId) (n k : NodeId) (o : Owned) (m : NodeId) → o.cell ≡ c → Has (D.rows n) o → Has (D.rows k) (owned_cell c m) → o ≡ owned_cell c m
  same_owner c n k o m e h i =
      let here : D.row_of c ≡ Some n = row_at c n o.node (subst (λ d. Has (D.rows n) (owned_cell d o.node)) e h) in
      let same : n ≡ k = one_some n k (sym here ∙ row_at c k m i) in
      distinct-has (λ (o : Owned). o.cell) (D.rows k) o (owned_cell c m) (s.once k) (subst (λ r. Has (D.rows r) o) same h) i e

module _ (p : NodeId → Bool) (D E : Document) (N : Intent) (names : HasNames D E) (s : IsSoundInForm D) (t : IsSoundInForm E) (f : Fits D N) (g : Fits E N) (w : NamesWithin p D N) where
  -- the owner of an anchor
  anchor_later : (h : Group) (n : NodeId) (o : Owned) → Has N.groups h → h.after ≡ Some o.cell → Has (E.rows n) o → p o.node ≡ true
  anchor_later h n o i e j =
      let k = all-has (λ (g : Group). IsKnown D N g.node × IfSome g.after (λ c. D.row_of c ≡ Some g.node)) N.groups h f.groups_known i in
      let row : D.row_of o.cell ≡ Some h.node = subst (λ a. IfSome a (λ c. D.row_of c ≡ Some h.node)) e k.1 in
      let old = (s.one_row o.cell h.node).0 row in
      let same : o ≡ owned_cell o.cell old.0 = same_owner E t o.cell n h.node o old.0 refl j (names.cells h.node (owned_cell o.cell old.0) old.1) in
      ap (λ (o : Owned). p o.node) same ∙ w.anchors h h.node (owned_cell o.cell old.0) i e old.1

  -- the row of a cell into which a node is put
  row_before : (m : NodeId) (c : CellId) → Owns D N m c → (n : NodeId) → option_or (E.row_of c) (new_row_of N c) ≡ Some n → option_or (D.row_of c) (new_row_of N c) ≡ Some n
  row_before m c (inl h) n e =
      let before : D.row_of c ≡ Some h.0 = row_at D s c h.0 m h.1 in
      let after : E.row_of c ≡ Some h.0 = row_at E t c h.0 m (names.cells h.0 (owned_cell c m) h.1) in
      let same : Some h.0 ≡ Some n = subst (λ o. option_or o (new_row_of N c) ≡ Some n) after e in
      subst (λ o. option_or o (new_row_of N c) ≡ Some n) (sym before) same
  row_before m c (inr h) n e =
      let made : IsSome (new_row_of N c) = made_there N (owned_cell c m) h in
      let after : E.row_of c ≡ None = g.fresh_cells c made in
      let before : D.row_of c ≡ None = f.fresh_cells c made in
      let new : new_row_of N c ≡ Some n = subst (λ o. option_or o (new_row_of N c) ≡ Some n) after e in
      subst (λ o. option_or o (new_row_of N c) ≡ Some n) (sym before) new

  target_later : (m n : NodeId) (to : To) → put_of N m ≡ Some to → node_of (spot_of (with_names E N).row_of to) ≡ Some n → p n ≡ true
  target_later m n To.Nowhere e k = let bad : None ≡ Some n = k in cc
  target_later m n (To.Register r) e k = w.targets m n (To.Register r) e k
  target_later m n (To.Cell c) e k = go (option_or (E.row_of c) (new_row_of N c)) refl k
    where
      go : (o : Option NodeId) → option_or (E.row_of c) (new_row_of N c) ≡ o → node_of (option_map_or (λ n. Spot.Row n c) o Spot.Nowhere) ≡ Some n → p n ≡ true
      go None q k = let bad : None ≡ Some n = k in cc
      go (Some r) q k =
          let there = row_before m c (known_put D N f m (To.Cell c) e).1 n (q ∙ k) in
          w.targets m n (To.Cell c) e (ap (λ o. node_of (option_map_or (λ n. Spot.Row n c) o Spot.Nowhere)) there)

  pub within_later : NamesWithin p E N
  within_later = record {
    new = w.new;
    groups = w.groups;
    owners = w.owners;
    anchors = anchor_later;
    puts = w.puts;
    targets = target_later;
    clears = w.clears;
    needs = w.needs;
  }
