-- The loose nodes of what is listed are those of the step, with all that is named.
use Rattle.std.proofs.Common.{◌≡◌, Bool, true, false, ◌||◌, ◌&&◌, not, List, map, Option, Some, None, option_map, cond, refl, sym, ap, ◌∙◌, subst, inl, inr, ◌⊎◌, IsSome}
use Rattle.std.specs.Option.{option_or, option_map_or}
use Rattle.st_ids.specs.Listing.{IsListing}
use Rattle.st_ids.specs.Order.{node_cmp, same_node}
use Rattle.st_ids.specs.Root.{root}
use Rattle.st_ids.specs.declared.names.CellId.{CellId}
use Rattle.st_ids.specs.declared.names.NodeId.{NodeId}
use Rattle.st_kind.specs.Named.{Nodes, either}
use Rattle.st_marks.specs.declared.changes.Change.{Change}
use Rattle.st_marks.specs.declared.intents.Intent.{Intent}
use Rattle.st_marks.specs.declared.intents.To.{To}
use Rattle.st_marks.specs.declared.marks.How.TheVariants.{Stay, Leave}
use Rattle.st_marks.specs.declared.marks.Loose.{Loose}
use Rattle.st_marks.specs.declared.places.Spot.{Spot}
use Rattle.st_marks.specs.CarryOut.{place_after, unless_cleared, with_names}
use Rattle.st_marks.specs.Document.{Document, IsSoundInForm, owned_cell}
use Rattle.st_marks.specs.Embedding.{IsEmbedding, embed_loose, is_nowhere}
use Rattle.st_marks.specs.How.{is_leave}
use Rattle.st_marks.specs.Intent.{Fits, Owns, clears, new_row_of, put_of}
use Rattle.st_marks.specs.Row.{how}
use Rattle.st_marks.specs.Step.{step_loose}
use Rattle.st_marks.proofs.Full.{known_put}
use Rattle.st_marks.proofs.Lookups.{made_there}
use Rattle.st_trim.specs.Evicted.{in_cleared, is_cleared_spot}
use Rattle.st_effect.specs.inside.Done.{loose_done}
use Rattle.st_effect.proofs.ItemPairs.{item_of-map, rising-map}

-- a mentioned node that is nowhere stays so, but where the change isn't void and puts it somewhere
abbrev pub MovesLoose : Document → Document → Intent → Bool → NodeId → Type 0
MovesLoose D E N void n = is_nowhere (E.place n) ≡ not (not void && is_leave (how (put_of N n) To.Nowhere))

module _ (D E : Document) (N : Intent) (C : Change) (void : Bool) (emb : IsEmbedding D N C) (moves : (n : NodeId) → emb.mentioned n ≡ true → D.place n ≡ Spot.Nowhere → MovesLoose D E N void n) where
  abbrev named : Nodes
  named = either emb.mentioned (in_cleared D N)

  turned : (b : Bool) → cond b Leave Stay ≡ cond (not b) Stay Leave
  turned true = refl
  turned false = refl

  -- whether a loose node leaves
  abbrev leaves : NodeId → Bool
  leaves n = not void && is_leave (how (put_of N n) To.Nowhere)

  loose_at : (n : NodeId) → option_map (loose_done void) (embed_loose emb.mentioned D N n) ≡ step_loose named D E n
  loose_at n = go (emb.mentioned n) refl (D.place n) refl (not (same_node n root))
    where
      in_register : (b z : Bool) → ◌≡◌ {A = Option Loose} None (cond ((false || b) && false && z) (Some (record { node = n; how = cond (is_nowhere (E.place n)) Stay Leave })) None)
      in_register true z = refl
      in_register false z = refl

      go : (a : Bool) → emb.mentioned n ≡ a → (s : Spot) → D.place n ≡ s → (z : Bool)
          → option_map (loose_done void) (cond (a && is_nowhere s && z) (Some (record { node = n; how = how (put_of N n) To.Nowhere })) None)
          ≡ cond ((a || is_cleared_spot N s) && is_nowhere s && z) (Some (record { node = n; how = cond (is_nowhere (E.place n)) Stay Leave })) None
      go true e Spot.Nowhere g true = λ i. Some (record { node = n; how = (turned (leaves n) ∙ ap (λ b. cond b Stay Leave) (sym (moves n e g))) i })
      go true e Spot.Nowhere g false = refl
      go true e (Spot.Row r c) g z = refl
      go true e (Spot.Register k) g z = refl
      go false e Spot.Nowhere g z = refl
      go false e (Spot.Row r c) g z = refl
      go false e (Spot.Register k) g z = in_register (clears N k) z

  pub loose_listed : (loose : List Loose) → loose ≡ map (loose_done void) C.loose → IsListing node_cmp (λ (l : Loose). l.node) loose (step_loose named D E)
  loose_listed loose e = subst (λ (l : List Loose). IsListing node_cmp (λ (l : Loose). l.node) l (step_loose named D E)) (sym e) (record {
    rising = rising-map node_cmp (λ (l : Loose). l.node) (loose_done void) (λ l. refl) C.loose ∙ emb.loose.rising;
    at_each = λ n. item_of-map node_cmp (λ (l : Loose). l.node) (loose_done void) (λ l. refl) C.loose n ∙ ap (option_map (loose_done void)) (emb.loose.at_each n) ∙ loose_at n;
  })

-- ## Carried out whole

module _ (D : Document) (N : Intent) (x : IsSoundInForm D) (f : Fits D N) (n : NodeId) (place : D.place n ≡ Spot.Nowhere) where
  abbrev row_of : CellId → Option NodeId
  row_of = (with_names D N).row_of

  in_cell : (c : CellId) (o : Option NodeId) → IsSome o → is_nowhere (option_map_or (λ r. Spot.Row r c) o Spot.Nowhere) ≡ false
  in_cell c None h = cc
  in_cell c (Some r) h = refl

  either_there : (a b : Option NodeId) → IsSome a ⊎ IsSome b → IsSome (option_or a b)
  either_there None b (inl h) = cc
  either_there None b (inr h) = h
  either_there (Some r) b h = refl

  cell_there : (c : CellId) → Owns D N n c → IsSome (row_of c)
  cell_there c (inl w) = either_there (D.row_of c) (new_row_of N c) (inl (subst (λ (o : Option NodeId). IsSome o) (sym ((x.one_row c w.0).1 (n, w.1))) refl))
  cell_there c (inr w) = either_there (D.row_of c) (new_row_of N c) (inr (made_there N (owned_cell c n) w))

  pub whole_moves : (g : Option To) → put_of N n ≡ g → is_nowhere (place_after row_of N g (D.place n)) ≡ not (is_leave (how g To.Nowhere))
  whole_moves None e = ap (λ s. is_nowhere (unless_cleared N s)) place
  whole_moves (Some To.Nowhere) e = refl
  whole_moves (Some (To.Cell c)) e = in_cell c (row_of c) (cell_there c (known_put D N f n (To.Cell c) e).1)
  whole_moves (Some (To.Register k)) e = refl
