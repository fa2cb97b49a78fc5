-- The registers of a change over what is left of a step.
use Rattle.std.proofs.Common.{◌≡◌, ◌≢◌, Bool, true, false, ◌||◌, not, List, [], ◌∷◌, Option, Some, None, cond, refl, sym, ap, ◌∙◌, subst, IsSome, IfSome}
use Rattle.st_ids.specs.Listing.{IsListing, item_of}
use Rattle.st_ids.specs.Order.{field_cmp, same_node}
use Rattle.st_ids.specs.declared.names.FieldId.{FieldId}
use Rattle.st_ids.specs.declared.names.NodeId.{NodeId}
use Rattle.st_kind.specs.Named.{Nodes}
use Rattle.st_marks.specs.declared.intents.Intent.{Intent}
use Rattle.st_marks.specs.declared.intents.To.{To}
use Rattle.st_marks.specs.declared.marks.How.{How}
use Rattle.st_marks.specs.declared.marks.How.TheVariants.{Stay, Leave}
use Rattle.st_marks.specs.declared.marks.RegMark.{RegMark}
use Rattle.st_marks.specs.declared.marks.RegStep.{RegStep}
use Rattle.st_marks.specs.declared.steps.Step.{Step}
use Rattle.st_marks.specs.Document.{Document}
use Rattle.st_ids.specs.Root.{root}
use Rattle.st_marks.specs.Embedding.{register_part}
use Rattle.st_marks.specs.Extends.{IsExtendedBy}
use Rattle.st_marks.specs.Intent.{Fits, clears, put_of, same_option}
use Rattle.st_marks.specs.Register.{embed_register, holds_mentioned, step_register}
use Rattle.st_marks.specs.Row.{how}
use Rattle.st_marks.specs.Step.{IsStep}
use Rattle.st_register.specs.Register.{RegFits, RegKeeps, reg_change_of, reg_part_of}
use Rattle.st_register.specs.Readings.{as_mark}
use Rattle.st_register.specs.declared.values.RegHeld.{RegHeld}
use Rattle.st_marks.proofs.Shared.{not_made}
use Rattle.st_register.proofs.Documents.{part_fits}
use Rattle.st_rows.specs.Sequence.{ListsNew}
use Rattle.st_moves.specs.Between.{between, only_others}
use Rattle.st_moves.specs.Carried.{held_between}
use Rattle.st_moves.proofs.BetweenSound.{between_sound, fits_between}
use Rattle.st_mention_laws.proofs.ClosedSets.{mentions_closed}
use Rattle.st_moves.proofs.CarriedRegister.{alike_register, same-true}
use Rattle.st_puts.specs.Mentions.{AreMentions}
use Rattle.st_rebase.specs.Exchanged.{AreExchanged}
use Rattle.st_rebase.specs.Registers.{RegBecomes, RestSwaps}
use Rattle.st_rebase.proofs.Exchanges.{listing_over}
use Rattle.st_puts.proofs.ListedIf.{shown-None, listed-Some}
use Rattle.st_rebase.proofs.RowsFit.{row_fits}

not_parts : (a b : Bool) → (not a || b) ≡ false → a ≡ true
not_parts true b e = refl
not_parts false b e = cc

-- who stays is there between
same_between : (m : NodeId → Bool) (h : Option NodeId) → held_between m h h ≡ h
same_between m None = refl
same_between m (Some n) = elim (m n) as (λ b. m n ≡ b → cond b (Some n) (only_others m (Some n)) ≡ Some n) [ true ↦ (λ e. refl) | false ↦ (λ e. ap (λ b. cond b None (Some n)) e) ] refl

module _ (D E : Document) (N : Intent) (x : IsExtendedBy D E) (f : Fits D N) (g : Fits E N) (S : Step) (step : IsStep D E S) (m : Nodes) (w : AreMentions E N m) (new : List NodeId) (listed : ListsNew N new) where
  abbrev B : Document
  B = between m D E

  abbrev c : FieldId → RegHeld
  c k = record { node = B.held k }

  abbrev d : FieldId → RegHeld
  d k = record { node = E.held k }

  -- a node of the later document that isn't mentioned isn't put
  unput : (n : NodeId) → IsSome (E.nodes n) → m n ≡ false → put_of N n ≡ None
  unput n known e = go (put_of N n) refl
    where
      go : (o : Option To) → put_of N n ≡ o → put_of N n ≡ None
      go None q = q
      go (Some to) q = let z : ◌≡◌ {A = Bool} false true = sym e ∙ (row_fits D E N x f g S step m w new listed root).1.mentions n (λ y. let v : ◌≡◌ {A = Option To} (Some to) None = sym q ∙ y in cc) (listed.each n ∙ not_made E N g n known) in cc

  keeps : (k : FieldId) → RegKeeps (reg_part_of m N k) (c k) (d k)
  keeps k = go (E.held k) refl
    where
      here : (n : NodeId) → E.held k ≡ Some n → m n ≡ true → B.held k ≡ Some n
      here n e h = ap (λ b. cond b (E.held k) (only_others m (D.held k))) (ap (holds_mentioned m) e ∙ h) ∙ e

      named : (n : NodeId) (b : Bool) → m n ≡ b → E.held k ≡ Some n → B.held k ≢ Some n → how (put_of N n) (To.Register k) ≢ Leave
      named n true h e apart = absurd (apart (here n e h))
      named n false h e apart = λ q. let z : ◌≡◌ {A = How} Stay Leave = sym (ap (λ o. how o (To.Register k)) (unput n (x.after.held_known n k e).0 h)) ∙ q in cc

      go : (o : Option NodeId) → E.held k ≡ o → IfSome o (λ n. B.held k ≢ Some n → how (put_of N n) (To.Register k) ≢ Leave)
      go None e = tt
      go (Some n) e = named n (m n) refl e

  fits_there : (k : FieldId) → RegFits (reg_part_of m N k) (c k)
  fits_there k = part_fits B N m k (between_sound D E m x (mentions_closed E N m w)) (fits_between D E m N f g)

  fits_later : (k : FieldId) → RegFits (reg_part_of m N k) (d k)
  fits_later k = part_fits E N m k x.after g

  rest_swaps : (k : FieldId) → RestSwaps (item_of field_cmp (λ (r : RegStep). r.field) S.regs k) (c k) (d k)
  rest_swaps k = go (item_of field_cmp (λ (r : RegStep). r.field) S.regs k) (sym (step.regs.at_each k))
    where
      go : (o : Option RegStep) → step_register k step.mentioned (D.held k) (E.held k) ≡ o → RestSwaps o (c k) (d k)
      go None e =
          let quiet = shown-None (not (same_option same_node (D.held k) (E.held k)) || holds_mentioned step.mentioned (D.held k)) (record { field = k; before = D.held k; after = E.held k }) e in
          let same : D.held k ≡ E.held k = same-true (D.held k) (E.held k) (not_parts (same_option same_node (D.held k) (E.held k)) (holds_mentioned step.mentioned (D.held k)) quiet) in
          λ i. record { node = (ap (λ h. held_between m h (E.held k)) same ∙ same_between m (E.held k)) i }
      go (Some s) e = record {
        before = (fits_there k).content;
        after = (fits_later k).content;
        swap = λ i. record { before = B.held k; after = ap (λ (r : RegStep). r.after) (listed-Some (not (same_option same_node (D.held k) (E.held k)) || holds_mentioned step.mentioned (D.held k)) (record { field = k; before = D.held k; after = E.held k }) s e).0 i };
      }

  abbrev listed_there : FieldId → Bool
  listed_there k = clears N k || holds_mentioned m (B.held k)

  abbrev listed_later : FieldId → Bool
  listed_later k = clears N k || holds_mentioned m (E.held k)

  alike : (k : FieldId) → listed_there k ≡ listed_later k
  alike k = ap (λ b. clears N k || b) (alike_register m (D.held k) (E.held k))

  reg_then : (k : FieldId) (r t : RegMark) → RegBecomes N.rev new (item_of field_cmp (λ (r : RegStep). r.field) S.regs r.field) r t
      → embed_register k (register_part m N k) (B.held k) ≡ Some r → embed_register k (register_part m N k) (E.held k) ≡ Some t
  reg_then k r t over e =
      let told = listed-Some (listed_there k) (as_mark k (reg_change_of (reg_part_of m N k) (c k))) r e in
      let name : r.field ≡ k = ap (λ (q : RegMark). q.field) told.0 in
      let rest = subst (λ j. RestSwaps (item_of field_cmp (λ (r : RegStep). r.field) S.regs j) (c k) (d k)) (sym name) (rest_swaps k) in
      let mark = over (reg_part_of m N k) (c k) (d k) (refl, (λ n. sym (listed.each n))) (fits_there k) (fits_later k) (keeps k) told.0 rest in
      ap (λ b. cond b (Some (as_mark k (reg_change_of (reg_part_of m N k) (d k)))) None) (sym (alike k) ∙ told.1) ∙ ap (λ (q : RegMark). Some q) (sym mark)

  each : (xs ys : List RegMark) → AreExchanged (λ (r : RegMark). r.field) (λ r t. RegBecomes N.rev new (item_of field_cmp (λ (r : RegStep). r.field) S.regs r.field) r t) xs ys
      → AreExchanged (λ (r : RegMark). r.field) (λ r t. (k : FieldId) → embed_register k (register_part m N k) (B.held k) ≡ Some r → embed_register k (register_part m N k) (E.held k) ≡ Some t) xs ys
  each [] [] h = tt
  each [] (t ∷ ys) h = absurd h
  each (r ∷ xs) [] h = absurd h
  each (r ∷ xs) (t ∷ ys) h = (h.0, (λ k e. reg_then k r t h.1 e), each xs ys h.2)

  pub registers_rebased : (xs ys : List RegMark) → IsListing field_cmp (λ (r : RegMark). r.field) xs (λ k. embed_register k (register_part m N k) (B.held k))
      → AreExchanged (λ (r : RegMark). r.field) (λ r t. RegBecomes N.rev new (item_of field_cmp (λ (r : RegStep). r.field) S.regs r.field) r t) xs ys
      → IsListing field_cmp (λ (r : RegMark). r.field) ys (λ k. embed_register k (register_part m N k) (E.held k))
  registers_rebased xs ys l h = listing_over field_cmp (λ (r : RegMark). r.field) xs ys
      (λ k. embed_register k (register_part m N k) (B.held k)) (λ k. embed_register k (register_part m N k) (E.held k)) l (each xs ys h)
      (λ k e. ap (λ b. cond b (Some (as_mark k (reg_change_of (reg_part_of m N k) (d k)))) None) (sym (alike k) ∙ shown-None (listed_there k) (as_mark k (reg_change_of (reg_part_of m N k) (c k))) e))
