-- Lists of intents that agree with the schema, each where it comes.
use Rattle.std.proofs.Common.{◌≡◌, Bool, true, false, List, [], ◌∷◌, ◌++◌, Option, Some, None, IsSome, IfSome, refl, sym, ◌∙◌, subst, inl, inr}
use Rattle.st_ids.specs.Listing.{Has}
use Rattle.st_ids.specs.declared.names.CellId.{CellId}
use Rattle.st_ids.specs.declared.names.FieldId.{FieldId}
use Rattle.st_ids.specs.declared.names.NodeId.{NodeId}
use Rattle.st_ids.specs.declared.names.Rev.{Rev}
use Rattle.st_schema.specs.Schema.{SchemaView}
use Rattle.st_marks.specs.declared.intents.Intent.{Intent}
use Rattle.st_marks.specs.declared.intents.Put.{Put}
use Rattle.st_marks.specs.declared.intents.To.{To}
use Rattle.st_marks.specs.Document.{Document, IsSoundInForm, owned_cell}
use Rattle.st_marks.specs.Intent.{Fits, IsIntent, IsKnown, Owns, cell_of, is_new, put_of, register_of}
use Rattle.st_marks.specs.Run.{Run, done, next}
use Rattle.st_marks.specs.Verdict.{carried_document}
use Rattle.st_marks.proofs.Lookups.{put-has}
use Rattle.st_marks.proofs.Members.{all-has, append_left, append_right, has-append}
use Rattle.st_marks.proofs.OneVerdict.{carried_extends, one_run}
use Rattle.st_log_laws.specs.Names.{HasNames, IsMadeUnder, revisions}
use Rattle.st_log_laws.specs.Turns.{FitInTurn, IsSublist}
use Rattle.st_log_laws.proofs.Names.{made_after, names_beside, new_node_rev}
use Rattle.st_log_laws.proofs.Turns.{front, rest, has_run, in_turn, turn_extends}
use Rattle.st_log_laws.proofs.Beside.{names_later}
use Rattle.st_schema_laws.specs.Conforming.{IsConforming}
use Rattle.st_schema_laws.specs.Agreeing.{KeepSchemaInTurn, KeepsSchemaInTurn, with_homes}
use Rattle.st_schema_laws.proofs.Elsewhere.{agrees_there}
use Rattle.st_schema_laws.proofs.Homes.{intent_keeps}
use Rattle.st_schema_laws.proofs.Runs.{run_conforms}

module _ (s : SchemaView) (home : NodeId → Option FieldId) where
  pub agree_front : (Ns Ms : List Intent) (D : Document) → KeepSchemaInTurn s home D (Ns ++ Ms) → KeepSchemaInTurn s home D Ns
  agree_front [] Ms D a = tt
  agree_front (N ∷ Ns) Ms D a = (a.0, λ v is. agree_front Ns Ms (carried_document v D N) (a.1 v is))

  pub agree_rest : {Ns : List Intent} (Ms : List Intent) {D E : Document} → Run D Ns E → KeepSchemaInTurn s home D (Ns ++ Ms) → KeepSchemaInTurn s home E Ms
  agree_rest Ms done a = a
  agree_rest Ms (next v is r) a = agree_rest Ms r (a.1 v is)

  pub agree_then : (Ns Ms : List Intent) (D : Document) → KeepSchemaInTurn s home D Ns → ((E : Document) → Run D Ns E → KeepSchemaInTurn s home E Ms) → KeepSchemaInTurn s home D (Ns ++ Ms)
  agree_then [] Ms D a g = g D done
  agree_then (N ∷ Ns) Ms D a g = (a.0, λ v is. agree_then Ns Ms (carried_document v D N) (a.1 v is) (λ E r. g E (next v is r)))

  pub agree_then_one : (Ns Ms : List Intent) {D E : Document} → KeepSchemaInTurn s home D Ns → Run D Ns E → KeepSchemaInTurn s home E Ms → KeepSchemaInTurn s home D (Ns ++ Ms)
  agree_then_one Ns Ms {D} a r b = agree_then Ns Ms D a (λ F q. subst (λ F. KeepSchemaInTurn s home F Ms) (one_run r q) b)

  agree_run : {D E : Document} {Ns : List Intent} (r : Run D Ns E) → KeepSchemaInTurn s home D Ns → KeepsSchemaInTurn s home r
  agree_run done a = tt
  agree_run (next v is r) a = (a.0, agree_run r (a.1 v is))

  pub list_conforms : {D E : Document} {Ns : List Intent} → IsSoundInForm D → FitInTurn D Ns → IsConforming s home D → KeepSchemaInTurn s home D Ns → Run D Ns E → IsConforming s home E
  list_conforms sound f here a r = run_conforms s home r sound (in_turn r f) here (agree_run r a)

  -- ## After a longer list

  row_there : (D E : Document) → HasNames D E → IsSoundInForm D → IsSoundInForm E → (c : CellId) (n : NodeId) → D.row_of c ≡ Some n → E.row_of c ≡ Some n
  row_there D E h p q c n e = let o = (p.one_row c n).0 e in (q.one_row c n).1 (o.0, h.cells n (owned_cell c o.0) o.1)

  run_beside : {D F : Document} {Ns : List Intent} → Run D Ns F → (E : Document) → HasNames D E → IsSoundInForm D → IsSoundInForm E → FitInTurn D Ns → FitInTurn E Ns → KeepSchemaInTurn s home D Ns → KeepSchemaInTurn s home E Ns
  run_beside done E h p q f g a = tt
  run_beside (next {D} {N = N} v is r) E h p q f g a = (
    agrees_there s home D E N a.0 h.nodes (row_there D E h p q) g.0.fresh_nodes g.0.fresh_cells,
    λ w b. run_beside r (carried_document w E N) (names_beside D E N v w h g.0) (carried_extends D N v p f.0 f.1 is).after (carried_extends E N w q g.0 g.1 b).after (f.2 v is) (g.2 w b) (a.1 v is),
  )

  pub agree_beside : (D E : Document) (Ns : List Intent) → HasNames D E → IsSoundInForm D → IsSoundInForm E → FitInTurn D Ns → FitInTurn E Ns → KeepSchemaInTurn s home D Ns → KeepSchemaInTurn s home E Ns
  agree_beside D E Ns h p q f g a = run_beside (has_run Ns D p f).1 E h p q f g a

  pub agree_longer : (D : Document) (As Bs Ns : List Intent) → IsSoundInForm D → IsSublist As Bs → FitInTurn D (As ++ Ns) → FitInTurn D (Bs ++ Ns) → KeepSchemaInTurn s home D Bs → KeepSchemaInTurn s home D (As ++ Ns)
      → KeepSchemaInTurn s home D (Bs ++ Ns)
  agree_longer D As Bs Ns sound g f k b a = agree_then Bs Ns D b last
    where
      last : (F : Document) → Run D Bs F → KeepSchemaInTurn s home F Ns
      last F q =
          let fit_as : FitInTurn D As = front As Ns D f in
          let fit_bs : FitInTurn D Bs = front Bs Ns D k in
          let r = has_run As D sound fit_as in
          agree_beside r.0 F Ns (names_later D g fit_bs r.1 q) (turn_extends sound fit_as r.1).after (turn_extends sound fit_bs q).after (rest Ns r.1 f) (rest Ns q k) (agree_rest Ns r.1 a)

  -- ## Homes told beside a list

  module _ (N : Intent) (itself : IsIntent N) where
    -- a node of another revision isn't new
    not_new : (n : NodeId) → (n.0.rev ≡ N.rev → ⊥) → is_new N n ≡ false
    not_new n apart = go (is_new N n) refl
      where
        go : (b : Bool) → is_new N n ≡ b → is_new N n ≡ false
        go false e = e
        go true e = absurd (apart (new_node_rev N itself n e))

    put_known : (D : Document) (M : Intent) → Fits D M → (n : NodeId) → IsSome (put_of M n) → IsKnown D M n
    put_known D M f n h = go (put_of M n) refl h
      where
        go : (o : Option To) → put_of M n ≡ o → IsSome o → IsKnown D M n
        go None e h = absurd (cc)
        go (Some to) e h =
            (all-has (λ (p : Put). IsKnown D M p.node × IfSome (cell_of p.to) (Owns D M p.node) × IfSome (register_of p.to) (λ f. IsKnown D M f.node)) M.put (record { node = n; to = to }) f.puts_known (put-has M n to e)).0

    -- the revision of a known node is the intent's, or one of those under which the document was made
    known_rev : (rs : List Rev) (D : Document) (M : Intent) → Fits D M → IsMadeUnder rs D → (n : NodeId) → IsKnown D M n → Has (M.rev ∷ rs) n.0.rev
    known_rev rs D M f made n (inl new) = inl (sym (new_node_rev M f.itself n new))
    known_rev rs D M f made n (inr old) = inr (made.nodes n old)

    pub list_keeps : (Ns : List Intent) (rs : List Rev) (D : Document) → IsMadeUnder rs D → FitInTurn D Ns → (Has (revisions Ns ++ rs) N.rev → ⊥) → KeepSchemaInTurn s home D Ns → KeepSchemaInTurn s (with_homes home N) D Ns
    list_keeps [] rs D made f new a = tt
    list_keeps (M ∷ Ns) rs D made f new a = (
      intent_keeps s home D N M (λ n put. not_new n (λ e. new (among (subst (Has (M.rev ∷ rs)) e (known_rev rs D M f.0 made n (put_known D M f.0 n put))))))
          (λ n is. not_new n (λ e. new (inl (sym (new_node_rev M f.0.itself n is) ∙ e)))) a.0,
      λ v is. list_keeps Ns (M.rev ∷ rs) (carried_document v D M) (made_after rs D M v f.0 made) (f.2 v is) (λ h. new (moved h)) (a.1 v is),
    )
      where
        among : Has (M.rev ∷ rs) N.rev → Has (revisions (M ∷ Ns) ++ rs) N.rev
        among (inl e) = inl e
        among (inr h) = inr (append_right (revisions Ns) rs N.rev h)

        moved : Has (revisions Ns ++ M.rev ∷ rs) N.rev → Has (revisions (M ∷ Ns) ++ rs) N.rev
        moved h = elim (has-append (revisions Ns) (M.rev ∷ rs) N.rev h) [ inl i ↦ inr (append_left (revisions Ns) rs N.rev i) | inr i ↦ among i ]
