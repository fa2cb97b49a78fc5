-- The tables after one more commit.
use Rattle.std.proofs.Common.{◌≡◌, ◌≢◌, Bool, true, false, cond, List, [], ◌∷◌, ◌++◌, Option, Some, None, refl, sym, ap, ◌∙◌, option_map, option_and_then, unwrap_or, if◌then◌else◌}
use Rattle.std.specs.BTreeMap.{get}
use Rattle.std.specs.List.{find}
use Rattle.std.specs.Option.{option_or}
use Rattle.std.proofs.lemmas.List.Folds.{find-append}
use Rattle.st_ids.specs.Order.{node_cmp, rev_cmp, same_node, same_rev}
use Rattle.st_ids.specs.Root.{opening}
use Rattle.st_ids.specs.declared.names.FieldId.{FieldId}
use Rattle.st_ids.specs.declared.names.NodeId.{NodeId}
use Rattle.st_ids.specs.declared.names.Rev.{Rev}
use Rattle.st_ids.proofs.Orders.{same_rev-true}
use Rattle.st_lemmas.proofs.Options.{option_or-None}
use Rattle.st_marks.specs.Document.{Document}
use Rattle.st_marks.specs.Intent.{register_of}
use Rattle.st_marks.specs.declared.intents.Intent.{Intent}
use Rattle.st_marks.specs.declared.intents.Put.{Put}
use Rattle.st_edits.specs.Fields.{put_register, register_in}
use Rattle.st_edits.specs.Keeping.{Made, commit_named, home_of, made_of}
use Rattle.st_makers.specs.Makers.{KnowsMakers, home_told, under_told}
use Rattle.st_makers.specs.declared.makers.Makers.{Makers}
use Rattle.st_makers.specs.inside.Homes.{home_after}

-- a commit more is named where no other is
named_more : (Ns : List Intent) (N : Intent) (r : Rev) → commit_named (Ns ++ N ∷ []) r ≡ option_or (commit_named Ns r) (cond (same_rev N.rev r) (Some N) None)
named_more Ns N r = find-append (λ (M : Intent). same_rev M.rev r) Ns (N ∷ [])

abbrev made_by : NodeId → Intent → Made
made_by n N = record { under = N.under; home = put_register N n }

-- of what is put, the register alone
put_home : (N : Intent) (n : NodeId) → unwrap_or (option_map (λ (p : Put). register_of p.to) (find (λ (p : Put). same_node p.node n) N.put)) None ≡ put_register N n
put_home N n = each (find (λ (p : Put). same_node p.node n) N.put)
  where
    each : (o : Option Put) → unwrap_or (option_map (λ (p : Put). register_of p.to) o) None ≡ option_and_then register_of (option_map (λ (p : Put). p.to) o)
    each None = refl
    each (Some p) = refl

module _ (O : Document) (Ns : List Intent) (N : Intent) (old new : Makers) (knows : KnowsMakers O Ns old) (fresh : commit_named Ns N.rev ≡ None) (late : N.rev ≢ opening)
    (unders : (r : Rev) → get rev_cmp new.unders r ≡ cond (same_rev N.rev r) (Some N.under) (get rev_cmp old.unders r))
    (homes : (n : NodeId) → get node_cmp new.homes n ≡ home_after N.rev N.put (get node_cmp old.homes n) n) where
  -- no earlier commit has a node's revision where it is the new one's
  fresh_of : (n : NodeId) → same_rev N.rev n.0.rev ≡ true → commit_named Ns n.0.rev ≡ None
  fresh_of n t = ap (commit_named Ns) (sym (same_rev-true N.rev n.0.rev t)) ∙ fresh

  under_more : (n : NodeId) → under_told new n ≡ option_map (λ (m : Made). m.under) (made_of O (Ns ++ N ∷ []) n)
  under_more n = go (same_rev n.0.rev opening) (knows.unders n)
    where
      made : Option Made
      made = Some (record { under = opening; home = register_in (O.place n) })

      new_one : (c : Bool) → same_rev N.rev n.0.rev ≡ c → get rev_cmp old.unders n.0.rev ≡ option_map (λ (m : Made). m.under) (option_map (made_by n) (commit_named Ns n.0.rev))
          → cond c (Some N.under) (get rev_cmp old.unders n.0.rev) ≡ option_map (λ (m : Made). m.under) (option_map (made_by n) (option_or (commit_named Ns n.0.rev) (cond c (Some N) None)))
      new_one true t before = ap (λ o. option_map (λ (m : Made). m.under) (option_map (made_by n) (option_or o (Some N)))) (sym (fresh_of n t))
      new_one false t before = before ∙ ap (λ o. option_map (λ (m : Made). m.under) (option_map (made_by n) o)) (sym (option_or-None (commit_named Ns n.0.rev)))

      go : (b : Bool) → (if b then Some opening else get rev_cmp old.unders n.0.rev) ≡ option_map (λ (m : Made). m.under) (if b then made else option_map (made_by n) (commit_named Ns n.0.rev))
          → (if b then Some opening else get rev_cmp new.unders n.0.rev) ≡ option_map (λ (m : Made). m.under) (if b then made else option_map (made_by n) (commit_named (Ns ++ N ∷ []) n.0.rev))
      go true before = refl
      go false before =
          unders n.0.rev ∙ new_one (same_rev N.rev n.0.rev) refl before
          ∙ ap (λ o. option_map (λ (m : Made). m.under) (option_map (made_by n) o)) (sym (named_more Ns N n.0.rev))

  home_more : (n : NodeId) → home_told new n ≡ home_of O (Ns ++ N ∷ []) n
  home_more n = homes n ∙ go (same_rev n.0.rev opening) refl (knows.homes n)
    where
      made : Option Made
      made = Some (record { under = opening; home = register_in (O.place n) })

      old_home : Option FieldId
      old_home = get node_cmp old.homes n

      other : (c : Bool) → same_rev N.rev n.0.rev ≡ c → n.0.rev ≡ opening → cond c (unwrap_or (option_map (λ (p : Put). register_of p.to) (find (λ (p : Put). same_node p.node n) N.put)) old_home) old_home ≡ old_home
      other true t e = absurd (late (same_rev-true N.rev n.0.rev t ∙ e))
      other false t e = refl

      new_one : (c : Bool) → same_rev N.rev n.0.rev ≡ c → old_home ≡ option_and_then (λ (m : Made). m.home) (option_map (made_by n) (commit_named Ns n.0.rev))
          → cond c (unwrap_or (option_map (λ (p : Put). register_of p.to) (find (λ (p : Put). same_node p.node n) N.put)) old_home) old_home
          ≡ option_and_then (λ (m : Made). m.home) (option_map (made_by n) (option_or (commit_named Ns n.0.rev) (cond c (Some N) None)))
      new_one true t before =
          let none : old_home ≡ None = before ∙ ap (λ o. option_and_then (λ (m : Made). m.home) (option_map (made_by n) o)) (fresh_of n t) in
          ap (λ o. unwrap_or (option_map (λ (p : Put). register_of p.to) (find (λ (p : Put). same_node p.node n) N.put)) o) none ∙ put_home N n
          ∙ ap (λ o. option_and_then (λ (m : Made). m.home) (option_map (made_by n) (option_or o (Some N)))) (sym (fresh_of n t))
      new_one false t before = before ∙ ap (λ o. option_and_then (λ (m : Made). m.home) (option_map (made_by n) o)) (sym (option_or-None (commit_named Ns n.0.rev)))

      go : (b : Bool) → same_rev n.0.rev opening ≡ b → old_home ≡ option_and_then (λ (m : Made). m.home) (if b then made else option_map (made_by n) (commit_named Ns n.0.rev))
          → home_after N.rev N.put old_home n ≡ option_and_then (λ (m : Made). m.home) (if b then made else option_map (made_by n) (commit_named (Ns ++ N ∷ []) n.0.rev))
      go true t before = other (same_rev N.rev n.0.rev) refl (same_rev-true n.0.rev opening t) ∙ before
      go false t before =
          new_one (same_rev N.rev n.0.rev) refl before
          ∙ ap (λ o. option_and_then (λ (m : Made). m.home) (option_map (made_by n) o)) (sym (named_more Ns N n.0.rev))

  pub entered : KnowsMakers O (Ns ++ N ∷ []) new
  entered = record { unders = under_more; homes = home_more }
