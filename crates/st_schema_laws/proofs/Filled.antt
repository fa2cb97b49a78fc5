-- What is shown after a new tree is put into a field.
use Rattle.std.proofs.Common.{◌≡◌, ◌≢◌, ℕ, ◌+◌, Bool, true, false, cond, List, ◌∷◌, Option, Some, None, IsSome, is_some, Ok, refl, sym, ap, ◌∙◌, subst, arith, inl, inr}
use Rattle.std.specs.List.{list_all}
use Rattle.std.specs.Option.{option_or}
use Rattle.serde_json.specs.Data.{Data}
use Rattle.st_ids.specs.Listing.{Has}
use Rattle.st_ids.specs.declared.names.FieldId.{FieldId}
use Rattle.st_ids.specs.declared.names.Key.{Key}
use Rattle.st_ids.specs.declared.names.NodeId.{NodeId}
use Rattle.st_ids.specs.declared.names.Place.{Place}
use Rattle.st_tree.specs.Form.{all_have_form}
use Rattle.st_tree.specs.Node.{Node, first, no_nodes}
use Rattle.st_tree.specs.Preorder.{cell_named, node_named}
use Rattle.st_tree.specs.Size.{item_count}
use Rattle.st_tree.specs.declared.flat.FlatAt.{FlatAt}
use Rattle.st_tree.specs.declared.flat.FlatNode.{FlatNode}
use Rattle.st_schema.specs.Conforms.{items_verdicts}
use Rattle.st_schema.specs.Schema.{SchemaView, is_sound}
use Rattle.st_schema.specs.TreeText.{tree_data}
use Rattle.st_schema.specs.declared.names.FieldRule.{FieldRule}
use Rattle.st_schema.specs.declared.names.KindName.{KindName}
use Rattle.st_schema.specs.declared.names.KindName.TheVariants.{Required, Optional, Sequence}
use Rattle.st_marks.specs.declared.intents.Intent.{Intent}
use Rattle.st_marks.specs.declared.verdicts.Verdict.{Verdict}
use Rattle.st_marks.specs.Document.{Document, NodeType, IsSoundInForm}
use Rattle.st_ids.specs.Root.{root}
use Rattle.st_marks.specs.Intent.{Fits, clears, put_in}
use Rattle.st_marks.specs.CarryOut.{full, unless_put}
use Rattle.st_marks.specs.Verdict.{IsVerdict}
use Rattle.st_marks.specs.LiveTree.{Shows, register}
use Rattle.st_marks.proofs.Lookups.{clears-has}
use Rattle.st_marks.proofs.Members.{has-filter_map}
use Rattle.st_edits.specs.New.{groups_under, group_under, to_at}
use Rattle.st_opening.specs.Start.{registers}
use Rattle.st_edits.specs.Paths.{field_at}
use Rattle.st_edits.specs.Resolve.{allowed_nodes, named_nodes, intent_to_place, put, rule_for, walk}
use Rattle.st_schema.specs.Kind.{is_row, is_single_kind}
use Rattle.st_edits.specs.declared.names.NameCounters.{NameCounters}
use Rattle.st_edits.specs.declared.names.Takes.TheVariants as field
use Rattle.st_edits.proofs.Fits.{passed}
use Rattle.st_edits.proofs.MoveFits.{CellsFresh}
use Rattle.st_edits.proofs.NewFits.{put_fits, NodesFresh, items_form, are_allowed}
use Rattle.st_edits.proofs.Numbered.{Counted, tops_counted, tops_rows}
use Rattle.st_schema_laws.specs.Alike.{AreAlikeAt}
use Rattle.st_schema_laws.specs.Edited.{TellsRows, at_path, same_key, with_key}
use Rattle.st_schema_laws.proofs.Along.{as_list, along, same_key-true, same_key-itself}
use Rattle.st_schema_laws.proofs.AtNode.{member_comes}
use Rattle.st_schema_laws.proofs.Made.{IsFilled, alike, filled, filled_from, keeps, made_verdict, new_field, old_node, old_unput, put_there}
use Rattle.st_schema_laws.proofs.Named.{own_all, registers_new}
use Rattle.st_schema_laws.proofs.NewTreesShown.{tops_shown, first_top, top_of, top_at, top_node}
use Rattle.st_schema_laws.proofs.Ruled.{ruled_kind}
use Rattle.st_lemmas.proofs.Bools.{true-false}
use Rattle.st_ids.proofs.Shared.{filter-from}
use Rattle.st_lemmas.proofs.Options.{None-IsSome}

-- ## A new tree in a field

module _ (D : Document) (G : NameCounters) (m : NodeId) (key : Key) (t : Node) (sound : IsSoundInForm D) (nodes : NodesFresh D G) (known : IsSome (D.nodes m)) (form : all_have_form (first t no_nodes) ≡ true)
    (fits : Fits D (intent_to_place D G (field_at m key) (named_nodes G (first t no_nodes)))) where
  abbrev xs : List FlatNode
  xs = named_nodes G (first t no_nodes)

  abbrev f : FieldId
  f = field_at m key

  abbrev N : Intent
  N = intent_to_place D G f xs

  abbrev E : Document
  E = full D N

  abbrev fs : List FieldId
  fs = f ∷ registers xs

  counted : Counted G.rev G.nodes xs G.nodes G.cells
  counted = tops_counted G.rev G.nodes G.nodes G.cells (first t no_nodes) (omega arith)

  pub all : IsFilled D G (Some f) m xs (groups_under xs) fs
  all = record {
    sound = sound;
    fits = fits;
    counted = counted;
    rows = tops_rows xs G.rev G.nodes G.cells (first t no_nodes) form (λ x h. h);
    nodes_fresh = nodes;
    known = known;
    into_m = refl;
    groups = λ g h. (let x = filter-from (group_under xs) xs g h in inr (x.0, x.1, x.2));
    own_group = λ x g h e. has-filter_map (group_under xs) xs x g h e;
    clears_old = λ g h. elim h [ inl q ↦ inl (ap (λ (k : FieldId). k.node) (sym q)) | inr k ↦ inr (registers_new D G xs counted nodes g k) ];
    tops = λ v d h e bad. absurd (cc);
  }

  top : Has xs (top_of G.rev (FlatAt.Top (cell_named G.rev G.cells)) G.nodes t)
  top = (first_top G.rev xs G.nodes G.cells t no_nodes G.nodes (G.nodes + item_count (first t no_nodes)) (omega arith) (omega arith) (own_all G.rev xs G.nodes (G.nodes + item_count (first t no_nodes)))).0

  top_held : E.held f ≡ Some (node_named G.rev G.nodes)
  top_held =
      filled D G (Some f) m xs (groups_under xs) fs all (top_of G.rev (FlatAt.Top (cell_named G.rev G.cells)) G.nodes t) f top (ap (to_at (Some f)) (top_at G.rev (FlatAt.Top (cell_named G.rev G.cells)) G.nodes t))
      ∙ ap (λ x. Some x) (top_node G.rev (FlatAt.Top (cell_named G.rev G.cells)) G.nodes t)

  other_held : (k : List ℕ) → same_key key.0 k ≡ false → E.held (register m k) ≡ D.held (register m k)
  other_held k apart = go (put_in N (register m k)) refl
    where
      uncleared : (b : Bool) → clears N (register m k) ≡ b → clears N (register m k) ≡ false
      uncleared false e = e
      uncleared true e = elim (clears-has fs (register m k) e) [
        | inl q ↦ absurd (true-false (same_key-itself key.0) (ap (λ (g : FieldId). same_key key.0 g.key.0) q ∙ apart))
        | inr h ↦ absurd (None-IsSome (D.nodes m) (registers_new D G xs counted nodes (register m k) h) known)
      ]

      unput : (o : Option NodeId) → D.held (register m k) ≡ o → unless_put N o ≡ o
      unput None e = refl
      unput (Some y) e = ap (λ b. cond b None (Some y)) (ap is_some (old_unput D G (Some f) m xs (groups_under xs) fs all y (sound.held_known y (register m k) e).0))

      go : (o : Option NodeId) → put_in N (register m k) ≡ o → option_or o (cond (clears N (register m k)) None (unless_put N (D.held (register m k)))) ≡ D.held (register m k)
      go None e = ap (λ b. cond b None (unless_put N (D.held (register m k)))) (uncleared (clears N (register m k)) refl) ∙ unput (D.held (register m k)) refl
      go (Some y) e =
          let v = filled_from D G (Some f) m xs (groups_under xs) fs all (register m k) y e in
          elim (put_there D G (Some f) m xs (groups_under xs) fs all v.0 (register m k) v.1 v.3) [
            | inl q ↦ (let same : f ≡ register m k = cc in absurd (true-false (same_key-itself key.0) (ap (λ (g : FieldId). same_key key.0 g.key.0) same ∙ apart)))
            | inr q ↦ absurd (None-IsSome (D.nodes m) (new_field D G (Some f) m xs (groups_under xs) fs all v.0 (register m k) v.1 q) known)
          ]

  swap_false : (k : List ℕ) → same_key k key.0 ≡ false → same_key key.0 k ≡ false
  swap_false k e = go (same_key key.0 k) refl
    where
      go : (b : Bool) → same_key key.0 k ≡ b → same_key key.0 k ≡ false
      go false q = q
      go true q = absurd (true-false (same_key-itself k) (ap (same_key k) (sym (same_key-true key.0 k q)) ∙ e))

  pub held_here : (k : List ℕ) → E.held (register m k) ≡ cond (same_key k key.0) (Some (node_named G.rev G.nodes)) (D.held (register m k))
  held_here k = go (same_key k key.0) refl
    where
      go : (b : Bool) → same_key k key.0 ≡ b → E.held (register m k) ≡ cond b (Some (node_named G.rev G.nodes)) (D.held (register m k))
      go true e = ap (λ l. E.held (register m l)) (same_key-true k key.0 e) ∙ top_held
      go false e = other_held k (swap_false k e)

-- ## A set field

pub single_unrowed : (k : KindName) → is_single_kind k ≡ true → is_row k ≡ false
single_unrowed Required e = refl
single_unrowed Optional e = refl
single_unrowed Sequence e = cc

pub record IsSetting (D : Document) (s : SchemaView) (G : NameCounters) (at : List Place) (key : Key) (t : Node) (N : Intent) : Type 0 where
  pub node : NodeId
  pub way : walk D at ≡ Ok node
  pub type : NodeType
  pub known : D.nodes node ≡ Some type
  pub unrowed : (is_array : List ℕ → Bool) → is_sound s ≡ true → TellsRows is_array s → is_array type.ty ≡ false
  pub rule : FieldRule
  pub ruled : rule_for field.Single D s node key ≡ Ok rule
  pub types : List (List ℕ)
  pub allowed : list_all (λ ok. ok) (items_verdicts s types (first t no_nodes)) ≡ true
  pub intent : intent_to_place D G (field_at node key) (named_nodes G (first t no_nodes)) ≡ N

pub is_setting : (D : Document) (s : SchemaView) (G : NameCounters) (at : List Place) (key : Key) (t : Node) (N : Intent) → put D s G at key (first t no_nodes) ≡ Ok N → IsSetting D s G at key t N
is_setting D s G at key t N e =
    let n = passed (walk D at) _ N e in
    let rule = passed (rule_for field.Single D s n.0 key) _ N n.2 in
    let xs = passed (allowed_nodes s G rule.0 (first t no_nodes)) (λ xs. Ok (intent_to_place D G (field_at n.0 key) xs)) N rule.2 in
    let is : intent_to_place D G (field_at n.0 key) xs.0 ≡ N = cc in
    let k = ruled_kind field.Single D s n.0 key rule.0 rule.1 in
    let a = are_allowed s G rule.0 (first t no_nodes) xs.0 xs.1 in
    record {
      node = n.0;
      way = n.1;
      type = k.0;
      known = k.1;
      unrowed = λ is_array schema tells. k.2 is_array schema tells ∙ single_unrowed rule.0.kind k.3;
      rule = rule.0;
      ruled = rule.1;
      types = rule.0.types;
      allowed = a.0;
      intent = ap (intent_to_place D G (field_at n.0 key)) a.1 ∙ is;
    }

module _ (D : Document) (s : SchemaView) (G : NameCounters) (at : List Place) (key : Key) (t : Node) (N : Intent) (sound : IsSoundInForm D) (schema : is_sound s ≡ true) (nodes : NodesFresh D G) (cells : CellsFresh D G)
    (e : put D s G at key (first t no_nodes) ≡ Ok N) where
  w : IsSetting D s G at key t N
  w = is_setting D s G at key t N e

  form : all_have_form (first t no_nodes) ≡ true
  form = items_form s w.types (first t no_nodes) w.allowed

  fits_here : Fits D (intent_to_place D G (field_at w.node key) (named_nodes G (first t no_nodes)))
  fits_here = subst (Fits D) (sym w.intent) (put_fits D s G at key t N sound schema nodes cells e)

  there : IsSome (D.nodes w.node)
  there = ap is_some w.known

  abbrev F : Document
  F = full D (intent_to_place D G (field_at w.node key) (named_nodes G (first t no_nodes)))

  abbrev cleared : List FieldId
  cleared = field_at w.node key ∷ registers (named_nodes G (first t no_nodes))

  filled_here : IsFilled D G (Some (field_at w.node key)) w.node (named_nodes G (first t no_nodes)) (groups_under (named_nodes G (first t no_nodes))) cleared
  filled_here = all D G w.node key t sound nodes there form fits_here

  pub setting_verdict : IsVerdict D N Verdict.Sound
  setting_verdict = subst (λ N. IsVerdict D N Verdict.Sound) w.intent (made_verdict D G (Some (field_at w.node key)) w.node (named_nodes G (first t no_nodes)) (groups_under (named_nodes G (first t no_nodes))) cleared filled_here)

  module _ (is_array : List ℕ → Bool) (tells : TellsRows is_array s) where
    old_alike : (x : NodeId) → IsSome (D.nodes x) → x ≢ w.node → AreAlikeAt D F x
    old_alike = alike D G (Some (field_at w.node key)) w.node (named_nodes G (first t no_nodes)) (groups_under (named_nodes G (first t no_nodes))) cleared filled_here

    new_shown : Shows is_array F (node_named G.rev G.nodes) (tree_data t)
    new_shown =
        (as_list is_array F
        (tops_shown s is_array tells G.rev F (named_nodes G (first t no_nodes)) (keeps D G (Some (field_at w.node key)) w.node (named_nodes G (first t no_nodes)) (groups_under (named_nodes G (first t no_nodes))) cleared filled_here)
        w.types G.nodes G.cells (first t no_nodes) w.allowed (own_all G.rev (named_nodes G (first t no_nodes)) G.nodes (G.nodes + item_count (first t no_nodes))))).0

    pub setting_seen : (d : Data) → Shows is_array D root d → Shows is_array (full D N) root (at_path at (with_key key.0 (tree_data t)) d)
    setting_seen d shows =
        subst (λ N. Shows is_array (full D N) root (at_path at (with_key key.0 (tree_data t)) d)) w.intent
        ((along is_array D F sound w.node old_alike (with_key key.0 (tree_data t))
        (member_comes is_array D F sound w.node old_alike (old_node D G (Some (field_at w.node key)) w.node (named_nodes G (first t no_nodes)) (groups_under (named_nodes G (first t no_nodes))) cleared filled_here w.node) w.type w.known key.0
        (node_named G.rev G.nodes) (tree_data t) (w.unrowed is_array schema tells) new_shown (held_here D G w.node key t sound nodes there form fits_here)) at 0 root w.way).1 d shows)
