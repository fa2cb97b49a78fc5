-- In the documents to which commits that can be told lead, nodes stand in registers under short keys; so a commit that undoes
-- one of them can be told.
use Rattle.std.proofs.Common.{◌≡◌, ◌≢◌, ℕ, Bool, true, false, cond, ◌&&◌, List, [], ◌∷◌, ◌++◌, Option, Some, None, IfSome, MatchOption, refl, sym, ◌∙◌, subst, inl}
use Rattle.std.specs.List.{AllByRecursion}
use Rattle.std.specs.Option.{option_map_or}
use Rattle.st_ids.specs.Listing.{Has}
use Rattle.st_ids.specs.Order.{same_field}
use Rattle.st_ids.proofs.Orders.{same_field-itself}
use Rattle.st_ids.specs.declared.names.Atom.{Atom}
use Rattle.st_ids.specs.declared.names.CellId.{CellId}
use Rattle.st_ids.specs.declared.names.FieldId.{FieldId}
use Rattle.st_ids.specs.declared.names.NodeId.{NodeId}
use Rattle.st_ids.specs.declared.names.Rev.{Rev}
use Rattle.st_marks.specs.declared.intents.Group.{Group}
use Rattle.st_marks.specs.declared.intents.Intent.{Intent}
use Rattle.st_marks.specs.declared.intents.Owned.{Owned}
use Rattle.st_marks.specs.declared.intents.Put.{Put}
use Rattle.st_marks.specs.declared.intents.To.{To}
use Rattle.st_marks.specs.declared.places.Spot.{Spot}
use Rattle.st_marks.specs.declared.verdicts.Verdict.{Verdict}
use Rattle.st_marks.specs.Back.{IsBack, is_in, place_back, to_of}
use Rattle.st_marks.specs.CarryOut.{full, is_put_in_new, place_after, spot_of, unless_cleared, void, void_data, with_names}
use Rattle.st_marks.specs.Document.{Document, IsSoundInForm, node_of}
use Rattle.st_marks.specs.Intent.{clears, group_cells, is_new, put_of, register_of}
use Rattle.st_marks.specs.Run.{Run, done, next}
use Rattle.st_marks.specs.Verdict.{carried_document}
use Rattle.st_marks.proofs.Lookups.{has-put, put-has}
use Rattle.st_marks.proofs.Members.{all-has, append_right, has-all, has-any}
use Rattle.st_log_laws.specs.Turns.{FitInTurn}
use Rattle.st_log_laws.proofs.Turns.{front, rest, turn_extends}
use Rattle.st_lists.specs.Undoing.{IsUndoing}
use Rattle.st_change_laws.specs.Within.{IntentIsWithin, IsSchemaText, KeyIsShort, NewIsWithin}
use Rattle.st_commit_laws.proofs.Edits.{PutIsShort}

-- ## Keys in documents

abbrev pub SpotIsShort : Spot → Type 0
SpotIsShort s = IfSome (register_of (to_of s)) KeyIsShort

-- nodes stand in registers under short keys
abbrev pub HasShortKeys : Document → Type 0
HasShortKeys D = (n : NodeId) → SpotIsShort (D.place n)

-- an intent puts nodes into registers under short keys
abbrev pub PutsAreShort : Intent → Type 0
PutsAreShort N = AllByRecursion (λ (p : Put). PutIsShort p.to) N.put

module _ (D : Document) (N : Intent) (keys : HasShortKeys D) (puts : PutsAreShort N) where
  uncleared : (s : Spot) → SpotIsShort s → SpotIsShort (unless_cleared N s)
  uncleared Spot.Nowhere h = tt
  uncleared (Spot.Row n c) h = tt
  uncleared (Spot.Register f) h = go (clears N f)
    where
      go : (b : Bool) → SpotIsShort (cond b Spot.Nowhere (Spot.Register f))
      go true = tt
      go false = h

  spotted : (row_of : CellId → Option NodeId) (to : To) → PutIsShort to → SpotIsShort (spot_of row_of to)
  spotted row_of To.Nowhere h = tt
  spotted row_of (To.Cell c) h = go (row_of c)
    where
      go : (o : Option NodeId) → SpotIsShort (option_map_or (λ (n : NodeId). Spot.Row n c) o Spot.Nowhere)
      go None = tt
      go (Some n) = tt
  spotted row_of (To.Register f) h = h

  placed : (row_of : CellId → Option NodeId) (n : NodeId) → SpotIsShort (place_after row_of N (put_of N n) (D.place n))
  placed row_of n = go (put_of N n) refl
    where
      go : (o : Option To) → put_of N n ≡ o → SpotIsShort (place_after row_of N o (D.place n))
      go None e = uncleared (D.place n) (keys n)
      go (Some to) e = spotted row_of to (all-has (λ (p : Put). PutIsShort p.to) N.put (record { node = n; to = to }) puts (put-has N n to e))

  pub full_keys : HasShortKeys (full D N)
  full_keys n = placed (with_names D N).row_of n

  void_keys : HasShortKeys (void D N)
  void_keys = go N.schema
    where
      one : (n : NodeId) (b : Bool) → SpotIsShort (cond b (place_after (with_names D N).row_of N (put_of N n) (D.place n)) (D.place n))
      one n true = placed (with_names D N).row_of n
      one n false = keys n

      go : (o : Option (List ℕ)) → HasShortKeys (option_map_or (λ _. D) o (void_data D N))
      go None n = one n (is_new N n && is_put_in_new D N n)
      go (Some text) n = keys n

  carried_keys : (v : Verdict) → HasShortKeys (carried_document v D N)
  carried_keys Verdict.Sound = full_keys
  carried_keys (Verdict.Need m) = void_keys
  carried_keys (Verdict.Cycle m) = void_keys
  carried_keys (Verdict.Schema u) = void_keys

pub run_keys : {D E : Document} {Ns : List Intent} → Run D Ns E → HasShortKeys D → AllByRecursion PutsAreShort Ns → HasShortKeys E
run_keys done keys puts = keys
run_keys (next {D} {N = N} v is more) keys puts = run_keys more (carried_keys D N keys puts.0 v) puts.1

-- ## A way back

module _ (D E : Document) (sound : IsSoundInForm D) (after : IsSoundInForm E) (before : HasShortKeys D) (now : HasShortKeys E) where
  back_short : (n : NodeId) → SpotIsShort (place_back D E n)
  back_short n = go (is_in D n) (option_map_or (is_in D) (node_of (E.place n)) false)
    where
      go : (b c : Bool) → SpotIsShort (cond b (D.place n) (cond c Spot.Nowhere (E.place n)))
      go true c = before n
      go false true = tt
      go false false = now n

  held_short : (F : Document) → IsSoundInForm F → HasShortKeys F → (f : FieldId) (m : NodeId) → F.held f ≡ Some m → KeyIsShort f
  held_short F formed keys f m e = subst SpotIsShort ((formed.one_held m f).0 e) (keys m)

  -- a register with two occupants, or with one and none, has a short key
  differs_short : (f : FieldId) → D.held f ≢ E.held f → KeyIsShort f
  differs_short f apart = go (D.held f) refl (E.held f) refl
    where
      go : (o : Option NodeId) → D.held f ≡ o → (p : Option NodeId) → E.held f ≡ p → KeyIsShort f
      go (Some m) e p q = held_short D sound before f m e
      go None e (Some m) q = held_short E after now f m q
      go None e None q = absurd (apart (e ∙ sym q))

  module _ (A : Atom → Type 0) (rev under : Rev) (B : Intent) (b : IsBack D E rev under B) where
    put_within : (p : Put) → Has B.put p → PutIsShort p.to
    put_within p i =
        let told = subst (λ o. MatchOption o (place_back D E p.node ≡ E.place p.node) (λ to. (place_back D E p.node ≢ E.place p.node) × (to ≡ to_of (place_back D E p.node)))) (has-put B b.itself p i) (b.puts_what_differs p.node) in
        subst PutIsShort (sym told.1) (back_short p.node)

    clear_within : (f : FieldId) → Has B.clear f → KeyIsShort f
    clear_within f i = differs_short f ((b.clears_what_differs f).0 (has-any (λ g. same_field g f) B.clear f i (same_field-itself f))).1

    pub back_within : IntentIsWithin A B
    back_within = record {
      new = subst (AllByRecursion (NewIsWithin A)) (sym b.nothing_new.0) tt;
      cells = none B.groups b.nothing_new.1;
      puts = has-all (λ (p : Put). PutIsShort p.to) B.put put_within;
      clears = has-all KeyIsShort B.clear clear_within;
      schema = subst (λ (o : Option (List ℕ)). IfSome o IsSchemaText) (sym b.nothing_new.3) tt;
    }
      where
        none : (groups : List Group) → groups ≡ [] → AllByRecursion (λ (o : Owned). A o.cell.0) (group_cells (record B { groups = groups }))
        none groups e = subst (λ (gs : List Group). AllByRecursion (λ (o : Owned). A o.cell.0) (group_cells (record B { groups = gs }))) (sym e) tt

-- ## Undoing

pub all_front : {X : Type 0} (P : X → Type 0) (xs ys : List X) → AllByRecursion P (xs ++ ys) → AllByRecursion P xs
all_front P [] ys a = tt
all_front P (x ∷ xs) ys a = (a.0, all_front P xs ys a.1)

-- a commit that undoes one of some that can be carried out in turn, and that put nodes under short keys
pub undoing_within : (A : Atom → Type 0) (O : Document) (Ns : List Intent) (rev fresh : Rev) (B : Intent) → IsSoundInForm O → HasShortKeys O → FitInTurn O Ns → AllByRecursion PutsAreShort Ns → IsUndoing O Ns rev fresh B → IntentIsWithin A B
undoing_within A O Ns rev fresh B sound keys fit puts u = back_within D E (turn_extends sound (front u.is_at.front (N ∷ u.is_at.rest) O turns) u.is_at.before).after after before (full_keys D N before own) A fresh _ B u.back
  where
    N : Intent
    N = u.commit

    D : Document
    D = u.before

    E : Document
    E = carried_document Verdict.Sound D N

    turns : FitInTurn O (u.is_at.front ++ N ∷ u.is_at.rest)
    turns = subst (FitInTurn O) u.is_at.list fit

    all : AllByRecursion PutsAreShort (u.is_at.front ++ N ∷ u.is_at.rest)
    all = subst (AllByRecursion PutsAreShort) u.is_at.list puts

    own : PutsAreShort N
    own = all-has PutsAreShort (u.is_at.front ++ N ∷ u.is_at.rest) N all (append_right u.is_at.front (N ∷ u.is_at.rest) N (inl refl))

    before : HasShortKeys D
    before = run_keys u.is_at.before keys (all_front PutsAreShort u.is_at.front (N ∷ u.is_at.rest) all)

    formed : IsSoundInForm D
    formed = (turn_extends sound (front u.is_at.front (N ∷ u.is_at.rest) O turns) u.is_at.before).after

    after : IsSoundInForm E
    after =
        let here = rest (N ∷ u.is_at.rest) u.is_at.before turns in
        let alone : FitInTurn D (N ∷ []) = (here.0, here.1, λ v is. tt) in
        (turn_extends formed alone (next Verdict.Sound u.is_at.verdict done)).after
