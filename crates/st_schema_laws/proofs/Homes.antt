-- Homes count for the nodes of a document, and for those that an intent puts; so those of new nodes can be told beside others.
use Rattle.std.proofs.Common.{◌≡◌, Bool, true, false, Option, None, IsSome, is_some, refl, sym, ◌∙◌}
use Rattle.st_ids.specs.declared.names.FieldId.{FieldId}
use Rattle.st_ids.specs.declared.names.Key.{Key}
use Rattle.st_ids.specs.declared.names.NodeId.{NodeId}
use Rattle.st_schema.specs.Schema.{SchemaView}
use Rattle.st_schema.specs.declared.names.KindName.{KindName}
use Rattle.st_marks.specs.declared.intents.Intent.{Intent}
use Rattle.st_marks.specs.declared.intents.To.{To}
use Rattle.st_marks.specs.declared.places.Spot.{Spot}
use Rattle.st_marks.specs.Document.{Document, IsSoundInForm, owned_cell}
use Rattle.st_marks.specs.Intent.{is_new, put_of}
use Rattle.st_marks.specs.CarryOut.{with_names}
use Rattle.st_schema.specs.Kind.{is_row, is_single_kind}
use Rattle.st_edits.specs.Fields.{row_key}
use Rattle.st_schema_laws.specs.Conforming.{Admits, MayStand, IsConforming}
use Rattle.st_schema_laws.specs.Agreeing.{KeepsSchema, MayGo, TellsHomes, with_homes}
use Rattle.st_lemmas.proofs.Bools.{true-false}

module _ (s : SchemaView) (home other : NodeId → Option FieldId) where
  admits_as : (D : Document) (kinds : KindName → Bool) (n : NodeId) (key : Key) (m : NodeId) → home m ≡ other m → Admits s home D kinds n key m → Admits s other D kinds n key m
  admits_as D kinds n key m same a = record {
    rule = a.rule;
    ruled = a.ruled;
    kind = a.kind;
    typed = a.typed;
    at_home = λ required. sym same ∙ a.at_home required;
    away = λ f e. a.away f (same ∙ e);
  }

  module _ (D : Document) (sound : IsSoundInForm D) (same : (m : NodeId) → IsSome (D.nodes m) → home m ≡ other m) (here : IsConforming s home D) where
    stands_as : (m : NodeId) (spot : Spot) → D.place m ≡ spot → MayStand s home D m spot → MayStand s other D m spot
    stands_as m Spot.Nowhere e h = tt
    stands_as m (Spot.Row n c) e h = admits_as D is_row n row_key m (same m (sound.cells_known n (owned_cell c m) (sound.own_cell m n c e)).1) h
    stands_as m (Spot.Register f) e h = admits_as D is_single_kind f.node f.key m (same m (sound.held_known m f ((sound.one_held m f).1 e)).0) h

    conforms_as : IsConforming s other D
    conforms_as = record { types = here.types; places = λ m. stands_as m (D.place m) refl (here.places m); filled = here.filled; homes = λ m f known lives. here.homes m f known (same m known ∙ lives); root_type = here.root_type }

  module _ (D : Document) (N : Intent) (same : (m : NodeId) → IsSome (put_of N m) → home m ≡ other m) (same_new : (m : NodeId) → is_new N m ≡ true → home m ≡ other m) (a : KeepsSchema s home D N) where
    goes_as : (m : NodeId) (to : To) → home m ≡ other m → MayGo s home D N m to → MayGo s other D N m to
    goes_as m To.Nowhere e h = tt
    goes_as m (To.Cell c) e h = (h.0, h.1, admits_as (with_names D N) is_row h.0 row_key m e h.2)
    goes_as m (To.Register f) e h = admits_as (with_names D N) is_single_kind f.node f.key m e h

    agrees_as : KeepsSchema s other D N
    agrees_as = record {
      types = a.types;
      puts = λ m to e. goes_as m to (same m (rw e refl)) (a.puts m to e);
      leaves = λ m f put old lives. a.leaves m f put old (same m put ∙ lives);
      clears = a.clears;
      homes = λ m f new lives. a.homes m f new (same_new m new ∙ lives);
      filled = a.filled;
    }

-- ## Homes told beside others

pub tells_own : (home : NodeId → Option FieldId) (N : Intent) → TellsHomes (with_homes home N) N
tells_own home N m new = rw new refl

keeps_others : (home : NodeId → Option FieldId) (N : Intent) (m : NodeId) → is_new N m ≡ false → home m ≡ with_homes home N m
keeps_others home N m old = rw old refl

pub document_keeps : (s : SchemaView) (home : NodeId → Option FieldId) (D : Document) (N : Intent) → IsSoundInForm D → ((n : NodeId) → is_new N n ≡ true → D.nodes n ≡ None) → IsConforming s home D → IsConforming s (with_homes home N) D
document_keeps s home D N sound fresh here = conforms_as s home (with_homes home N) D sound (λ m known. keeps_others home N m (old m known)) here
  where
    old : (m : NodeId) → IsSome (D.nodes m) → is_new N m ≡ false
    old m known = go (is_new N m) refl
      where
        go : (b : Bool) → is_new N m ≡ b → is_new N m ≡ false
        go false e = e
        go true e = let none : is_some (D.nodes m) ≡ false = rw (fresh m e) refl in absurd (true-false known none)

pub intent_keeps : (s : SchemaView) (home : NodeId → Option FieldId) (D : Document) (N M : Intent) → ((m : NodeId) → IsSome (put_of M m) → is_new N m ≡ false) → ((m : NodeId) → is_new M m ≡ true → is_new N m ≡ false) → KeepsSchema s home D M → KeepsSchema s (with_homes home N) D M
intent_keeps s home D N M old apart a = agrees_as s home (with_homes home N) D M (λ m put. keeps_others home N m (old m put)) (λ m new. keeps_others home N m (apart m new)) a
