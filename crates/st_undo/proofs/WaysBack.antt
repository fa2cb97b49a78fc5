-- The way back over a commit, made under the opening's revision and carried to a later document.
use Rattle.std.proofs.Common.{◌≡◌, Bool, true, List, [], ◌∷◌, Some, None, refl, sym, ap, subst, inl, inr}
use Rattle.std.specs.List.{last_or}
use Rattle.std.specs.Option.{unwrap_or}
use Rattle.st_ids.specs.Listing.{Has}
use Rattle.st_ids.specs.Root.{opening}
use Rattle.st_ids.specs.declared.names.Rev.{Rev}
use Rattle.st_marks.specs.declared.changes.Change.{Change}
use Rattle.st_marks.specs.declared.intents.Intent.{Intent}
use Rattle.st_marks.specs.Back.{IsBack}
use Rattle.st_marks.specs.Document.{Document, IsSoundInForm, first_of, last_of, revs}
use Rattle.st_marks.specs.Extends.{IsExtendedBy}
use Rattle.st_marks.specs.Intent.{Fits, IsIntent}
use Rattle.st_marks.specs.Verdict.{HasBase}
use Rattle.st_marks.proofs.WayBack.{back_fits}
use Rattle.st_read_laws.specs.Reading.{IsRead}
use Rattle.st_undo.specs.inside.Carrying.{MakesNothing}

-- ## Under another schema

abbrev pub made_under : Rev → Intent → Intent
made_under r B = record B { under = r }

still_intent : (r : Rev) (B : Intent) → IsIntent B → IsIntent (made_under r B)
still_intent r B b = record {
  new_rev = b.new_rev;
  new_once = b.new_once;
  cell_rev = b.cell_rev;
  cell_once = b.cell_once;
  group_some = b.group_some;
  start_once = b.start_once;
  anchor_once = b.anchor_once;
  anchor_old = b.anchor_old;
  owners = b.owners;
  root_stays = b.root_stays;
  put_once = b.put_once;
  no_cell_twice = b.no_cell_twice;
  no_register_twice = b.no_register_twice;
  new_somewhere = b.new_somewhere;
  cleared = b.cleared;
  register_keys = b.register_keys;
  need_old = b.need_old;
  no_ring = b.no_ring;
  schema_alone = b.schema_alone;
}

-- it is the way back under that schema
pub back_under : (D E : Document) (fresh under r : Rev) (B : Intent) → IsBack D E fresh under B → IsBack D E fresh r (made_under r B)
back_under D E fresh under r B b = record {
  itself = still_intent r B b.itself;
  rev_and_under = (b.rev_and_under.0, refl);
  nothing_new = b.nothing_new;
  puts_what_differs = b.puts_what_differs;
  clears_what_differs = b.clears_what_differs;
}

pub makes_nothing : (D E : Document) (fresh under : Rev) (B : Intent) → IsBack D E fresh under B → MakesNothing B
makes_nothing D E fresh under B b = record { nodes = b.nothing_new.0; cells = b.nothing_new.1; schema = b.nothing_new.3 }

-- it fits behind the step
pub fits_behind : (D E : Document) (fresh under : Rev) (B : Intent) → IsExtendedBy D E → IsBack D E fresh under B → Fits E B
fits_behind D E fresh under B x b = back_fits D E x fresh under B b

-- its change says at the end under which schema it was made, which is in effect
pub says_under : (l : Bool) (F : Document) (r under : Rev) (B : Intent) (C : Change) → B.schema ≡ None → B.under ≡ under → Has (revs F.schemas) under → IsRead l F (made_under r B) C → IsRead l F B (record C { under = under; base = true })
says_under l F r under B C none is has (K, e, same) = (
  record K { under = under; base = true },
  record {
    mentioned = e.mentioned;
    which = e.which;
    rev = e.rev;
    under = sym is;
    base = (λ _. based, λ _. refl);
    schema = e.schema;
    need = e.need;
    new = e.new;
    rows = e.rows;
    regs = e.regs;
    loose = e.loose;
  },
  ap (λ (X : Change). record X { under = under; base = true }) same,
)
  where
    based : HasBase F.schemas B.schema B.under
    based = subst (λ s. HasBase F.schemas s B.under) (sym none) (subst (Has (revs F.schemas)) (sym is) has)

-- ## Schemas in effect

first_there : (rs : List Rev) (r : Rev) → first_of rs ≡ Some r → Has rs r
first_there [] r e = cc
first_there (x ∷ xs) r e = inl (let same : x ≡ r = cc in same)

-- the opening's is in each document
pub opening_there : (D : Document) → IsSoundInForm D → Has (revs D.schemas) opening
opening_there D sound = first_there (revs D.schemas) opening sound.in_effect.begun

last_had : (x d : Rev) (xs : List Rev) → Has (x ∷ xs) (unwrap_or (last_or (Some x) xs) d)
last_had x d [] = inl refl
last_had x d (y ∷ xs) = inr (last_had y d xs)

last_there : (d : Rev) (xs : List Rev) (x : Rev) → first_of xs ≡ Some x → Has xs (unwrap_or (last_of xs) d)
last_there d [] x e = cc
last_there d (y ∷ xs) x e = last_had y d xs

-- and so is the last one
pub last_in_effect : (D : Document) → IsSoundInForm D → Has (revs D.schemas) (unwrap_or (last_of (revs D.schemas)) opening)
last_in_effect D sound = last_there opening (revs D.schemas) opening sound.in_effect.begun
